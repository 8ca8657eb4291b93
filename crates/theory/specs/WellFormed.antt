-- Terms and programs that use only what is there: declared exceptions, known functions with as many arguments as they take, variables 0 to 7.
use Rattle.std.specs.Prelude.{ℕ, ◌<◌, ◌≤◌, ◌-◌, ◌/◌, ◌≡◌, ◌||◌, List, [], ◌∷◌, T, eqb, leb, length}
use Rattle.theory.specs.Syntax.{Term, const, succ, tvar, raise, handle, cond, call, Terms, tnil, tcons, many, Def, Program, elem, pick, Pat, pbase, psucc, pvar}
use Rattle.theory.specs.Translation.{builtins}

-- the functions that a term may call
abbrev pub Known : Program → ℕ → Type 0
Known P k = T (elem k builtins || elem k P.own)

-- A term that uses only what is there, each function with as many arguments as it takes.
module _ (P : Program) where
  abbrev mutual
    pub WellFormed : Term → Type 0
    WellFormed (const b) = Unit {0}
    WellFormed (succ t) = WellFormed t
    WellFormed (tvar x) = Unit {0}
    WellFormed (raise e) = e < P.exns
    WellFormed (handle t e h) = WellFormed t × (e < P.exns) × WellFormed h
    WellFormed (cond t a b) = WellFormed t × WellFormed a × WellFormed b
    WellFormed (call k ts) = Known P k × (many ts ≡ (P.fun k).arity) × AllWellFormed ts

    pub AllWellFormed : Terms → Type 0
    AllWellFormed tnil = Unit {0}
    AllWellFormed (tcons t ts) = WellFormed t × AllWellFormed ts

  abbrev pub DefsWellFormed : List Def → Type 0
  DefsWellFormed [] = Unit {0}
  DefsWellFormed (d ∷ ds) = WellFormed d.right × DefsWellFormed ds

pub record ProgramWellFormed (P : Program) : Type 0 where
  pub small : (k : ℕ) → (P.fun k).arity ≤ 4
  pub bodies : (k : ℕ) → DefsWellFormed P (P.fun k).defs

-- a question has no variables
abbrev mutual
  pub Closed : Term → Type 0
  Closed (const b) = Unit {0}
  Closed (succ t) = Closed t
  Closed (tvar x) = ⊥
  Closed (raise e) = Unit {0}
  Closed (handle t e h) = Closed t × Closed h
  Closed (cond t a b) = Closed t × Closed a × Closed b
  Closed (call k ts) = Closeds ts

  pub Closeds : Terms → Type 0
  Closeds tnil = Unit {0}
  Closeds (tcons t ts) = Closed t × Closeds ts

-- a term, and a left side, whose variables are 0 to 7; the left side has as many arguments as the function
abbrev mutual
  pub Narrow : Term → Type 0
  Narrow (const b) = Unit {0}
  Narrow (succ t) = Narrow t
  Narrow (tvar x) = x < 8
  Narrow (raise e) = Unit {0}
  Narrow (handle t e h) = Narrow t × Narrow h
  Narrow (cond t a b) = Narrow t × Narrow a × Narrow b
  Narrow (call k ts) = Narrows ts

  pub Narrows : Terms → Type 0
  Narrows tnil = Unit {0}
  Narrows (tcons t ts) = Narrow t × Narrows ts

abbrev pub NarrowPat : Pat → Type 0
NarrowPat (pbase b) = Unit {0}
NarrowPat (psucc p) = NarrowPat p
NarrowPat (pvar x) = x < 8

abbrev pub NarrowPats : List Pat → Type 0
NarrowPats [] = Unit {0}
NarrowPats (p ∷ ps) = NarrowPat p × NarrowPats ps

abbrev pub NarrowDefs : ℕ → List Def → Type 0
NarrowDefs n [] = Unit {0}
NarrowDefs n (d ∷ ds) = (length d.left ≡ n) × NarrowPats d.left × Narrow d.right × NarrowDefs n ds

-- How many parts a symbol has.
abbrev pub small_parts : ℕ → ℕ
small_parts s =
    pick (eqb s 2) 1 (pick (eqb s 6) 1 (pick (eqb s 7) 2 (pick (eqb s 8) 4 (pick (eqb s 9) 1 (pick (eqb s 10) 3 (pick (eqb s 11) 1 (pick (eqb s 12) 3 0)))))))

abbrev pub parts_of : Program → ℕ → ℕ
parts_of P s = pick (leb 256 s) (P.fun ((s - 256) / 8)).arity (small_parts s)
