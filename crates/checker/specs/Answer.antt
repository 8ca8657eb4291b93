-- What the two public calls answer: what was read, or the reason and the place of a refusal.
use Rattle.std.specs.Prelude.{ℕ, zero, suc, ◌-◌, ◌≡◌, List, [], ◌∷◌, ◌++◌, length, replicate, Result, Ok, Err}
use Rattle.theory.specs.Bytes.{opened_at, refused, good, Book, rule_count, Declared}
use Rattle.theory.specs.Bytes
use Rattle.theory.specs.Syntax.{Term, Fun}
use Rattle.theory.specs.Builtins.{builtin_funs}
use Rattle.checker.specs.declared.Checked.{Checked}
use Rattle.checker.specs.declared.refusal.Refusal.{Refusal}
use Rattle.checker.specs.Refusal.{number_of, reason_of, refusal_of}

-- what is declared: so many exceptions, and functions of these arities
abbrev pub declared : ℕ → List ℕ → Declared
declared n ns = record { exceptions = n; arities = ns }

-- a list in an array of so many places, zeros behind it
unfoldable pub padded : ℕ → List ℕ → List ℕ
padded zero ns = []
padded (suc k) [] = 0 ∷ padded k []
padded (suc k) (n ∷ ns) = n ∷ padded k ns

-- the arities of functions; the built-ins', up to the declared functions'
abbrev pub arities_in : List Fun → List ℕ
arities_in [] = []
arities_in (f ∷ fs) = f.arity ∷ arities_in fs

abbrev pub builtins : List ℕ
builtins = arities_in builtin_funs ++ replicate (16 - length builtin_funs) 0

-- the arities by function number, 48 of them: built-in b is b, declared f is 16 + f, and zeros behind
unfoldable pub table : List ℕ → List ℕ
table ns = builtins ++ padded 32 ns

-- what is read of a program: the declarations, the arities by function number, and where the rules open
abbrev pub checked_as : Book → Checked
checked_as s =
    record { exceptions = s.decls.exceptions; functions = length s.decls.arities; rules = rule_count s.rules_at; arities = table s.decls.arities; openings = padded 64 (opened_at s.rules_at) }

-- the answer on a program
unfoldable pub checked_of : Bytes.Result Book → Result Checked Refusal
checked_of (refused r) = Err (refusal_of r)
checked_of (good s) = Ok (checked_as s)

-- the answer on a question
abbrev pub verdict_of : Bytes.Result Term → Result (Unit {0}) Refusal
verdict_of (refused r) = Err (refusal_of r)
verdict_of (good t) = Ok tt

-- the reasons have theory's numbers: where something is refused, the number of the reason is the number by which it is
abbrev pub SameNumber : {A : Type 0} → Bytes.Result A → Type 0
SameNumber (refused r) = number_of (reason_of r.number) ≡ r.number
SameNumber (good s) = Unit {0}
