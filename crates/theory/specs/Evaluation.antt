-- Definitions 3.2, 3.3 and 3.4 of document 004 as it states them, a constructor for each of its clauses: no levels, no steps, no order
-- among rules. proofs/PaperEvaluation holds the evaluator of Cost against them.
use Rattle.std.specs.Prelude.{ℕ, ◌≡◌, ◌≢◌, false, List, [], ◌∷◌}
use Rattle.std.proofs.Math.Option.{Option, none, some}
use Rattle.theory.specs.Syntax.{◌∈◌, Base, zero_b, true_b, false_b, Val, base, up, Term, const, succ, tvar, raise, handle, cond, call, Terms, tnil, tcons, Pat, pbase, psucc, pvar, Def, Program, Bindings, elem}
use Rattle.theory.specs.Endings.{Ending, value, raised, stuck, too_deep}
use Rattle.theory.specs.Proper.{pats_vars}

-- What `ev` gives: the paper's v↓, E↑ and ⊥. This ⊥ is an outcome; where `ev` is not defined there is no outcome at all.
pub data Outcome : Type 0 where
  normal : Val → Outcome
  exception : ℕ → Outcome
  other : Outcome

-- What `evArgs` gives: [v₁, …, vₙ]↓, E↑ and ⊥.
pub data Outcomes : Type 0 where
  normals : List Val → Outcomes
  exceptions : ℕ → Outcomes
  others : Outcomes

-- l σ: a pattern, and patterns, with the bindings put in
abbrev pub put_in : Bindings → Pat → Val
put_in σ (pbase b) = base b
put_in σ (psucc p) = up (put_in σ p)
put_in σ (pvar x) = σ x

abbrev pub put_ins : Bindings → List Pat → List Val
put_ins σ [] = []
put_ins σ (p ∷ ps) = put_in σ p ∷ put_ins σ ps

-- DEFINITION 3.2: match[v₁, …, vₙ][l₁, …, lₙ] = σ where vᵢ = lᵢ σ for each i. The paper's σ is the identity outside its domain. Bindings
-- give every variable a value, so outside the patterns it is 0 here; with that there is at most one σ, as the paper's "=" needs.
pub record Match (ps : List Pat) (vs : List Val) (σ : Bindings) : Type 0 where
  pub same : put_ins σ ps ≡ vs
  pub outside : (x : ℕ) → elem x (pats_vars ps) ≡ false → σ x ≡ base zero_b

-- DEFINITIONS 3.3 AND 3.4: `Ev P θ t m` is ev(t, θ) = m, and `EvArgs P θ ts ms` is evArgs(ts, θ) = ms, in program P.
-- Three clauses, each with outcome ⊥, have no term here: raise(t') with t' ∉ Except, handle(t₁, t₂, t₃) with t₂ ∉ Except, and t ∈ Except.
-- An exception is a number here and no term, and the checker refuses one that is not declared.
-- The rules for function k in Fundef ∪ BuiltinDef are `(P.fun k).defs`.
mutual
  pub data Ev (P : Program) : Bindings → Term → Outcome → Type 0 where
    -- t = x ∈ V: ev(t, θ) = x↓; the value bound to x is meant (document 01, third reading)
    variable : {θ : Bindings} {x : ℕ} → Ev P θ (tvar x) (normal (θ x))
    -- t = succ(t'): ev(t', θ) = v↓, then succ(v)↓
    succ_normal : {θ : Bindings} {t : Term} {v : Val} → Ev P θ t (normal v) → Ev P θ (succ t) (normal (up v))
    -- … E↑, then E↑
    succ_exception : {θ : Bindings} {t : Term} {E : ℕ} → Ev P θ t (exception E) → Ev P θ (succ t) (exception E)
    -- … ⊥, then ⊥
    succ_other : {θ : Bindings} {t : Term} → Ev P θ t other → Ev P θ (succ t) other
    -- t = c, a constructor but succ: c↓
    constant : {θ : Bindings} {c : Base} → Ev P θ (const c) (normal (base c))
    -- t = raise(E), E ∈ Except: E↑
    raises : {θ : Bindings} {E : ℕ} → Ev P θ (raise E) (exception E)
    -- t = handle(t₁, E, t₃), E ∈ Except: ev(t₁, θ) = v↓, then v↓
    handle_normal : {θ : Bindings} {t₁ t₃ : Term} {E : ℕ} {v : Val} → Ev P θ t₁ (normal v) → Ev P θ (handle t₁ E t₃) (normal v)
    -- … E↑, then ev(t₃, θ)
    handle_same : {θ : Bindings} {t₁ t₃ : Term} {E : ℕ} {m : Outcome} → Ev P θ t₁ (exception E) → Ev P θ t₃ m → Ev P θ (handle t₁ E t₃) m
    -- … E'↑ with E ≠ E', then E'↑
    handle_different : {θ : Bindings} {t₁ t₃ : Term} {E E' : ℕ} → E ≢ E' → Ev P θ t₁ (exception E') → Ev P θ (handle t₁ E t₃) (exception E')
    -- … ⊥, then ⊥
    handle_other : {θ : Bindings} {t₁ t₃ : Term} {E : ℕ} → Ev P θ t₁ other → Ev P θ (handle t₁ E t₃) other
    -- t = if(t₁, t₂, t₃): ev(t₁, θ) = True↓, then ev(t₂, θ)
    if_true : {θ : Bindings} {t₁ t₂ t₃ : Term} {m : Outcome} → Ev P θ t₁ (normal (base true_b)) → Ev P θ t₂ m → Ev P θ (cond t₁ t₂ t₃) m
    -- … False↓, then ev(t₃, θ)
    if_false : {θ : Bindings} {t₁ t₂ t₃ : Term} {m : Outcome} → Ev P θ t₁ (normal (base false_b)) → Ev P θ t₃ m → Ev P θ (cond t₁ t₂ t₃) m
    -- … v↓ with v ≠ True and v ≠ False, then ⊥
    if_neither : {θ : Bindings} {t₁ t₂ t₃ : Term} {v : Val} → Ev P θ t₁ (normal v) → v ≢ base true_b → v ≢ base false_b → Ev P θ (cond t₁ t₂ t₃) other
    -- … E↑, then E↑
    if_exception : {θ : Bindings} {t₁ t₂ t₃ : Term} {E : ℕ} → Ev P θ t₁ (exception E) → Ev P θ (cond t₁ t₂ t₃) (exception E)
    -- … ⊥, then ⊥
    if_other : {θ : Bindings} {t₁ t₂ t₃ : Term} → Ev P θ t₁ other → Ev P θ (cond t₁ t₂ t₃) other
    -- t = f(t₁, …, tₙ): evArgs([t₁, …, tₙ], θ) = [v₁, …, vₙ]↓, f(l₁, …, lₙ) → r ∈ Fundef ∪ BuiltinDef and
    -- σ = match[v₁, …, vₙ][l₁, …, lₙ], then ev(r, σ)
    call_rule : {θ σ : Bindings} {k : ℕ} {ts : Terms} {vs : List Val} {d : Def} {m : Outcome}
        → EvArgs P θ ts (normals vs) → d ∈ (P.fun k).defs → Match d.left vs σ → Ev P σ d.right m → Ev P θ (call k ts) m
    -- … E↑, then E↑
    call_exception : {θ : Bindings} {k : ℕ} {ts : Terms} {E : ℕ} → EvArgs P θ ts (exceptions E) → Ev P θ (call k ts) (exception E)
    -- … ⊥, then ⊥
    call_other : {θ : Bindings} {k : ℕ} {ts : Terms} → EvArgs P θ ts others → Ev P θ (call k ts) other
    -- no clause of the paper: values that match no rule give ⊥ (document 01, second reading); in the premise ⊥ is the empty type, so "none"
    call_no_rule : {θ : Bindings} {k : ℕ} {ts : Terms} {vs : List Val}
        → EvArgs P θ ts (normals vs) → ((d : Def) (σ : Bindings) → d ∈ (P.fun k).defs → Match d.left vs σ → ⊥) → Ev P θ (call k ts) other

  -- The definitions go from left to right, and so it is (document 01, first reading): the rest is evaluated where the first has a value.
  pub data EvArgs (P : Program) : Bindings → Terms → Outcomes → Type 0 where
    -- t = []: []
    no_arguments : {θ : Bindings} → EvArgs P θ tnil (normals [])
    -- t = t₁ ∷ ts: ev(t₁, θ) = v↓ and evArgs(ts, θ) = vl↓, then (v ∷ vl)↓
    rest_normal : {θ : Bindings} {t : Term} {ts : Terms} {v : Val} {vs : List Val}
        → Ev P θ t (normal v) → EvArgs P θ ts (normals vs) → EvArgs P θ (tcons t ts) (normals (v ∷ vs))
    -- … v↓ and E↑, then E↑
    rest_exception : {θ : Bindings} {t : Term} {ts : Terms} {v : Val} {E : ℕ}
        → Ev P θ t (normal v) → EvArgs P θ ts (exceptions E) → EvArgs P θ (tcons t ts) (exceptions E)
    -- … v↓ and ⊥, then ⊥
    rest_other : {θ : Bindings} {t : Term} {ts : Terms} {v : Val} → Ev P θ t (normal v) → EvArgs P θ ts others → EvArgs P θ (tcons t ts) others
    -- ev(t₁, θ) = E↑, then E↑
    first_exception : {θ : Bindings} {t : Term} {ts : Terms} {E : ℕ} → Ev P θ t (exception E) → EvArgs P θ (tcons t ts) (exceptions E)
    -- ev(t₁, θ) = ⊥, then ⊥
    first_other : {θ : Bindings} {t : Term} {ts : Terms} → Ev P θ t other → EvArgs P θ (tcons t ts) others

-- What an ending of the evaluator says in the paper's words. The paper has no levels, so it has nothing to say where they ran out.
abbrev pub outcome_of : Ending → Option Outcome
outcome_of (value v) = some (normal v)
outcome_of (raised e) = some (exception e)
outcome_of (stuck s) = some other
outcome_of too_deep = none
