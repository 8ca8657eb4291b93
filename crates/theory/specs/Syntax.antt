-- Programs of ML/ex (document 004, definition 3.1): terms, values, patterns, rules, functions.
use Rattle.std.specs.Prelude.{ℕ, suc, ◌≡◌, ◌⊎◌, Bool, true, false, ◌||◌, List, [], ◌∷◌, eqb}
use Rattle.std.proofs.Math.Option.{Option, none, some}

-- the constants 0, True, False; and a value: succ some times over a constant
pub data Base : Type 0 where
  zero_b true_b false_b : Base

pub data Val : Type 0 where
  base : Base → Val
  up : Val → Val

-- how often succ stands in a value, the k of the step table; and over which constant
abbrev pub height : Val → ℕ
height (base b) = 0
height (up v) = suc (height v)

abbrev pub base_of : Val → Base
base_of (base b) = b
base_of (up v) = base_of v

-- A term. Function k: built-in b is k = b, declared f is k = 16 + f.
mutual
  pub data Term : Type 0 where
    const : Base → Term
    succ : Term → Term
    tvar : ℕ → Term
    raise : ℕ → Term
    handle : Term → ℕ → Term → Term
    cond : Term → Term → Term → Term
    call : ℕ → Terms → Term

  pub data Terms : Type 0 where
    tnil : Terms
    tcons : Term → Terms → Terms

abbrev pub many : Terms → ℕ
many tnil = 0
many (tcons t ts) = suc (many ts)

-- an argument of a left side: succ some times over a constant or a variable
pub data Pat : Type 0 where
  pbase : Base → Pat
  psucc : Pat → Pat
  pvar : ℕ → Pat

pub record Def : Type 0 where
  pub left : List Pat
  pub right : Term

pub record Fun : Type 0 where
  pub arity : ℕ
  pub defs : List Def

-- A program: how many exceptions; what each function number means, built-ins among them; and the numbers that it declares.
pub record Program : Type 0 where
  pub exns : ℕ
  pub fun : ℕ → Fun
  pub own : List ℕ

-- a thing stands in a list
infix 40 ◌∈◌
abbrev pub ◌∈◌ : {A : Type 0} → A → List A → Type 0
x ∈ [] = ⊥
x ∈ (y ∷ ys) = (x ≡ y) ⊎ (x ∈ ys)

-- bindings of variables, and a new one
abbrev pub Bindings : Type 0
Bindings = ℕ → Val

abbrev pub pick : {A : Type 0} → Bool → A → A → A
pick true a b = a
pick false a b = b

-- the same, where only the branch taken is computed
abbrev pub choose : {A : Type 0} → Bool → (Unit {0} → A) → (Unit {0} → A) → A
choose true a b = a tt
choose false a b = b tt

abbrev pub bind_value : Bindings → ℕ → Val → Bindings
bind_value θ x v = λ y. pick (eqb x y) v (θ y)

abbrev pub nothing_bound : Bindings
nothing_bound = λ y. base zero_b

abbrev pub same_base : Base → Base → Bool
same_base zero_b zero_b = true
same_base zero_b true_b = false
same_base zero_b false_b = false
same_base true_b zero_b = false
same_base true_b true_b = true
same_base true_b false_b = false
same_base false_b zero_b = false
same_base false_b true_b = false
same_base false_b false_b = true

abbrev pub and_then : {A B : Type 0} → Option A → (A → Option B) → Option B
and_then none f = none
and_then (some a) f = f a

abbrev pub or_else : {A : Type 0} → Option A → Option A → Option A
or_else none b = b
or_else (some a) b = some a

-- definition 3.2: the bindings under which the patterns are the values
abbrev pub fit : Pat → Val → Bindings → Option Bindings
fit (pbase b) (base c) θ = pick (same_base b c) (some θ) none
fit (pbase b) (up v) θ = none
fit (psucc p) (base c) θ = none
fit (psucc p) (up v) θ = fit p v θ
fit (pvar x) v θ = some (bind_value θ x v)

abbrev pub fits : List Pat → List Val → Bindings → Option Bindings
fits [] [] θ = some θ
fits [] (v ∷ vs) θ = none
fits (p ∷ ps) [] θ = none
fits (p ∷ ps) (v ∷ vs) θ = and_then (fit p v θ) (fits ps vs)

-- the first rule of a function that fits: its right side, with the bindings
pub record Found : Type 0 where
  pub bound : Bindings
  pub body : Term

abbrev pub found : Term → Option Bindings → Option Found
found r none = none
found r (some θ) = some (record { bound = θ; body = r })

abbrev pub chosen : List Def → List Val → Option Found
chosen [] vs = none
chosen (d ∷ ds) vs = or_else (found d.right (fits d.left vs nothing_bound)) (chosen ds vs)

abbrev pub elem : ℕ → List ℕ → Bool
elem k [] = false
elem k (x ∷ xs) = eqb x k || elem k xs
