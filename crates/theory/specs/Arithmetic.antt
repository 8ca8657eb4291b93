-- What the built-in functions are to give, in the words of document 02's Q-2 and Q-4. proofs/Equality and proofs/Reached hold the rules against it.
use Rattle.std.specs.Prelude.{ℕ, zero, suc, ◌-◌, ◌/◌, ◌%◌, ◌≤◌, ◌≡◌, Bool, true, false, [], ◌∷◌, eqb, leb, ltb}
use Rattle.std.proofs.Math.Option.{some}
use Rattle.theory.specs.Syntax.{Base, zero_b, true_b, false_b, Val, base, up, height, base_of, Term, const, succ, Terms, call, Program, Bindings, nothing_bound, pick}
use Rattle.theory.specs.Builtins.{call2}
use Rattle.theory.specs.Evaluation.{Outcome, normal, exception, other, normals, Ev, EvArgs, outcome_of}
use Rattle.theory.specs.Cost.{eval}

-- succ n times over a value; the number n, and a test's answer, as values
abbrev pub ups : ℕ → Val → Val
ups zero v = v
ups (suc n) v = up (ups n v)

abbrev pub num : ℕ → Val
num n = ups n (base zero_b)

abbrev pub flag : Bool → Val
flag true = base true_b
flag false = base false_b

-- Built-in k on the values v and w gives m: under all bindings, and for all arguments that have these values.
abbrev pub Gives : Program → ℕ → Val → Val → Outcome → Type 0
Gives P k v w m = (θ : Bindings) (ts : Terms) → EvArgs P θ ts (normals (v ∷ w ∷ [])) → Ev P θ (call k ts) m

-- a value as the term that is it, and a built-in asked about two values
abbrev pub written : Val → Term
written (base b) = const b
written (up v) = succ (written v)

abbrev pub asked : ℕ → Val → Val → Term
asked k v w = call2 k (written v) (written w)

-- "allowances large enough": from some number of levels on, the evaluation of that question ends as m
abbrev pub Reached : Program → ℕ → Val → Val → Outcome → Type 0
Reached P k v w m = (L : ℕ) × ((L' : ℕ) → L ≤ L' → outcome_of (eval P L' nothing_bound (asked k v w)).ending ≡ some m)

-- Q-2: = on every pair of values, each so many times succ over a constant. Where that is as often, the constants decide: "a number against a flag
-- stays stuck". Where not, the constant of the value with fewer succ does: 0 is no succ of anything, a flag against succ is stuck.
abbrev pub equal_bases : Base → Base → Outcome
equal_bases zero_b zero_b = normal (flag true)
equal_bases zero_b true_b = other
equal_bases zero_b false_b = other
equal_bases true_b zero_b = other
equal_bases true_b true_b = normal (flag true)
equal_bases true_b false_b = normal (flag false)
equal_bases false_b zero_b = other
equal_bases false_b true_b = normal (flag false)
equal_bases false_b false_b = normal (flag true)

abbrev pub against_succ : Base → Outcome
against_succ zero_b = normal (flag false)
against_succ true_b = other
against_succ false_b = other

abbrev pub equality : Val → Val → Outcome
equality v w =
    pick (eqb (height v) (height w)) (equal_bases (base_of v) (base_of w)) (pick (ltb (height v) (height w)) (against_succ (base_of v)) (against_succ (base_of w)))

-- Q-4: `<>(x,y)→not(=(x,y))`: the opposite of what = gives
abbrev pub opposite : Outcome → Outcome
opposite (normal (base zero_b)) = other
opposite (normal (base true_b)) = normal (flag false)
opposite (normal (base false_b)) = normal (flag true)
opposite (normal (up v)) = other
opposite (exception e) = exception e
opposite other = other

-- Q-4: - gives the difference where there is one, and is stuck elsewhere; "`div` and `mod` give quotient and remainder, and with divisor 0 are
-- stuck". / and % are the library's.
abbrev pub difference : ℕ → ℕ → Outcome
difference m n = pick (leb n m) (normal (num (m - n))) other

abbrev pub quotient : ℕ → ℕ → Outcome
quotient m zero = other
quotient m (suc n) = normal (num (m / suc n))

abbrev pub remainder : ℕ → ℕ → Outcome
remainder m zero = other
remainder m (suc n) = normal (num (m % suc n))
