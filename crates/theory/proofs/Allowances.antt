-- WHAT THE BUILT-IN FUNCTIONS GIVE AND TAKE ON NUMBERS is what specs/Allowances says, in every program (document 02, Q-4).
use Prim.Native.Nat.{ℕ, zero, suc, ◌+◌, ◌*◌, ◌-◌, ◌/◌, ◌%◌, min, max, ◌≤◌, ◌<◌}
use mathlib.Core.Path.{◌≡◌, refl, sym, ap, ap₂, ◌∙◌}
use mathlib.Core.Logic.{◌⊎◌, inl, inr}
use mathlib.Core.Bool.{Bool, true, false, not}
use mathlib.Core.List.{List, [], ◌∷◌}
use mathlib.Core.Option.{none, some}
use native.Mathlib.Omega.{arith}
use native.Mathlib.Nat.{suc-mul, mul-suc, mul-add, add-mul, mul_comm, mul_assoc, add_comm, sub-zero, suc-sub-suc, div-add-mod', div-eq_of_lt, div-eq-sub-div, mod-eq_of_lt, mod-eq-sub-mod, mod-lt}
use lib.Dec.{eqb, leb, ltb, leb-zero, leb-suc-zero, leb-suc-suc, eqb-zero-suc, eqb-suc-zero, eqb-suc-suc}
use Rattle.theory.specs.Syntax.{Base, zero_b, true_b, false_b, base, height, Term, const, succ, call, tnil, tcons, Fun, Program, Bindings, bind_value, nothing_bound, Found, chosen, pick}
use Rattle.theory.specs.Builtins.{program, call2, x, y}
use Rattle.theory.specs.Evaluation.{normal, other}
use Rattle.theory.specs.Endings.{Ending, value, stuck}
use Rattle.theory.specs.Arithmetic.{num, flag, difference, quotient, remainder}
use Rattle.theory.specs.Encoding.{Each}
use Rattle.theory.specs.Allowances.{Costs, Takes, call_steps, triangle, plus_steps, times_steps, compare_steps, minus_steps, turned_steps, differ_steps, turns_steps, divide_steps, plus_levels, times_levels, compare_levels, turns_levels, divide_levels, on_numbers, ending_of, asked_levels, RowTakes}
use Rattle.theory.proofs.Tests.{leb-true, leb-false, enough-or-not}
use Rattle.theory.proofs.ExactCost.{costs-so, takes-so, constant-costs, variable-costs, succ-costs, if-costs, no-argument-costs, one-more-costs, rule-costs, some_level, rule-takes, no-rule-takes}

-- THE NUMBERS, from one call to the next
product-next : (p q : ℕ) → suc p * suc q ≡ p * q + (p + q + 1)
product-next p q =
    let e = suc-mul p (suc q) in
    let f = mul-suc p q in
    omega (arith, e, f)

compare-as : (m n p q : ℕ) → min m n ≡ p → max m n ≡ q → compare_steps m n ≡ (p + 1) * (q + 8)
compare-as m n p q e f = ap₂ (λ (p q : ℕ). (p + 1) * (q + 8)) e f

compare-zero : (n : ℕ) → compare_steps 0 n ≡ call_steps 0 n
compare-zero n = compare-as 0 n 0 n (omega arith) (omega arith) ∙ omega arith

compare-by-zero : (m : ℕ) → compare_steps m 0 ≡ call_steps m 0
compare-by-zero m = compare-as m 0 0 m (omega arith) (omega arith) ∙ omega arith

compare-next : (m n : ℕ) → compare_steps (suc m) (suc n) ≡ call_steps (suc m) (suc n) + compare_steps m n
compare-next m n =
    let e : min (suc m) (suc n) + 1 ≡ suc (min m n + 1) = omega arith in
    let f : max (suc m) (suc n) + 8 ≡ suc (max m n + 8) = omega arith in
    let g : min m n + max m n ≡ m + n = omega arith in
    ap₂ (λ (p q : ℕ). p * q) e f ∙ product-next (min m n + 1) (max m n + 8) ∙ omega (arith, g)

compare-some : (m n : ℕ) → 1 ≤ compare_steps m n
compare-some m n =
    let e : min m n + 1 ≡ suc (min m n) = omega arith in
    let f : compare_steps m n ≡ min m n * (max m n + 8) + (max m n + 8) = ap (λ (p : ℕ). p * (max m n + 8)) e ∙ suc-mul (min m n) (max m n + 8) in
    omega (arith, f)

compare-turned : (m n : ℕ) → compare_steps m n ≡ compare_steps n m
compare-turned m n = compare-as m n (min n m) (max n m) (omega arith) (omega arith)

square-next : (n : ℕ) → suc n * (suc n + 1) ≡ n * (n + 1) + 2 * (n + 1)
square-next n =
    let e : suc n + 1 ≡ suc (n + 1) = omega arith in
    ap (λ (k : ℕ). suc n * k) e ∙ product-next n (n + 1) ∙ omega arith

triangle-next : (n : ℕ) → triangle (suc n) ≡ triangle n + suc n
triangle-next n =
    let e = square-next n in
    omega (arith, e)

pub triangle-doubled : (n : ℕ) → 2 * triangle n ≡ n * (n + 1)
triangle-doubled zero = refl
triangle-doubled (suc n) =
    let e = square-next n in
    let f = triangle-doubled n in
    let g = triangle-next n in
    omega (arith, e, f, g)

plus-next : (m n : ℕ) → plus_steps (suc m) n ≡ call_steps (suc m) n + plus_steps m n
plus-next m n =
    let e : (suc m + 1) * (n + 8) ≡ (m + 1) * (n + 8) + (n + 8) = add-mul (suc m) 1 (n + 8) ∙ omega arith in
    let f = triangle-next m in
    omega (arith, e, f)

times-next : (m n : ℕ) → times_steps (suc m) n ≡ call_steps (suc m) n + (times_steps m n + plus_steps n (m * n))
times-next m n =
    let t = triangle n in
    let e : suc m * (n + 1) ≡ m * (n + 1) + (n + 1) = suc-mul m (n + 1) in
    let f : suc m * suc m * t ≡ m * m * t + (2 * (m * t) + t) = squares m t in
    let g : 2 * (m * t) ≡ (n + 1) * (m * n) = halves m n in
    let h : (n + 1) * (m * n + 8) ≡ (n + 1) * (m * n) + 8 * (n + 1) = mul-add (n + 1) (m * n) 8 ∙ omega arith in
    let k = plus-next m n in
    sum (plus_steps (suc m) n) (plus_steps m n) (call_steps (suc m) n) (suc m * (n + 1)) (m * (n + 1)) n (suc m * suc m * t) (m * m * t) (m * t) t ((n + 1) * (m * n)) ((n + 1) * (m * n + 8)) k e f g h
  where
    squares : (m t : ℕ) → suc m * suc m * t ≡ m * m * t + (2 * (m * t) + t)
    squares m t =
        let e : suc m * suc m ≡ m * m + (m + m + 1) = product-next m m in
        let f : (m * m + (m + m + 1)) * t ≡ m * m * t + (m + m + 1) * t = add-mul (m * m) (m + m + 1) t in
        let g : (m + m + 1) * t ≡ (m + m) * t + 1 * t = add-mul (m + m) 1 t in
        let h : (m + m) * t ≡ m * t + m * t = add-mul m m t in
        ap (λ (k : ℕ). k * t) e ∙ f ∙ omega (arith, g, h)

    halves : (m n : ℕ) → 2 * (m * triangle n) ≡ (n + 1) * (m * n)
    halves m n =
        sym (mul_assoc 2 m (triangle n)) ∙ ap (λ (k : ℕ). k * triangle n) (mul_comm 2 m) ∙ mul_assoc m 2 (triangle n) ∙ ap (λ (k : ℕ). m * k) (triangle-doubled n)
        ∙ sym (mul_assoc m n (n + 1)) ∙ mul_comm (m * n) (n + 1)

    sum : (p' p c s' s n t' t u w z z' : ℕ) → p' ≡ c + p → s' ≡ s + (n + 1) → t' ≡ t + (2 * u + w) → 2 * u ≡ z → z' ≡ z + 8 * (n + 1)
        → p' + 8 * s' + t' ≡ c + (p + 8 * s + t + (z' + w))
    sum p' p c s' s n t' t u w z z' e f g h k = omega (arith, e, f, g, h, k)

turns_next : (q r d m : ℕ) → m ≡ suc q * d + r → d ≤ m
    → turns_steps (suc q) r d ≡ call_steps m d + (compare_steps m d + 1 + (compare_steps m d + 0 + turns_steps q r d))
turns_next q r d m e l =
    let c : compare_steps m d ≡ (d + 1) * (m + 8) = compare-as m d d m (omega (arith, l)) (omega (arith, l)) in
    let f : (d + 1) * (m + 8) ≡ d * m + 8 * d + m + 8 = add-mul d 1 (m + 8) ∙ ap (λ (k : ℕ). k + 1 * (m + 8)) (mul-add d m 8) ∙ omega arith in
    let g : suc q * r + d * triangle (suc q) ≡ (q * r + d * triangle q) + m = inner in
    let h : (2 * d + 3) * ((q * r + d * triangle q) + m) ≡ (2 * d + 3) * (q * r + d * triangle q) + (2 * (d * m) + 3 * m) =
    mul-add (2 * d + 3) (q * r + d * triangle q) m ∙ ap (λ (k : ℕ). (2 * d + 3) * (q * r + d * triangle q) + k) (add-mul (2 * d) 3 m ∙ ap (λ (k : ℕ). k + 3 * m) (mul_assoc 2 d m)) in
    let i = ap (λ (k : ℕ). (2 * d + 3) * k) g ∙ h in
    let j : suc q * (17 * d + 25) ≡ q * (17 * d + 25) + (17 * d + 25) = suc-mul q (17 * d + 25) in
    sum ((2 * d + 3) * (suc q * r + d * triangle (suc q))) ((2 * d + 3) * (q * r + d * triangle q)) (d * m) m d (suc q * (17 * d + 25)) (q * (17 * d + 25)) (turned_steps r d) (compare_steps m d) i j (c ∙ f)
  where
    inner : suc q * r + d * triangle (suc q) ≡ (q * r + d * triangle q) + m
    inner =
        let a = suc-mul q r in
        let b : d * triangle (suc q) ≡ d * triangle q + d * suc q = ap (λ (k : ℕ). d * k) (triangle-next q) ∙ mul-add d (triangle q) (suc q) in
        let c = mul_comm d (suc q) in
        omega (arith, a, b, c, e)

    sum : (s' s p m d t' t u c : ℕ) → s' ≡ s + (2 * p + 3 * m) → t' ≡ t + (17 * d + 25) → c ≡ p + 8 * d + m + 8
        → s' + t' + (u + 1) ≡ call_steps m d + (c + 1 + (c + 0 + (s + t + (u + 1))))
    sum s' s p m d t' t u c a b e = omega (arith, a, b, e)

-- x and y of a rule
abbrev bound : ℕ → ℕ → Bindings
bound m n = bind_value (bind_value nothing_bound 0 (num m)) 1 (num n)

pub height-num : (n : ℕ) → height (num n) ≡ n
height-num zero = refl
height-num (suc n) = ap suc (height-num n)

told : (b c : Bool) → b ≡ c → value (flag c) ≡ value (flag b)
told b c e = ap (λ (d : Bool). value (flag d)) (sym e)

counted : (m n : ℕ) → m ≡ n → value (num n) ≡ value (num m)
counted m n e = ap (λ (k : ℕ). value (num k)) (sym e)

module _ (k : ℕ) (fs : List Fun) where
  abbrev P : Program
  P = program k fs

  -- a built-in on two numbers takes what the right side of the rule that fits takes
  by-rule : (i m n : ℕ) {f : Found} {l l' c c' : ℕ} {e e' : Ending} → chosen (P.fun i).defs (num m ∷ num n ∷ []) ≡ some f → Costs P f.bound f.body l e c
      → l ≡ l' → e ≡ e' → call_steps m n + c ≡ c' → Takes P i (num m) (num n) l' e' c'
  by-rule i m n {f} {l} {l'} {c} {c'} {e} {e'} h r el ee ec =
      takes-so P el ee (ap₂ (λ (p q : ℕ). call_steps p q + c) (height-num m) (height-num n) ∙ ec) (rule-takes P h r)

  -- where the right side is a constant, and where it is the same built-in on one less each
  by-constant : (i m n : ℕ) {σ : Bindings} (b : Base) {e : Ending} {c : ℕ} → chosen (P.fun i).defs (num m ∷ num n ∷ []) ≡ some (record { bound = σ; body = const b })
      → 1 ≡ compare_levels m n → value (base b) ≡ e → call_steps m n ≡ c → Takes P i (num m) (num n) (compare_levels m n) e c
  by-constant i m n b {e} {c} h el ee ec = by-rule i m n h (constant-costs P b) el ee (omega (arith, ec))

  again : (i m n : ℕ) {e e' : Ending} {c c' : ℕ}
      → chosen (P.fun i).defs (num (suc m) ∷ num (suc n) ∷ []) ≡ some (record { bound = bound m n; body = call2 i x y })
      → e ≡ e' → call_steps (suc m) (suc n) + c ≡ c' → Takes P i (num m) (num n) (compare_levels m n) e c → Takes P i (num (suc m)) (num (suc n)) (compare_levels (suc m) (suc n)) e' c'
  again i m n {e} {e'} {c} {c'} h ee ec t = by-rule i (suc m) (suc n) h (t.called (variable-costs P 0) (variable-costs P 1)) (omega arith) ee (omega (arith, ec))

  -- <=, < AND =
  at-most-takes : (m n : ℕ) → Takes P 3 (num m) (num n) (compare_levels m n) (value (flag (leb m n))) (compare_steps m n)
  at-most-takes zero n = by-constant 3 0 n true_b refl (omega arith) (told (leb 0 n) true (leb-zero n)) (sym (compare-zero n))
  at-most-takes (suc m) zero = by-constant 3 (suc m) 0 false_b refl (omega arith) (told (leb (suc m) 0) false (leb-suc-zero m)) (sym (compare-by-zero (suc m)))
  at-most-takes (suc m) (suc n) = again 3 m n refl (told (leb (suc m) (suc n)) (leb m n) (leb-suc-suc m n)) (sym (compare-next m n)) (at-most-takes m n)

  less-takes : (m n : ℕ) → Takes P 4 (num m) (num n) (compare_levels m n) (value (flag (ltb m n))) (compare_steps m n)
  less-takes m zero = by-constant 4 m 0 false_b refl (omega arith) (told (ltb m 0) false (leb-suc-zero m)) (sym (compare-by-zero m))
  less-takes zero (suc n) = by-constant 4 0 (suc n) true_b refl (omega arith) (told (ltb 0 (suc n)) true (leb-suc-suc 0 n ∙ leb-zero n)) (sym (compare-zero (suc n)))
  less-takes (suc m) (suc n) = again 4 m n refl (told (ltb (suc m) (suc n)) (ltb m n) (leb-suc-suc (suc m) n)) (sym (compare-next m n)) (less-takes m n)

  equal-takes : (m n : ℕ) → Takes P 5 (num m) (num n) (compare_levels m n) (value (flag (eqb m n))) (compare_steps m n)
  equal-takes zero zero = by-constant 5 0 0 true_b refl refl refl refl
  equal-takes zero (suc n) = by-constant 5 0 (suc n) false_b refl (omega arith) (told (eqb 0 (suc n)) false (eqb-zero-suc n)) (sym (compare-zero (suc n)))
  equal-takes (suc m) zero = by-constant 5 (suc m) 0 false_b refl (omega arith) (told (eqb (suc m) 0) false (eqb-suc-zero m)) (sym (compare-by-zero (suc m)))
  equal-takes (suc m) (suc n) = again 5 m n refl (told (eqb (suc m) (suc n)) (eqb m n) (eqb-suc-suc m n)) (sym (compare-next m n)) (equal-takes m n)

  -- -
  minus-takes : (m n : ℕ) → Takes P 11 (num m) (num n) (compare_levels m n) (ending_of (difference m n)) (minus_steps m n)
  minus-takes m zero =
      by-rule 11 m 0 refl (variable-costs P 0) (omega arith)
      (counted (m - 0) m (sub-zero m) ∙ sym (ap (λ (b : Bool). ending_of (pick b (normal (num (m - 0))) other)) (leb-zero m)))
      (sym (ap (λ (b : Bool). pick b (compare_steps m 0) (compare_steps m 0 - 1)) (leb-zero m) ∙ compare-by-zero m ∙ omega arith))
  minus-takes zero (suc n) =
      let h = height-num n in
      let e = compare-zero (suc n) in
      takes-so P (omega arith) (sym (ap (λ (b : Bool). ending_of (pick b (normal (num (0 - suc n))) other)) (leb-suc-zero n)))
      (sym (ap (λ (b : Bool). pick b (compare_steps 0 (suc n)) (compare_steps 0 (suc n) - 1)) (leb-suc-zero n) ∙ omega (arith, h, e))) (no-rule-takes P refl)
  minus-takes (suc m) (suc n) =
      again 11 m n refl (sym (ap₂ (λ (b : Bool) (d : ℕ). ending_of (pick b (normal (num d)) other)) (leb-suc-suc n m) (suc-sub-suc m n)))
      (paid (leb n m) ∙ sym (ap (λ (b : Bool). pick b (compare_steps (suc m) (suc n)) (compare_steps (suc m) (suc n) - 1)) (leb-suc-suc n m))) (minus-takes m n)
    where
      paid : (b : Bool)
          → call_steps (suc m) (suc n) + pick b (compare_steps m n) (compare_steps m n - 1) ≡ pick b (compare_steps (suc m) (suc n)) (compare_steps (suc m) (suc n) - 1)
      paid true = sym (compare-next m n)
      paid false =
          let e = compare-next m n in
          let f = compare-some m n in
          omega (arith, e, f)

  -- + AND *
  plus-takes : (m n : ℕ) → Takes P 0 (num m) (num n) (plus_levels m n) (value (num (m + n))) (plus_steps m n)
  plus-takes zero n = by-rule 0 0 n refl (variable-costs P 0) (omega arith) (counted (0 + n) n (omega arith)) (omega arith)
  plus-takes (suc m) n =
      by-rule 0 (suc m) n refl (succ-costs P ((plus-takes m n).called (variable-costs P 0) (variable-costs P 1))) (omega arith)
      (counted (suc m + n) (suc (m + n)) (omega arith)) (let e = plus-next m n in omega (arith, e))

  times-takes : (m n : ℕ) → Takes P 1 (num m) (num n) (times_levels m n) (value (num (m * n))) (times_steps m n)
  times-takes zero n = by-rule 1 0 n refl (constant-costs P zero_b) refl (counted (0 * n) 0 (omega arith)) (omega arith)
  times-takes (suc m) n =
      by-rule 1 (suc m) n refl ((plus-takes n (m * n)).called (variable-costs P 1) ((times-takes m n).called (variable-costs P 0) (variable-costs P 1))) (levels m)
      (counted (suc m * n) (n + m * n) (suc-mul m n ∙ add_comm (m * n) n)) (let e = times-next m n in omega (arith, e))
    where
      levels : (m : ℕ) → 1 + max (max 1 (1 + max (max 1 1) (times_levels m n))) (plus_levels n (m * n)) ≡ times_levels (suc m) n
      levels zero = omega arith
      levels (suc m) = omega arith

  -- >=, > AND <>
  at-least-takes : (m n : ℕ) → Takes P 6 (num m) (num n) (compare_levels m n + 1) (value (flag (leb n m))) (turned_steps m n)
  at-least-takes m n =
      by-rule 6 m n refl ((at-most-takes n m).called (variable-costs P 1) (variable-costs P 0)) (omega arith) refl (let e = compare-turned m n in omega (arith, e))

  more-takes : (m n : ℕ) → Takes P 7 (num m) (num n) (compare_levels m n + 1) (value (flag (ltb n m))) (turned_steps m n)
  more-takes m n =
      by-rule 7 m n refl ((less-takes n m).called (variable-costs P 1) (variable-costs P 0)) (omega arith) refl (let e = compare-turned m n in omega (arith, e))

  pub not-costs : {θ : Bindings} {t : Term} {l c : ℕ} (b : Bool) → Costs P θ t l (value (flag b)) c → Costs P θ (call 2 (tcons t tnil)) (1 + l) (value (flag (not b))) (c + 5)
  not-costs true h =
      let some = some_level P h in
      costs-so P (omega (arith, some)) refl (omega arith) (rule-costs P 2 (one-more-costs P h (no-argument-costs P)) refl (constant-costs P false_b))
  not-costs false h =
      let some = some_level P h in
      costs-so P (omega (arith, some)) refl (omega arith) (rule-costs P 2 (one-more-costs P h (no-argument-costs P)) refl (constant-costs P true_b))

  differs-takes : (m n : ℕ) → Takes P 8 (num m) (num n) (compare_levels m n + 2) (value (flag (not (eqb m n)))) (differ_steps m n)
  differs-takes m n = by-rule 8 m n refl (not-costs (eqb m n) ((equal-takes m n).called (variable-costs P 0) (variable-costs P 1))) (omega arith) refl (omega arith)

  -- DIV AND MOD of m by n + 1. The parts of a right side: the test, and what is left
  module _ (m n : ℕ) where
    divisor : Costs P (bound m n) (succ y) 2 (value (num (suc n))) 0
    divisor = succ-costs P (variable-costs P 1)

    test : (b : Bool) → ltb m (suc n) ≡ b → Costs P (bound m n) (call2 4 x (succ y)) (1 + max 2 (compare_levels m (suc n))) (value (flag b)) (compare_steps m (suc n))
    test b e = costs-so P (omega arith) (told b (ltb m (suc n)) (sym e)) (omega arith) ((less-takes m (suc n)).called (variable-costs P 0) divisor)

    rest : suc n ≤ m → Costs P (bound m n) (call2 11 x (succ y)) (1 + max 2 (compare_levels m (suc n))) (value (num (m - suc n))) (compare_steps m (suc n))
    rest h =
        costs-so P (omega arith) (ap (λ (b : Bool). ending_of (pick b (normal (num (m - suc n))) other)) (leb-true (suc n) m h))
        (ap (λ (b : Bool). 0 + 0 + pick b (compare_steps m (suc n)) (compare_steps m (suc n) - 1)) (leb-true (suc n) m h) ∙ omega arith)
        ((minus-takes m (suc n)).called (variable-costs P 0) divisor)

  -- what it says of m and n that n + 1 goes into m so many times
  none-of-it : (m n : ℕ) → m / suc n ≡ 0 → m < suc n
  none-of-it m n e = go (enough-or-not (suc n) m)
    where
      go : (suc n ≤ m) ⊎ (m < suc n) → m < suc n
      go (inl g) = absurd (let l = div-eq-sub-div (omega arith) g in omega (arith, e, l))
      go (inr l) = l

  once_more : (q m n : ℕ) → m / suc n ≡ suc q → (suc n ≤ m) × ((m - suc n) / suc n ≡ q)
  once_more q m n e = go (enough-or-not (suc n) m)
    where
      go : (suc n ≤ m) ⊎ (m < suc n) → (suc n ≤ m) × ((m - suc n) / suc n ≡ q)
      go (inl g) = let l = div-eq-sub-div (omega arith) g in (g, omega (arith, e, l))
      go (inr h) = absurd (let l = div-eq_of_lt h in omega (arith, e, l))

  -- the levels and the steps of the last turn, and of a turn before others; around those stands succ in div (j is 1) and nothing in mod (0)
  last-levels : (k m n : ℕ) → m < suc n → 1 + max (1 + max 2 (compare_levels m (suc n))) 1 ≡ turns_levels k 0 m (suc n)
  last-levels k m n l = omega (arith, l)

  last-steps : (m n : ℕ) → m < suc n → call_steps m (suc n) + (compare_steps m (suc n) + 1 + 0) ≡ turns_steps 0 (m % suc n) (suc n)
  last-steps m n l = sym (ap (λ (r : ℕ). turns_steps 0 r (suc n)) (mod-eq_of_lt l) ∙ omega arith)

  test-levels : (m n : ℕ) → suc n ≤ m → 1 + max 2 (compare_levels m (suc n)) ≡ n + 3
  test-levels m n l = omega (arith, l)

  turn-levels : (q m n : ℕ) → m / suc n ≡ suc q → (j : ℕ)
      → let t = 1 + max 2 (compare_levels m (suc n)) in 1 + max t (j + (1 + max (max t 2) (turns_levels (2 + j) q (m - suc n) (suc n)))) ≡ turns_levels (2 + j) (suc q) m (suc n)
  turn-levels q m n e j =
      let h = once_more q m n e in
      ap (λ (t : ℕ). 1 + max t (j + (1 + max (max t 2) (turns_levels (2 + j) q (m - suc n) (suc n))))) (test-levels m n h.0) ∙ next q (m - suc n) h.1
    where
      next : (q r : ℕ) → r / suc n ≡ q → 1 + max (n + 3) (j + (1 + max (max (n + 3) 2) (turns_levels (2 + j) q r (suc n)))) ≡ turns_levels (2 + j) (suc q) m (suc n)
      next zero r f = let l = none-of-it r n f in omega (arith, l)
      next (suc q) r f = let g = mul-suc (2 + j) (suc q) in omega (arith, g)

  turn-steps : (q m n : ℕ) → m / suc n ≡ suc q
      → call_steps m (suc n) + (compare_steps m (suc n) + 1 + (compare_steps m (suc n) + 0 + turns_steps q ((m - suc n) % suc n) (suc n))) ≡ turns_steps (suc q) (m % suc n) (suc n)
  turn-steps q m n e =
      let g = (once_more q m n e).0 in
      let d : m ≡ suc q * suc n + m % suc n = sym (div-add-mod' m (suc n)) ∙ ap (λ (p : ℕ). p * suc n + m % suc n) e in
      ap (λ (r : ℕ). call_steps m (suc n) + (compare_steps m (suc n) + 1 + (compare_steps m (suc n) + 0 + turns_steps q r (suc n)))) (sym (mod-eq-sub-mod g))
      ∙ sym (turns_next q (m % suc n) (suc n) m d g)

  quotient-turns : (q m n : ℕ) → m / suc n ≡ q → Takes P 9 (num m) (num (suc n)) (turns_levels 3 q m (suc n)) (value (num q)) (turns_steps q (m % suc n) (suc n))
  quotient-turns zero m n e =
      let l = none-of-it m n e in
      by-rule 9 m (suc n) refl (if-costs P true (test m n true (leb-true (suc m) (suc n) (omega (arith, l)))) (constant-costs P zero_b)) (last-levels 3 m n l) refl (last-steps m n l)
  quotient-turns (suc q) m n e =
      let h = once_more q m n e in
      let g = h.0 in
      by-rule 9 m (suc n) refl
      (if-costs P false (test m n false (leb-false (suc m) (suc n) (omega (arith, g)))) (succ-costs P ((quotient-turns q (m - suc n) n h.1).called (rest m n g) (divisor m n))))
      (turn-levels q m n e 1) refl (turn-steps q m n e)

  remainder-turns : (q m n : ℕ) → m / suc n ≡ q → Takes P 10 (num m) (num (suc n)) (turns_levels 2 q m (suc n)) (value (num (m % suc n))) (turns_steps q (m % suc n) (suc n))
  remainder-turns zero m n e =
      let l = none-of-it m n e in
      by-rule 10 m (suc n) refl (if-costs P true (test m n true (leb-true (suc m) (suc n) (omega (arith, l)))) (variable-costs P 0)) (last-levels 2 m n l)
      (counted (m % suc n) m (mod-eq_of_lt l)) (last-steps m n l)
  remainder-turns (suc q) m n e =
      let h = once_more q m n e in
      let g = h.0 in
      by-rule 10 m (suc n) refl
      (if-costs P false (test m n false (leb-false (suc m) (suc n) (omega (arith, g)))) ((remainder-turns q (m - suc n) n h.1).called (rest m n g) (divisor m n)))
      (ap (λ (l : ℕ). 1 + max (1 + max 2 (compare_levels m (suc n))) l) (omega arith) ∙ turn-levels q m n e 0) (counted (m % suc n) ((m - suc n) % suc n) (mod-eq-sub-mod g)) (turn-steps q m n e)

  -- by 0 no rule fits
  by_zero : (i m : ℕ) → chosen (P.fun i).defs (num m ∷ num 0 ∷ []) ≡ none → Takes P i (num m) (num 0) 1 (stuck 0) (m + 7)
  by_zero i m e = takes-so P refl refl (let h = height-num m in omega (arith, h)) (no-rule-takes P e)

  quotient-takes : (m n : ℕ) → Takes P 9 (num m) (num n) (divide_levels 3 m n) (ending_of (quotient m n)) (divide_steps m n)
  quotient-takes m zero = by_zero 9 m refl
  quotient-takes m (suc n) = quotient-turns (m / suc n) m n refl

  remainder-takes : (m n : ℕ) → Takes P 10 (num m) (num n) (divide_levels 2 m n) (ending_of (remainder m n)) (divide_steps m n)
  remainder-takes m zero = by_zero 10 m refl
  remainder-takes m (suc n) = remainder-turns (m / suc n) m n refl

  -- THE TABLE
  pub table-takes : Each (RowTakes P) on_numbers
  table-takes =
      (plus-takes, (times-takes, (at-most-takes, (less-takes, (equal-takes, (at-least-takes, (more-takes, (differs-takes, (quotient-takes, (remainder-takes, (minus-takes, tt)))))))))))

-- what quotient and remainder are
pub quotient-and-remainder : (m n : ℕ) → (m ≡ m / suc n * suc n + m % suc n) × (m % suc n < suc n)
quotient-and-remainder m n = (sym (div-add-mod' m (suc n)), mod-lt m (omega arith))

-- Document 01's starred sums +(0,0) and +(succ(0),0); then the examples of docs/FORMAT.md: a question's steps and levels, what 1,000 by 7 takes, and
-- the largest number that 1,000,000 steps divide by 7
pub costs-computed : (plus_steps 0 0 ≡ 8) × (plus_steps 1 0 ≡ 17)
    × (plus_steps 100 100 ≡ 15958) × (asked_levels 100 100 (plus_levels 100 100) ≡ 202)
    × (times_steps 10 10 ≡ 6633) × (asked_levels 10 10 (times_levels 10 10) ≡ 41)
    × (compare_steps 200 300 ≡ 61908) × (asked_levels 200 300 (compare_levels 200 300) ≡ 302)
    × (divide_steps 100 10 ≡ 14637) × (asked_levels 100 10 (divide_levels 3 100 10) ≡ 102)
    × (divide_steps 300 100 ≡ 127192) × (asked_levels 300 100 (divide_levels 3 300 100) ≡ 302)
    × (divide_steps 1000 7 ≡ 1243266) × (divide_levels 3 1000 7 ≡ 435)
    × (divide_steps 895 7 ≡ 998601) × (divide_steps 896 7 ≡ 1000927)
costs-computed = (refl, refl, refl, refl, refl, refl, refl, refl, refl, refl, refl, refl, refl, refl, refl, refl)
