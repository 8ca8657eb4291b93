-- Paying in two parts is paying at once.
use mathlib.Core.Path.{◌≡◌, refl, ap, ◌∙◌}
use mathlib.Core.Bool.{Bool, true, false}
use Prim.Native.Nat.{ℕ, ◌+◌, ◌-◌}
use native.Mathlib.Omega.{arith}
use lib.Dec.{leb}
use borrow.Author.Tests.{leb-true, leb-false, le-leb, lt-leb}
use Rattle.theory.specs.Syntax.{pick}
use Rattle.std.specs.Prelude.{Result, Ok, Err}
use Rattle.evaluator.specs.declared.values.Ending.{Ending}
use Rattle.evaluator.specs.declared.values.Ending.TheVariants.{Out}
use Rattle.evaluator.specs.declared.values.Answer.{Answer}
use Rattle.evaluator.specs.Values.{answer}
use Rattle.evaluator.specs.Rows.{answer_then, result_then, left_of, pay_of, go_of}

-- what is left after d of the p steps, and then after c of those
left-both : (c d p : ℕ) → result_then (left_of d p) (left_of c) ≡ left_of (c + d) p
unfolding left_of result_then
left-both c d p = by (leb d p) refl (leb c (p - d)) refl
  where
    by : (s : Bool) → leb d p ≡ s → (t : Bool) → leb c (p - d) ≡ t
        → result_then (pick s (Ok (p - d)) (Err (answer Out 0))) (λ q. pick (leb c q) (Ok (q - c)) (Err (answer Out 0))) ≡ pick (leb (c + d) p) (Ok (p - (c + d))) (Err (answer Out 0))
    by true e true f =
        let m : p - d - c ≡ p - (c + d) = omega arith in
        rw (f, le-leb (c + d) p (omega (arith, leb-true d p e, leb-true c (p - d) f)), m)
    by true e false f = rw (f, lt-leb (c + d) p (omega (arith, leb-false c (p - d) f)))
    by false e t f = rw (lt-leb (c + d) p (omega (arith, leb-false d p e)))

module _ (c d p : ℕ) where
  paid : {r : Result ℕ Answer} → r ≡ left_of d p → result_then r (left_of c) ≡ left_of (c + d) p
  paid h = ap (λ (r : Result ℕ Answer). result_then r (left_of c)) h ∙ left-both c d p

  pub pay-both : {q : ℕ} (e : Ending) → Ok q ≡ left_of d p → pay_of c q e ≡ pay_of (c + d) p e
  unfolding pay_of result_then
  pay-both e h = ap (λ (r : Result ℕ Answer). answer_then r (answer e)) (paid h)

  pub pay-out : {r : Answer} (e : Ending) → Err r ≡ left_of d p → r ≡ pay_of (c + d) p e
  unfolding pay_of result_then answer_then
  pay-out e h = ap (λ (r : Result ℕ Answer). answer_then r (answer e)) (paid h)

  pub go-both : {A : Type 0} {q : ℕ} (x : A) → Ok q ≡ left_of d p → go_of c q x ≡ go_of (c + d) p x
  unfolding go_of result_then
  go-both {A} x h = ap (λ (r : Result ℕ Answer). result_then r (λ q. Ok (record { next = x; left = q }))) (paid h)

  pub go-out : {A : Type 0} {r : Answer} (x : A) → Err r ≡ left_of d p → Err r ≡ go_of (c + d) p x
  unfolding go_of result_then
  go-out {A} x h = ap (λ (r : Result ℕ Answer). result_then r (λ q. Ok (record { next = x; left = q }))) (paid h)

-- for the check to look for in the rows
pub ruleset pay_steps = (pay-both, pay-out, go-both, go-out)
