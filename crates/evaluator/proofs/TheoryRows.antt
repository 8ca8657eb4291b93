-- The rows of the code are the theory's: what is left of an evaluation, as the code gives it.
use mathlib.Core.Path.{◌≡◌, refl, ap, ◌∙◌}
use mathlib.Core.Bool.{Bool, true, false}
use mathlib.Core.List.{List, [], ◌∷◌}
use Prim.Native.Nat.{ℕ, suc, ◌+◌, ◌-◌}
use native.Mathlib.Omega.{arith}
use lib.Dec.{eqb, leb, eqb-suc-zero}
use lib.ListN.{set, length}
use Rattle.theory.specs.Syntax.{zero_b, true_b, false_b, Val, base, up, height, Term, Program, Bindings, nothing_bound, pick, choose}
use Rattle.theory.specs.Endings.{Ending as TheoryEnding, value, raised, stuck, too_deep}
use Rattle.theory.specs.Cost.{Args, vals, ended, evaluator}
use Rattle.theory.specs.Budget.{Remaining, ends_leaving, ran_out, pay, then_with, PayingEv, succ_pays, handle_pays, if_pays, cons_pays, arg_pays, pay_eval, answered}
use Rattle.theory.proofs.BudgetIsCut.{same_answer}
use Rattle.std.specs.Prelude.{Result, Ok, Err}
use Rattle.evaluator.specs.declared.values.Value.{Value}
use Rattle.evaluator.specs.declared.values.Ending.{Ending}
use Rattle.evaluator.specs.declared.values.Ending.TheVariants.{Done, Raised, Stuck, Out}
use Rattle.evaluator.specs.declared.values.Answer.{Answer}
use Rattle.evaluator.specs.declared.values.Outcome.{Outcome}
use Rattle.evaluator.specs.declared.rows.Then.{Then}
use Rattle.evaluator.specs.declared.places.Op.TheVariants.{Succ, Handle, If}
use Rattle.evaluator.specs.Values.{answer}
use Rattle.evaluator.specs.Rows.{answer_then, result_then, left_of, pay_of, go_of, after_succ, after_guard, after_test, turn_of, after_arg, took_of}
use Rattle.evaluator.specs.Evaluation.{paid_of}
use Rattle.evaluator.specs.Outcomes.{value_of, ending_of, outcome_of}

abbrev pub code : Remaining TheoryEnding → Answer
code (ends_leaving m n) = answer (ending_of m) n
code ran_out = answer Out 0

-- so the code's answer is the evaluator's
pub same_outcome : (P : Program) (levels n : ℕ) (q : Term) {r : Answer} → r ≡ code (pay_eval P levels nothing_bound q n)
    → paid_of n r ≡ outcome_of (evaluator P levels n q)
same_outcome P levels n q {r} e =
    ap (λ (a : Answer). outcome a.end (n - a.left)) e ∙ go (pay_eval P levels nothing_bound q n) ∙ ap outcome_of (same_answer P levels n q)
  where
    outcome : Ending → ℕ → Outcome
    outcome m c = record { end = m; steps = c }

    go : (x : Remaining TheoryEnding) → outcome (code x).end (n - (code x).left) ≡ outcome_of (answered n x)
    go (ends_leaving m c) = refl
    go ran_out = ap (outcome Out) (omega arith)

-- paying, to end or to go on
pub left-row : (c p : ℕ) (k : ℕ → Answer) (f : ℕ → Remaining TheoryEnding) → ((q : ℕ) → k q ≡ code (f q)) → answer_then (left_of c p) k ≡ code (pay p c f)
unfolding left_of answer_then
left-row c p k f h = by (leb c p)
  where
    by : (t : Bool) → answer_then (pick t (Ok (p - c)) (Err (answer Out 0))) k ≡ code (choose t (λ u. f (p - c)) (λ u. ran_out))
    by true = h (p - c)
    by false = refl

pub pay-row : (c p : ℕ) (m : TheoryEnding) → pay_of c p (ending_of m) ≡ code (pay p c (ends_leaving m))
unfolding pay_of
pay-row c p m = left-row c p (answer (ending_of m)) (ends_leaving m) (λ q. refl)

pub go-row : {A : Type 0} (c p : ℕ) (x : A) (k : Then A → Answer) (f : ℕ → Remaining TheoryEnding) → ((q : ℕ) → k (record { next = x; left = q }) ≡ code (f q))
    → answer_then (go_of c p x) k ≡ code (pay p c f)
unfolding go_of answer_then result_then
go-row {A} c p x k f h = by (left_of c p) ∙ left-row c p (λ q. k (record { next = x; left = q })) f h
  where
    by : (r : Result ℕ Answer) → answer_then (result_then r (λ q. Ok (record { next = x; left = q }))) k ≡ answer_then r (λ q. k (record { next = x; left = q }))
    by (Ok q) = refl
    by (Err e) = refl

pub succ-row : (x : Remaining TheoryEnding) (e : ℕ) (k : Then ℕ → Answer) → answer_then (turn_of Succ e (code x)) k ≡ code (then_with x succ_pays)
unfolding turn_of after_succ answer_then
succ-row (ends_leaving (value v) n) e k = ap (λ (s : ℕ). answer (Done (record { succs = s; base = (value_of v).base })) n) (omega arith)
succ-row (ends_leaving (raised d) n) e k = pay-row 1 n (raised d)
succ-row (ends_leaving (stuck s) n) e k = ap (λ (s : ℕ). answer (Stuck s) n) (omega arith)
succ-row (ends_leaving too_deep n) e k = refl
succ-row ran_out e k = refl

module _ (ev : PayingEv) (θ : Bindings) (k : Then ℕ → Answer) where
  pub handle-row : (x : Remaining TheoryEnding) (e : ℕ) (h : Term) → ((q : ℕ) → k (record { next = 2; left = q }) ≡ code (ev θ h q))
      → answer_then (turn_of Handle e (code x)) k ≡ code (then_with x (handle_pays ev θ e h))
  unfolding turn_of after_guard answer_then
  handle-row (ends_leaving (value v) n) e h g = pay-row (height v + 3) n (value v)
  handle-row (ends_leaving (raised d) n) e h g = by (eqb d e)
    where
      by : (t : Bool) → answer_then (pick t (go_of 3 n 2) (Err (pay_of 3 n (Raised d)))) k ≡ code (pay n 3 (choose t (λ u. ev θ h) (λ u. ends_leaving (raised d))))
      by true = go-row 3 n 2 k (ev θ h) g
      by false = pay-row 3 n (raised d)
  handle-row (ends_leaving (stuck s) n) e h g = pay-row (1 + s) n (stuck 0)
  handle-row (ends_leaving too_deep n) e h g = refl
  handle-row ran_out e h g = refl

  pub cond-row : (x : Remaining TheoryEnding) (e : ℕ) (a b : Term) → ((q : ℕ) → k (record { next = 1; left = q }) ≡ code (ev θ a q)) → ((q : ℕ) → k (record { next = 2; left = q }) ≡ code (ev θ b q))
      → answer_then (turn_of If e (code x)) k ≡ code (then_with x (if_pays ev θ a b))
  unfolding turn_of after_test answer_then
  cond-row (ends_leaving (value (base zero_b)) n) e a b g h = refl
  cond-row (ends_leaving (value (base true_b)) n) e a b g h = go-row 1 n 1 k (ev θ a) g
  cond-row (ends_leaving (value (base false_b)) n) e a b g h = go-row 1 n 2 k (ev θ b) h
  cond-row (ends_leaving (value (up v)) n) e a b g h = rw (eqb-suc-zero (height v))
  cond-row (ends_leaving (raised d) n) e a b g h = pay-row 1 n (raised d)
  cond-row (ends_leaving (stuck s) n) e a b g h = refl
  cond-row (ends_leaving too_deep n) e a b g h = refl
  cond-row ran_out e a b g h = refl

-- the values from number i on, put into an array
abbrev pub fill : List Value → ℕ → List Val → List Value
fill arr i [] = arr
fill arr i (v ∷ vs) = fill (set arr i (value_of v)) (i + 1) vs

-- what n arguments come to, the first of them number i, as the code gives it
abbrev pub ListMeets : ℕ → List Value → ℕ → Remaining Args → Result (Then (List Value)) Answer → Type 0
ListMeets i arr n (ends_leaving (vals vs) p) x = (x ≡ Ok (record { next = fill arr i vs; left = p })) × (length vs ≡ n)
ListMeets i arr n (ends_leaving (ended m) p) x = x ≡ Err (answer (ending_of m) p)
ListMeets i arr n ran_out x = x ≡ Err (answer Out 0)

cons-meets : (i : ℕ) (arr : List Value) (n : ℕ) (v : Val) (y : Remaining Args) (x : Result (Then (List Value)) Answer) → ListMeets (i + 1) (set arr i (value_of v)) n y x
    → ListMeets i arr (suc n) (then_with y (cons_pays v)) x
cons-meets i arr n v (ends_leaving (vals vs) p) x h = (h.0, ap suc h.1)
cons-meets i arr n v (ends_leaving (ended m) p) x h = h
cons-meets i arr n v ran_out x h = h

-- the same, once it is paid for
module _ (i : ℕ) (arr : List Value) (n c p : ℕ) where
  meets-go : {A : Type 0} (x : A) (k : Then A → Result (Then (List Value)) Answer) (f : ℕ → Remaining Args) → ((q : ℕ) → ListMeets i arr n (f q) (k (record { next = x; left = q })))
      → ListMeets i arr n (pay p c f) (result_then (go_of c p x) k)
  unfolding go_of left_of result_then
  meets-go {A} x k f h = by (leb c p)
    where
      by : (t : Bool) → ListMeets i arr n (choose t (λ u. f (p - c)) (λ u. ran_out)) (result_then (result_then (pick t (Ok (p - c)) (Err (answer Out 0))) (λ q. Ok (record { next = x; left = q }))) k)
      by true = h (p - c)
      by false = refl

  meets-pay : (m : TheoryEnding) (k : Then Value → Result (Then (List Value)) Answer) → ListMeets i arr n (pay p c (ends_leaving (ended m))) (result_then (Err (pay_of c p (ending_of m))) k)
  unfolding pay_of left_of answer_then result_then
  meets-pay m k = by (leb c p)
    where
      by : (t : Bool) → ListMeets i arr n (choose t (λ u. ends_leaving (ended m) (p - c)) (λ u. ran_out)) (result_then (Err (answer_then (pick t (Ok (p - c)) (Err (answer Out 0))) (answer (ending_of m)))) k)
      by true = refl
      by false = refl

pub arg-row : (i : ℕ) (arr : List Value) (n : ℕ) (k : Then Value → Result (Then (List Value)) Answer) (rest : ℕ → Remaining Args)
    → ((v : Val) (q : ℕ) → ListMeets (i + 1) (set arr i (value_of v)) n (rest q) (k (record { next = value_of v; left = q })))
    → (x : Remaining TheoryEnding) → ListMeets i arr (suc n) (then_with x (arg_pays rest)) (result_then (took_of (code x)) k)
unfolding took_of after_arg result_then
arg-row i arr n k rest h (ends_leaving (value v) p) = meets-go i arr (suc n) (height v + 3) p (value_of v) k _ (λ q. cons-meets i arr n v (rest q) (k (record { next = value_of v; left = q })) (h v q))
arg-row i arr n k rest h (ends_leaving (raised e) p) = meets-pay i arr (suc n) 3 p (raised e) k
arg-row i arr n k rest h (ends_leaving (stuck s) p) = meets-pay i arr (suc n) (1 + s) p (stuck 0) k
arg-row i arr n k rest h (ends_leaving too_deep p) = refl
arg-row i arr n k rest h ran_out = refl
