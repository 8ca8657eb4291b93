-- The rows of document 01's table of steps, each as a function of how a part ended.
use Rattle.std.specs.Prelude.{ℕ, ◌+◌, ◌-◌, eqb, leb, Result, Ok, Err}
use Rattle.theory.specs.Syntax.{pick}
use Rattle.words.specs.declared.base.Base.{Base}
use Rattle.words.specs.declared.base.Base.TheVariants.{Zero, True, False}
use Rattle.evaluator.specs.declared.values.Ending.{Ending}
use Rattle.evaluator.specs.declared.values.Ending.TheVariants.{Done, Raised, Stuck, Out, Deep}
use Rattle.evaluator.specs.declared.values.Answer.{Answer}
use Rattle.evaluator.specs.declared.values.Value.{Value}
use Rattle.evaluator.specs.declared.rows.Then.{Then}
use Rattle.evaluator.specs.declared.places.Op.{Op}
use Rattle.evaluator.specs.declared.places.Op.TheVariants.{Succ, Handle, If}
use Rattle.evaluator.specs.Values.{answer}

-- what follows where it goes on, or the end that it is
unfoldable pub answer_then : {A : Type 0} → Result A Answer → (A → Answer) → Answer
answer_then (Ok x) k = k x
answer_then (Err r) k = r

-- the same, where what follows may end too
unfoldable pub result_then : {A B : Type 0} → Result A Answer → (A → Result B Answer) → Result B Answer
result_then (Ok x) k = k x
result_then (Err r) k = Err r

-- what is left of p steps once c are paid; it ends out of steps where they do not suffice
unfoldable pub left_of : ℕ → ℕ → Result ℕ Answer
left_of c p = pick (leb c p) (Ok (p - c)) (Err (answer Out 0))

-- ends with e once c of the p steps left are paid
unfoldable pub pay_of : ℕ → ℕ → Ending → Answer
pay_of c p e = answer_then (left_of c p) (answer e)

-- goes on with x once c of the p steps left are paid
unfoldable pub go_of : {A : Type 0} → ℕ → ℕ → A → Result (Then A) Answer
go_of c p x = result_then (left_of c p) (λ q. Ok (record { next = x; left = q }))

-- the row of succ
unfoldable pub after_succ : Ending → ℕ → Answer
after_succ (Done v) p = answer (Done (record { succs = v.succs + 1; base = v.base })) p
after_succ (Raised x) p = pay_of 1 p (Raised x)
after_succ (Stuck s) p = answer (Stuck (s + 1)) p
after_succ Out p = answer Out p
after_succ Deep p = answer Deep p

-- the rows of handle, with the exception e; the handler is two parts on
unfoldable pub after_guard : ℕ → Ending → ℕ → Result (Then ℕ) Answer
after_guard e (Done v) p = Err (pay_of (v.succs + 3) p (Done v))
after_guard e (Raised x) p = pick (eqb x e) (go_of 3 p 2) (Err (pay_of 3 p (Raised x)))
after_guard e (Stuck s) p = Err (pay_of (1 + s) p (Stuck 0))
after_guard e Out p = Err (answer Out p)
after_guard e Deep p = Err (answer Deep p)

-- the row of if for each constant; the chosen part is one or two parts on
abbrev pub chosen_part : Base → ℕ → Result (Then ℕ) Answer
chosen_part Zero p = Err (answer (Stuck 0) p)
chosen_part True p = go_of 1 p 1
chosen_part False p = go_of 1 p 2

-- the rows of if
unfoldable pub after_test : Ending → ℕ → Result (Then ℕ) Answer
after_test (Done v) p = pick (eqb v.succs 0) (chosen_part v.base p) (Err (answer (Stuck 0) p))
after_test (Raised x) p = Err (pay_of 1 p (Raised x))
after_test (Stuck s) p = Err (answer (Stuck 0) p)
after_test Out p = Err (answer Out p)
after_test Deep p = Err (answer Deep p)

-- after the first part of succ, handle or if; e is the exception that follows it
unfoldable pub turn_of : Op → ℕ → Answer → Result (Then ℕ) Answer
turn_of Succ e r = Err (after_succ r.end r.left)
turn_of Handle e r = after_guard e r.end r.left
turn_of If e r = after_test r.end r.left

-- after an argument of a call
unfoldable pub after_arg : Ending → ℕ → Result (Then Value) Answer
after_arg (Done v) p = go_of (v.succs + 3) p v
after_arg (Raised x) p = Err (pay_of 3 p (Raised x))
after_arg (Stuck s) p = Err (pay_of (1 + s) p (Stuck 0))
after_arg Out p = Err (answer Out p)
after_arg Deep p = Err (answer Deep p)

unfoldable pub took_of : Answer → Result (Then Value) Answer
took_of r = after_arg r.end r.left
