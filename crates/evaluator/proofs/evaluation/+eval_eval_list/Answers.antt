-- The cycle of calls {eval, eval_list} meets its contracts.
use mathlib.Core.Path.{sym}
use Prim.Native.Nat.{◌-◌}
use native.Mathlib.Omega.{arith}
use Rattle.std.proofs.lemmas.Result.{err_from_is_err_and}
use Rattle.evaluator.proofs.Bounds.{fine_up, paid-fine, left-goes, left-ends, turn-goes, turn-ends, took-goes, took-ends, enter-ends, small-set, list_up}
use Rattle.evaluator.proofs.Levels.{at-raise, at-part-ends, at-part-goes, at-call-out, at-call-ends, list-ends, list-takes}
use Rattle.evaluator.proofs.evaluation.+eval_eval_list.Goals as goal

pub eval-eval-requires : goal.eval-eval-requires
eval-eval-requires t c =
    let q = turn-goes _ _ _ _ _ c.eval-r.ensures.1 c.in-Ok.ensures in
    (omega (arith, c.if-levels-eq0.false), (omega arith, omega (arith, q), c.requires.2))

pub eval-returns-in-Raise : goal.eval-returns-in-Raise
eval-returns-in-Raise t c = (
  at-raise _ _ _ _ _ _ _ _ _ _ c.if-levels-eq0.false (sym c.in-Raise.ensures) c.exception_at.ensures c.pay.ensures,
  paid-fine _ _ _ _ _ c.pay.ensures (omega arith) (omega arith),
)

pub eval-returns-in-Err : goal.eval-returns-in-Err
eval-returns-in-Err t c = (
  at-part-ends _ _ _ _ _ _ _ _ _ _ c.if-levels-eq0.false (sym c.in-Part.ensures) c.eval-r.ensures.0 c.in-Err.ensures,
  turn-ends _ _ _ _ _ _ c.eval-r.ensures.1 c.in-Err.ensures (omega (arith, c.if-levels-eq0.false)),
)

pub eval-returns-in-Ok : goal.eval-returns-in-Ok
eval-returns-in-Ok t c =
    let a = c.args in (
      at-part-goes _ _ _ _ _ _ _ _ _ _ c.if-levels-eq0.false (sym c.in-Part.ensures) c.eval-r.ensures.0 c.in-Ok.ensures c.place_past-next.ensures c.eval.ensures.0,
      fine_up (a.levels - 1) a.levels _ _ _ (omega arith) (turn-goes _ _ _ _ _ c.eval-r.ensures.1 c.in-Ok.ensures) c.eval.ensures.1,
    )

pub eval-returns-in-Err-spend : goal.eval-returns-in-Err-spend
eval-returns-in-Err-spend t c = (
  at-call-out _ _ _ _ _ _ _ _ _ _ c.if-levels-eq0.false (sym c.in-Call.ensures) c.in-Err-spend.ensures,
  left-ends _ _ _ c.in-Err-spend.ensures,
)

pub eval-returns-in-Err-enter : goal.eval-returns-in-Err-enter
eval-returns-in-Err-enter t c =
    let a = c.args in (
      at-call-ends _ _ _ _ _ _ _ _ _ _ c.if-levels-eq0.false (sym c.in-Call.ensures) c.in-Ok-spend.ensures c.arguments_of-n.ensures.value c.eval_list-l.ensures.0 c.rules_of-rules.ensures c.in-Err-enter.ensures,
      fine_up (a.levels - 1) a.levels _ _ _ (omega arith) (left-goes _ _ c.in-Ok-spend.ensures) (enter-ends _ _ _ _ _ c.eval_list-l.ensures.1 c.in-Err-enter.ensures),
    )

pub eval_list-returns-in_err-t : goal.eval_list-returns-in_err-t
eval_list-returns-in_err-t t c =
    let p = err_from_is_err_and c.from_residual.result c.from_residual.ensures.1 in
    rw (p.1, p.2)
    (list-ends _ _ _ _ _ _ _ _ _ c.if-n-eq0.false c.eval-r.ensures.0 c.in_err-t.ensures, took-ends _ _ _ c.eval-r.ensures.1 c.in_err-t.ensures)

pub eval_list-eval_list-requires : goal.eval_list-eval_list-requires
eval_list-eval_list-requires t c =
    let a = c.args in
    let w = took-goes _ _ _ c.eval-r.ensures.1 c.in_ok-t.ensures in
    (omega arith, (omega arith, omega (arith, w), c.requires.2, small-set a.vals a.i _ c.requires.3 (omega (arith, w)), omega arith))

pub eval_list-returns : goal.eval_list-returns
eval_list-returns t c = (
  list-takes _ _ _ _ _ _ _ _ _ c.if-n-eq0.false c.eval-r.ensures.0 c.in_ok-t.ensures c.place_past-next.ensures c.eval_list.ensures.0,
  list_up _ _ _ _ (took-goes _ _ _ c.eval-r.ensures.1 c.in_ok-t.ensures).0 c.eval_list.ensures.1,
)
