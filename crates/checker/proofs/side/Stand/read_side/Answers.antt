-- `checker::side::Stand::read_side` meets its contract. The loop's invariant: the side's answer is that of what is still owed. The measure is the bytes left.
use mathlib.Core.Path.{◌≡◌, sym, ap, ◌∙◌}
use native.Mathlib.Omega.{arith}
use Rattle.std.specs.Prelude.{Err}
use Rattle.record.proofs.Laws.{record-fits}
use Rattle.std.proofs.Common.{rules, tests}
use Rattle.checker.specs.declared.refusal.Reason.{Reason}
use Rattle.checker.specs.declared.refusal.Refusal.{Refusal}
use Rattle.checker.proofs.Errors.{handed_on, map_err-refused, map_err-taken}
use Rattle.checker.proofs.side.Scan.{most-small, step-worded, scan-none, scan-ends, scan-refused, scan-big, scan-on}
use Rattle.checker.proofs.side.Stand.read_side.Goals as goal

pub returns-in_err-r : goal.returns-in_err-r
returns-in_err-r c =
    let none = c.in_err-r.ensures.ok_part in
    let v = rw none at c.in_err-r.ensures.value in
    let e : c.in_err-r.field-0.0 ≡ c.at.result = cc in
    handed_on _ _ c.from_residual.ensures.1 ∙ ap Err e ∙ ap Err c.at.ensures ∙ sym (c.loop-due.invariant.0 ∙ scan-ends _ _ _ _ _ _ _ _ c.loop-due-test.true (sym none ∙ c.record_at.ensures))

pub returns-in_err-s : goal.returns-in_err-s
returns-in_err-s c =
    let at : Reason → Refusal = λ reason. record { reason = reason; place = c.loop-due.at } in
    let m = map_err-refused c.step_over.result c.in_err-s.ensures.cases at c.in_err-s.field-0.0 (λ x h. cc) (λ e h. search (rules, tests)) in
    let read = sym c.in_ok-r.ensures.ok_part ∙ c.record_at.ensures in
    handed_on _ _ c.from_residual-in_err-s.ensures.1 ∙ ap Err m.2 ∙ sym (c.loop-due.invariant.0 ∙ scan-refused _ _ _ _ _ _ _ _ c.loop-due-test.true _ read m.0 (sym m.1 ∙ c.step_over.ensures _))

pub returns-then-most-count : goal.returns-then-most-count
returns-then-most-count c =
    let s = map_err-taken c.step_over.result c.in_ok-s.ensures.cases c.in_ok-s.s (λ x h. cc) (λ e h. h) in
    let read = sym c.in_ok-r.ensures.ok_part ∙ c.record_at.ensures in
    let big = rw (c.most.ensures, c.from-count.ensures) at c.if-most-count.true in
    ap Err c.at-then-most-count.ensures
    ∙ sym (c.loop-due.invariant.0
    ∙ scan-big _ _ _ _ _ _ _ _ c.loop-due-test.true _ read _ (sym s ∙ c.step_over.ensures _) big)

pub overflow_add-at : goal.overflow_add-at
overflow_add-at c = omega (arith, record-fits _ _ _ (sym c.record_at.ensures ∙ c.in_ok-r.ensures.ok_part))

pub loop-due-smaller : goal.loop-due-smaller
loop-due-smaller c = omega (arith, record-fits _ _ _ (sym c.record_at.ensures ∙ c.in_ok-r.ensures.ok_part))

pub loop-due-preserved : goal.loop-due-preserved
loop-due-preserved c =
    let s = map_err-taken c.step_over.result c.in_ok-s.ensures.cases c.in_ok-s.s (λ x h. cc) (λ e h. h) in
    let read = sym c.in_ok-r.ensures.ok_part ∙ c.record_at.ensures in
    let u = rw (c.most.ensures, c.from-count.ensures) at c.if-most-count.false in
    let k = step-worded _ _ _ _ (sym s ∙ c.step_over.ensures 0) in (
      c.loop-due.invariant.0 ∙ rw (c.from.ensures, c.from-count.ensures) (scan-on _ _ _ _ _ _ _ _ c.loop-due-test.true _ read _ (sym s ∙ c.step_over.ensures _) u),
      omega (arith, c.from-count.ensures, u, most-small c.args.self),
      omega (arith, c.from.ensures, c.from-count.ensures, k),
    )

pub returns : goal.returns
returns c =
    let z : c.loop-due.due ≡ 0 = omega arith in
    sym (rw z at c.loop-due.invariant.0 ∙ scan-none _ _ _ _ _ _ _)
