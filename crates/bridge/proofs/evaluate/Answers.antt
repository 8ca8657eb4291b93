-- `bridge::evaluate` meets its contract.
use Rattle.std.proofs.Common.{sym, ap₂, ◌∙◌}
use Rattle.bridge.specs.Judged.{judged_as}
use Rattle.bridge.proofs.Judging.{accepted}
use Rattle.bridge.proofs.Allowing.{within-allowances, evaluate-refused, evaluate-barred}
use Rattle.bridge.proofs.evaluate.Goals as goal

pub returns-in-Err : goal.returns-in-Err
returns-in-Err c = evaluate-refused _ _ _ c.in-Err.ensures.refused _ _

pub returns-then-not-allowed : goal.returns-then-not-allowed
returns-then-not-allowed c =
    let e = c.in-Ok.ensures.accepted in
    let judged = c.in-Ok.accepted.judged ∙ ap₂ (λ p q. judged_as p.now q.now) e.0 e.1 in
    evaluate-barred (accepted _ _ _ judged) _ _ _ (sym c.allowed.ensures ∙ c.if-not-allowed.true) c.refused.ensures

pub evaluate-requires : goal.evaluate-requires
evaluate-requires c = within-allowances _ _ _ (sym c.allowed.ensures ∙ c.if-not-allowed.false)
