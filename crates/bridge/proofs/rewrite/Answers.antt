-- `bridge::rewrite` meets its contract.
use Rattle.std.proofs.Common.{sym, ap₂, ◌∙◌}
use Rattle.bridge.specs.Judged.{judged_as}
use Rattle.bridge.proofs.Judging.{accepted}
use Rattle.bridge.proofs.Allowing.{within-limits, rewrite-refused, rewrite-limited}
use Rattle.bridge.proofs.rewrite.Goals as goal

pub returns-in-Err : goal.returns-in-Err
returns-in-Err c = rewrite-refused _ _ _ c.in-Err.ensures.refused _ _ c.args.own.now c.args.first.now c.args.second.now

pub returns-in-Err-limit : goal.returns-in-Err-limit
returns-in-Err-limit c =
    let e = c.in-Ok.ensures.accepted in
    let judged = c.in-Ok.accepted.judged ∙ ap₂ (λ p q. judged_as p.now q.now) e.0 e.1 in
    rewrite-limited (accepted _ _ _ judged) _ _ c.args.own.now c.args.first.now c.args.second.now _ (sym c.in-Err-limit.is ∙ c.limit.ensures)

pub rewrite-requires : goal.rewrite-requires
rewrite-requires c = within-limits _ _ _ _ (sym c.in-Ok-limit.is ∙ c.limit.ensures)
