-- `apply_rule` meets its contract.
use Prim.Native.Nat.{◌-◌}
use native.Mathlib.Omega.{arith}
use lib.ListN.{length}
use Rattle.step.proofs.Ruled.{within_more, parts-bound}
use Rattle.step.proofs.apply_rule.Goals as goal

pub left_end-requires-clause-within : goal.left_end-requires-clause-within
left_end-requires-clause-within c =
    let a = c.args in
    let t = a.term.words.now in
    within_more c.bind-b.result (length t - a.p) (length t)
    (parts-bound a.arities.now a.rule.now t a.p c.in-Some.sides c.in-Some.ensures c.part_of-left.result.now c.part_of-left.ensures.holds c.bind-b.result c.bind-b.ensures (omega arith)).within (omega arith)

pub step_into-requires-clause-parts : goal.step_into-requires-clause-parts
step_into-requires-clause-parts c =
    let a = c.args in
    parts-bound a.arities.now a.rule.now a.term.words.now a.p c.in-Some.sides c.in-Some.ensures c.part_of-left.result.now c.part_of-left.ensures.holds c.bind-b.result c.bind-b.ensures (omega arith)
