-- `shapes::Call`'s `test` meets its contract.
use native.Mathlib.Omega.{arith}
use Rattle.in_place.proofs.Sides.{tests}
use Rattle.in_place.proofs.shapes.Call.test.Goals as goal

pub returns-in-7 : goal.returns-in-7
returns-in-7 c =
    let a = c.args in
    tests a.self.rule.now c.right.result.now a.self.n c.right.ensures a.arities.now c.in-7.len_at_least (omega arith) (omega arith) c.if-x-ge-VARIABLE.true (omega (arith, c.from.ensures)) c.if-b-ge-FUNCTION.true
    (omega (arith, c.parts.ensures.value)) (c.are_vars.ensures.0 c.if-are_vars.true)
