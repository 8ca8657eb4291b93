-- `shapes::Call`'s `renamed` meets its contract.
use Rattle.in_place.proofs.Sides.{renames}
use Rattle.in_place.proofs.shapes.Call.renamed.Goals as goal

pub returns-in-len1-up : goal.returns-in-len1-up
returns-in-len1-up c = renames c.args.self.rule.now c.right.result.now c.args.self.n c.right.ensures c.in-len1-up.len_at_least c.if-b-ge-FUNCTION.true (c.are_vars.ensures.0 c.if-are_vars.true)
