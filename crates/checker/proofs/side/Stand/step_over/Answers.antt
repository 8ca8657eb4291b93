-- `checker::side::Stand::step_over` meets its contract.
use mathlib.Core.Path.{sym, ap, ◌∙◌}
use Rattle.std.specs.Prelude.{Ok}
use Rattle.checker.proofs.node.Laws.{variable_read}
use Rattle.checker.proofs.side.Stand.step_over.Goals as goal

pub variable-requires : goal.variable-requires
variable-requires c = variable_read _ _ 0 _ _ c.in-Variable.x (ap Ok (sym c.in-Variable.is) ∙ c.in_ok-node_of.ensures 0)
