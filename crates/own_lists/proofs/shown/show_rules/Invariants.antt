-- `shown::show_rules` is safe and ends: each rule that is shown has words.
use Rattle.std.proofs.Common.{◌≤◌, ◌-◌, length}
use Rattle.own_lists.proofs.shown.show_rules.Given as goal

abbrev pub invariant-loop-rule : goal.invariant-loop-rule
invariant-loop-rule g l = l.at ≤ length l.own

abbrev pub decreases-loop-rule : goal.decreases-loop-rule
decreases-loop-rule g l = length l.own - l.at
