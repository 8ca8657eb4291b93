-- `finding::first_fit` meets its contract. The invariant: the first rule that fits from the present place on is the first of all.
use mathlib.Core.Path.{◌≡◌}
use Prim.Native.Nat.{◌-◌, ◌≤◌}
use lib.ListN.{length, drop}
use Rattle.rules.specs.Finding.{first_from}
use Rattle.rules.proofs.finding.first_fit.Given as goal

abbrev pub invariant-loop-rule : goal.invariant-loop-rule
invariant-loop-rule l =
    (l.at ≤ length l.rules) × (first_from l.arities l.subject 0 0 l.rules ≡ first_from l.arities l.subject 0 l.at (drop l.at l.rules))

abbrev pub decreases-loop-rule : goal.decreases-loop-rule
decreases-loop-rule l = length l.rules - l.at
