-- `fitting::find` meets its contract. The loop's invariant: the first rule that fits is the first from here on.
use mathlib.Core.Path.{◌≡◌}
use Prim.Native.Nat.{◌-◌}
use lib.ListN.{length}
use Rattle.evaluator.specs.Fitting.{found_from}
use Rattle.evaluator.proofs.fitting.find.Given as goal

abbrev pub invariant-loop-at : goal.invariant-loop-at
invariant-loop-at l = found_from l.rules l.vals 0 ≡ found_from l.rules l.vals l.at

abbrev pub decreases-loop-at : goal.decreases-loop-at
decreases-loop-at l = length l.rules - l.at
