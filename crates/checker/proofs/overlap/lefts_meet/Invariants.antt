-- `checker::overlap::lefts_meet` meets its contract. The loop's invariant: the left sides meet where what is left of them does.
use Prim.Native.Nat.{◌-◌}
use mathlib.Core.Path.{◌≡◌}
use Rattle.checker.specs.Overlap.{args_meet}
use Rattle.checker.proofs.overlap.lefts_meet.Given as goal

abbrev pub invariant-loop : goal.invariant-loop
invariant-loop l = args_meet l.count l.first l.second ≡ args_meet (l.count - l.counter) l.left l.right
