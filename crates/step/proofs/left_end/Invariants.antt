-- `left_end` meets its contract. The invariant: from j on, the words that are left lead where the whole side leads.
use mathlib.Core.Path.{◌≡◌}
use Prim.Native.Nat.{◌+◌, ◌≤◌}
use lib.ListN.{drop}
use Rattle.step.specs.Next.{end_by}
use Rattle.step.proofs.left_end.Given as goal

abbrev pub invariant-loop-w : goal.invariant-loop-w
invariant-loop-w l = (end_by l.bound l.left 0 ≡ end_by l.bound (drop l.w-index l.left) l.j) × (l.j ≤ l.most + l.w-index)
