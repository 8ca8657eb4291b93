-- `index::index_of` meets its contract. The invariant: the pass from the present place on makes of the present index what the whole pass makes.
use mathlib.Core.Path.{◌≡◌}
use Prim.Native.Nat.{◌-◌, ◌≤◌}
use lib.ListN.{length, drop}
use Rattle.rules.specs.Index.{index_from, index_of}
use Rattle.rules.proofs.index.index_of.Given as goal

abbrev pub invariant-loop-rule : goal.invariant-loop-rule
invariant-loop-rule l = (l.at ≤ length l.list) × (length l.index ≡ 401) × (index_of l.list ≡ index_from 0 l.at (drop l.at l.list) l.index)

abbrev pub decreases-loop-rule : goal.decreases-loop-rule
decreases-loop-rule l = length l.list - l.at
