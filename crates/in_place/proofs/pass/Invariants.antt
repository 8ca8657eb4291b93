-- `pass` meets its contract. The loop's invariant is `Going`: the steps so far lead from the first words as they came to those at hand, and
-- the trail is noted up to its last place.
use mathlib.Core.Path.{◌≡◌}
use Prim.Native.Nat.{◌-◌}
use Rattle.in_place.proofs.Passes.{Going}
use Rattle.in_place.proofs.pass.Given as goal

abbrev pub invariant-loop-change : goal.invariant-loop-change
invariant-loop-change l =
    let a = l.search.lists in
    Going a.arities.now a.standing.list.now a.own.list.now a.standing.index.now a.own.index.now l.room l.left l.initial.term l.initial.trail.places.now l.term l.trail.places.now l.steps l.trail.last
    × (l.trail.places.ghost_name ≡ l.initial.trail.places.ghost_name)

abbrev pub decreases-loop-change : goal.decreases-loop-change
decreases-loop-change l = l.left - l.steps
