-- `place::Trail::descend` meets its contract. The loop's invariant: the path is noted up to its last place, which is the place `at`.
use mathlib.Core.Path.{◌≡◌}
use Prim.Native.Nat.{◌-◌}
use lib.ListN.{length, get_or}
use Rattle.place.specs.Noted.{OnPath}
use Rattle.place.proofs.Trail.descend.Given as goal

abbrev pub invariant-loop-at : goal.invariant-loop-at
invariant-loop-at l =
    OnPath l.search.lists.arities.now l.term l.self.places.now l.self.last × (l.at ≡ get_or l.self.places.now l.self.last 0) × (length l.self.places.now ≡ length l.initial.self.places.now)
    × (l.self.places.ghost_name ≡ l.initial.self.places.ghost_name)

abbrev pub decreases-loop-at : goal.decreases-loop-at
decreases-loop-at l = length l.term - l.at
