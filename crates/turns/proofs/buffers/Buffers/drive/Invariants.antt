-- `buffers::Buffers`' `drive` meets its contract. The invariant is `Rounds`: what is left to run from the term at hand is what is left of the
-- whole run, and the buffers are as they came past the room.
use mathlib.Core.Path.{◌≡◌}
use Prim.Native.Nat.{◌-◌}
use lib.ListN.{length}
use Rattle.place.specs.Noted.{OnPath}
use Rattle.step.specs.Next.{next_by}
use Rattle.turns.specs.Buffers.{term_of, Lent}
use Rattle.turns.proofs.Runs.{Rounds}
use Rattle.turns.proofs.buffers.Buffers.drive.Given as goal

abbrev pub invariant-loop-stop : goal.invariant-loop-stop
invariant-loop-stop g l =
    Rounds (next_by l.search.lists) l.allowance l.initial.self l.self l.steps
    × Lent l.initial.self l.self
    × OnPath l.search.lists.arities.now (term_of l.self) l.trail.places.now l.trail.last
    × (length l.trail.places.now ≡ length l.initial.trail.places.now)

abbrev pub decreases-loop-stop : goal.decreases-loop-stop
decreases-loop-stop g l = l.allowance - l.steps
