-- `place::Trail::climb` meets its contract. The loop's invariant: of what is at or below the place number n, only the place itself is left.
use mathlib.Core.Path.{◌≡◌}
use lib.ListN.{get_or}
use Rattle.rules.specs.Lists.{fitting_by}
use Rattle.place.specs.Noted.{OnPath}
use Rattle.place.specs.Path.{here_in, site_at}
use Rattle.place.proofs.Trail.climb.Given as goal

abbrev pub invariant-loop-n : goal.invariant-loop-n
invariant-loop-n l =
    let find = fitting_by l.lists in
    OnPath l.lists.arities.now l.term l.self.places.now l.initial.self.last
    × (site_at l.lists.arities.now find l.term (get_or l.self.places.now l.n 0) ≡ here_in find l.term (get_or l.self.places.now l.n 0))
    × (l.self.places.ghost_name ≡ l.initial.self.places.ghost_name)
