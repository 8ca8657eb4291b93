-- `place::Trail::climb` meets its contract. The loop's invariant: of what is at or below the place number n, only the place itself is left.
use mathlib.Core.Path.{◌≡◌, sym, ◌∙◌}
use native.Mathlib.Omega.{arith}
use borrow.Author.Rules.{rules}
use Rattle.std.specs.Prelude.{Some}
use Rattle.rules.specs.Lists.{fitting_by}
use Rattle.place.specs.Path.{site_at}
use Rattle.place.specs.Noted.{Numbered}
use Rattle.place.proofs.Noted.{number-within, climb_found}
use Rattle.place.proofs.Trail.climb.Goals as goal
use Rattle.place.proofs.Trail.climb.Goals.{In-Some}

pub offset_bounds-self-n : goal.offset_bounds-self-n
offset_bounds-self-n c =
    let k = number-within _ _ _ _ c.requires.on_path in
    search rules

pub bounds-self-n : goal.bounds-self-n
bounds-self-n c =
    omega (arith, number-within _ _ _ _ c.requires.on_path)

found : (c : In-Some) → (Some c.in-Some.site ≡ site_at c.args.lists.arities.now (fitting_by c.args.lists) c.args.term.now 0) × Numbered c.args.lists.arities.now c.args.term.now c.loop-n.self.places.now (Some c.in-Some.site) c.loop-n.n
found c =
    let l = c.loop-n in
    climb_found _ _ _ _ _ l.invariant.0 l.n (omega arith) l.invariant.1 c.in-Some.site (sym c.in-Some.is ∙ c.here.ensures)

pub returns-in-Some-clause-site_value : goal.returns-in-Some-clause-site_value
returns-in-Some-clause-site_value c = (found (goal.at.returns-in-Some-clause-site_value c).In-Some).0

pub returns-in-Some-clause-noted : goal.returns-in-Some-clause-noted
returns-in-Some-clause-noted c = (found (goal.at.returns-in-Some-clause-noted c).In-Some).1
