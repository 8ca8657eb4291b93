-- `pass` meets its contract. The loop's invariant is `Going`: the steps so far lead from the first words as they came to those at hand, and
-- the trail is noted up to its last place.
use mathlib.Core.Path.{subst, ◌∙◌}
use Prim.Native.Nat.{◌+◌, ◌≤◌, ◌<◌}
use native.Mathlib.Omega.{arith}
use borrow.Author.Rules.{rules}
use lib.ListN.{length, get_or, set}
use Rattle.std.specs.Prelude.{Option}
use Rattle.step.specs.Next.{next_by}
use Rattle.in_place.specs.InPlace.{Changes}
use Rattle.in_place.specs.declared.Change.{Change}
use Rattle.in_place.proofs.Passes.{Going, goes_on}
use Rattle.in_place.proofs.pass.Goals as goal
use Rattle.in_place.proofs.pass.Goals.{Then-change-left}

-- what a change leads to
further : (c : Then-change-left)
    → let a = c.args in let l = a.search.lists in let t = c.loop-change.term in let path = c.look-site.new.trail.places.now in let n = c.look-site.new.trail.last in let k = c.in-Some.change in let p = get_or path n 0 in (p < length t) × (n ≤ length t) × (0 < k.steps) × Going l.arities.now l.standing.list.now l.own.list.now l.standing.index.now l.own.index.now a.room a.left a.term.now a.trail.now.places.now (set t p k.word) path (c.loop-change.steps + k.steps) n
further c =
    let a = c.args in
    let l = a.search.lists in
    let g = c.loop-change in
    let seen = c.look-site in
    goes_on l.arities.now l.standing.list.now l.own.list.now l.standing.index.now l.own.index.now a.room a.left a.term.now a.trail.now.places.now g.term g.trail.places.now g.steps g.trail.last
    g.invariant.0 seen.result.site seen.new.trail.last seen.new.trail.places.now seen.ensures.site_value seen.ensures.noted
    c.in-Some.change (subst (λ (o : Option Change). Changes (next_by l) a.room seen.result.site g.term o) c.in-Some.is seen.ensures.changes) (omega arith) seen.ensures.kept

pub offset_bounds-trail-trail : goal.offset_bounds-trail-trail
offset_bounds-trail-trail c =
    let on = further (goal.at.offset_bounds-trail-trail c).Then-change-left in
    let low = on.1 in
    search rules

pub bounds-trail-trail : goal.bounds-trail-trail
bounds-trail-trail c =
    omega (arith, (further (goal.at.bounds-trail-trail c).Then-change-left).1)

pub bounds-term-trail : goal.bounds-term-trail
bounds-term-trail c =
    omega (arith, (further (goal.at.bounds-term-trail c).Then-change-left).0)

pub loop-change-preserved : goal.loop-change-preserved
loop-change-preserved c =
    ((further (goal.at.loop-change-preserved c).Then-change-left).3, c.look-site.ensures.lent ∙ c.loop-change.invariant.1)
