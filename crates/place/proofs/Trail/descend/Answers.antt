-- `place::Trail::descend` meets its contract. The loop's invariant: the path is noted up to its last place, which is the place `at`.
use mathlib.Core.Path.{sym, ◌∙◌}
use Prim.Native.Nat.{◌+◌, ◌≤◌, ◌<◌}
use native.Mathlib.Omega.{arith}
use borrow.Author.Rules.{rules}
use lib.ListN.{length, length-set}
use Rattle.place.proofs.Noted.{number-within, path-down, path-noted}
use Rattle.place.proofs.Trail.descend.Goals as goal
use Rattle.place.proofs.Trail.descend.Goals.{In-Some}

down : (c : In-Some) → let p = c.in-Some.p in (c.loop-at.self.last + 1 ≤ p) × ((c.loop-at.at < p) × (p ≤ length c.args.term.now))
down c =
    path-down _ _ _ _ c.loop-at.invariant.0 _ _ c.loop-at.invariant.1 c.loop-at-test.true (sym c.below.ensures ∙ c.in-Some.is)

pub offset_bounds-self-self : goal.offset_bounds-self-self
offset_bounds-self-self c =
    let k = number-within _ _ _ _ c.requires.on_path in
    search rules

pub bounds-self-self : goal.bounds-self-self
bounds-self-self c =
    omega (arith, number-within _ _ _ _ c.requires.on_path)

pub overflow_add-self : goal.overflow_add-self
overflow_add-self c =
    let d = down (goal.at.overflow_add-self c).In-Some in
    search rules

pub offset_bounds-self-self-in-loop-at : goal.offset_bounds-self-self-in-loop-at
offset_bounds-self-self-in-loop-at c =
    let d = down (goal.at.offset_bounds-self-self-in-loop-at c).In-Some in
    search rules

pub bounds-self-self-in-loop-at : goal.bounds-self-self-in-loop-at
bounds-self-self-in-loop-at c =
    omega (arith, down (goal.at.bounds-self-self-in-loop-at c).In-Some)

pub loop-at-smaller : goal.loop-at-smaller
loop-at-smaller c =
    omega (arith, down (goal.at.loop-at-smaller c).In-Some)

pub loop-at-preserved : goal.loop-at-preserved
loop-at-preserved c =
    let b = sym c.below.ensures ∙ c.in-Some.is in
    let d = path-noted _ _ _ _ c.loop-at.invariant.0 _ _ c.loop-at.invariant.1 c.loop-at-test.true b (omega arith) in
    (d.0, d.1, length-set c.loop-at.self.places.now (c.loop-at.self.last + 1) c.in-Some.p ∙ c.loop-at.invariant.2, c.loop-at.invariant.3)
