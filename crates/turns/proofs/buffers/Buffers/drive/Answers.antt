-- `buffers::Buffers`' `drive` meets its contract. The invariant is `Rounds`: what is left to run from the term at hand is what is left of the
-- whole run, and the buffers are as they came past the room.
use mathlib.Core.Path.{refl, ap, ◌∙◌}
use mathlib.Core.List.{List}
use Prim.Native.Nat.{ℕ}
use native.Mathlib.Omega.{arith}
use Rattle.std.specs.Borrow.{MutBor}
use Rattle.turns.proofs.Runs.{drove, onward, going_on, lent_on, path_on}
use Rattle.turns.proofs.buffers.Buffers.drive.Goals as goal

pub returns-in-Break-clause-drove : goal.returns-in-Break-clause-drove
returns-in-Break-clause-drove g c = drove c.loop-stop.invariant.0 c.loop-stop.invariant.1 c.round-done.ensures.rounded c.round-done.auto.term c.in-Break.stop c.in-Break.is _ refl refl refl refl

pub change_over-requires : goal.change_over-requires
change_over-requires g c = (onward c.loop-stop.invariant.0 c.loop-stop.invariant.1 c.round-done.ensures.rounded c.round-done.auto.term c.in-Continue.n c.in-Continue.is).fits

pub loop-stop-smaller : goal.loop-stop-smaller
loop-stop-smaller g c =
    let on = onward c.loop-stop.invariant.0 c.loop-stop.invariant.1 c.round-done.ensures.rounded c.round-done.auto.term c.in-Continue.n c.in-Continue.is in
    omega (arith, on.left, c.round-done.ensures.rounded.more)

pub loop-stop-preserved : goal.loop-stop-preserved
loop-stop-preserved g c =
    let now = λ (x : MutBor (List ℕ)). x.now in
    let name = λ (x : MutBor (List ℕ)). x.ghost_name in
    let i = c.loop-stop.invariant in
    let h = c.round-done.ensures.rounded in
    let l = c.round-done.auto.term in
    let b = c.change_over.new.self in
    let over = c.change_over.ensures in
    let on = onward i.0 i.1 h l c.in-Continue.n c.in-Continue.is in (
      going_on i.0 i.1 h l b on (ap now over.swapped.0) (ap now over.swapped.1) c.round-done.auto.other over.flipped over.size_value,
      lent_on i.0 i.1 h l b on (ap now over.swapped.0) (ap now over.swapped.1) c.round-done.auto.other over.flipped over.size_value (ap name over.swapped.0) (ap name over.swapped.1) over.room_kept,
      path_on i.0 i.1 h l b on (ap now over.swapped.0) (ap now over.swapped.1) c.round-done.auto.other over.flipped over.size_value,
      c.round-done.ensures.kept ∙ i.3,
    )
