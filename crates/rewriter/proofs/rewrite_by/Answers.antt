-- `rewriter::rewrite_by` meets its contract.
use mathlib.Core.Path.{◌≡◌, sym, ap}
use Prim.Native.Nat.{◌≤◌}
use native.Mathlib.Omega.{arith}
use lib.ListN.{length}
use lib.Seq.{length-take-le}
use Rattle.step.specs.Next.{next_by}
use Rattle.turns.specs.Run.{Last}
use Rattle.turns.specs.declared.run.Ran.{Ran}
use Rattle.rewriter.specs.Read.{run_on, run_by}
use Rattle.rewriter.proofs.Settled.{from-fits, settled}
use Rattle.rewriter.proofs.rewrite_by.Goals as goal
use Rattle.rewriter.proofs.rewrite_by.Goals.{After-start_by-ran}

-- the last term is a part of the first buffer
whole : (g : _) (c : After-start_by-ran g) → c.start_by-ran.result.len ≤ length c.start_by-ran.new.first
unfolding run_on
whole g c =
    let a = c.args in
    let l : Last = run_by a.lists a.question.now a.room a.allowance in
    let n : c.start_by-ran.result.len ≡ length l.term = ap (λ (x : Ran). x.len) c.start_by-ran.ensures.value in
    let fits = from-fits (next_by a.lists) a.room a.allowance a.question.now in
    let kept = c.start_by-ran.auto.first in
    omega arith

pub slice_bounds-said_of-end : goal.slice_bounds-said_of-end
slice_bounds-said_of-end g c = whole g (goal.at.slice_bounds-said_of-end g c).After-start_by-ran

pub slice_bounds-said_of-end-2 : goal.slice_bounds-said_of-end-2
slice_bounds-said_of-end-2 g c = sym (length-take-le _ _ (whole g (goal.at.slice_bounds-said_of-end-2 g c).After-start_by-ran))

pub returns : goal.returns
unfolding run_on
returns g c =
    let a = c.args in
    settled (run_by a.lists a.question.now a.room a.allowance) a.room c.start_by-ran.result _ _ _ _ c.said_of-said.result c.start_by-ran.ensures
    (from-fits (next_by a.lists) a.room a.allowance a.question.now) c.requires.room_in_bounds.0 c.said_of-said.ensures
