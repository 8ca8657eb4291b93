-- `run::start_by` meets its contract.
use Rattle.step.specs.Next.{next_by}
use Rattle.turns.proofs.Runs.{started}
use Rattle.turns.proofs.run.start_by.Goals as goal

pub returns : goal.returns
returns g c =
    let a = c.args in
    started (next_by a.lists) a.room a.allowance a.term.now _ _ _ _ _ _ c.if-room-len.false c.requires.room_in_bounds.0 c.copy_into.ensures c.run_in.ensures
