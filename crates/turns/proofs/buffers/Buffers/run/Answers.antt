-- `buffers::Buffers`' `run` meets its contract.
use Rattle.turns.proofs.Runs.{settled}
use Rattle.turns.proofs.buffers.Buffers.run.Goals as goal

pub returns-clause-leaves : goal.returns-clause-leaves
returns-clause-leaves g c =
    settled (rw c.over-search.ensures at c.drive-stop.ensures.drove) c.drive-stop.ensures.lent _ _ c.tidy.ensures.first_after c.tidy.ensures.second_after
