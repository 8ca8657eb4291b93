-- `Root::put` meets its contract.
use Rattle.generated.proofs.Writes.{wrote_then}
use Rattle.term_words.proofs.roots.Root.put.Goals as goal

pub returns : goal.returns
returns c = wrote_then c.put.ensures c.put_exception.ensures
