-- `functions::call_rules` meets its contract: the entry, and then the arguments.
use Rattle.generated.proofs.Writes.{wrote_then}
use Rattle.generated.proofs.functions.call_rules.Goals as goal

pub returns : goal.returns
returns c = wrote_then c.entry_rule.ensures c.put_each.ensures
