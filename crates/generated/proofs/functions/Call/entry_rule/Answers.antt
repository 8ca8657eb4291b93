-- `Call::entry_rule` meets its contract: the counts, the left side, the right side.
use mathlib.Core.Path.{sym}
use Rattle.generated.proofs.Writes.{wrote_as, wrote_then}
use Rattle.generated.proofs.RuleWords.{entry-words}
use Rattle.generated.proofs.functions.Call.entry_rule.Goals as goal

pub returns : goal.returns
returns c =
    wrote_as (sym (entry-words c.args.self.k c.args.self.n)) (wrote_then c.put.ensures (wrote_then c.put_side.ensures c.put_side-2.ensures))
