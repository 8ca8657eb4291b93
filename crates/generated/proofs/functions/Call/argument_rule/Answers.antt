-- `Call::argument_rule` meets its contract: the counts, the left side, the guard, the next auxiliary.
use mathlib.Core.Path.{sym}
use Rattle.generated.proofs.Writes.{wrote_as, wrote_then}
use Rattle.generated.proofs.RuleWords.{arg-words}
use Rattle.generated.proofs.functions.Call.argument_rule.Goals as goal

pub returns : goal.returns
returns c =
    let a = c.args in
    wrote_as (sym (arg-words a.self.k a.self.n a.i))
    (wrote_then c.put.ensures (wrote_then c.put_side.ensures (wrote_then c.put-2.ensures c.put_side-2.ensures)))
