-- `exceptions::exception_rules` meets its contract: the four kinds of rules, one after the other, are all.
use mathlib.Core.Path.{sym}
use Rattle.generated.proofs.Writes.{wrote_as, wrote_then}
use Rattle.generated.proofs.ExceptionRules.{four_kinds}
use Rattle.generated.proofs.exceptions.exception_rules.Goals as goal

pub returns : goal.returns
returns c =
    wrote_as (sym (four_kinds c.args.n)) (wrote_then c.put_each.ensures (wrote_then c.put_each-2.ensures (wrote_then c.put_each-3.ensures c.put_each-4.ensures)))
