-- `Ready::put_list` meets its contract: the rules of exceptions, and then those of functions.
use mathlib.Core.Path.{sym}
use Rattle.theory.specs.Translation.{exn_rules, gather, numbers}
use Rattle.theory.proofs.Readability.{list-append}
use Rattle.generated.proofs.Writes.{wrote_as, wrote_then}
use Rattle.translator.specs.List.{rules_for}
use Rattle.translator.proofs.program.Ready.put_list.Goals as goal

pub returns : goal.returns
returns c =
    let s = c.args.self.now.source in
    wrote_as (sym (list-append (exn_rules s.exceptions) (gather (rules_for s) (numbers 0 s.functions)))) (wrote_then c.exception_rules.ensures c.put_functions.ensures)
