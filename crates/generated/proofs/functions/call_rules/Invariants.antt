-- `functions::call_rules` meets its contract.
use Rattle.theory.specs.Translation.{arg_rule}
use Rattle.generated.specs.contracts.functions.fn.call_rules.put_each as closure
use Rattle.generated.proofs.functions.call_rules.Given as goal

-- the rules that are written
abbrev pub ghost-put_each : goal.ghost-put_each
ghost-put_each a = let call = (closure.captures a.rules).call in arg_rule call.k call.n
