-- `Exception::unequal_rules` meets its contract.
use Rattle.theory.specs.Translation.{other_rule}
use Rattle.generated.specs.contracts.exceptions.fn.Exception.unequal_rules.put_each as closure
use Rattle.generated.proofs.exceptions.Exception.unequal_rules.Given as goal

-- the rules that are written
abbrev pub ghost-put_each : goal.ghost-put_each
ghost-put_each a = other_rule ((closure.captures a.rules).self).number
