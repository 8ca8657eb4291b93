-- `exceptions::exception_rules` meets its contract: the four kinds of rules, one after the other.
use Rattle.theory.specs.Translation.{raise_rule, handle_rule, same_rule, other_rule, gather, numbers}
use Rattle.generated.specs.contracts.exceptions.fn.exception_rules.put_each+4 as closure
use Rattle.generated.proofs.exceptions.exception_rules.Given as goal

-- the rules that are written
abbrev pub ghost-put_each : goal.ghost-put_each
ghost-put_each a = raise_rule

abbrev pub ghost-put_each-2 : goal.ghost-put_each-2
ghost-put_each-2 a = handle_rule

abbrev pub ghost-put_each-3 : goal.ghost-put_each-3
ghost-put_each-3 a = same_rule

abbrev pub ghost-put_each-4 : goal.ghost-put_each-4
ghost-put_each-4 a = let n = (closure.captures a.rules).n in λ d. gather (other_rule d) (numbers 0 n)
