-- `Function::put_own_rules` meets its contract. The invariant: of the rules before the opening those of f are written.
use lib.ListN.{take}
use Rattle.generated.specs.Wrote.{Wrote}
use Rattle.translator.specs.Listed.{rules_in, rules_words}
use Rattle.translator.proofs.program.Function.put_own_rules.Given as goal

abbrev pub invariant-loop-p : goal.invariant-loop-p
invariant-loop-p l = Wrote (rules_words l.self.number l.self.arity (take l.p-index (rules_in l.self.source))) l.initial.out l.out
