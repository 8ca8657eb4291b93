-- `Ready::put_functions` meets its contract. The invariant: the rules of the functions below the number are written.
use Rattle.generated.specs.Wrote.{Wrote}
use Rattle.generated.proofs.Writes.{below}
use Rattle.translator.specs.List.{rules_for}
use Rattle.translator.proofs.program.Ready.put_functions.Given as goal

abbrev pub invariant-loop-number : goal.invariant-loop-number
invariant-loop-number l = Wrote (below (rules_for l.self.source) l.number) l.initial.out l.out
