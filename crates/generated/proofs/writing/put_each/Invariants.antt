-- `writing::put_each` meets its contract. The invariant: the rules of the numbers below i are written.
use Rattle.generated.specs.Wrote.{Wrote}
use Rattle.generated.proofs.Writes.{below}
use Rattle.generated.proofs.writing.put_each.Given as goal

abbrev pub invariant-loop-i : goal.invariant-loop-i
invariant-loop-i g l = Wrote (below g.rule l.i) l.initial.out l.out
