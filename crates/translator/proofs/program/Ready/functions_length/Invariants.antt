-- `Ready::functions_length` meets its contract. The invariant: the rules of the functions below the number are counted.
use mathlib.Core.Path.{◌≡◌}
use Prim.Native.Nat.{◌*◌, ◌≤◌}
use lib.ListN.{length}
use Rattle.generated.proofs.Writes.{below}
use Rattle.translator.specs.List.{rules_for}
use Rattle.translator.proofs.program.Ready.functions_length.Given as goal

abbrev pub invariant-loop-number : goal.invariant-loop-number
invariant-loop-number l = (l.count ≡ length (below (rules_for l.self.source) l.number)) × (l.count ≤ 128200 * l.number)
