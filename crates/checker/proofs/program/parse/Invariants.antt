-- `checker::program::parse` meets its contract. The loop's invariant: the answer is that of the turns still to come. The measure is the bytes left, and nothing at the end.
use Prim.Native.Nat.{suc, ◌-◌}
use mathlib.Core.Path.{◌≡◌}
use lib.ListN.{length}
use Rattle.checker.specs.Declarations.{Kept}
use Rattle.checker.specs.Program.{turns, parse_of}
use Rattle.checker.proofs.program.Turns.{left_over}
use Rattle.checker.proofs.program.parse.Given as goal

abbrev pub invariant-loop-top : goal.invariant-loop-top
invariant-loop-top l = (parse_of l.program ≡ turns l.program (suc (length l.program - l.top.place)) l.top) × Kept l.top

abbrev pub decreases-loop-top : goal.decreases-loop-top
decreases-loop-top l = left_over l.program l.top
