-- `Lines::next_line` meets its contract. The loop's invariant: both slices are as they were lent, and what is held of the line fits its own.
use Rattle.std.proofs.Common.{◌≤◌, length, IfOk}
use Rattle.input.specs.Lent.{Lent}
use Rattle.input.proofs.Lines.next_line.Given as goal

abbrev pub invariant-loop : goal.invariant-loop
invariant-loop l = Lent l.fn.self l.self × IfOk l.held (λ len. len ≤ length l.self.line.now)
