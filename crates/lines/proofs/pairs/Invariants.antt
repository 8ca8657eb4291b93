-- `lines::pairs` meets its contract: behind the bytes so far stand those of the pairs to come.
use Rattle.std.proofs.Common.{◌≡◌, ◌≤◌, ◌++◌, length, drop, option_map}
use Rattle.lines.proofs.Laws.{bytes_of}
use Rattle.lines.proofs.pairs.Given as goal

abbrev pub invariant-loop-high : goal.invariant-loop-high
invariant-loop-high g l = (option_map (λ bs. l.bytes.items ++ bs) (bytes_of (drop l.high-index l.pairs)) ≡ bytes_of l.pairs) × (length l.bytes.items ≤ g.row.CAP)
