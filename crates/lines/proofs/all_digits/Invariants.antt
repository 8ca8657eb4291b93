-- `lines::all_digits` meets its contract. The loop's invariant: where all so far are digits, the bytes to come decide.
use Rattle.std.proofs.Common.{◌≡◌, ◌&&◌, drop}
use Rattle.lines.specs.Hex.{all_digits}
use Rattle.lines.proofs.all_digits.Given as goal

abbrev pub invariant-loop-c : goal.invariant-loop-c
invariant-loop-c l = all_digits l.bytes ≡ l.all && all_digits (drop l.c-index l.bytes)
