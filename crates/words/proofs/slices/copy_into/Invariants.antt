-- `slices::copy_into` meets its contract. The invariant: the first i words of src are written over dst.
use mathlib.Core.Path.{◌≡◌}
use lib.ListN.{take}
use Rattle.theory.specs.Buffers.{over}
use Rattle.words.proofs.slices.copy_into.Given as goal

abbrev pub invariant-loop-i : goal.invariant-loop-i
invariant-loop-i l = l.dst ≡ over (take l.i l.src) l.initial.dst
