-- `splice::Bindings`' `write_right` meets its contract. The invariant: what the words of the right side so far come to is written over dst.
use mathlib.Core.Path.{◌≡◌}
use lib.ListN.{length, take}
use Rattle.theory.specs.Buffers.{over}
use Rattle.splice.specs.Right.{new_len, new}
use Rattle.splice.proofs.Bindings.write_right.Given as goal

abbrev pub invariant-loop-w : goal.invariant-loop-w
invariant-loop-w l =
    (l.at ≡ new_len l.self.bound.now (take l.w-index l.right)) × (l.dst ≡ over (new l.self.subject.now l.self.bound.now (take l.w-index l.right)) l.initial.dst) × (length l.dst ≡ length l.initial.dst)
