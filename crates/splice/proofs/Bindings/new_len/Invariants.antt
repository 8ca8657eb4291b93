-- `splice::Bindings`' `new_len` meets its contract. The invariant: n is what the words of the right side so far come to.
use mathlib.Core.Path.{◌≡◌}
use Prim.Native.Nat.{◌*◌, ◌≤◌}
use lib.ListN.{take}
use Rattle.splice.specs.Right.{new_len}
use Rattle.splice.proofs.Bindings.new_len.Given as goal

abbrev pub invariant-loop-w : goal.invariant-loop-w
invariant-loop-w l = (l.n ≤ 65537 * l.w-index) × (l.n ≡ new_len l.self.bound.now (take l.w-index l.right))
