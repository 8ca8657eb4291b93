-- `checker::side::Stand::read_side` meets its contract. The loop's invariant: the side's answer is that of what is still owed. The measure is the bytes left.
use Prim.Native.Nat.{◌+◌, ◌-◌, ◌*◌, ◌≤◌}
use mathlib.Core.Path.{◌≡◌}
use lib.ListN.{length}
use Rattle.checker.specs.Side.{base_of, scan_from}
use Rattle.checker.proofs.side.Stand.read_side.Given as goal

abbrev pub invariant-loop-due : goal.invariant-loop-due
invariant-loop-due l =
    (scan_from l.declared.exceptions l.declared.arities.now l.bytes l.self l.fn.start.seen l.owed (base_of l.self) l.fn.start.at ≡ scan_from l.declared.exceptions l.declared.arities.now l.bytes l.self l.seen l.due l.count l.at) × (l.count ≤ 512) × (l.due ≤ 256 + 256 * l.count)

abbrev pub decreases-loop-due : goal.decreases-loop-due
decreases-loop-due l = length l.bytes - l.at
