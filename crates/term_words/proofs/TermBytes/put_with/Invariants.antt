-- `TermBytes::put_with` meets its contract. The loop's invariant is `Putting`; the measure is the bytes that remain.
use mathlib.Core.Path.{◌≡◌}
use Prim.Native.Nat.{◌-◌}
use lib.ListN.{length}
use Rattle.term_words.proofs.Putting.{Putting}
use Rattle.term_words.proofs.TermBytes.put_with.Given as goal

abbrev pub invariant-loop-owed : goal.invariant-loop-owed
invariant-loop-owed l = Putting l.self.arities.now l.self.bytes.now l.p l.n l.initial.out l.owed l.next l.late l.out × (length l.late ≡ length l.initial.late)

abbrev pub decreases-loop-owed : goal.decreases-loop-owed
decreases-loop-owed l = length l.self.bytes.now - l.next
