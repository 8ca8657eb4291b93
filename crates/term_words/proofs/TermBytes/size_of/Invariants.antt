-- `TermBytes::size_of` meets its contract. The invariant: `owed` terms are still to come at `next`, and the words before it are counted.
use Prim.Native.Nat.{◌-◌}
use lib.ListN.{length}
use Rattle.term_words.proofs.Count.{Going}
use Rattle.term_words.proofs.TermBytes.size_of.Given as goal

abbrev pub invariant-loop-owed : goal.invariant-loop-owed
invariant-loop-owed l = Going l.self.arities.now l.self.bytes.now l.p l.n l.owed l.next l.words

abbrev pub decreases-loop-owed : goal.decreases-loop-owed
decreases-loop-owed l = length l.self.bytes.now - l.next
