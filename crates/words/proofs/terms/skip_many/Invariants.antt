-- `terms::skip_many` meets its contract. The loop's invariant: the n terms end where the parts still owed end. The measure is the words that remain.
use mathlib.Core.Path.{◌≡◌}
use Prim.Native.Nat.{◌-◌}
use lib.ListN.{length, drop}
use Rattle.words.specs.Terms.{arity_of, past}
use Rattle.words.proofs.terms.skip_many.Given as goal

abbrev pub invariant-loop-owed : goal.invariant-loop-owed
invariant-loop-owed l = past (arity_of l.arities) (drop l.at l.words) l.n l.at ≡ past (arity_of l.arities) (drop l.next l.words) l.owed l.next

abbrev pub decreases-loop-owed : goal.decreases-loop-owed
decreases-loop-owed l = length l.words - l.next
