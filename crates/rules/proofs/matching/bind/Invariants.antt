-- `matching::bind` meets its contract. The invariant: what is left of the left side fills the slots as the whole does.
use mathlib.Core.Path.{◌≡◌}
use lib.ListN.{length, drop, replicate}
use Rattle.rules.specs.Matching.{no_words, binds}
use Rattle.rules.proofs.matching.bind.Given as goal

abbrev pub invariant-loop-p : goal.invariant-loop-p
invariant-loop-p l =
    (length l.bound ≡ 8) × (binds l.arities l.subject l.left 0 (replicate 8 no_words) ≡ binds l.arities l.subject (drop l.p-index l.left) l.j l.bound)
