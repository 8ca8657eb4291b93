-- `matching::does_fit` meets its contract. The invariant: what is left of the left side fits from j on where the whole fits from 0 on.
use mathlib.Core.Path.{◌≡◌}
use lib.ListN.{drop}
use Rattle.rules.specs.Matching.{fits}
use Rattle.rules.proofs.matching.does_fit.Given as goal

abbrev pub invariant-loop-p : goal.invariant-loop-p
invariant-loop-p l = fits l.arities l.subject l.left 0 ≡ fits l.arities l.subject (drop l.p-index l.left) l.j
