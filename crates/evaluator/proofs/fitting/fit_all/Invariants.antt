-- `fitting::fit_all` meets its contract. The loop's invariant: all fit where those left fit, after the bindings so far.
use mathlib.Core.Path.{◌≡◌}
use lib.ListN.{drop}
use Rattle.evaluator.specs.Values.{nones}
use Rattle.evaluator.specs.Fitting.{fits_of}
use Rattle.evaluator.proofs.fitting.fit_all.Given as goal

abbrev pub invariant-loop-v : goal.invariant-loop-v
invariant-loop-v l = fits_of l.rules l.at l.vals nones ≡ fits_of l.rules l.next (drop l.v-index l.vals) l.b
