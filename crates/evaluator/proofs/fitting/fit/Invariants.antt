-- `fitting::fit` meets its contract. The loop's invariant: the pattern fits the value as what is left of the one fits what is left of the other.
use mathlib.Core.Path.{◌≡◌}
use Prim.Native.Nat.{◌+◌}
use Rattle.evaluator.specs.Fitting.{fit_in}
use Rattle.evaluator.proofs.fitting.fit.Given as goal

abbrev pub invariant-loop-i : goal.invariant-loop-i
invariant-loop-i l = fit_in l.rules l.v.base l.v.succs l.at ≡ fit_in l.rules l.v.base l.k (l.at + l.i)
