-- `fitting::find` meets its contract. The loop's invariant: the first rule that fits is the first from here on.
use mathlib.Core.Path.{sym, ◌∙◌}
use Rattle.evaluator.proofs.Fits.{found_here}
use Rattle.evaluator.proofs.fitting.find.Goals as goal

pub returns-in-Some : goal.returns-in-Some
returns-in-Some c =
    sym (c.loop-at.invariant ∙ found_here _ _ _ c.loop-at-test.true c.fit_all.ensures c.in-Some.is (c.from.ensures ∙ c.get_or.ensures))
