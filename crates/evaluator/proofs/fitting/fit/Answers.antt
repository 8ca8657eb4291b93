-- `fitting::fit` meets its contract. The loop's invariant: the pattern fits the value as what is left of the one fits what is left of the other.
use mathlib.Core.Path.{sym, ◌∙◌}
use native.Mathlib.Omega.{arith}
use Rattle.evaluator.proofs.Fits.{word-behind, fit-in-succ}
use Rattle.evaluator.proofs.fitting.fit.Goals as goal

pub loop-i-preserved : goal.loop-i-preserved
loop-i-preserved c =
    let x = c.in_ok-w-items.ensures.lookup.0 in
    let e = word-behind c.args.rules.now c.in_ok-w-items.w-items.now c.args.at c.loop-i.i x.2 x.3 c.loop-i-test.true in
    rw c.in_ok-k.ensures.1
    (c.loop-i.invariant ∙ fit-in-succ _ _ _ _ (sym e ∙ c.if-w-ne-SUCC.false) (omega (arith, c.in_ok-k.ensures)) (omega arith))
