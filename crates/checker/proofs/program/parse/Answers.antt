-- `checker::program::parse` meets its contract. The loop's invariant: the answer is that of the turns still to come. The measure is the bytes left, and nothing at the end.
use mathlib.Core.Path.{◌∙◌, sym}
use Rattle.checker.proofs.Errors.{handed_on}
use Rattle.checker.proofs.program.Turns.{stage-differs, stage-same, parse-starts, start-kept, parse-refused, parse-goes, goes_kept, parse-ends, parse-falls}
use Rattle.checker.proofs.program.parse.Goals as goal

pub loop-top-init : goal.loop-top-init
loop-top-init c = (parse-starts _ _ c.start-top.ensures, start-kept c.args.program.now _ c.start-top.ensures)

pub returns-in_err-turn-clause-value : goal.returns-in_err-turn-clause-value
returns-in_err-turn-clause-value c =
    handed_on _ _ c.from_residual.ensures.1 ∙ sym (c.loop-top.invariant.0 ∙ parse-refused _ _ (stage-differs _ c.loop-top-test.ensures) _ c.in_err-turn.ensures)

pub loop-top-smaller : goal.loop-top-smaller
loop-top-smaller c = parse-falls _ _ (stage-differs _ c.loop-top-test.ensures) _ c.in_ok-turn.ensures

pub loop-top-preserved : goal.loop-top-preserved
loop-top-preserved c =
    let more = stage-differs _ c.loop-top-test.ensures in
    (c.loop-top.invariant.0 ∙ parse-goes _ _ more _ c.in_ok-turn.ensures, goes_kept _ _ more _ c.in_ok-turn.ensures c.loop-top.invariant.1)

pub returns-clause-value : goal.returns-clause-value
returns-clause-value c = sym (c.loop-top.invariant.0 ∙ parse-ends _ _ (stage-same _ c.loop-top-test.ensures))
