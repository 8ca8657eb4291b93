-- `left_end` meets its contract. The invariant: from j on, the words that are left lead where the whole side leads.
use Rattle.step.proofs.Ruled.{end-turn}
use Rattle.step.proofs.left_end.Goals as goal

pub loop-w-preserved : goal.loop-w-preserved
loop-w-preserved c =
    let l = c.loop-w in
    end-turn c.args.bound.now c.args.left.now l.w-index l.j c.past_word-j.result c.args.most c.loop-w-test.true c.requires.within l.invariant.0 l.invariant.1 c.past_word-j.ensures
