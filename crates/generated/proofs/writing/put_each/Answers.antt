-- `writing::put_each` meets its contract. The invariant: the rules of the numbers below i are written.
use Rattle.generated.proofs.Writes.{wrote_none, turn-room, turn_more}
use Rattle.generated.proofs.writing.put_each.Goals as goal

pub loop-i-init : goal.loop-i-init
loop-i-init g c = wrote_none c.args.out.now

pub rules-requires : goal.rules-requires
rules-requires g c =
    c.requires.1.0.may _ _ c.loop-i-test.true (turn-room g.rule c.args.n c.loop-i.i c.loop-i-test.true c.requires.1.1 c.loop-i.invariant)

pub loop-i-preserved : goal.loop-i-preserved
loop-i-preserved g c =
    let room = turn-room g.rule c.args.n c.loop-i.i c.loop-i-test.true c.requires.1.1 c.loop-i.invariant in
    turn_more g.rule c.loop-i.i c.loop-i.invariant (c.requires.1.0.does _ _ _ c.loop-i-test.true room c.rules.ensures)
