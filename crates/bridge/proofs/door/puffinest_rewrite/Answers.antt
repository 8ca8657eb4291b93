-- `bridge::door::puffinest_rewrite` meets its contract.
use Rattle.bridge.proofs.Telling.{opens-short, opens-long}
use Rattle.bridge.proofs.door.puffinest_rewrite.Goals as goal

pub returns-then-report-lt7 : goal.returns-then-report-lt7
returns-then-report-lt7 c =
    let a = c.args in
    opens-short _ a.own.now a.first.now a.second.now a.report.now c.if-report-lt7.true

pub returns : goal.returns
returns c =
    let a = c.args in
    opens-long _ a.own.now a.first.now a.second.now a.report.now _ _ _ _ _ c.if-report-lt7.false c.rewrite-r.ensures c.tell.ensures
