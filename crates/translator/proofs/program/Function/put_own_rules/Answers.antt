-- `Function::put_own_rules` meets its contract. The invariant: of the rules before the opening those of f are written.
use mathlib.Core.Path.{sym, ap}
use Rattle.generated.proofs.Writes.{wrote_none, wrote_as, wrote_then}
use Rattle.translator.specs.Listed.{rules_words}
use Rattle.translator.proofs.Laws.{passed-all, turn-opened, turn-room, words-next}
use Rattle.translator.proofs.program.Function.put_own_rules.Goals as goal

pub loop-p-init : goal.loop-p-init
loop-p-init c = wrote_none c.args.out.now

pub put_rule_if-requires-clause-opened_for : goal.put_rule_if-requires-clause-opened_for
put_rule_if-requires-clause-opened_for c =
    let f = c.args.self.now in
    turn-opened f.source f.listed f.number f.arity c.loop-p.p-index f.arity_value c.loop-p-test.true

pub put_rule_if-requires-clause-room : goal.put_rule_if-requires-clause-room
put_rule_if-requires-clause-room c =
    let f = c.args.self.now in
    turn-room f.source f.listed f.number f.arity c.loop-p.p-index f.arity_value c.loop-p-test.true c.loop-p.invariant c.requires

pub loop-p-preserved : goal.loop-p-preserved
loop-p-preserved c =
    let f = c.args.self.now in
    wrote_as (sym (words-next f.source f.listed f.number f.arity c.loop-p.p-index f.arity_value c.loop-p-test.true)) (wrote_then c.loop-p.invariant c.put_rule_if.ensures)

pub returns : goal.returns
returns c =
    let f = c.args.self.now in
    wrote_as (ap (rules_words f.number f.arity) (passed-all f.source f.listed c.loop-p.p-index c.loop-p-test.false)) c.loop-p.invariant
