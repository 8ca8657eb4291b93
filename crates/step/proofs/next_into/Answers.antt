-- `next_into` meets its contract.
use mathlib.Core.Path.{sym, ◌∙◌}
use Rattle.place.proofs.Path.{site_within}
use Rattle.step.proofs.next_into.Goals as goal

pub rule-rule-requires : goal.rule-rule-requires
rule-rule-requires c =
    let a = c.args in
    let l = a.lists in
    site_within l.arities.now l.standing.list.now l.own.list.now l.standing.index.now l.own.index.now a.term.words.now 0 c.in-Some.site (sym c.requires.site_value ∙ c.in-Some.is)
