-- `change_at` meets its contract.
use mathlib.Core.Path.{sym, ◌∙◌}
use Rattle.std.specs.Prelude.{Some}
use Rattle.rules.specs.Lists.{fitting_by}
use Rattle.rules.proofs.Handed.{handed-words}
use Rattle.place.proofs.Path.{site_within, site-inside}
use Rattle.in_place.proofs.Changes.{renaming-changes, test-changes}
use Rattle.in_place.proofs.change_at.Goals as goal

pub rule-rule-requires : goal.rule-rule-requires
rule-rule-requires c =
    let a = c.args in
    let l = a.search.lists in
    site_within l.arities.now l.standing.list.now l.own.list.now l.standing.index.now l.own.index.now a.term.words.now 0 c.in_ok-site.site (sym c.requires.site_value ∙ c.in_ok-site.was)

pub bounds-term-site : goal.bounds-term-site
bounds-term-site c =
    let a = c.args in
    site-inside a.search.lists.arities.now (fitting_by a.search.lists) a.term.words.now c.in_ok-site.site (sym c.requires.site_value ∙ c.in_ok-site.was)

pub returns-in-Some : goal.returns-in-Some
returns-in-Some c =
    let a = c.args in
    let l = a.search.lists in
    let s = c.in_ok-site.site in
    let call = c.in_ok-call.call in
    renaming-changes l.arities.now l.standing.list.now l.own.list.now l.standing.index.now l.own.index.now a.term.words.now c.requires.numbered.0 a.term.room c.requires.numbered.1.0 call.n a.site
    c.requires.site_value c.requires.numbered.1.1 s c.in_ok-site.was a.term.fits call.rule.now
    (c.in_ok-call.ensures.0 ∙ handed-words l.standing.list l.own.list c.rule-rule.result (Some s.rule) c.rule-rule.ensures) c.in_ok-call.ensures.1.1 c.in-Some.word c.in-Some.ensures

pub returns : goal.returns
returns c =
    let a = c.args in
    let l = a.search.lists in
    let s = c.in_ok-site.site in
    let call = c.in_ok-call.call in
    test-changes l.arities.now l.standing.list.now l.own.list.now l.standing.index.now l.own.index.now a.term.words.now c.requires.numbered.0 a.term.room c.requires.numbered.1.0 call.n a.site
    c.requires.site_value c.requires.numbered.1.1 s c.in_ok-site.was a.term.fits call.rule.now
    (c.in_ok-call.ensures.0 ∙ handed-words l.standing.list l.own.list c.rule-rule.result (Some s.rule) c.rule-rule.ensures) c.in_ok-call.ensures.1.1
    (a.search.known c.if-not-search.false) c.in_ok-test.test c.in_ok-test.ensures c.skip_many.result c.skip_many.ensures
    c.in_ok-q.q c.in_ok-steps.steps c.in_ok-q.was c.in_ok-steps.ensures.passed
