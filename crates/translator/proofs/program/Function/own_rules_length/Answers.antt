-- `Function::own_rules_length` meets its contract. The invariant: of the rules before the opening those of f are counted.
use mathlib.Core.Path.{ap, ◌∙◌}
use native.Mathlib.Omega.{arith}
use lib.ListN.{length, get_or, take, length-append}
use mathlib.Core.List.{List}
use Rattle.theory.specs.Bytes.{RuleAt}
use Rattle.translator.specs.Opened.{rule_if}
use Rattle.translator.specs.Listed.{rules_in, rules_words}
use Rattle.translator.proofs.Laws.{few_openings, passed-all, turn-opened, words-next}
use Rattle.translator.proofs.program.Function.own_rules_length.Goals as goal

pub rule_length-count-requires : goal.rule_length-count-requires
rule_length-count-requires c =
    let f = c.args.self.now in
    turn-opened f.source f.listed f.number f.arity c.loop-p.p-index f.arity_value c.loop-p-test.true

pub loop-p-preserved : goal.loop-p-preserved
loop-p-preserved c =
    let f = c.args.self.now in
    let i = c.loop-p.p-index in (
      omega (arith, c.loop-p.invariant.0, c.rule_length-count.ensures.value, ap length (words-next f.source f.listed f.number f.arity i f.arity_value c.loop-p-test.true), length-append (rules_words f.number f.arity (take i (rules_in f.source))) (rule_if f.source (get_or f.source.openings.now i 0) f.number f.arity)),
      omega (arith, c.loop-p.invariant.1, c.rule_length-count.ensures.upper_bound),
    )

pub returns-clause-value : goal.returns-clause-value
returns-clause-value c =
    let f = c.args.self.now in
    c.loop-p.invariant.0 ∙ ap (λ (rs : List RuleAt). length (rules_words f.number f.arity rs)) (passed-all f.source f.listed c.loop-p.p-index c.loop-p-test.false)

pub returns-clause-upper_bound : goal.returns-clause-upper_bound
returns-clause-upper_bound c =
    let f = c.args.self.now in
    omega (arith, c.loop-p.invariant.1, few_openings f.source f.listed, c.loop-p.auto.p-index-end)
