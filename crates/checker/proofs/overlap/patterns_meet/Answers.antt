-- `checker::overlap::patterns_meet` meets its contract. The loop's invariant: the two patterns meet where what is left of them does.
use mathlib.Core.Path.{sym, ◌∙◌}
use Rattle.std.proofs.lemmas.Slice.Zip.{Zip-more, either_empty_from_Zip}
use Rattle.checker.proofs.overlap.Laws.{heads-var, heads-var2, heads-differ, heads-base, heads-succ, heads-out}
use Rattle.checker.proofs.overlap.patterns_meet.Goals as goal
use Rattle.checker.proofs.overlap.patterns_meet.Goals.{then-a-eq-VARIABLE-via-then-a-eq-VARIABLE, then-a-eq-VARIABLE-via-else-a-eq-VARIABLE+then-b-eq-VARIABLE}

pub returns-then-a-eq-VARIABLE : goal.returns-then-a-eq-VARIABLE
returns-then-a-eq-VARIABLE c =
    let z = Zip-more c.loop-a.a-iterator c.next.new.self _ _ c.in-Some.is c.next.ensures.steps in
    elim c.then-a-eq-VARIABLE.branch [
      | then-a-eq-VARIABLE-via-then-a-eq-VARIABLE w ↦ sym (c.loop-a.invariant ∙ heads-var _ _ _ _ _ _ z.0 z.1 w.if-a-eq-VARIABLE.true)
      | then-a-eq-VARIABLE-via-else-a-eq-VARIABLE+then-b-eq-VARIABLE w ↦ sym (c.loop-a.invariant ∙ heads-var2 _ _ _ _ _ _ z.0 z.1 w.if-a-eq-VARIABLE.false w.if-b-eq-VARIABLE.true)
    ]

pub returns-then-a-b : goal.returns-then-a-b
returns-then-a-b c =
    let z = Zip-more c.loop-a.a-iterator c.next.new.self _ _ c.in-Some.is c.next.ensures.steps in
    sym (c.loop-a.invariant ∙ heads-differ _ _ _ _ _ _ z.0 z.1 c.if-a-eq-VARIABLE.false c.if-b-eq-VARIABLE.false c.if-a-b.true)

pub returns-then-a-ne-SUCC : goal.returns-then-a-ne-SUCC
returns-then-a-ne-SUCC c =
    let z = Zip-more c.loop-a.a-iterator c.next.new.self _ _ c.in-Some.is c.next.ensures.steps in
    sym (c.loop-a.invariant ∙ heads-base _ _ _ _ _ _ z.0 z.1 c.if-a-eq-VARIABLE.false c.if-b-eq-VARIABLE.false c.if-a-b.false c.if-a-ne-SUCC.true)

pub loop-a-preserved : goal.loop-a-preserved
loop-a-preserved c =
    let z = Zip-more c.loop-a.a-iterator c.next.new.self _ _ c.in-Some.is c.next.ensures.steps in
    c.loop-a.invariant ∙ heads-succ _ _ _ _ _ _ z.0 z.1 c.if-a-eq-VARIABLE.false c.if-b-eq-VARIABLE.false c.if-a-b.false c.if-a-ne-SUCC.false

pub returns : goal.returns
returns c = sym (c.loop-a.invariant ∙ heads-out _ _ (either_empty_from_Zip c.loop-a.a-iterator c.next.new.self _ c.in-None.is c.next.ensures.steps))
