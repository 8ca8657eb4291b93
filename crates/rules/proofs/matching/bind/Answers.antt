-- `matching::bind` meets its contract. The invariant: what is left of the left side fills the slots as the whole does.
use mathlib.Core.Path.{sym, ap, ap₂, ◌∙◌}
use mathlib.Core.List.{List}
use Prim.Native.Nat.{ℕ, ◌+◌}
use lib.ListN.{length, drop, set, length-set}
use Rattle.rules.specs.Matching.{binds}
use Rattle.rules.specs.declared.index.Span.{Span}
use Rattle.rules.proofs.Takes.{binds-var, binds-plain}
use Rattle.rules.proofs.matching.bind.Goals as goal
use Rattle.rules.proofs.matching.bind.Goals.{then-is_var, else-is_var}

pub loop-p-preserved : goal.loop-p-preserved
loop-p-preserved c =
    let a = c.args in
    let l = c.loop-p in
    let e = c.in-Some.e in
    let q = sym c.take_word.ensures ∙ c.in-Some.is in
    elim c.if-is_var.branch [
      | then-is_var w ↦ (
        ap length w.bound-is ∙ simp length-set l.invariant.0,
        l.invariant.1
            ∙ binds-var a.arities.now a.subject.now a.left.now l.p-index l.j c.loop-p-test.true l.bound e (sym c.is_var.ensures ∙ w.if-is_var.true) q
            ∙ ap (λ (v : ℕ). binds a.arities.now a.subject.now (drop (l.p-index + 1) a.left.now) e (set l.bound v (record { from = l.j; to = e }))) (sym w.from.ensures)
            ∙ sym (ap₂ (λ (b : List Span) (j : ℕ). binds a.arities.now a.subject.now (drop (l.p-index + 1) a.left.now) j b) w.bound-is w.j-is),
      )
      | else-is_var w ↦ (
        ap length w.bound-is ∙ l.invariant.0,
        l.invariant.1
            ∙ binds-plain a.arities.now a.subject.now a.left.now l.p-index l.j c.loop-p-test.true l.bound e (sym c.is_var.ensures ∙ w.if-is_var.false) q
            ∙ cc (w.bound-is, w.j-is),
      )
    ]
