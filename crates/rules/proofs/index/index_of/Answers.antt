-- `index::index_of` meets its contract. The invariant: the pass from the present place on makes of the present index what the whole pass makes.
use mathlib.Core.Path.{◌∙◌, ap}
use native.Mathlib.Omega.{arith}
use lib.ListN.{length-set}
use Rattle.std.specs.Prelude.{Option}
use Rattle.rules.specs.Index.{extended}
use Rattle.rules.specs.declared.index.Span.{Span}
use Rattle.rules.proofs.Pass.{pass-stored}
use Rattle.rules.proofs.index.index_of.Goals as goal

pub loop-rule-preserved : goal.loop-rule-preserved
loop-rule-preserved c =
    let l = c.loop-rule in (
      omega (arith, c.in-Some.ensures),
      simp length-set l.invariant.1,
      l.invariant.2 ∙ pass-stored _ l.at _ c.in-Some.rule c.in-Some.ensures _ _ _ c.get_or.ensures c.slot_of-slot.ensures.value (c.extended.ensures ∙ ap (λ (x : Option Span). extended x l.at c.in-Some.rule.past) c.at_slot.ensures),
    )
