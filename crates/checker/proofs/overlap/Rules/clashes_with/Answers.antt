-- `checker::overlap::Rules::clashes_with` meets its contract.
use mathlib.Core.Path.{◌∙◌}
use Rattle.std.proofs.Common.{rules, tests}
use Rattle.std.proofs.lemmas.Iterator.{YieldsList-from_slice}
use Rattle.std.proofs.lemmas.Iterator.Search.{any_from_yields_List}
use Rattle.checker.specs.Overlap.{clash_at}
use Rattle.checker.proofs.overlap.Laws.{any-as}
use Rattle.checker.proofs.overlap.Rules.clashes_with.Goals as goal

pub returns : goal.returns
returns c =
    let a = c.args in
    any_from_yields_List (λ o. clash_at a.self.program.now a.self.arities.now o a.second) _ _ _ c.any.ensures.ran (YieldsList-from_slice a.before.now cc) (λ x b q k. search (rules, tests))
    ∙ any-as a.self.program.now a.self.arities.now a.second a.before.now
