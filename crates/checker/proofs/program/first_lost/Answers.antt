-- `checker::program::first_lost` meets its contract.
use mathlib.Core.Path.{◌∙◌}
use mathlib.Core.Bool.{not}
use Rattle.std.proofs.Common.{rules, tests}
use Rattle.std.proofs.lemmas.Iterator.{YieldsList-from_slice}
use Rattle.std.proofs.lemmas.Iterator.Search.{position_from_yields_List}
use Rattle.checker.proofs.program.Lost.{position-lost}
use Rattle.checker.proofs.program.first_lost.Goals as goal

pub returns : goal.returns
returns c =
    let a = c.args.ruled.now in
    position_from_yields_List not _ _ _ c.position.ensures.ran (YieldsList-from_slice a cc) (λ x b q k. search (rules, tests)) ∙ position-lost a
