-- `ending::read_off` meets its contract.
use mathlib.Core.Path.{◌≡◌, sym, ap, ◌∙◌}
use lib.ListN.{get_or}
use Rattle.std.proofs.Common.{rules, tests}
use Rattle.std.specs.Prelude.{position}
use Rattle.std.proofs.lemmas.Iterator.{YieldsList-from_slice}
use Rattle.std.proofs.lemmas.Iterator.Search.{position_from_yields_List}
use Rattle.rewriter.specs.Read.{root_w}
use Rattle.rewriter.proofs.Endings.{no_succ, read-first, read-none}
use Rattle.rewriter.proofs.ending.read_off.Goals as goal
use Rattle.rewriter.proofs.ending.read_off.Goals.{After-position}

-- what is found is the first word that is no succ
found : (c : After-position) → c.position.result ≡ position no_succ c.args.term.now
found c = position_from_yields_List no_succ _ _ c.position.result c.position.ensures.ran (YieldsList-from_slice _ c.iter.ensures.rest) (λ x b q k. search (rules, tests))

pub returns-in-Some : goal.returns-in-Some
returns-in-Some c =
    let at = sym (found (goal.at.returns-in-Some c).After-position) ∙ c.in-Some.is in
    c.at_root.ensures ∙ ap (root_w (get_or c.args.term.now c.in-Some.k 0) c.in-Some.k) c.get_or.ensures ∙ sym (read-first c.args.term.now c.in-Some.k at)

pub returns-in-None : goal.returns-in-None
returns-in-None c = sym (read-none c.args.term.now (sym (found (goal.at.returns-in-None c).After-position) ∙ c.in-None.is))
