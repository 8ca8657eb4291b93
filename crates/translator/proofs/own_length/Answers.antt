-- `own_length` meets its contract.
use mathlib.Core.Path.{ap, ◌∙◌}
use lib.ListN.{length}
use Rattle.theory.specs.Words.{stored_rules}
use Rattle.translator.specs.declared.Source.{Source}
use Rattle.translator.specs.List.{own_in}
use Rattle.translator.proofs.Accepted.{accepted-ready}
use Rattle.translator.proofs.own_length.Goals as goal

pub returns : goal.returns
returns c b e =
    c.list_length.ensures
    ∙ ap (λ (s : Source). length (stored_rules (own_in s))) c.of.ensures
    ∙ ap length ((accepted-ready c.args.source.now c.requires).list b e)
