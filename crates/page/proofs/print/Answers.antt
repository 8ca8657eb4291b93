-- `page::print` meets its contract: the last case of the framing.
use Rattle.std.proofs.Common.{◌∙◌}
use Rattle.std.proofs.lemmas.List.{take_rest}
use Rattle.page.proofs.Laws.{printed-asked}
use Rattle.page.proofs.print.Goals as goal

pub returns-else-rest-n-clause-text : goal.returns-else-rest-n-clause-text
returns-else-rest-n-clause-text c =
    c.answered_page.ensures ∙ printed-asked c.args.input.now _ c.announced-n.result (take_rest c.args.input.now 2) c.if-input-gt-LONGEST.false c.in-len2-up.len_at_least c.announced-n.ensures.value c.if-rest-n.false
