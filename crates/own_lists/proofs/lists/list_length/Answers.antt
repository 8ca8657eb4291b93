-- `lists::list_length` meets its contract.
use Rattle.std.proofs.Common.{rules, ◌∙◌}
use Rattle.own_lists.proofs.Answers.{ok-of, length-read}
use Rattle.own_lists.proofs.lists.list_length.Goals as goal

pub returns : goal.returns
returns c = length-read _ _ (ok-of _ c.in_ok-checked.ensures.value ∙ c.check_program.ensures.value) _ (search rules)
