-- `lists::write_list` meets its contract.
use Rattle.std.proofs.Common.{rules}
use Rattle.own_lists.proofs.Answers.{written_read}
use Rattle.own_lists.proofs.lists.write_list.Goals as goal

pub returns-clause-dst_after : goal.returns-clause-dst_after
returns-clause-dst_after c = written_read _ _ c.in_ok-checked.ensures.value _ _ (search rules)
