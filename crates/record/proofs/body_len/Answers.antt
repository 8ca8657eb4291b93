-- `record::body_len` meets its contract.
use Rattle.record.proofs.Laws.{body-read}
use Rattle.record.proofs.body_len.Goals as goal

pub returns : goal.returns
returns c = body-read _ _ c.try_from.result c.map_or.ensures c.try_from.ensures
