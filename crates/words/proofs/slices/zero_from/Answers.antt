-- `slices::zero_from` meets its contract: zeros are written over a part that is lent.
use Rattle.words.proofs.Writes.{zeros-lent}
use Rattle.words.proofs.slices.zero_from.Goals as goal

pub returns : goal.returns
returns c =
    let args = c.args in
    zeros-lent args.from args.to args.dst.now c.fill.new.self c.requires.0 c.requires.1 (c.fill.ensures.after (λ y h. h))
