-- `slices::put` meets its contract: a copy to the front of a part that is lent.
use Prim.Native.Nat.{◌-◌}
use native.Mathlib.Omega.{arith}
use lib.ListN.{length}
use Rattle.words.proofs.Writes.{put-lent}
use Rattle.words.proofs.slices.put.Goals as goal

pub returns : goal.returns
returns c =
    let args = c.args in
    put-lent args.at (length args.dst.now - args.at) args.src.now args.dst.now c.copy_into.new.dst (omega arith) c.copy_into.ensures
