-- `bridge::accepted::Accepted::evaluate_within` meets its contract.
use lib.Seq.{length-take-le}
use Rattle.std.proofs.Common.{sym}
use Rattle.bridge.specs.Accepted.{own_words}
use Rattle.bridge.proofs.Judging.{accepted}
use Rattle.bridge.proofs.Lending.{own-front}
use Rattle.bridge.proofs.accepted.Accepted.evaluate_within.Goals as goal

pub slice_bounds-evaluate_listed-end : goal.slice_bounds-evaluate_listed-end
slice_bounds-evaluate_listed-end g c =
    let a = accepted _ _ _ c.args.self.now.judged in
    sym (length-take-le _ _ (own-front (own_words a.checks.book) _ _ _ _ (c.own_words.ensures.value a) (c.own_words.ensures.dst_after a) c.in_ok-n.was).0.inside)

pub evaluate_listed-requires-clause-own_is : goal.evaluate_listed-requires-clause-own_is
evaluate_listed-requires-clause-own_is g c =
    λ a. (own-front (own_words a.checks.book) _ _ _ _ (c.own_words.ensures.value a) (c.own_words.ensures.dst_after a) c.in_ok-n.was).0.front
