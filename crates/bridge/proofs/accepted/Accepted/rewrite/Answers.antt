-- `bridge::accepted::Accepted::rewrite` meets its contract.
use lib.Seq.{length-take-le}
use Rattle.std.proofs.Common.{sym}
use Rattle.bridge.specs.Accepted.{own_words}
use Rattle.bridge.proofs.Judging.{accepted}
use Rattle.bridge.proofs.Lending.{own-front, own-unwritten}
use Rattle.bridge.proofs.Allowing.{rewrite-listed-runs, rewrite-own-short}
use Rattle.bridge.proofs.accepted.Accepted.rewrite.Goals as goal

pub slice_bounds-rewrite_listed-end : goal.slice_bounds-rewrite_listed-end
slice_bounds-rewrite_listed-end c =
    let a = accepted _ _ _ c.args.self.now.judged in
    (own-front (own_words a.checks.book) c.args.own.now _ _ _ (c.own_words.ensures.value a) (c.own_words.ensures.dst_after a) c.in-Some.is).0.inside

pub slice_bounds-rewrite_listed-end-in-Some : goal.slice_bounds-rewrite_listed-end-in-Some
slice_bounds-rewrite_listed-end-in-Some c =
    let a = accepted _ _ _ c.args.self.now.judged in
    sym (length-take-le _ _ (own-front (own_words a.checks.book) c.args.own.now _ _ _ (c.own_words.ensures.value a) (c.own_words.ensures.dst_after a) c.in-Some.is).0.inside)

pub rewrite_listed-requires-clause-own_is : goal.rewrite_listed-requires-clause-own_is
rewrite_listed-requires-clause-own_is c =
    λ a. (own-front (own_words a.checks.book) c.args.own.now _ _ _ (c.own_words.ensures.value a) (c.own_words.ensures.dst_after a) c.in-Some.is).0.front

pub returns-in-Some : goal.returns-in-Some
returns-in-Some c =
    let a = accepted _ _ _ c.args.self.now.judged in
    let n = own-front (own_words a.checks.book) c.args.own.now _ _ _ (c.own_words.ensures.value a) (c.own_words.ensures.dst_after a) c.in-Some.is in
    rewrite-listed-runs a _ _ c.args.own.now c.args.first.now c.args.second.now _ _ _ _ c.requires n.1 n.2 (c.rewrite_listed.ensures a)

pub returns-in-None : goal.returns-in-None
returns-in-None c =
    let a = accepted _ _ _ c.args.self.now.judged in
    let n = own-unwritten (own_words a.checks.book) c.args.own.now _ _ (c.own_words.ensures.value a) (c.own_words.ensures.dst_after a) c.in-None.is in
    rewrite-own-short a _ _ c.args.own.now c.args.first.now c.args.second.now _ _ c.requires n.0 n.1 c.refused.ensures
