-- `bridge::accepted::Accepted::evaluate_listed` meets its contract.
use lib.Seq.{length-take-le}
use Rattle.std.proofs.Common.{refl, sym}
use Rattle.bridge.proofs.Judging.{accepted}
use Rattle.bridge.proofs.Lending.{question-front, standing-is}
use Rattle.bridge.proofs.EvaluatorAnswers.{evaluator-answers}
use Rattle.bridge.proofs.accepted.Accepted.evaluate_listed.Goals as goal

pub lists-lists-requires-clause-standing_is : goal.lists-lists-requires-clause-standing_is
lists-lists-requires-clause-standing_is c = standing-is _ c.standing_list-standing.ensures

pub slice_bounds-asked-end : goal.slice_bounds-asked-end
slice_bounds-asked-end c =
    let a = accepted _ _ _ c.args.self.now.judged in
    let q = c.question_words-n.ensures in
    (question-front _ _ _ a _ _ (q.value a) (q.dst_after a)).inside

pub slice_bounds-evaluate-end : goal.slice_bounds-evaluate-end
slice_bounds-evaluate-end c =
    let a = accepted _ _ _ c.args.self.now.judged in
    let q = c.question_words-n.ensures in
    sym (length-take-le _ _ (question-front _ _ _ a _ _ (q.value a) (q.dst_after a)).inside)

pub returns : goal.returns
returns c =
    λ a.
    let q = c.question_words-n.ensures in
    evaluator-answers a _ (c.lists-lists.ensures a) _ (question-front _ _ _ a _ _ (q.value a) (q.dst_after a)).front _ _ _ _ _ refl c.evaluate-outcome.ensures c.from.ensures
