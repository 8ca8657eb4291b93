-- `bridge::accepted::Accepted::rewrite_listed` meets its contract.
use lib.Seq.{length-take-le}
use Rattle.std.proofs.Common.{refl, sym}
use Rattle.bridge.proofs.Judging.{accepted}
use Rattle.bridge.proofs.Lending.{question-front, standing-is}
use Rattle.bridge.proofs.RewriterAnswers.{rewriter-answers, rewriter-first, answer-fits}
use Rattle.bridge.proofs.accepted.Accepted.rewrite_listed.Goals as goal

pub lists-lists-requires-clause-standing_is : goal.lists-lists-requires-clause-standing_is
lists-lists-requires-clause-standing_is c = standing-is _ c.standing_list-standing.ensures

pub slice_bounds-asked-end : goal.slice_bounds-asked-end
slice_bounds-asked-end c =
    let a = accepted _ _ _ c.args.self.now.judged in
    let q = c.question_words-n.ensures in
    (question-front _ _ _ a _ _ (q.value a) (q.dst_after a)).inside

pub slice_bounds-rewrite-end : goal.slice_bounds-rewrite-end
slice_bounds-rewrite-end c =
    let a = accepted _ _ _ c.args.self.now.judged in
    let q = c.question_words-n.ensures in
    sym (length-take-le _ _ (question-front _ _ _ a _ _ (q.value a) (q.dst_after a)).inside)

pub answer_report-requires : goal.answer_report-requires
answer_report-requires c =
    let a = accepted _ _ _ c.args.self.now.judged in
    let q = c.question_words-n.ensures in
    let l = c.rewrite-answer.ensures in
    answer-fits a _ (c.lists-lists.ensures a) _ (question-front _ _ _ a _ _ (q.value a) (q.dst_after a)).front _ _ _ _ refl refl _ _ _ l.value l.first_after c.requires.steps_bound.1 c.requires.steps_bound.0

pub returns : goal.returns
returns c =
    λ a.
    let q = c.question_words-n.ensures in
    let asked = (question-front _ _ _ a _ _ (q.value a) (q.dst_after a)).front in
    let l = c.rewrite-answer.ensures in
    record {
      report = rewriter-answers a _ (c.lists-lists.ensures a) _ asked _ _ _ _ refl refl _ _ _ l.value l.first_after _ c.answer_report.ensures;
      first_buffer = rewriter-first a _ (c.lists-lists.ensures a) _ asked _ _ _ _ refl refl _ _ _ l.value l.first_after;
      second_buffer = l.second_after;
    }
