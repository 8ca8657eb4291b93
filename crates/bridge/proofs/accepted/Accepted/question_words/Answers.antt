-- `bridge::accepted::Accepted::question_words` meets its contract.
use Rattle.bridge.proofs.Judging.{accepted}
use Rattle.bridge.proofs.TranslatorWords.{question-asked, question-count, question-over, any-question-fits}
use Rattle.bridge.proofs.accepted.Accepted.question_words.Goals as goal

pub question_words-requires-clause-asked : goal.question_words-requires-clause-asked
question_words-requires-clause-asked c =
    question-asked _ _ _ (accepted _ _ _ c.args.self.now.judged)

pub question_words-requires-clause-of_question : goal.question_words-requires-clause-of_question
question_words-requires-clause-of_question c = any-question-fits _ _ c.args.dst.now c.requires

pub returns-clause-value : goal.returns-clause-value
returns-clause-value c = λ a. question-count _ _ _ a _ c.question_words.ensures.of_question_2

pub returns-clause-dst_after : goal.returns-clause-dst_after
returns-clause-dst_after c = λ a. question-over _ _ _ a _ _ c.question_words.ensures.of_question_3
