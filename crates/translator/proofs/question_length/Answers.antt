-- `question_length` meets its contract.
use mathlib.Core.Path.{ap, ◌∙◌}
use native.Mathlib.Omega.{arith}
use lib.ListN.{length}
use Rattle.theory.specs.Syntax.{Term}
use Rattle.theory.specs.Words.{words}
use Rattle.theory.specs.Translation.{tree}
use Rattle.term_words.proofs.Standing.{question-stands}
use Rattle.translator.proofs.Accepted.{asked-asks}
use Rattle.translator.proofs.question_length.Goals as goal

pub size_of-requires : goal.size_of-requires
size_of-requires c =
    let k = asked-asks c.args.arities.now c.args.question.now c.requires in
    record {
      p_in_bounds = (omega arith, k.whole);
      n_bound = omega (arith, k.small);
    }

pub returns : goal.returns
returns c D t h e =
    let a = c.args in
    c.size_of.ensures.words
    ∙ (asked-asks a.arities.now a.question.now c.requires).count
    ∙ ap (λ (u : Term). length (words (tree u))) (question-stands D a.arities.now a.question.now t h e).1
