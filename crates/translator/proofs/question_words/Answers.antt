-- `question_words` meets its contract.
use mathlib.Core.Path.{◌≡◌, ap, ap₂, ◌∙◌}
use mathlib.Core.List.{List}
use Prim.Native.Nat.{ℕ}
use native.Mathlib.Omega.{arith}
use lib.ListN.{length}
use borrow.Author.Rules.{rules}
use Rattle.theory.specs.Syntax.{Term}
use Rattle.theory.specs.Buffers.{over, put}
use Rattle.theory.specs.Words.{words}
use Rattle.theory.specs.Translation.{tree}
use Rattle.term_words.specs.Records.{term_at}
use Rattle.term_words.proofs.Standing.{question-stands}
use Rattle.translator.proofs.question_words.Goals as goal

pub put_term-requires : goal.put_term-requires
put_term-requires c =
    let a = c.args in
    let q = c.requires.asked in
    let s = question-stands q.declared a.arities.now a.question.now q.term q.agrees q.read in
    let fits = c.requires.of_question q.declared q.term q.agrees q.read in
    record {
      whole = s.0;
      p_bound = s.2;
      room = (let e = ap (λ (t : Term). length (words (tree t))) s.1 in let h = ap length c.new-out.ensures.words in omega (arith, fits, e, h, c.new-out.ensures.start));
    }

pub returns-clause-of_question_2 : goal.returns-clause-of_question_2
returns-clause-of_question_2 c D t h e =
    let a = c.args in
    let s = ap (λ (u : Term). length (words (tree u))) (question-stands D a.arities.now a.question.now t h e).1 in
    omega (arith, s, c.written.ensures, c.put_term.ensures.wrote.place, c.new-out.ensures.start)

pub returns-clause-of_question_3 : goal.returns-clause-of_question_3
returns-clause-of_question_3 c D t h e =
    let a = c.args in
    let ws = words (tree (term_at a.arities.now a.question.now 0)) in
    let w : c.put_term.new.out.dst.now ≡ over (words (tree t)) a.dst.now =
    c.put_term.ensures.wrote.words ∙ ap₂ (λ (i : ℕ) (d : List ℕ). put i ws d) c.new-out.ensures.start c.new-out.ensures.words
    ∙ ap (λ (u : Term). over (words (tree u)) a.dst.now) (question-stands D a.arities.now a.question.now t h e).1 in
    let same = c.put_term.ensures.wrote.same_slice in
    search rules
