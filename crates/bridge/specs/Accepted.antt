-- A program and a question that are accepted, with the checker's answer on the program; and what an engine is lent for them.
use Rattle.std.specs.Prelude.{◌≡◌, List, [], replicate, ℕ}
use Rattle.theory.specs.Syntax.{Term}
use Rattle.theory.specs.Builtins.{fun_of}
use Rattle.theory.specs.Words.{words, stored_rules}
use Rattle.theory.specs.Translation.{tree, own_list}
use Rattle.theory.specs.Translation as translation
use Rattle.theory.specs.Bytes.{good, Book, read_program, program_of, read_question}
use Rattle.theory.specs.Turns.{rewriter}
use Rattle.theory.specs.Buffers.{over, padded}
use Rattle.theory.specs.Answers.{last_words}
use Rattle.checker.specs.declared.Checked.{Checked}
use Rattle.checker.specs.Answer.{checked_as, table}
use Rattle.rules.specs.Index.{index_of}
use Rattle.rules.specs.declared.lists.Lists.{Lists}
use Rattle.bridge.specs.declared.report.Report.{Report}
use Rattle.bridge.specs.Report.{answer_report}

-- the program p is accepted, and c is what is read of it
pub record Checks (p : List ℕ) (c : Checked) : Type 0 where
  pub book : Book
  pub program_read : read_program p ≡ good book
  pub answer : c ≡ checked_as book

-- and q is a question for it
pub record Accepts (p q : List ℕ) (c : Checked) : Type 0 where
  pub checks : Checks p c
  pub term : Term
  pub question_read : read_question checks.book.decls q ≡ good term

-- the words of the own list, and of the question
unfoldable pub own_words : Book → List ℕ
own_words s = stored_rules (own_list (program_of s))

unfoldable pub question_words : Term → List ℕ
question_words t = words (tree t)

unfoldable pub standing_words : List ℕ
standing_words = stored_rules (translation.standing (fun_of []))

-- the lists that an engine is lent are those of the program that was read, each with its index
pub record Lends (s : Book) (l : Lists) : Type 0 where
  pub arity_table : l.arities.now ≡ table s.decls.arities
  pub standing_is : l.standing.list.now ≡ standing_words
  pub standing_indexed : l.standing.index.now ≡ index_of l.standing.list.now
  pub own_is : l.own.list.now ≡ own_words s
  pub own_indexed : l.own.index.now ≡ index_of l.own.list.now

-- the rewriter has run: its report, and the two buffers, which were `first` and `second`
pub record Runs {p q : List ℕ} {c : Checked} (a : Accepts p q c) (steps room : ℕ) (first second : List ℕ) (r : Report) (first' second' : List ℕ) : Type 0 where
  pub report : r ≡ answer_report (rewriter (program_of a.checks.book) room steps a.term)
  pub first_buffer : first' ≡ over (padded room (last_words (program_of a.checks.book) room steps a.term)) first
  pub second_buffer : second' ≡ over (replicate room 0) second
