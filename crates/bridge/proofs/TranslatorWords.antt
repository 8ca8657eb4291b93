-- What is written for the engines of an accepted program and question: the own list's words, and the question's.
use Prim.Native.Nat.{ℕ, ◌≤◌}
use mathlib.Core.Path.{◌≡◌, refl, sym, ap, ◌∙◌, subst}
use mathlib.Core.List.{List}
use native.Mathlib.Omega.{arith}
use lib.ListN.{length}
use Rattle.checker.proofs.Table.{table-agrees}
use Rattle.theory.specs.Words.{stored_rules}
use Rattle.theory.specs.Translation.{tree, own_list}
use Rattle.theory.specs.Buffers.{over}
use Rattle.std.specs.Prelude.{Ok}
use Rattle.theory.specs.Bytes.{Book, program_of, read_program, Agrees}
use Rattle.theory.proofs.Bounds.{question-fits}
use Rattle.theory.proofs.Readability.{length-words}
use Rattle.checker.specs.declared.Checked.{Checked}
use Rattle.checker.specs.Answer.{checked_of}
use Rattle.translator.specs.Accepted.{Asked, OfQuestion}
use Rattle.bridge.specs.Accepted.{Checks, Accepts, own_words, question_words}

-- THE OWN LIST
pub own_same : (s : Book) → stored_rules (own_list (program_of s)) ≡ own_words s
unfolding own_words
own_same s = refl

module _ (p : List ℕ) (c : Checked) (a : Checks p c) where
  arities-agree : Agrees a.book.decls c.arities
  arities-agree = subst (λ (x : Checked). Agrees a.book.decls x.arities) (sym a.answer) (table-agrees p a.book a.program_read)

  pub checked-is : Ok c ≡ checked_of (read_program p)
  unfolding checked_of
  checked-is = ap Ok a.answer ∙ ap checked_of (sym a.program_read)

-- what is answered and left of the list's words is so of the own words
pub own-said : {A : Type 0} (f : List ℕ → A) (x : A) (s : Book) → x ≡ f (stored_rules (own_list (program_of s))) → x ≡ f (own_words s)
own-said f x s e = e ∙ ap f (own_same s)

-- THE QUESTION
module _ (p q : List ℕ) (c : Checked) (a : Accepts p q c) where
  pub question-asked : Asked c.arities q
  question-asked =
      record { declared = a.checks.book.decls; term = a.term; agrees = arities-agree p c a.checks; read = a.question_read }

  pub question-count : (r : ℕ) → OfQuestion c.arities q (λ ws. r ≡ length ws) → r ≡ length (question_words a.term)
  unfolding question_words
  question-count r h = h a.checks.book.decls a.term (arities-agree p c a.checks) a.question_read

  pub question-over : (d d' : List ℕ) → OfQuestion c.arities q (λ ws. d' ≡ over ws d) → d' ≡ over (question_words a.term) d
  unfolding question_words
  question-over d d' h = h a.checks.book.decls a.term (arities-agree p c a.checks) a.question_read

pub any-question-fits : (ar q d : List ℕ) → 512 ≤ length d → OfQuestion ar q (λ ws. length ws ≤ length d)
any-question-fits ar q d h D t agrees read = let k = question-fits D q t read in omega (arith, length-words (tree t), k, h)
