-- What the public calls ask for: a program or a question that the checker accepts, with what it hands over.
use Rattle.std.specs.Prelude.{◌≡◌, ℕ, List, length}
use Rattle.theory.specs.Syntax.{Term}
use Rattle.theory.specs.Words.{words, stored_rules}
use Rattle.theory.specs.Translation.{tree, own_list}
use Rattle.theory.specs.Bytes.{good, Declared, Book, opened_at, read_program, program_of, read_question, Agrees}
use Rattle.translator.specs.declared.Source.{Source}

-- the program is accepted; the arities by function number, the openings and the two numbers are those that are read
pub record Accepted (s : Source) : Type 0 where
  pub book : Book
  pub read : read_program s.program.now ≡ good book
  pub agrees : Agrees book.decls s.arities.now
  pub openings_read : s.openings.now ≡ opened_at book.rules_at
  pub exceptions_read : s.exceptions ≡ book.decls.exceptions
  pub functions_read : s.functions ≡ length book.decls.arities

-- what is said of the words of an accepted program's own list, whatever program that is
abbrev pub OfOwnList : List ℕ → (List ℕ → Type 0) → Type 0
OfOwnList program says = (s : Book) → read_program program ≡ good s → says (stored_rules (own_list (program_of s)))

-- the question is accepted, by declarations with these arities
pub record Asked (arities question : List ℕ) : Type 0 where
  pub declared : Declared
  pub term : Term
  pub agrees : Agrees declared arities
  pub read : read_question declared question ≡ good term

-- what is said of the words of an accepted question, whatever term that is
abbrev pub OfQuestion : List ℕ → List ℕ → (List ℕ → Type 0) → Type 0
OfQuestion arities question says = (D : Declared) (t : Term) → Agrees D arities → read_question D question ≡ good t → says (words (tree t))
