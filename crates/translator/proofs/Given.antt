-- A program or a question that the checker accepts, with the arrays that it answers, is what the translator asks for.
use mathlib.Core.Path.{◌≡◌, sym, ap, ap₂, ◌∙◌, subst}
use mathlib.Core.List.{List}
use Prim.Native.Nat.{ℕ}
use lib.ListN.{take, drop}
use Rattle.std.specs.Prelude.{Ok}
use Rattle.checker.proofs.Table.{table-agrees, openings-used}
use Rattle.theory.specs.Bytes.{Declared, Book, good, read_program, read_question, Agrees}
use Rattle.checker.specs.declared.Checked.{Checked}
use Rattle.checker.specs.Answer.{checked_as, checked_of, declared, verdict_of}
use Rattle.checker.proofs.Callers.{program_read, rules-most, arities-lent, question_read}
use Rattle.translator.specs.declared.Source.{Source}
use Rattle.translator.specs.Accepted.{Accepted, Asked}

-- what is read of the program
module _ (program : List ℕ) (c : Checked) (e : Ok c ≡ checked_of (read_program program)) where
  pub book : (s : Book) × ((read_program program ≡ good s) × (c ≡ checked_as s))
  unfolding checked_of
  book = let q = program_read program c e in (q.0, (q.1.0, cc (q.1.1)))

  agree : Agrees book.0.decls c.arities
  agree = subst (Agrees book.0.decls) (sym (ap (λ (x : Checked). x.arities) book.1.1)) (table-agrees program book.0 book.1.0)

  pub given : (s : Source) → s.program.now ≡ program → s.arities.now ≡ c.arities → s.openings.now ≡ take c.rules c.openings → s.exceptions ≡ c.exceptions → s.functions ≡ c.functions → Accepted s
  given s ep ea eo ex ef =
      let b = book.0 in
      let q = book.1.1 in
      record {
        book = b;
        read = ap read_program ep ∙ book.1.0;
        agrees = subst (Agrees b.decls) (sym ea) agree;
        openings_read = eo ∙ ap (λ (x : Checked). take x.rules x.openings) q ∙ openings-used 64 b.rules_at (rules-most program b book.1.0);
        exceptions_read = ex ∙ ap (λ (x : Checked). x.exceptions) q;
        functions_read = ef ∙ ap (λ (x : Checked). x.functions) q;
      }

  pub asked : (question ns : List ℕ) → ns ≡ take c.functions (drop 16 c.arities) → Ok tt ≡ verdict_of (read_question (declared c.exceptions ns) question) → Asked c.arities question
  asked question ns n w =
      let s = book.0 in
      let q = book.1.1 in
      let t = question_read c.exceptions ns question w in
      let same : ns ≡ s.decls.arities = n ∙ ap (λ (x : Checked). take x.functions (drop 16 x.arities)) q ∙ arities-lent program s book.1.0 in
      let all : declared c.exceptions ns ≡ s.decls = ap₂ declared (ap (λ (x : Checked). x.exceptions) q) same in
      record { declared = declared c.exceptions ns; term = t.0; agrees = subst (λ (D : Declared). Agrees D c.arities) (sym all) agree; read = t.1 }
