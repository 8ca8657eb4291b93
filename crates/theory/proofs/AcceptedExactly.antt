-- ACCEPTED EXACTLY: bytes are accepted where they are the encoding of a valid program, or of a valid question, and only there.
use Prim.Native.Nat.{ℕ, suc}
use mathlib.Core.Path.{◌≡◌, sym, ap, ◌∙◌}
use mathlib.Core.Logic.{◌↔◌}
use mathlib.Core.Bool.{Bool}
use mathlib.Core.List.{List, [], ◌++◌, append-nil}
use native.Mathlib.Omega.{arith}
use lib.Dec.{eqb, leb, leb→le, eqb→eq}
use lib.ListN.{length}
use Rattle.theory.proofs.Lists.{none_left}
use Rattle.theory.specs.Syntax.{Term, choose}
use Rattle.theory.specs.Proper.{term_vars}
use Rattle.theory.specs.Bytes.{nth_term, terms_from, Result, good, refuse, if_good, Declared, in_question, Side, read_side, Book, read_end, read_records, refuse_overlaps, empty_book, read_program, read_question}
use Rattle.theory.specs.Encoding.{encode, encode_program, ValidQuestion, Valid}
use Rattle.theory.proofs.Tests.{leb-true}
use Rattle.theory.proofs.SidesGive.{Ok, choose-ok, also-ok, ok_of}
use Rattle.theory.proofs.SidesRead.{TermReads, asked-reads, asked-back, built}
use Rattle.theory.proofs.EndRecord.{end-good}
use Rattle.theory.proofs.RulesApart.{Clear, overlap-reads, overlap-back}
use Rattle.theory.proofs.ProgramRead.{AllRead, records-read, records-back}

-- A QUESTION
question-reads : (D : Declared) (q : List ℕ) → Ok (λ t. (q ≡ encode t) × ValidQuestion D t) (read_question D q)
unfolding read_question
question-reads D q =
    also-ok (λ s. TermReads D in_question 0 0 q s × (term_vars (nth_term (terms_from s.records) 0) ≡ [])) (λ t. (q ≡ encode t) × ValidQuestion D t) (read_side D (suc (length q)) in_question 1 0 0 q) _
    (asked-reads D (suc (length q)) 0 q)
    (λ s h. choose-ok (λ t. (q ≡ encode t) × ValidQuestion D t) (eqb (length s.rest) 0) _ _
    (λ e. (let t = nth_term (terms_from s.records) 0 in
    let n = h.0.room (omega arith) in (
      h.0.spelt ∙ ap (encode t ++◌) (none_left s.rest (eqb→eq (length s.rest) 0 e)) ∙ append-nil (encode t),
      record { over = h.0.over; no_variables = h.1; words = omega (arith, n) },
    ))) tt)

question-back : (D : Declared) (t : Term) → ValidQuestion D t → read_question D (encode t) ≡ good t
unfolding read_question
question-back D t v =
    ap (λ (r : Result Side). if_good r (λ s. choose (eqb (length s.rest) 0) (λ u. good (nth_term (terms_from s.records) 0)) (λ u. refuse 11 s.from)))
    (ap (read_side D (suc (length (encode t))) in_question 1 0 0) (sym (append-nil (encode t))) ∙ asked-back D t v.over v.no_variables v.words (suc (length (encode t))) 0 [] (omega arith))
    ∙ ap good (built D t)

pub question-accepted-exactly : (D : Declared) (q : List ℕ) (t : Term) → (read_question D q ≡ good t) ↔ ((q ≡ encode t) × ValidQuestion D t)
question-accepted-exactly D q t =
    (ok_of (λ t. (q ≡ encode t) × ValidQuestion D t) (read_question D q) t (question-reads D q), λ h. ap (read_question D) h.0 ∙ question-back D t h.1)

-- A PROGRAM: an accepted one is encoded, and valid
program-reads : (p : List ℕ) → Ok (λ s. (p ≡ encode_program s) × Valid s) (read_program p)
unfolding read_program
program-reads p =
    choose-ok Q (leb (length p) 8192) _ _
    (λ l. also-ok (AllRead p) Q (read_records (suc (length p)) empty_book 0 p) _ (records-read p)
    (λ s g. also-ok (λ u. Clear [] s.rules_at) Q (refuse_overlaps [] s.rules_at) _ (overlap-reads [] s.rules_at)
    (λ u c. (let n : length p ≡ length (encode_program s) = ap length g.0 in
    let m = leb→le (length p) 8192 l in
    (g.0, record { readable = g.1; every_function = g.2; none_overlap = c.1; bytes = omega (arith, m, n) }))))) tt
  where
    Q : Book → Type 0
    Q s = (p ≡ encode_program s) × Valid s

-- and the other way
program-back : (s : Book) → Valid s → read_program (encode_program s) ≡ good s
unfolding read_program
program-back s v =
    ap (λ (b : Bool). choose b (λ u. if_good (read_records (suc (length bs)) empty_book 0 bs) (λ s. if_good (refuse_overlaps [] s.rules_at) (λ u. good s))) (λ u. refuse 1 0)) (leb-true (length bs) 8192 v.bytes)
    ∙ ap (λ (r : Result Book). if_good r (λ s. if_good (refuse_overlaps [] s.rules_at) (λ u. good s)))
    (ap (λ (l : List ℕ). read_records (suc (length l)) empty_book 0 l) (sym (append-nil bs)) ∙ read.1 ∙ end-good s read.0 v.every_function)
    ∙ ap (λ (r : Result (Unit {0})). if_good r (λ u. good s)) (overlap-back [] s.rules_at (tt, v.none_overlap))
  where
    bs : List ℕ
    bs = encode_program s

    read : (q : ℕ) × (read_records (suc (length (encode_program s ++ []))) empty_book 0 (encode_program s ++ []) ≡ read_end s q [])
    read = records-back s [] v.readable

pub accepted-exactly : (p : List ℕ) (s : Book) → (read_program p ≡ good s) ↔ ((p ≡ encode_program s) × Valid s)
accepted-exactly p s = (ok_of (λ s. (p ≡ encode_program s) × Valid s) (read_program p) s (program-reads p), λ h. ap read_program h.0 ∙ program-back s h.1)
