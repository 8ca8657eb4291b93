-- Bytes of terms over what is declared are read as those terms: they stand whole, with the words and the bytes that they have; so does an
-- accepted question.
use mathlib.Core.Path.{◌≡◌, refl, sym, ap, ap₂, ◌∙◌, subst}
use mathlib.Core.Logic.{inl, inr}
use mathlib.Core.Bool.{Bool, true, false}
use mathlib.Core.List.{List, [], ◌∷◌, ◌++◌, append_assoc, append-nil}
use Prim.Native.Nat.{ℕ, zero, suc, ◌+◌, ◌-◌, ◌≤◌, ◌<◌}
use native.Mathlib.Nat.{suc-add, zero-add}
use native.Mathlib.Omega.{arith}
use lib.Dec.{ltb}
use lib.ListN.{length, length-append}
use Rattle.theory.specs.Syntax.{zero_b, true_b, false_b, Term, succ, handle, cond, call, Terms, tnil, tcons, many, pick}
use Rattle.theory.specs.Bytes.{TermRecord, constant_record, succ_record, if_record, variable_record, raise_record, handle_record, call_record, record_parts, record_words, first_terms, later_terms, nth_term, term_from, terms_from, body_length, with_body, good, Declared, read_question, Agrees}
use Rattle.theory.specs.Encoding.{call_bytes, encode, encodes, term_words, terms_words, OverDeclared, AllOverDeclared}
use Rattle.theory.proofs.SidesGive.{TokOk, AllTok, Balanced}
use Rattle.theory.proofs.RecordsOfTerms.{bytes_tok, bytes_toks, words_toks, flats, flats-bytes, flats-words, flats-ok, flats-due, flats-build}
use Rattle.theory.proofs.SidesRead.{low-call, high-call}
use Rattle.theory.proofs.AcceptedExactly.{question-accepted-exactly}
use Rattle.record.specs.Record.{record_of, record_at}
use Rattle.term_words.specs.Records.{length_of, plain_record, long_record, record_then, records_past, records_from, record_bytes, Whole, span_of, count_of, from, term_at}
use Rattle.term_words.proofs.Laws.{span_none, count_none}

-- ONE RECORD, without a body and with one
records-plain : (arities : List ℕ) (k : ℕ) (l : List ℕ) → body_length k ≡ 0 → records_from arities (k ∷ l) ≡ plain_record k ∷ records_from arities l
unfolding records_past record_at
records-plain arities k l e = ap (λ (n : ℕ). let r = record_of (with_body k n l) in record_then arities r (records_past arities (length_of r - 1) l)) e

records-long : (arities : List ℕ) (k b : ℕ) (l : List ℕ) → body_length k ≡ 1 → records_from arities (k ∷ b ∷ l) ≡ long_record arities k b ∷ records_from arities l
unfolding records_past record_at
records-long arities k b l e = ap (λ (n : ℕ). let r = record_of (with_body k n (b ∷ l)) in record_then arities r (records_past arities (length_of r - 1) (b ∷ l))) e

module _ (D : Declared) (arities : List ℕ) (h : Agrees D arities) where
  record-read : (k : TermRecord) (rest : List ℕ) → TokOk D k → records_from arities (bytes_tok k ++ rest) ≡ k ∷ records_from arities rest
  record-read (constant_record zero_b) rest o = records-plain arities 0x10 rest refl
  record-read (constant_record true_b) rest o = records-plain arities 0x12 rest refl
  record-read (constant_record false_b) rest o = records-plain arities 0x13 rest refl
  record-read succ_record rest o = records-plain arities 0x11 rest refl
  record-read if_record rest o = records-plain arities 0x17 rest refl
  record-read (variable_record x) rest o = records-long arities 0x14 x rest refl
  record-read (raise_record e) rest o = records-long arities 0x15 e rest refl
  record-read (handle_record e) rest o = records-long arities 0x16 e rest refl
  record-read (call_record k n) rest (inl o) =
      ap (λ (l : List ℕ). records_from arities (l ++ rest)) (low-call k o.0)
      ∙ records-long arities 0x18 k rest refl
      ∙ ap (λ (i : ℕ). call_record k i ∷ records_from arities rest) (h.builtin k o.0 ∙ sym o.1)
  record-read (call_record k n) rest (inr o) =
      let f = o.0 in
      ap (λ (i : ℕ). records_from arities (call_bytes i ++ rest)) o.1
      ∙ ap (λ (l : List ℕ). records_from arities (l ++ rest)) (high-call f)
      ∙ records-long arities 0x19 f rest refl
      ∙ ap₂ (λ (i j : ℕ). call_record i j ∷ records_from arities rest) (sym o.1) (h.declared f o.2 ∙ sym o.3)

  records-read : (ks : List TermRecord) (rest : List ℕ) → AllTok D ks → records_from arities (bytes_toks ks ++ rest) ≡ ks ++ records_from arities rest
  records-read [] rest o = refl
  records-read (k ∷ ks) rest o =
      ap (records_from arities) (append_assoc (bytes_tok k) (bytes_toks ks) rest) ∙ record-read k (bytes_toks ks ++ rest) o.0 ∙ ap (k ∷◌) (records-read ks rest o.1)

-- SEVERAL RECORDS, as many as make the terms that are due, with others behind them
bytes-are : (k : TermRecord) → record_bytes k ≡ length (bytes_tok k)
bytes-are (constant_record b) = refl
bytes-are succ_record = refl
bytes-are if_record = refl
bytes-are (variable_record x) = refl
bytes-are (raise_record e) = refl
bytes-are (handle_record e) = refl
bytes-are (call_record k n) = go (ltb k 16)
  where
    go : (b : Bool) → 2 ≡ length (pick b (0x18 ∷ k ∷ []) (0x19 ∷ (k - 16) ∷ []))
    go true = refl
    go false = refl

module _ (D : Declared) (ms : List TermRecord) where
  whole-balanced : (ks : List TermRecord) (n : ℕ) → Balanced D n ks → Whole (ks ++ ms) n
  whole-balanced [] zero h = go ms
    where
      go : (ms : List TermRecord) → Whole ms 0
      go [] = tt
      go (k ∷ ks) = tt
  whole-balanced [] (suc n) h = absurd h
  whole-balanced (k ∷ ks) zero h = absurd h
  whole-balanced (k ∷ ks) (suc n) h = whole-balanced ks (record_parts k + n) h

  span-balanced : (ks : List TermRecord) (n : ℕ) → Balanced D n ks → span_of (ks ++ ms) n ≡ length (bytes_toks ks)
  span-balanced [] zero h = span_none ms
  span-balanced [] (suc n) h = absurd h
  span-balanced (k ∷ ks) zero h = absurd h
  span-balanced (k ∷ ks) (suc n) h = ap₂ ◌+◌ (bytes-are k) (span-balanced ks (record_parts k + n) h) ∙ sym (length-append (bytes_tok k) (bytes_toks ks))

  count-balanced : (ks : List TermRecord) (n : ℕ) → Balanced D n ks → count_of (ks ++ ms) n ≡ words_toks ks
  count-balanced [] zero h = count_none ms
  count-balanced [] (suc n) h = absurd h
  count-balanced (k ∷ ks) zero h = absurd h
  count-balanced (k ∷ ks) (suc n) h = ap (record_words k +◌) (count-balanced ks (record_parts k + n) h)

term-firsts : (ts : Terms) (n i : ℕ) → i < n → nth_term (first_terms n ts) i ≡ nth_term ts i
term-firsts ts zero i h = absurd (omega arith)
term-firsts tnil (suc n) i h = refl
term-firsts (tcons t ts) (suc n) zero h = refl
term-firsts (tcons t ts) (suc n) (suc i) h = term-firsts ts n i (omega arith)

first-nil : (n : ℕ) → first_terms n tnil ≡ tnil
first-nil zero = refl
first-nil (suc n) = refl

first-firsts : (ts : Terms) (a n : ℕ) → first_terms a (first_terms (a + n) ts) ≡ first_terms a ts
first-firsts ts zero n = refl
first-firsts tnil (suc a) n = ap (first_terms (suc a)) (first-nil (suc a + n))
first-firsts (tcons t ts) (suc a) n = ap (λ (m : ℕ). first_terms (suc a) (first_terms m (tcons t ts))) (suc-add a n) ∙ ap (tcons t) (first-firsts ts a n)

other-firsts : (ts : Terms) (a n : ℕ) → later_terms a (first_terms (a + n) ts) ≡ first_terms n (later_terms a ts)
other-firsts ts zero n = ap (λ (m : ℕ). first_terms m ts) (zero-add n)
other-firsts tnil (suc a) n = ap (later_terms (suc a)) (first-nil (suc a + n)) ∙ sym (first-nil n)
other-firsts (tcons t ts) (suc a) n = ap (λ (m : ℕ). later_terms (suc a) (first_terms m (tcons t ts))) (suc-add a n) ∙ other-firsts ts a n

-- a term takes no more than its parts
make-firsts : (k : TermRecord) (ts : Terms) (n : ℕ) → term_from k (first_terms (record_parts k + n) ts) ≡ term_from k ts
make-firsts (constant_record b) ts n = refl
make-firsts succ_record ts n = ap succ (term-firsts ts (1 + n) 0 (omega arith))
make-firsts if_record ts n =
    ap (λ (t : Term). cond t (nth_term (first_terms (3 + n) ts) 1) (nth_term (first_terms (3 + n) ts) 2)) (term-firsts ts (3 + n) 0 (omega arith))
    ∙ ap₂ (λ (t u : Term). cond (nth_term ts 0) t u) (term-firsts ts (3 + n) 1 (omega arith)) (term-firsts ts (3 + n) 2 (omega arith))
make-firsts (variable_record x) ts n = refl
make-firsts (raise_record e) ts n = refl
make-firsts (handle_record e) ts n = ap₂ (λ (t u : Term). handle t e u) (term-firsts ts (2 + n) 0 (omega arith)) (term-firsts ts (2 + n) 1 (omega arith))
make-firsts (call_record f a) ts n = ap (call f) (first-firsts ts a n)

first-balanced : (D : Declared) (ms ks : List TermRecord) (n : ℕ) → Balanced D n ks → first_terms n (terms_from (ks ++ ms)) ≡ terms_from ks
first-balanced D ms [] zero h = refl
first-balanced D ms [] (suc n) h = absurd h
first-balanced D ms (k ∷ ks) zero h = absurd h
first-balanced D ms (k ∷ ks) (suc n) h =
    let ts = terms_from (ks ++ ms) in
    let ih = first-balanced D ms ks (record_parts k + n) h in
    ap₂ tcons (sym (make-firsts k ts n) ∙ ap (term_from k) ih) (sym (other-firsts ts (record_parts k) n) ∙ ap (later_terms (record_parts k)) ih)

-- TERMS, at the front of some bytes
pub record Standing (arities bytes : List ℕ) (ts : Terms) : Type 0 where
  pub whole : Whole (records_from arities bytes) (many ts)
  pub terms : first_terms (many ts) (terms_from (records_from arities bytes)) ≡ ts
  pub span : span_of (records_from arities bytes) (many ts) ≡ length (encodes ts)
  pub count : count_of (records_from arities bytes) (many ts) ≡ terms_words ts

pub terms-stand : (D : Declared) (arities : List ℕ) → Agrees D arities → (ts : Terms) → AllOverDeclared D ts → (bytes rest : List ℕ) → bytes ≡ encodes ts ++ rest → Standing arities bytes ts
terms-stand D arities h ts o bytes rest e =
    let ks = flats ts in
    let ms = records_from arities rest in
    let due = flats-due D ts in
    let read : records_from arities bytes ≡ ks ++ ms =
    ap (records_from arities) (e ∙ ap (◌++ rest) (sym (flats-bytes ts))) ∙ records-read D arities h ks rest (flats-ok D ts o) in
    record {
      whole = subst (λ (l : List TermRecord). Whole l (many ts)) (sym read) (whole-balanced D ms ks (many ts) due);
      terms = ap (λ (l : List TermRecord). first_terms (many ts) (terms_from l)) read ∙ first-balanced D ms ks (many ts) due ∙ flats-build ts;
      span = ap (λ (l : List TermRecord). span_of l (many ts)) read ∙ span-balanced D ms ks (many ts) due ∙ ap length (flats-bytes ts);
      count = ap (λ (l : List TermRecord). count_of l (many ts)) read ∙ count-balanced D ms ks (many ts) due ∙ flats-words ts;
    }

-- one term
pub record StandingOne (arities bytes : List ℕ) (t : Term) : Type 0 where
  pub whole : Whole (records_from arities bytes) 1
  pub term : nth_term (terms_from (records_from arities bytes)) 0 ≡ t
  pub span : span_of (records_from arities bytes) 1 ≡ length (encode t)
  pub count : count_of (records_from arities bytes) 1 ≡ term_words t

pub term-stands : (D : Declared) (arities : List ℕ) → Agrees D arities → (t : Term) → OverDeclared D t → (bytes rest : List ℕ) → bytes ≡ encode t ++ rest → StandingOne arities bytes t
term-stands D arities h t o bytes rest e =
    let s = terms-stand D arities h (tcons t tnil) (o, tt) bytes rest (e ∙ ap (◌++ rest) (sym (append-nil (encode t)))) in
    record {
      whole = s.whole;
      term = sym (term-firsts (terms_from (records_from arities bytes)) 1 0 (omega arith)) ∙ ap (λ (ts : Terms). nth_term ts 0) s.terms;
      span = s.span ∙ ap length (append-nil (encode t));
      count = s.count ∙ (let z : term_words t + 0 ≡ term_words t = omega arith in z);
    }

-- AN ACCEPTED QUESTION stands whole at place 0, and the term that stands there is the one that is read.
pub question-stands : (D : Declared) (arities question : List ℕ) (t : Term) → Agrees D arities → read_question D question ≡ good t
    → Whole (from arities question 0) 1 × (term_at arities question 0 ≡ t) × (count_of (from arities question 0) 1 ≤ 512)
question-stands D arities question t h e =
    let v = (question-accepted-exactly D question t).0 e in
    let s = term-stands D arities h t v.1.over question [] (v.0 ∙ sym (append-nil (encode t))) in
    let small = v.1.words in
    let n = s.count in
    (s.whole, s.term, omega (arith, small, n))
