-- HOW A PROGRAM IS REFUSED, in the order in which it is asked: too long; by a record before the end record; a function without a rule; bytes left
-- over; an overlap. So by a number from 1 to 11 or 17, at a place not past the bytes. And how a question is: by a record of its term, or bytes
-- left over.
use Prim.Native.Nat.{ℕ, suc, ◌+◌, ◌≤◌}
use mathlib.Core.Path.{◌≡◌, refl, sym, ap, subst}
use mathlib.Core.Logic.{inl, inr}
use mathlib.Core.Bool.{Bool, true, false}
use mathlib.Core.List.{List, [], ◌∷◌, ◌++◌}
use native.Mathlib.Omega.{arith}
use lib.Dec.{eqb, leb}
use lib.ListN.{length, length-append}
use Rattle.theory.specs.Syntax.{Term, choose}
use Rattle.theory.specs.Bytes.{nth_term, terms_from, Refusal, Result, refused, good, refuse, if_good, Declared, in_question, Side, read_side, RuleAt, Book, add_last, read_records, overlaps_earlier, refuse_overlaps, empty_book, read_program, read_question}
use Rattle.theory.specs.Encoding.{encode_rule, encode_rules, encode_exns, encode_funs, encode_program, Each, OpenedFrom, LostAt}
use Rattle.theory.specs.Demands.{OfReading, NotOfAQuestion}
use Rattle.theory.proofs.Tests.{le-of-leb, ne-of-eqb}
use Rattle.theory.proofs.SidesGive.{ok_of}
use Rattle.theory.proofs.SidesRefuse.{SideEnds, side-ends}
use Rattle.theory.proofs.EndRecord.{EndSays, end-says}
use Rattle.theory.proofs.ProgramRead.{ReadFrom, Ends, Ended, AllRead, records-end, records-read}
use Rattle.theory.proofs.RecordsStand.{lost-place-within}

-- two rules overlap, of a program whose records are read
pub record Clashes (p : List ℕ) (r : Refusal) : Type 0 where
  pub book : Book
  pub is_read : read_records (suc (length p)) empty_book 0 p ≡ good book
  pub clash : refuse_overlaps [] book.rules_at ≡ refused r

pub data ProgramRefused (p : List ℕ) (r : Refusal) : Type 0 where
  too_long : r.number ≡ 1 → r.place ≡ 0 → ProgramRefused p r
  early : 2 ≤ r.number → r.number ≤ 9 → r.place ≤ length p → length p ≤ 8192 → ProgramRefused p r
  lost : r.number ≡ 17 → LostAt p r.place → ProgramRefused p r
  left_over : r.number ≡ 11 → r.place ≤ length p → length p ≤ 8192 → ProgramRefused p r
  overlaps : r.number ≡ 10 → Clashes p r → length p ≤ 8192 → ProgramRefused p r

abbrev Refused : List ℕ → Result Book → Type 0
Refused p (refused r) = ProgramRefused p r
Refused p (good s) = Unit {0}

-- the test for overlaps refuses by 10 and by nothing else
abbrev Tenth : Result (Unit {0}) → Type 0
Tenth (refused r) = r.number ≡ 10
Tenth (good u) = Unit {0}

overlaps-tenth : (before rs : List RuleAt) → Tenth (refuse_overlaps before rs)
overlaps-tenth before [] = tt
overlaps-tenth before (r ∷ rs) = go (overlaps_earlier r before) (overlaps-tenth (add_last before r) rs)
  where
    go : (b : Bool) → Tenth (refuse_overlaps (add_last before r) rs) → Tenth (choose b (λ u. refuse 10 r.opened) (λ u. refuse_overlaps (add_last before r) rs))
    go true h = refl
    go false h = h

by-end-record : (p : List ℕ) (x : Refusal) → length p ≤ 8192 → Ended (length p) (ReadFrom p) (refused x) → ProgramRefused p x
by-end-record p x l h = go (subst (EndSays h.book h.at h.behind) (sym h.said) (end-says h.book h.at h.behind))
  where
    go : EndSays h.book h.at h.behind (refused x) → ProgramRefused p x
    go (inr k) = let e = k.1 in let m = h.rest in left_over k.0 (omega (arith, e, m)) l
    go (inl k) =
        lost k.number
        (record {
          through = record { bytes = l; read = h.book; readable = h.grown.1; behind = h.behind; is_read = h.grown.0 };
          function = k.function;
          lowest = k.lowest;
          place = k.place;
        })

refused-so : (p : List ℕ) → Refused p (read_program p)
unfolding read_program
refused-so p = size (leb (length p) 8192) refl
  where
    tested : (s : Book) → length p ≤ 8192 → read_records (suc (length p)) empty_book 0 p ≡ good s → (r : Result (Unit {0})) → refuse_overlaps [] s.rules_at ≡ r → Tenth r → Refused p (if_good r (λ u. good s))
    tested s l w (good u) v t = tt
    tested s l w (refused x) v t = overlaps t (record { book = s; is_read = w; clash = v }) l

    recorded : length p ≤ 8192 → (r : Result Book) → read_records (suc (length p)) empty_book 0 p ≡ r → Ends (length p) (ReadFrom p) r
        → Refused p (if_good r (λ s. if_good (refuse_overlaps [] s.rules_at) (λ u. good s)))
    recorded l (good s) w h = tested s l w (refuse_overlaps [] s.rules_at) refl (overlaps-tenth [] s.rules_at)
    recorded l (refused x) w (inl h) = early h.0 h.1 h.2 l
    recorded l (refused x) w (inr h) = by-end-record p x l h

    size : (b : Bool) → leb (length p) 8192 ≡ b
        → Refused p (choose b (λ u. if_good (read_records (suc (length p)) empty_book 0 p) (λ s. if_good (refuse_overlaps [] s.rules_at) (λ u. good s))) (λ u. refuse 1 0))
    size true w = recorded (le-of-leb (length p) 8192 w) (read_records (suc (length p)) empty_book 0 p) refl (records-end p)
    size false w = too_long refl refl

pub program-refused : (p : List ℕ) (r : Refusal) → read_program p ≡ refused r → ProgramRefused p r
program-refused p r e = subst (Refused p) e (refused-so p)

-- ITS NUMBER
pub program-refusal-number : (p : List ℕ) (r : Refusal) → read_program p ≡ refused r → OfReading r.number
program-refusal-number p r e = by (program-refused p r e)
  where
    by : ProgramRefused p r → OfReading r.number
    by (too_long n i) = inl (omega (arith, n), omega (arith, n))
    by (early l h i j) = inl (omega (arith, l), omega (arith, h))
    by (lost n i) = inr n
    by (left_over n i j) = inl (omega (arith, n), omega (arith, n))
    by (overlaps n i j) = inl (omega (arith, n), omega (arith, n))

pub not-zero : (n : ℕ) → OfReading n → 1 ≤ n
not-zero n (inl h) = h.0
not-zero n (inr h) = omega (arith, h)

-- the records alone are refused by no 0 either
pub records-refusal-number : (p : List ℕ) (r : Refusal) → read_records (suc (length p)) empty_book 0 p ≡ refused r → 1 ≤ r.number
records-refusal-number p r e = by (subst (Ends (length p) (ReadFrom p)) e (records-end p))
  where
    by : Ends (length p) (ReadFrom p) (refused r) → 1 ≤ r.number
    by (inl h) = let l = h.0 in omega (arith, l)
    by (inr h) = go (subst (EndSays h.book h.at h.behind) (sym h.said) (end-says h.book h.at h.behind))
      where
        go : EndSays h.book h.at h.behind (refused r) → 1 ≤ r.number
        go (inl k) = let n = k.number in omega (arith, n)
        go (inr k) = let n = k.0 in omega (arith, n)

-- ITS PLACE is not past the bytes. A rule is opened within them, so two rules that overlap are refused within them.
opened-within : (p m : ℕ) (rs : List RuleAt) → OpenedFrom p rs → p + length (encode_rules rs) ≤ m → Each (λ r. r.opened ≤ m) rs
opened-within p m [] h l = tt
opened-within p m (r ∷ rs) h l =
    let a = length-append (encode_rule r) (encode_rules rs) in
    let e = h.0 in
    (omega (arith, e, l), opened-within (p + length (encode_rule r)) m rs h.1 (omega (arith, a, l)))

clash-within : (m : ℕ) (before rs : List RuleAt) (r : Refusal) → Each (λ r. r.opened ≤ m) rs → refuse_overlaps before rs ≡ refused r → r.place ≤ m
clash-within m before rs r h e = subst Within e (go before rs h)
  where
    Within : Result (Unit {0}) → Type 0
    Within (refused r) = r.place ≤ m
    Within (good u) = Unit {0}

    go : (before rs : List RuleAt) → Each (λ r. r.opened ≤ m) rs → Within (refuse_overlaps before rs)
    go before [] h = tt
    go before (r ∷ rs) h = by (overlaps_earlier r before) (go (add_last before r) rs h.1)
      where
        by : (b : Bool) → Within (refuse_overlaps (add_last before r) rs) → Within (choose b (λ u. refuse 10 r.opened) (λ u. refuse_overlaps (add_last before r) rs))
        by true k = h.0
        by false k = k

program-long : (s : Book) → length (encode_program s) ≡ length (encode_exns 0 s.decls.exceptions) + length (encode_funs 0 s.decls.arities) + length (encode_rules s.rules_at) + 1
program-long s =
    let E = encode_exns 0 s.decls.exceptions in
    let F = encode_funs 0 s.decls.arities in
    let R = encode_rules s.rules_at in
    let a = length-append E (F ++ (R ++ (0x04 ∷ []))) in
    let b = length-append F (R ++ (0x04 ∷ [])) in
    let c = length-append R (0x04 ∷ []) in
    omega (arith, a, b, c)

overlap-place : (p : List ℕ) (r : Refusal) → Clashes p r → r.place ≤ length p
overlap-place p r c =
    let s = c.book in
    let h = ok_of (AllRead p) (read_records (suc (length p)) empty_book 0 p) s (records-read p) c.is_read in
    let e : length p ≡ length (encode_program s) = ap length h.0 in
    let l = program-long s in
    clash-within (length p) [] s.rules_at r (opened-within _ (length p) s.rules_at h.1.opened (omega (arith, e, l))) c.clash

pub program-refusal-place : (p : List ℕ) (r : Refusal) → read_program p ≡ refused r → r.place ≤ length p
program-refusal-place p r e = by (program-refused p r e)
  where
    by : ProgramRefused p r → r.place ≤ length p
    by (too_long n i) = omega (arith, i)
    by (early l h i j) = i
    by (lost n i) = let l = lost-place-within p r.place i in omega (arith, l)
    by (left_over n i j) = i
    by (overlaps n i j) = overlap-place p r i

pub program-refusal-bounded : (p : List ℕ) (r : Refusal) → read_program p ≡ refused r → r.place ≤ 8192
program-refusal-bounded p r e = by (program-refused p r e)
  where
    at : r.place ≤ length p
    at = program-refusal-place p r e

    by : ProgramRefused p r → r.place ≤ 8192
    by (too_long n i) = omega (arith, i)
    by (early l h i j) = omega (arith, at, j)
    by (lost n i) = let j = i.through.bytes in omega (arith, at, j)
    by (left_over n i j) = omega (arith, at, j)
    by (overlaps n i j) = omega (arith, at, j)

-- A QUESTION
pub record QuestionRefused (q : List ℕ) (r : Refusal) : Type 0 where
  pub from : 2 ≤ r.number
  pub to : r.number ≤ 11
  pub not : NotOfAQuestion r.number
  pub in_bytes : r.place ≤ length q
  pub in_words : r.place ≤ 1536

pub question-refused : (D : Declared) (q : List ℕ) (r : Refusal) → read_question D q ≡ refused r → QuestionRefused q r
unfolding read_question
question-refused D q r e = subst Asked e (go (read_side D (suc (length q)) in_question 1 0 0 q) (side-ends D (suc (length q)) in_question 1 0 0 q))
  where
    Asked : Result Term → Type 0
    Asked (refused r) = QuestionRefused q r
    Asked (good t) = Unit {0}

    left : (s : Side) → SideEnds in_question 0 0 q (good s) → (b : Bool) → Asked (choose b (λ u. good (nth_term (terms_from s.records) 0)) (λ u. refuse 11 s.from))
    left s h true = tt
    left s h false =
        let i = h.0 in
        let j = h.1 in
        record {
          from = omega arith;
          to = omega arith;
          not = (ne-of-eqb 11 1 refl, ne-of-eqb 11 9 refl, ne-of-eqb 11 5 refl, ne-of-eqb 11 6 refl, ne-of-eqb 11 10 refl, ne-of-eqb 11 17 refl);
          in_bytes = omega (arith, i);
          in_words = omega (arith, j);
        }

    go : (r : Result Side) → SideEnds in_question 0 0 q r → Asked (if_good r (λ s. choose (eqb (length s.rest) 0) (λ u. good (nth_term (terms_from s.records) 0)) (λ u. refuse 11 s.from)))
    go (good s) h = left s h (eqb (length s.rest) 0)
    go (refused x) h =
        let l = h.from in
        let t = h.to in
        let i = h.in_bytes in
        let j = h.in_words in
        record {
          from = l;
          to = omega (arith, t);
          not = (λ e. omega (arith, l, e), λ e. omega (arith, t, e), h.given.0, h.given.1, λ e. omega (arith, t, e), λ e. omega (arith, t, e));
          in_bytes = omega (arith, i);
          in_words = omega (arith, j);
        }
