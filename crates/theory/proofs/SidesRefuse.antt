-- BY WHICH NUMBERS, AND WHERE, A TERM'S RECORDS ARE REFUSED: one walk over the records of a side or of a question. The number is one of 2 to 8
-- that may be given there; the place is not past the bytes, nor past three bytes for each word that is still allowed.
use Prim.Native.Nat.{ℕ, zero, suc, ◌+◌, ◌*◌, ◌-◌, ◌≤◌, ◌<◌}
use mathlib.Core.Path.{◌≡◌, refl}
use mathlib.Core.Logic.{◌≢◌, inl, inr}
use mathlib.Core.Bool.{Bool, true, false}
use mathlib.Core.List.{List, ◌∷◌}
use native.Mathlib.Omega.{arith}
use lib.Dec.{T, leb, leb→le}
use lib.ListN.{length}
use Rattle.theory.specs.Syntax.{elem, pick, choose}
use Rattle.theory.specs.Builtins.{last_called}
use Rattle.theory.specs.Bytes.{TermRecord, constant_record, succ_record, if_record, variable_record, raise_record, handle_record, call_record, record_parts, record_words, NextRecord, none_left, cut_short, next_is, next_record, Refusal, Result, refused, good, refuse, if_good, Declared, term_record, Where, on_left, on_right, in_question, allowed, ceiling, Side, add_record, read_term_record, read_side}
use Rattle.theory.proofs.Tests.{leb-false, ne-of-eqb, le-of-leb}
use Rattle.theory.proofs.RecordRead.{RecordRead, record-read}
use Rattle.theory.proofs.SidesRead.{IsNext, next-is, next-long}

-- 7 is not given on a left side; 5 and 6 are given nowhere else
abbrev pub Given : Where → ℕ → Type 0
Given (on_left xs) n = n ≢ 7
Given (on_right xs) n = (n ≢ 5) × (n ≢ 6)
Given in_question n = (n ≢ 5) × (n ≢ 6)

given-anywhere : (w : Where) (n : ℕ) → n ≢ 5 → n ≢ 6 → n ≢ 7 → Given w n
given-anywhere (on_left xs) n five six seven = seven
given-anywhere (on_right xs) n five six seven = (five, six)
given-anywhere in_question n five six seven = (five, six)

pub record SideRefused (w : Where) (count p : ℕ) (bs : List ℕ) (r : Refusal) : Type 0 where
  pub from : 2 ≤ r.number
  pub to : r.number ≤ 8
  pub given : Given w r.number
  pub in_bytes : r.place ≤ p + length bs
  pub in_words : r.place ≤ p + 3 * (ceiling w - count)

abbrev pub SideEnds : Where → ℕ → ℕ → List ℕ → Result Side → Type 0
SideEnds w count p bs (refused r) = SideRefused w count p bs r
SideEnds w count p bs (good s) = (s.from + length s.rest ≤ p + length bs) × (s.from ≤ p + 3 * (ceiling w - count))

-- refused at the record that stands at p
refused-here : (w : Where) (count p : ℕ) (bs : List ℕ) (r : Refusal) → r.place ≡ p → 2 ≤ r.number → r.number ≤ 8 → Given w r.number → SideRefused w count p bs r
refused-here w count p bs r e l h g = record { from = l; to = h; given = g; in_bytes = omega (arith, e); in_words = omega (arith, e) }

-- where a record may stand: a refusal is at its place, and what may stand behind it is as before it
abbrev Alike : Where → Where → Type 0
Alike w v = (ceiling v ≡ ceiling w) × ((n : ℕ) → Given v n → Given w n)

abbrev Stands : Where → ℕ → Result Where → Type 0
Stands w p (refused r) = (r.place ≡ p) × (2 ≤ r.number) × (r.number ≤ 8) × Given w r.number
Stands w p (good v) = Alike w v

alike : (w : Where) → Alike w w
alike w = (refl, λ n g. g)

no : (m n : ℕ) → T (leb (suc m) n) → m ≢ n
no m n h e = let l = leb→le (suc m) n h in omega (arith, l, e)

not-on-left : (xs : List ℕ) (p : ℕ) → Stands (on_left xs) p (refuse 5 p)
not-on-left xs p = (refl, omega arith, omega arith, no 5 7 tt)

new-variable : (b : Bool) (x : ℕ) (xs : List ℕ) (p : ℕ) → Stands (on_left xs) p (pick b (refuse 6 p) (good (on_left (x ∷ xs))))
new-variable true x xs p = (refl, omega arith, omega arith, no 6 7 tt)
new-variable false x xs p = (refl, λ n g. g)

unknown : (w : Where) (p : ℕ) → Given w 7 → Stands w p (refuse 7 p)
unknown w p g = (refl, omega arith, omega arith, g)

seven : Given in_question 7
seven = (ne-of-eqb 7 5 refl, ne-of-eqb 7 6 refl)

known-variable : (b : Bool) (xs : List ℕ) (p : ℕ) → Stands (on_right xs) p (pick b (good (on_right xs)) (refuse 7 p))
known-variable true xs p = alike (on_right xs)
known-variable false xs p = unknown (on_right xs) p seven

allowed-stands : (w : Where) (p : ℕ) (t : TermRecord) → Stands w p (allowed w p t)
allowed-stands (on_left xs) p (constant_record b) = alike (on_left xs)
allowed-stands (on_left xs) p succ_record = alike (on_left xs)
allowed-stands (on_left xs) p if_record = not-on-left xs p
allowed-stands (on_left xs) p (variable_record x) = new-variable (elem x xs) x xs p
allowed-stands (on_left xs) p (raise_record e) = not-on-left xs p
allowed-stands (on_left xs) p (handle_record e) = not-on-left xs p
allowed-stands (on_left xs) p (call_record k n) = not-on-left xs p
allowed-stands (on_right xs) p (constant_record b) = alike (on_right xs)
allowed-stands (on_right xs) p succ_record = alike (on_right xs)
allowed-stands (on_right xs) p if_record = alike (on_right xs)
allowed-stands (on_right xs) p (variable_record x) = known-variable (elem x xs) xs p
allowed-stands (on_right xs) p (raise_record e) = alike (on_right xs)
allowed-stands (on_right xs) p (handle_record e) = alike (on_right xs)
allowed-stands (on_right xs) p (call_record k n) = alike (on_right xs)
allowed-stands in_question p (constant_record b) = alike in_question
allowed-stands in_question p succ_record = alike in_question
allowed-stands in_question p if_record = alike in_question
allowed-stands in_question p (variable_record x) = unknown in_question p seven
allowed-stands in_question p (raise_record e) = alike in_question
allowed-stands in_question p (handle_record e) = alike in_question
allowed-stands in_question p (call_record k n) = alike in_question

-- each record counts a word at least
pub record-counts : (t : TermRecord) → 1 ≤ record_words t
record-counts (constant_record b) = omega arith
record-counts succ_record = omega arith
record-counts if_record = omega arith
record-counts (variable_record x) = omega arith
record-counts (raise_record e) = omega arith
record-counts (handle_record e) = omega arith
record-counts (call_record k n) = omega arith

-- what ends behind a record of n bytes and k words ends from before it
side-later : (w v : Where) (count p k n : ℕ) (bs rest : List ℕ) (t : TermRecord) (r : Result Side) → Alike w v → n + length rest ≡ length bs → n ≤ 3 → 1 ≤ k → count + k ≤ ceiling w
    → SideEnds v (count + k) (p + n) rest r → SideEnds w count p bs (if_good r (add_record t))
side-later w v count p k n bs rest t (refused r) a e three one fits h =
    let c = a.0 in
    let b = h.in_bytes in
    let d = h.in_words in
    record { from = h.from; to = h.to; given = a.1 r.number h.given; in_bytes = omega (arith, e, b); in_words = omega (arith, c, d, three, one, fits) }
side-later w v count p k n bs rest t (good s) a e three one fits h =
    let c = a.0 in
    let b = h.0 in
    let d = h.1 in
    (omega (arith, e, b), omega (arith, c, d, three, one, fits))

pub side-ends : (D : Declared) (fuel : ℕ) (w : Where) (due count p : ℕ) (bs : List ℕ) → SideEnds w count p bs (read_side D fuel w due count p bs)
side-ends D zero w zero count p bs = (omega arith, omega arith)
side-ends D zero w (suc due) count p bs = refused-here w count p bs _ refl (omega arith) (omega arith) (given-anywhere w 2 (no 2 5 tt) (no 2 6 tt) (no 2 7 tt))
side-ends D (suc fuel) w zero count p bs = (omega arith, omega arith)
side-ends D (suc fuel) w (suc due) count p bs = go (next_record bs) (next-is bs) (side-ends D fuel)
  where
    Ends : Result Side → Type 0
    Ends = SideEnds w count p bs

    cut : SideRefused w count p bs (record { number = 2; place = p })
    cut = refused-here w count p bs _ refl (omega arith) (omega arith) (given-anywhere w 2 (no 2 5 tt) (no 2 6 tt) (no 2 7 tt))

    full : SideRefused w count p bs (record { number = 8; place = p })
    full = refused-here w count p bs _ refl (omega arith) (omega arith) (given-anywhere w 8 (ne-of-eqb 8 5 refl) (ne-of-eqb 8 6 refl) (ne-of-eqb 8 7 refl))

    -- 3 or 4
    early : (r : Refusal) → r.place ≡ p → 3 ≤ r.number → r.number ≤ 4 → SideRefused w count p bs r
    early r e l h =
        refused-here w count p bs r e (omega (arith, l)) (omega (arith, h)) (given-anywhere w r.number (λ i. omega (arith, h, i)) (λ i. omega (arith, h, i)) (λ i. omega (arith, h, i)))

    go : (x : NextRecord) → IsNext bs x → ((w : Where) (due count p : ℕ) (bs : List ℕ) → SideEnds w count p bs (read_side D fuel w due count p bs))
        → SideEnds w count p bs (read_term_record D (read_side D fuel) w due count p x)
    go none_left i ih = cut
    go cut_short i ih = cut
    go (next_is k b c n rest) i ih = kind (term_record D p k b) (record-read D p k b)
      where
        fits : (t : TermRecord) (v : Where) → Alike w v → (x : Bool) → leb (count + record_words t) (ceiling w) ≡ x
            → Ends (choose x (λ u. if_good (read_side D fuel v (record_parts t + due) (count + record_words t) (p + n) rest) (add_record t)) (λ u. refuse 8 p))
        fits t v a true e =
            let l = next-long bs k b c n rest i in
            side-later w v count p (record_words t) n bs rest t (read_side D fuel v (record_parts t + due) (count + record_words t) (p + n) rest) a l.0 l.2 (record-counts t) (le-of-leb (count + record_words t) (ceiling w) e)
            (ih v (record_parts t + due) (count + record_words t) (p + n) rest)
        fits t v a false e = full

        place : (t : TermRecord) (r : Result Where) → Stands w p r
            → Ends (if_good r (λ v. choose (leb (count + record_words t) (ceiling w)) (λ u. if_good (read_side D fuel v (record_parts t + due) (count + record_words t) (p + n) rest) (add_record t)) (λ u. refuse 8 p)))
        place t (refused r) h = refused-here w count p bs r h.0 h.1 h.2 h.3
        place t (good v) h = fits t v h (leb (count + record_words t) (ceiling w)) refl

        kind : (r : Result TermRecord) → RecordRead D p k b r
            → Ends (if_good r (λ t. if_good (allowed w p t) (λ v. choose (leb (count + record_words t) (ceiling w)) (λ u. if_good (read_side D fuel v (record_parts t + due) (count + record_words t) (p + n) rest) (add_record t)) (λ u. refuse 8 p))))
        kind (refused r) (at, inl e) = early r at (omega (arith, e)) (omega (arith, e))
        kind (refused r) (at, inr e) = early r at (omega (arith, e)) (omega (arith, e))
        kind (good t) h = place t (allowed w p t) (allowed-stands w p t)

-- A BUILT-IN OVER THE LARGEST that may be called: wherever a term's record is read, on a left side, on a right side or in a question, it is 4 at its
-- place, whatever else is wrong there and whatever stands behind.
pub over-largest : (D : Declared) (go : Where → ℕ → ℕ → ℕ → List ℕ → Result Side) (w : Where) (due count p b c n : ℕ) (bs : List ℕ) → last_called < b
    → read_term_record D go w due count p (next_is 0x18 b c n bs) ≡ refuse 4 p
over-largest D go w due count p b c n bs h = rw (leb-false b last_called h)
