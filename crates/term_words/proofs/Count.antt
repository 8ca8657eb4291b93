-- How many words n terms are, record by record.
use mathlib.Core.Path.{◌≡◌, refl, sym, ap, ap₂, ◌∙◌, subst}
use mathlib.Core.Bool.{Bool, true, false, ◌||◌}
use mathlib.Core.List.{List, [], ◌∷◌}
use Prim.Native.Nat.{ℕ, zero, suc, ◌+◌, ◌-◌, ◌≤◌, ◌<◌}
use native.Mathlib.Nat.{add_assoc, suc-add, zero-add, add_comm}
use native.Mathlib.Omega.{arith}
use lib.Dec.{eqb}
use lib.ListN.{length, drop, length-drop}
use Rattle.theory.specs.Syntax.{zero_b, true_b, false_b, Terms, tnil, tcons, many, pick}
use Rattle.theory.specs.Tree.{size, sizes}
use Rattle.theory.specs.Translation.{tree, trees}
use Rattle.theory.specs.Bytes.{TermRecord, constant_record, succ_record, if_record, variable_record, raise_record, handle_record, call_record, record_parts, record_words, first_terms, later_terms, term_from, terms_from}
use Rattle.std.specs.Prelude.{Option, Some, None}
use Rattle.record.specs.declared.Record.{Record}
use Rattle.record.specs.Record.{record_at}
use Rattle.term_words.specs.declared.roots.Root.{Root}
use Rattle.term_words.specs.Records.{term_record_of, record_then, length_of, records_past, record_bytes, Whole, after, span_of, count_of, from, Passed}
use Rattle.term_words.specs.Roots.{term_record_at, root_of, root_at, words_of}
use Rattle.term_words.proofs.Laws.{whole_split, whole-many, whole-first, record-there, record-inside, after_none, span_none, count_none}

-- a term's words: its root's and its parts'
size-make : (k : TermRecord) (ts : Terms) → record_parts k ≤ many ts → size (tree (term_from k ts)) ≡ record_words k + sizes (trees (first_terms (record_parts k) ts))
size-make (constant_record zero_b) ts h = refl
size-make (constant_record true_b) ts h = refl
size-make (constant_record false_b) ts h = refl
size-make succ_record tnil h = absurd (omega arith)
size-make succ_record (tcons t ts) h = omega arith
size-make if_record tnil h = absurd (omega arith)
size-make if_record (tcons t tnil) h = absurd (omega arith)
size-make if_record (tcons t (tcons u tnil)) h = absurd (omega arith)
size-make if_record (tcons t (tcons u (tcons v ts))) h = omega arith
size-make (variable_record x) ts h = refl
size-make (raise_record e) ts h = refl
size-make (handle_record e) tnil h = absurd (omega arith)
size-make (handle_record e) (tcons t tnil) h = absurd (omega arith)
size-make (handle_record e) (tcons t (tcons u ts)) h = omega arith
size-make (call_record f a) ts h = omega arith

first-split : (ts : Terms) (a n : ℕ) → sizes (trees (first_terms (a + n) ts)) ≡ sizes (trees (first_terms a ts)) + sizes (trees (first_terms n (later_terms a ts)))
first-split ts zero n = ap (λ (m : ℕ). sizes (trees (first_terms m ts))) (zero-add n) ∙ sym (zero-add (sizes (trees (first_terms n ts))))
first-split tnil (suc a) zero = ap (λ (m : ℕ). sizes (trees (first_terms m tnil))) (suc-add a zero)
first-split tnil (suc a) (suc n) = ap (λ (m : ℕ). sizes (trees (first_terms m tnil))) (suc-add a (suc n))
first-split (tcons t ts) (suc a) n =
    ap (λ (m : ℕ). sizes (trees (first_terms m (tcons t ts)))) (suc-add a n)
    ∙ ap (size (tree t) +◌) (first-split ts a n)
    ∙ sym (add_assoc (size (tree t)) (sizes (trees (first_terms a ts))) (sizes (trees (first_terms n (later_terms a ts)))))

pub count-words : (ks : List TermRecord) (n : ℕ) → Whole ks n → sizes (trees (first_terms n (terms_from ks))) ≡ count_of ks n
count-words [] zero h = refl
count-words [] (suc n) h = absurd h
count-words (k ∷ ks) zero h = refl
count-words (k ∷ ks) (suc n) h =
    let a = record_parts k in
    let m = whole-many ks a (whole_split ks a n h).0 in
    omega (arith, size-make k (terms_from ks) m, first-split (terms_from ks) a n, count-words ks (a + n) h)

-- raise and handle, the records with an exception, are two words
pub two-words : (k : TermRecord) (next : ℕ) → record_words k ≡ words_of (root_of k next)
two-words (constant_record b) next = refl
two-words succ_record next = refl
two-words if_record next = refl
two-words (variable_record x) next = refl
two-words (raise_record e) next = refl
two-words (handle_record e) next = refl
two-words (call_record k n) next = refl

-- there are no more terms than bytes
records-length : (arities : List ℕ) (n : ℕ) (l : List ℕ) → length (records_past arities n l) ≤ length l
unfolding records_past
records-length arities zero [] = omega arith
records-length arities zero (k ∷ bs) = there (record_at (k ∷ bs) 0) _ (records-length arities (length_of (record_at (k ∷ bs) 0) - 1) bs)
  where
    go : (b : Bool) (t : TermRecord) (ks : List TermRecord) → length ks ≤ length bs → length (pick b (t ∷ ks) []) ≤ length (k ∷ bs)
    go true t ks h = omega (arith, h)
    go false t ks h = omega arith

    there : (o : Option Record) (ks : List TermRecord) → length ks ≤ length bs → length (record_then arities o ks) ≤ length (k ∷ bs)
    there None ks h = omega arith
    there (Some r) ks h = go (eqb r.len 1 || eqb r.len 2) (term_record_of arities (Some r)) ks h
records-length arities (suc n) [] = omega arith
records-length arities (suc n) (k ∷ bs) = omega (arith, records-length arities n bs)

whole_length : (ks : List TermRecord) (n : ℕ) → Whole ks n → n ≤ length ks
whole_length [] zero h = omega arith
whole_length [] (suc n) h = absurd h
whole_length (k ∷ ks) zero h = omega arith
whole_length (k ∷ ks) (suc n) h = omega (arith, whole_length ks (record_parts k + n) h)

-- a loop over the records of n terms from p on: `owed` terms are still to come at `next`, and `count` words are counted
pub record Going (arities bytes : List ℕ) (p n owed next count : ℕ) : Type 0 where
  pub inside : next ≤ length bytes
  pub few : owed ≤ length bytes
  pub whole : Whole (from arities bytes next) owed
  pub place : next + span_of (from arities bytes next) owed ≡ p + span_of (from arities bytes p) n
  pub words : count + count_of (from arities bytes next) owed ≡ count_of (from arities bytes p) n
  pub rest : after (from arities bytes next) owed ≡ after (from arities bytes p) n

few-terms : (arities bytes : List ℕ) (p n : ℕ) → Whole (from arities bytes p) n → n ≤ length bytes
few-terms arities bytes p n h = omega (arith, whole_length (from arities bytes p) n h, records-length arities 0 (drop p bytes), length-drop p bytes)

pub going_start : (arities bytes : List ℕ) (p n : ℕ) → p ≤ length bytes → Whole (from arities bytes p) n → Going arities bytes p n n p 0
going_start arities bytes p n h w = record { inside = h; few = few-terms arities bytes p n w; whole = w; place = refl; words = zero-add (count_of (from arities bytes p) n); rest = refl }

pub going-turn : (arities bytes : List ℕ) (p n owed next count : ℕ) (r : Root) → Going arities bytes p n owed next count → 0 < owed → r ≡ root_at arities bytes next
    → Going arities bytes p n (owed - 1 + r.parts) r.next (count + words_of r)
going-turn arities bytes p n owed next count r g h e = subst (λ (x : Root). Going arities bytes p n (owed - 1 + x.parts) x.next (count + words_of x)) (sym e) there
  where
    k : TermRecord
    k = term_record_at arities bytes next

    one : Whole (from arities bytes next) 1
    one = whole-first arities bytes next owed h g.whole

    m : ℕ
    m = owed - 1

    more : owed ≡ suc m
    more = omega arith

    swap : record_parts k + m ≡ m + record_parts k
    swap = add_comm (record_parts k) m

    eq : from arities bytes next ≡ k ∷ from arities bytes (next + record_bytes k)
    eq = record-there arities bytes next one

    there : Going arities bytes p n (m + record_parts k) (next + record_bytes k) (count + words_of (root_of k (next + record_bytes k)))
    there =
        let w : Whole (from arities bytes (next + record_bytes k)) (record_parts k + m) = subst (λ (ks : List TermRecord). Whole ks (suc m)) eq (subst (Whole (from arities bytes next)) more g.whole) in
        let w' = subst (Whole (from arities bytes (next + record_bytes k))) swap w in
        let s : span_of (from arities bytes next) owed ≡ record_bytes k + span_of (from arities bytes (next + record_bytes k)) (m + record_parts k) = ap₂ span_of eq more ∙ ap (λ (i : ℕ). record_bytes k + span_of (from arities bytes (next + record_bytes k)) i) swap in
        let c : count_of (from arities bytes next) owed ≡ record_words k + count_of (from arities bytes (next + record_bytes k)) (m + record_parts k) = ap₂ count_of eq more ∙ ap (λ (i : ℕ). record_words k + count_of (from arities bytes (next + record_bytes k)) i) swap in
        record {
          inside = omega (arith, record-inside arities bytes next one);
          few = few-terms arities bytes (next + record_bytes k) (m + record_parts k) w';
          whole = w';
          place = omega (arith, g.place, s);
          words = omega (arith, g.words, c, two-words k (next + record_bytes k));
          rest = sym (ap₂ after eq more ∙ ap (after (from arities bytes (next + record_bytes k))) swap) ∙ g.rest;
        }

pub going_end : (arities bytes : List ℕ) (p n next count : ℕ) → Going arities bytes p n 0 next count → Passed arities bytes p n next × (count ≡ count_of (from arities bytes p) n)
going_end arities bytes p n next count g = (
  record { place = omega (arith, g.place, span_none (from arities bytes next)); inside = g.inside; rest = sym (after_none (from arities bytes next)) ∙ g.rest },
  omega (arith, g.words, count_none (from arities bytes next)),
)
