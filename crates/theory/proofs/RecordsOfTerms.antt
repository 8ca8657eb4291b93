-- A term is its records and back: the bytes, the words and the variables of the one are those of the other.
use Prim.Native.Nat.{ℕ, zero, suc, ◌+◌}
use mathlib.Core.Path.{◌≡◌, refl, sym, ap, ap₂, ◌∙◌, subst}
use mathlib.Core.List.{List, [], ◌∷◌, ◌++◌, append_assoc, append-nil}
use native.Mathlib.Omega.{arith}
use lib.ListN.{length}
use Rattle.theory.specs.Syntax.{Base, zero_b, true_b, false_b, Term, const, succ, tvar, raise, handle, cond, call, Terms, tnil, tcons, many, Pat, pbase, psucc, pvar}
use Rattle.theory.specs.Tree.{size, sizes}
use Rattle.theory.specs.Translation.{tree, trees}
use Rattle.theory.specs.Proper.{pat_vars, pats_vars, term_vars, terms_vars}
use Rattle.theory.specs.Bytes.{TermRecord, constant_record, succ_record, if_record, variable_record, raise_record, handle_record, call_record, record_parts, record_words, first_terms, later_terms, nth_term, term_from, terms_from, Declared, pat_of, pats_of}
use Rattle.theory.specs.Encoding.{base_byte, call_bytes, encode, encodes, encode_pat, encode_pats, term_words, terms_words, pat_words, pats_words, OverDeclared, AllOverDeclared}
use Rattle.theory.proofs.SidesGive.{AllTok, Balanced, many-first, build-many}

-- the bytes, the words and the variables of records
abbrev pub bytes_tok : TermRecord → List ℕ
bytes_tok (constant_record b) = base_byte b ∷ []
bytes_tok succ_record = 0x11 ∷ []
bytes_tok if_record = 0x17 ∷ []
bytes_tok (variable_record x) = 0x14 ∷ x ∷ []
bytes_tok (raise_record e) = 0x15 ∷ e ∷ []
bytes_tok (handle_record e) = 0x16 ∷ e ∷ []
bytes_tok (call_record k n) = call_bytes k

abbrev pub bytes_toks : List TermRecord → List ℕ
bytes_toks [] = []
bytes_toks (k ∷ ks) = bytes_tok k ++ bytes_toks ks

abbrev pub words_toks : List TermRecord → ℕ
words_toks [] = 0
words_toks (k ∷ ks) = record_words k + words_toks ks

abbrev pub vars_tok : TermRecord → List ℕ
vars_tok (constant_record b) = []
vars_tok succ_record = []
vars_tok if_record = []
vars_tok (variable_record x) = x ∷ []
vars_tok (raise_record e) = []
vars_tok (handle_record e) = []
vars_tok (call_record k n) = []

abbrev pub vars_toks : List TermRecord → List ℕ
vars_toks [] = []
vars_toks (k ∷ ks) = vars_tok k ++ vars_toks ks

-- the records of a term, root first
abbrev mutual
  pub flat : Term → List TermRecord
  flat (const b) = constant_record b ∷ []
  flat (succ t) = succ_record ∷ flat t
  flat (tvar x) = variable_record x ∷ []
  flat (raise e) = raise_record e ∷ []
  flat (handle t e h) = handle_record e ∷ (flat t ++ flat h)
  flat (cond t a b) = if_record ∷ (flat t ++ (flat a ++ flat b))
  flat (call k ts) = call_record k (many ts) ∷ flats ts

  pub flats : Terms → List TermRecord
  flats tnil = []
  flats (tcons t ts) = flat t ++ flats ts

-- over joined lists
bytes-append : (ks ms : List TermRecord) → bytes_toks (ks ++ ms) ≡ bytes_toks ks ++ bytes_toks ms
bytes-append [] ms = refl
bytes-append (k ∷ ks) ms = ap (bytes_tok k ++◌) (bytes-append ks ms) ∙ sym (append_assoc (bytes_tok k) (bytes_toks ks) (bytes_toks ms))

words_append : (ks ms : List TermRecord) → words_toks (ks ++ ms) ≡ words_toks ks + words_toks ms
words_append [] ms = omega arith
words_append (k ∷ ks) ms = let e = words_append ks ms in omega (arith, e)

vars-append : (ks ms : List TermRecord) → vars_toks (ks ++ ms) ≡ vars_toks ks ++ vars_toks ms
vars-append [] ms = refl
vars-append (k ∷ ks) ms = ap (vars_tok k ++◌) (vars-append ks ms) ∙ sym (append_assoc (vars_tok k) (vars_toks ks) (vars_toks ms))

-- bytes, words and variables
mutual
  flat-bytes : (t : Term) → bytes_toks (flat t) ≡ encode t
  flat-bytes (const b) = refl
  flat-bytes (succ t) = ap (0x11 ∷◌) (flat-bytes t)
  flat-bytes (tvar x) = refl
  flat-bytes (raise e) = refl
  flat-bytes (handle t e h) = ap (λ (l : List ℕ). 0x16 ∷ e ∷ l) (bytes-append (flat t) (flat h) ∙ ap₂ ◌++◌ (flat-bytes t) (flat-bytes h))
  flat-bytes (cond t a b) =
      ap (0x17 ∷◌) (bytes-append (flat t) (flat a ++ flat b) ∙ ap₂ ◌++◌ (flat-bytes t) (bytes-append (flat a) (flat b) ∙ ap₂ ◌++◌ (flat-bytes a) (flat-bytes b)))
  flat-bytes (call k ts) = ap (call_bytes k ++◌) (flats-bytes ts)

  pub flats-bytes : (ts : Terms) → bytes_toks (flats ts) ≡ encodes ts
  flats-bytes tnil = refl
  flats-bytes (tcons t ts) = bytes-append (flat t) (flats ts) ∙ ap₂ ◌++◌ (flat-bytes t) (flats-bytes ts)

mutual
  flat-words : (t : Term) → words_toks (flat t) ≡ term_words t
  flat-words (const b) = refl
  flat-words (succ t) = ap (1 +◌) (flat-words t)
  flat-words (tvar x) = refl
  flat-words (raise e) = refl
  flat-words (handle t e h) = ap (2 +◌) (words_append (flat t) (flat h) ∙ ap₂ ◌+◌ (flat-words t) (flat-words h))
  flat-words (cond t a b) =
      ap (1 +◌) (words_append (flat t) (flat a ++ flat b) ∙ ap₂ ◌+◌ (flat-words t) (words_append (flat a) (flat b) ∙ ap₂ ◌+◌ (flat-words a) (flat-words b)))
  flat-words (call k ts) = ap (1 +◌) (flats-words ts)

  pub flats-words : (ts : Terms) → words_toks (flats ts) ≡ terms_words ts
  flats-words tnil = refl
  flats-words (tcons t ts) = words_append (flat t) (flats ts) ∙ ap₂ ◌+◌ (flat-words t) (flats-words ts)

mutual
  flat-vars : (t : Term) → vars_toks (flat t) ≡ term_vars t
  flat-vars (const b) = refl
  flat-vars (succ t) = flat-vars t
  flat-vars (tvar x) = refl
  flat-vars (raise e) = refl
  flat-vars (handle t e h) = vars-append (flat t) (flat h) ∙ ap₂ ◌++◌ (flat-vars t) (flat-vars h)
  flat-vars (cond t a b) =
      vars-append (flat t) (flat a ++ flat b) ∙ ap₂ ◌++◌ (flat-vars t) (vars-append (flat a) (flat b) ∙ ap₂ ◌++◌ (flat-vars a) (flat-vars b))
  flat-vars (call k ts) = flats-vars ts

  pub flats-vars : (ts : Terms) → vars_toks (flats ts) ≡ terms_vars ts
  flats-vars tnil = refl
  flats-vars (tcons t ts) = vars-append (flat t) (flats ts) ∙ ap₂ ◌++◌ (flat-vars t) (flats-vars ts)

-- the words that a ceiling counts are those of the term in the rewrite system
mutual
  pub words-are-size : (t : Term) → term_words t ≡ size (tree t)
  words-are-size (const b) = go b
    where
      go : (b : Base) → 1 ≡ size (tree (const b))
      go zero_b = refl
      go true_b = refl
      go false_b = refl
  words-are-size (succ t) = let e = words-are-size t in omega (arith, e)
  words-are-size (tvar x) = refl
  words-are-size (raise e) = refl
  words-are-size (handle t e h) = let a = words-are-size t in let b = words-are-size h in omega (arith, a, b)
  words-are-size (cond t a b) = let x = words-are-size t in let y = words-are-size a in let z = words-are-size b in omega (arith, x, y, z)
  words-are-size (call k ts) = let e = words-are-sizes ts in omega (arith, e)

  words-are-sizes : (ts : Terms) → terms_words ts ≡ sizes (trees ts)
  words-are-sizes tnil = refl
  words-are-sizes (tcons t ts) = ap₂ ◌+◌ (words-are-size t) (words-are-sizes ts)

-- what is declared, over the records
module _ (D : Declared) where
  all_append : (ks ms : List TermRecord) → AllTok D ks → AllTok D ms → AllTok D (ks ++ ms)
  all_append [] ms h k = k
  all_append (x ∷ ks) ms h k = (h.0, all_append ks ms h.1 k)

  mutual
    flat_ok : (t : Term) → OverDeclared D t → AllTok D (flat t)
    flat_ok (const b) h = (tt, tt)
    flat_ok (succ t) h = (tt, flat_ok t h)
    flat_ok (tvar x) h = (h, tt)
    flat_ok (raise e) h = (h, tt)
    flat_ok (handle t e k) h = (h.1, all_append (flat t) (flat k) (flat_ok t h.0) (flat_ok k h.2))
    flat_ok (cond t a b) h =
        (tt, all_append (flat t) (flat a ++ flat b) (flat_ok t h.0) (all_append (flat a) (flat b) (flat_ok a h.1) (flat_ok b h.2)))
    flat_ok (call k ts) h = (h.0, flats-ok ts h.1)

    pub flats-ok : (ts : Terms) → AllOverDeclared D ts → AllTok D (flats ts)
    flats-ok tnil h = tt
    flats-ok (tcons t ts) h = all_append (flat t) (flats ts) (flat_ok t h.0) (flats-ok ts h.1)

-- a term's records are as many as are due
module _ (D : Declared) where
  due : (m n : ℕ) (ks : List TermRecord) → m ≡ n → Balanced D m ks → Balanced D n ks
  due m n ks e h = subst (λ (i : ℕ). Balanced D i ks) e h

  mutual
    flat-balanced : (t : Term) (n : ℕ) (ks : List TermRecord) → Balanced D n ks → Balanced D (suc n) (flat t ++ ks)
    flat-balanced (const b) n ks h = due n (0 + n) ks (omega arith) h
    flat-balanced (succ t) n ks h = due (suc n) (1 + n) (flat t ++ ks) (omega arith) (flat-balanced t n ks h)
    flat-balanced (tvar x) n ks h = due n (0 + n) ks (omega arith) h
    flat-balanced (raise e) n ks h = due n (0 + n) ks (omega arith) h
    flat-balanced (handle t e k) n ks h =
        subst (Balanced D (2 + n)) (sym (append_assoc (flat t) (flat k) ks))
        (due (suc (suc n)) (2 + n) (flat t ++ (flat k ++ ks)) (omega arith) (flat-balanced t (suc n) (flat k ++ ks) (flat-balanced k n ks h)))
    flat-balanced (cond t a b) n ks h =
        subst (Balanced D (3 + n)) (sym (append_assoc (flat t) (flat a ++ flat b) ks ∙ ap (flat t ++◌) (append_assoc (flat a) (flat b) ks)))
        (due (suc (suc (suc n))) (3 + n) (flat t ++ (flat a ++ (flat b ++ ks))) (omega arith)
        (flat-balanced t (suc (suc n)) (flat a ++ (flat b ++ ks)) (flat-balanced a (suc n) (flat b ++ ks) (flat-balanced b n ks h))))
    flat-balanced (call k ts) n ks h = flats-balanced ts n ks h

    flats-balanced : (ts : Terms) (n : ℕ) (ks : List TermRecord) → Balanced D n ks → Balanced D (many ts + n) (flats ts ++ ks)
    flats-balanced tnil n ks h = due n (0 + n) ks (omega arith) h
    flats-balanced (tcons t ts) n ks h =
        subst (Balanced D (suc (many ts) + n)) (sym (append_assoc (flat t) (flats ts) ks))
        (due (suc (many ts + n)) (suc (many ts) + n) (flat t ++ (flats ts ++ ks)) (omega arith) (flat-balanced t (many ts + n) (flats ts ++ ks) (flats-balanced ts n ks h)))

  pub flats-due : (ts : Terms) → Balanced D (many ts) (flats ts)
  flats-due ts =
      due (many ts + 0) (many ts) (flats ts) (omega arith) (subst (Balanced D (many ts + 0)) (append-nil (flats ts)) (flats-balanced ts 0 [] tt))

-- built again they are the terms
abbrev join : Terms → Terms → Terms
join tnil us = us
join (tcons t ts) us = tcons t (join ts us)

first-join : (ts us : Terms) → first_terms (many ts) (join ts us) ≡ ts
first-join tnil us = refl
first-join (tcons t ts) us = ap (tcons t) (first-join ts us)

other-join : (ts us : Terms) → later_terms (many ts) (join ts us) ≡ us
other-join tnil us = refl
other-join (tcons t ts) us = other-join ts us

join-nil : (ts : Terms) → join ts tnil ≡ ts
join-nil tnil = refl
join-nil (tcons t ts) = ap (tcons t) (join-nil ts)

mutual
  flat-build : (t : Term) (ks : List TermRecord) → terms_from (flat t ++ ks) ≡ tcons t (terms_from ks)
  flat-build (const b) ks = refl
  flat-build (succ t) ks = ap (λ (us : Terms). tcons (succ (nth_term us 0)) (later_terms 1 us)) (flat-build t ks)
  flat-build (tvar x) ks = refl
  flat-build (raise e) ks = refl
  flat-build (handle t e h) ks =
      ap (λ (us : Terms). tcons (handle (nth_term us 0) e (nth_term us 1)) (later_terms 2 us))
      (ap terms_from (append_assoc (flat t) (flat h) ks) ∙ flat-build t (flat h ++ ks) ∙ ap (tcons t) (flat-build h ks))
  flat-build (cond t a b) ks =
      ap (λ (us : Terms). tcons (cond (nth_term us 0) (nth_term us 1) (nth_term us 2)) (later_terms 3 us))
      (ap terms_from (append_assoc (flat t) (flat a ++ flat b) ks ∙ ap (flat t ++◌) (append_assoc (flat a) (flat b) ks))
      ∙ flat-build t (flat a ++ (flat b ++ ks))
      ∙ ap (tcons t) (flat-build a (flat b ++ ks) ∙ ap (tcons a) (flat-build b ks)))
  flat-build (call k ts) ks =
      ap (λ (us : Terms). tcons (call k (first_terms (many ts) us)) (later_terms (many ts) us)) (flats-join ts ks)
      ∙ ap₂ (λ (us vs : Terms). tcons (call k us) vs) (first-join ts (terms_from ks)) (other-join ts (terms_from ks))

  flats-join : (ts : Terms) (ks : List TermRecord) → terms_from (flats ts ++ ks) ≡ join ts (terms_from ks)
  flats-join tnil ks = refl
  flats-join (tcons t ts) ks = ap terms_from (append_assoc (flat t) (flats ts) ks) ∙ flat-build t (flats ts ++ ks) ∙ ap (tcons t) (flats-join ts ks)

pub flats-build : (ts : Terms) → terms_from (flats ts) ≡ ts
flats-build ts = ap terms_from (sym (append-nil (flats ts))) ∙ flats-join ts [] ∙ join-nil ts

-- and balanced records are those of the terms that they build
flats-split : (n : ℕ) (ts : Terms) → flats (first_terms n ts) ++ flats (later_terms n ts) ≡ flats ts
flats-split zero ts = refl
flats-split (suc n) tnil = refl
flats-split (suc n) (tcons t ts) = append_assoc (flat t) (flats (first_terms n ts)) (flats (later_terms n ts)) ∙ ap (flat t ++◌) (flats-split n ts)

module _ (D : Declared) where
  flat-make : (k : TermRecord) (n : ℕ) (ts : Terms) → many ts ≡ record_parts k + n → flat (term_from k ts) ≡ k ∷ flats (first_terms (record_parts k) ts)
  flat-make (constant_record b) n ts e = refl
  flat-make succ_record n tnil e = absurd (omega (arith, e))
  flat-make succ_record n (tcons t ts) e = ap (succ_record ∷◌) (sym (append-nil (flat t)))
  flat-make if_record n tnil e = absurd (omega (arith, e))
  flat-make if_record n (tcons t tnil) e = absurd (omega (arith, e))
  flat-make if_record n (tcons t (tcons u tnil)) e = absurd (omega (arith, e))
  flat-make if_record n (tcons t (tcons u (tcons v ts))) e = ap (λ (l : List TermRecord). if_record ∷ (flat t ++ (flat u ++ l))) (sym (append-nil (flat v)))
  flat-make (variable_record x) n ts e = refl
  flat-make (raise_record x) n ts e = refl
  flat-make (handle_record x) n tnil e = absurd (omega (arith, e))
  flat-make (handle_record x) n (tcons t tnil) e = absurd (omega (arith, e))
  flat-make (handle_record x) n (tcons t (tcons u ts)) e = ap (λ (l : List TermRecord). handle_record x ∷ (flat t ++ l)) (sym (append-nil (flat u)))
  flat-make (call_record k m) n ts e = ap (λ (i : ℕ). call_record k i ∷ flats (first_terms m ts)) (many-first D m n ts e)

  pub build-flats : (ks : List TermRecord) (n : ℕ) → Balanced D n ks → flats (terms_from ks) ≡ ks
  build-flats [] n h = refl
  build-flats (k ∷ ks) zero h = absurd h
  build-flats (k ∷ ks) (suc n) h =
      let a = record_parts k in
      ap (◌++ flats (later_terms a (terms_from ks))) (flat-make k n (terms_from ks) (build-many D ks (a + n) h))
      ∙ ap (k ∷◌) (flats-split a (terms_from ks) ∙ build-flats ks (a + n) h)

-- patterns as terms
abbrev pub term_of : Pat → Term
term_of (pbase b) = const b
term_of (psucc p) = succ (term_of p)
term_of (pvar x) = tvar x

abbrev pub terms_of : List Pat → Terms
terms_of [] = tnil
terms_of (p ∷ ps) = tcons (term_of p) (terms_of ps)

pub pats-many : (ps : List Pat) → many (terms_of ps) ≡ length ps
pats-many [] = refl
pats-many (p ∷ ps) = ap suc (pats-many ps)

pat-of : (p : Pat) → pat_of (term_of p) ≡ p
pat-of (pbase b) = refl
pat-of (psucc p) = ap psucc (pat-of p)
pat-of (pvar x) = refl

pub pats-of : (ps : List Pat) → pats_of (terms_of ps) ≡ ps
pats-of [] = refl
pats-of (p ∷ ps) = ap₂ ◌∷◌ (pat-of p) (pats-of ps)

pat-bytes : (p : Pat) → encode (term_of p) ≡ encode_pat p
pat-bytes (pbase b) = refl
pat-bytes (psucc p) = ap (0x11 ∷◌) (pat-bytes p)
pat-bytes (pvar x) = refl

pub pats-bytes : (ps : List Pat) → encodes (terms_of ps) ≡ encode_pats ps
pats-bytes [] = refl
pats-bytes (p ∷ ps) = ap₂ ◌++◌ (pat-bytes p) (pats-bytes ps)

pat-words : (p : Pat) → term_words (term_of p) ≡ pat_words p
pat-words (pbase b) = refl
pat-words (psucc p) = ap (1 +◌) (pat-words p)
pat-words (pvar x) = refl

pub pats-words : (ps : List Pat) → terms_words (terms_of ps) ≡ pats_words ps
pats-words [] = refl
pats-words (p ∷ ps) = ap₂ ◌+◌ (pat-words p) (pats-words ps)

pat-vars : (p : Pat) → term_vars (term_of p) ≡ pat_vars p
pat-vars (pbase b) = refl
pat-vars (psucc p) = pat-vars p
pat-vars (pvar x) = refl

pub pats-vars : (ps : List Pat) → terms_vars (terms_of ps) ≡ pats_vars ps
pats-vars [] = refl
pats-vars (p ∷ ps) = ap₂ ◌++◌ (pat-vars p) (pats-vars ps)

-- records that stand on a left side
abbrev pub LeftTok : TermRecord → Type 0
LeftTok (constant_record b) = Unit {0}
LeftTok succ_record = Unit {0}
LeftTok if_record = ⊥
LeftTok (variable_record x) = Unit {0}
LeftTok (raise_record e) = ⊥
LeftTok (handle_record e) = ⊥
LeftTok (call_record k n) = ⊥

abbrev pub AllLeft : List TermRecord → Type 0
AllLeft [] = Unit {0}
AllLeft (k ∷ ks) = LeftTok k × AllLeft ks

left-first : (ks ms : List TermRecord) → AllLeft (ks ++ ms) → AllLeft ks
left-first [] ms h = tt
left-first (k ∷ ks) ms h = (h.0, left-first ks ms h.1)

left-later : (ks ms : List TermRecord) → AllLeft (ks ++ ms) → AllLeft ms
left-later [] ms h = h
left-later (k ∷ ks) ms h = left-later ks ms h.1

left_both : (ks ms : List TermRecord) → AllLeft ks → AllLeft ms → AllLeft (ks ++ ms)
left_both [] ms h k = k
left_both (x ∷ ks) ms h k = (h.0, left_both ks ms h.1 k)

left-pat : (t : Term) → AllLeft (flat t) → term_of (pat_of t) ≡ t
left-pat (const b) h = refl
left-pat (succ t) h = ap succ (left-pat t h.1)
left-pat (tvar x) h = refl
left-pat (raise e) h = absurd h.0
left-pat (handle t e k) h = absurd h.0
left-pat (cond t a b) h = absurd h.0
left-pat (call k ts) h = absurd h.0

pub left-pats : (ts : Terms) → AllLeft (flats ts) → terms_of (pats_of ts) ≡ ts
left-pats tnil h = refl
left-pats (tcons t ts) h = ap₂ tcons (left-pat t (left-first (flat t) (flats ts) h)) (left-pats ts (left-later (flat t) (flats ts) h))

pat-left : (p : Pat) → AllLeft (flat (term_of p))
pat-left (pbase b) = (tt, tt)
pat-left (psucc p) = (tt, pat-left p)
pat-left (pvar x) = (tt, tt)

pub pats-left : (ps : List Pat) → AllLeft (flats (terms_of ps))
pats-left [] = tt
pats-left (p ∷ ps) = left_both (flat (term_of p)) (flats (terms_of ps)) (pat-left p) (pats-left ps)
