-- A side of a rule, or a question, is read exactly where its bytes are those of terms that may stand there.
use Prim.Native.Nat.{ℕ, zero, suc, ◌+◌, ◌-◌, ◌≤◌}
use mathlib.Core.Path.{◌≡◌, refl, sym, ap, ap₂, ◌∙◌, subst}
use mathlib.Core.Logic.{inl, inr}
use mathlib.Core.Bool.{Bool, true, false, ◌||◌, false≢true}
use mathlib.Core.List.{List, [], ◌∷◌, ◌++◌, append_assoc, append-nil}
use native.Mathlib.Omega.{arith}
use lib.Dec.{eqb, leb, ltb, leb→le}
use lib.ListN.{length, length-append}
use Rattle.theory.specs.Syntax.{zero_b, true_b, false_b, Term, Terms, tnil, tcons, many, Pat, pbase, psucc, pvar, pick, choose, elem}
use Rattle.theory.specs.Builtins.{builtin_funs, last_called, nth_fun}
use Rattle.theory.specs.Proper.{Distinct, AllIn, pat_vars, pats_vars, term_vars, terms_vars}
use Rattle.theory.specs.Bytes.{TermRecord, constant_record, succ_record, if_record, variable_record, raise_record, handle_record, call_record, record_parts, record_words, nth_term, terms_from, NextRecord, none_left, cut_short, next_is, body_length, with_body, next_record, Result, refused, good, refuse, if_good, Declared, nth_arity, or_refuse4, term_record, Where, on_left, on_right, in_question, allowed, ceiling, Side, add_record, read_term_record, read_side, pats_of, vars_of}
use Rattle.theory.specs.Encoding.{call_bytes, encode, encodes, encode_pats, term_words, terms_words, pats_words, OverDeclared, AllOverDeclared, Each}
use Rattle.theory.proofs.Tests.{leb-true, leb-false, ne-of-eqb, eqb-false}
use Rattle.theory.proofs.Lists.{each_first, each-later}
use Rattle.theory.proofs.RecordRead.{RecordRead, record-read}
use Rattle.theory.proofs.SidesGive.{Ok, choose-ok, also-ok, TokOk, AllTok, Balanced, SideOk, side-ok, build-many, build-ok}
use Rattle.theory.proofs.RecordsOfTerms.{bytes_tok, bytes_toks, words_toks, vars_toks, flats, flats-bytes, flats-words, flats-vars, flats-ok, flats-due, flats-build, build-flats, term_of, terms_of, pats-many, pats-bytes, pats-words, pats-vars, AllLeft, left-pats, pats-left}

-- ONE RECORD. What is read of it is its bytes: k its kind, n its length, `rest` behind it.
abbrev pub long : ℕ → ℕ
long zero = 1
long (suc zero) = 2
long (suc (suc n)) = 3

abbrev pub spell : ℕ → ℕ → ℕ → ℕ → List ℕ → List ℕ
spell zero k b c rest = k ∷ rest
spell (suc zero) k b c rest = k ∷ b ∷ rest
spell (suc (suc n)) k b c rest = k ∷ b ∷ c ∷ rest

abbrev pub Spelt : List ℕ → ℕ → ℕ → ℕ → ℕ → List ℕ → Type 0
Spelt bs k b c n rest = (bs ≡ spell (body_length k) k b c rest) × (n ≡ long (body_length k))

abbrev pub IsNext : List ℕ → NextRecord → Type 0
IsNext bs none_left = Unit {0}
IsNext bs cut_short = Unit {0}
IsNext bs (next_is k b c n rest) = Spelt bs k b c n rest

bodied-is : (k m : ℕ) (bs : List ℕ) → body_length k ≡ m → IsNext (k ∷ bs) (with_body k m bs)
bodied-is k zero bs e = (ap (λ (i : ℕ). spell i k 0 0 bs) (sym e), ap long (sym e))
bodied-is k (suc zero) [] e = tt
bodied-is k (suc zero) (b ∷ bs) e = (ap (λ (i : ℕ). spell i k b 0 bs) (sym e), ap long (sym e))
bodied-is k (suc (suc m)) [] e = tt
bodied-is k (suc (suc m)) (b ∷ []) e = tt
bodied-is k (suc (suc m)) (b ∷ c ∷ bs) e = (ap (λ (i : ℕ). spell i k b c bs) (sym e), ap long (sym e))

pub next-is : (bs : List ℕ) → IsNext bs (next_record bs)
next-is [] = tt
next-is (k ∷ bs) = bodied-is k (body_length k) bs refl

-- with what is behind it, it makes up the bytes; it has one to three of them
spell-long : (m k b c : ℕ) (rest : List ℕ) → (long m + length rest ≡ length (spell m k b c rest)) × (1 ≤ long m) × (long m ≤ 3)
spell-long zero k b c rest = (omega arith, omega arith, omega arith)
spell-long (suc zero) k b c rest = (omega arith, omega arith, omega arith)
spell-long (suc (suc m)) k b c rest = (omega arith, omega arith, omega arith)

pub next-long : (bs : List ℕ) (k b c n : ℕ) (rest : List ℕ) → Spelt bs k b c n rest → (n + length rest ≡ length bs) × (1 ≤ n) × (n ≤ 3)
next-long bs k b c n rest i =
    let e : length bs ≡ length (spell (body_length k) k b c rest) = ap length i.0 in
    let l = spell-long (body_length k) k b c rest in
    let f = i.1 in
    let x = l.0 in
    let y = l.1 in
    let z = l.2 in
    (omega (arith, e, f, x), omega (arith, f, y), omega (arith, f, z))

-- a record of the kind v
pub of-kind : (v k b c n : ℕ) (bs rest : List ℕ) → k ≡ v → Spelt bs k b c n rest → Spelt bs v b c n rest
of-kind v k b c n bs rest e h = subst (λ (i : ℕ). Spelt bs i b c n rest) e h

pub low-call : (b : ℕ) → b ≤ last_called → call_bytes b ≡ 0x18 ∷ b ∷ []
low-call b h = ap (λ (x : Bool). pick x (0x18 ∷ b ∷ []) (0x19 ∷ (b - 16) ∷ [])) (leb-true (suc b) 16 (omega (arith, h)))

pub high-call : (b : ℕ) → call_bytes (16 + b) ≡ 0x19 ∷ b ∷ []
high-call b =
    let z : 16 + b - 16 ≡ b = omega arith in
    ap (λ (x : Bool). pick x (0x18 ∷ (16 + b) ∷ []) (0x19 ∷ (16 + b - 16) ∷ [])) (leb-false (suc (16 + b)) 16 (omega arith)) ∙ ap (λ (i : ℕ). 0x19 ∷ i ∷ []) z

-- the record of a term that is read is spelt by those bytes
abbrev IsTok : List ℕ → ℕ → List ℕ → TermRecord → Type 0
IsTok bs n rest t = (bs ≡ bytes_tok t ++ rest) × (n ≡ length (bytes_tok t))

tok-is : (D : Declared) (p k b c n : ℕ) (bs rest : List ℕ) → Spelt bs k b c n rest → Ok (IsTok bs n rest) (term_record D p k b)
tok-is D p k b c n bs rest h = is (term_record D p k b) (record-read D p k b)
  where
    of : (v : ℕ) → k ≡ v → Spelt bs v b c n rest
    of v e = of-kind v k b c n bs rest e h

    with : (v x : ℕ) → b ≡ x → (bs ≡ v ∷ b ∷ rest) × (n ≡ 2) → (bs ≡ v ∷ x ∷ rest) × (n ≡ 2)
    with v x e s = (s.0 ∙ ap (λ (i : ℕ). v ∷ i ∷ rest) e, s.1)

    called : (v k' : ℕ) → (bs ≡ v ∷ b ∷ rest) × (n ≡ 2) → call_bytes k' ≡ v ∷ b ∷ [] → (bs ≡ call_bytes k' ++ rest) × (n ≡ length (call_bytes k'))
    called v k' s e = (s.0 ∙ ap (◌++ rest) (sym e), s.1 ∙ ap length (sym e))

    is : (r : Result TermRecord) → RecordRead D p k b r → Ok (IsTok bs n rest) r
    is (refused r) e = tt
    is (good (constant_record zero_b)) e = of 0x10 e
    is (good (constant_record true_b)) e = of 0x12 e
    is (good (constant_record false_b)) e = of 0x13 e
    is (good succ_record) e = of 0x11 e
    is (good if_record) e = of 0x17 e
    is (good (variable_record x)) e = with 0x14 x e.1 (of 0x14 e.0)
    is (good (raise_record x)) e = with 0x15 x e.1 (of 0x15 e.0)
    is (good (handle_record x)) e = with 0x16 x e.1 (of 0x16 e.0)
    is (good (call_record f m)) (inl e) = called 0x18 f (of 0x18 e.0) (low-call f e.2 ∙ ap (λ (i : ℕ). 0x18 ∷ i ∷ []) (sym e.1))
    is (good (call_record f m)) (inr e) = called 0x19 f (of 0x19 e.0) (ap call_bytes e.1 ∙ high-call b)

-- and those bytes are read as that record
four-true : (b : Bool) (t : TermRecord) (p : ℕ) → b ≡ true → or_refuse4 b t p ≡ good t
four-true b t p e = ap (λ (x : Bool). or_refuse4 x t p) e

record Back (D : Declared) (t : TermRecord) (p : ℕ) (rest : List ℕ) : Type 0 where
  kind : ℕ
  number : ℕ
  read : next_record (bytes_tok t ++ rest) ≡ next_is kind number 0 (length (bytes_tok t)) rest
  is : term_record D p kind number ≡ good t

tok-back : (D : Declared) (t : TermRecord) (p : ℕ) (rest : List ℕ) → TokOk D t → Back D t p rest
tok-back D (constant_record zero_b) p rest h = record { kind = 0x10; number = 0; read = refl; is = refl }
tok-back D (constant_record true_b) p rest h = record { kind = 0x12; number = 0; read = refl; is = refl }
tok-back D (constant_record false_b) p rest h = record { kind = 0x13; number = 0; read = refl; is = refl }
tok-back D succ_record p rest h = record { kind = 0x11; number = 0; read = refl; is = refl }
tok-back D if_record p rest h = record { kind = 0x17; number = 0; read = refl; is = refl }
tok-back D (variable_record x) p rest h = record { kind = 0x14; number = x; read = refl; is = four-true (leb x 7) (variable_record x) p (leb-true x 7 (omega (arith, h))) }
tok-back D (raise_record e) p rest h = record { kind = 0x15; number = e; read = refl; is = four-true (ltb e D.exceptions) (raise_record e) p (leb-true (suc e) D.exceptions h) }
tok-back D (handle_record e) p rest h = record { kind = 0x16; number = e; read = refl; is = four-true (ltb e D.exceptions) (handle_record e) p (leb-true (suc e) D.exceptions h) }
tok-back D (call_record k n) p rest (inl h) =
    record {
      kind = 0x18;
      number = k;
      read = ap (λ (l : List ℕ). next_record (l ++ rest)) (low-call k h.0) ∙ ap (λ (l : List ℕ). next_is 0x18 k 0 (length l) rest) (sym (low-call k h.0));
      is = four-true (leb k last_called) (call_record k (nth_fun builtin_funs k).arity) p (leb-true k last_called h.0) ∙ ap (λ (i : ℕ). good (call_record k i)) (sym h.1);
    }
tok-back D (call_record k n) p rest (inr h) =
    let f = h.0 in
    let c : call_bytes k ≡ 0x19 ∷ f ∷ [] = ap call_bytes h.1 ∙ high-call f in
    record {
      kind = 0x19;
      number = f;
      read = ap (λ (l : List ℕ). next_record (l ++ rest)) c ∙ ap (λ (l : List ℕ). next_is 0x19 f 0 (length l) rest) (sym c);
      is =
          four-true (ltb f (length D.arities)) (call_record (16 + f) (nth_arity D.arities f)) p (leb-true (suc f) (length D.arities) h.2)
          ∙ ap₂ (λ (i j : ℕ). good (call_record i j)) (sym h.1) (sym h.3);
    }

-- WHERE A RECORD MAY STAND, and what is seen after it
abbrev seeing : Where → ℕ → Where
seeing (on_left xs) x = on_left (x ∷ xs)
seeing (on_right xs) x = on_right xs
seeing in_question x = in_question

abbrev after : Where → TermRecord → Where
after w (constant_record b) = w
after w succ_record = w
after w if_record = w
after w (variable_record x) = seeing w x
after w (raise_record e) = w
after w (handle_record e) = w
after w (call_record k n) = w

abbrev NotLeft : Where → Type 0
NotLeft (on_left xs) = ⊥
NotLeft (on_right xs) = Unit {0}
NotLeft in_question = Unit {0}

abbrev MayVar : Where → ℕ → Type 0
MayVar (on_left xs) x = elem x xs ≡ false
MayVar (on_right xs) x = elem x xs ≡ true
MayVar in_question x = ⊥

abbrev May : Where → TermRecord → Type 0
May w (constant_record b) = Unit {0}
May w succ_record = Unit {0}
May w if_record = NotLeft w
May w (variable_record x) = MayVar w x
May w (raise_record e) = NotLeft w
May w (handle_record e) = NotLeft w
May w (call_record k n) = NotLeft w

not_yet : (x : ℕ) (xs : List ℕ) (p : ℕ) → Ok (λ v. (elem x xs ≡ false) × (v ≡ on_left (x ∷ xs))) (pick (elem x xs) (refuse 6 p) (good (on_left (x ∷ xs))))
not_yet x xs p = go (elem x xs) refl
  where
    go : (b : Bool) → b ≡ elem x xs → Ok (λ v. (elem x xs ≡ false) × (v ≡ on_left (x ∷ xs))) (pick b (refuse 6 p) (good (on_left (x ∷ xs))))
    go true e = tt
    go false e = (sym e, refl)

there : (x : ℕ) (xs : List ℕ) (p : ℕ) → Ok (λ v. (elem x xs ≡ true) × (v ≡ on_right xs)) (pick (elem x xs) (good (on_right xs)) (refuse 7 p))
there x xs p = go (elem x xs) refl
  where
    go : (b : Bool) → b ≡ elem x xs → Ok (λ v. (elem x xs ≡ true) × (v ≡ on_right xs)) (pick b (good (on_right xs)) (refuse 7 p))
    go true e = (sym e, refl)
    go false e = tt

allowed-ok : (w : Where) (p : ℕ) (t : TermRecord) → Ok (λ v. May w t × (v ≡ after w t)) (allowed w p t)
allowed-ok (on_left xs) p (constant_record b) = (tt, refl)
allowed-ok (on_left xs) p succ_record = (tt, refl)
allowed-ok (on_left xs) p if_record = tt
allowed-ok (on_left xs) p (variable_record x) = not_yet x xs p
allowed-ok (on_left xs) p (raise_record e) = tt
allowed-ok (on_left xs) p (handle_record e) = tt
allowed-ok (on_left xs) p (call_record k n) = tt
allowed-ok (on_right xs) p (constant_record b) = (tt, refl)
allowed-ok (on_right xs) p succ_record = (tt, refl)
allowed-ok (on_right xs) p if_record = (tt, refl)
allowed-ok (on_right xs) p (variable_record x) = there x xs p
allowed-ok (on_right xs) p (raise_record e) = (tt, refl)
allowed-ok (on_right xs) p (handle_record e) = (tt, refl)
allowed-ok (on_right xs) p (call_record k n) = (tt, refl)
allowed-ok in_question p (constant_record b) = (tt, refl)
allowed-ok in_question p succ_record = (tt, refl)
allowed-ok in_question p if_record = (tt, refl)
allowed-ok in_question p (variable_record x) = tt
allowed-ok in_question p (raise_record e) = (tt, refl)
allowed-ok in_question p (handle_record e) = (tt, refl)
allowed-ok in_question p (call_record k n) = (tt, refl)

allowed-back : (w : Where) (p : ℕ) (t : TermRecord) → May w t → allowed w p t ≡ good (after w t)
allowed-back (on_left xs) p (constant_record b) h = refl
allowed-back (on_left xs) p succ_record h = refl
allowed-back (on_left xs) p if_record h = absurd h
allowed-back (on_left xs) p (variable_record x) h = ap (λ (b : Bool). pick b (refuse 6 p) (good (on_left (x ∷ xs)))) h
allowed-back (on_left xs) p (raise_record e) h = absurd h
allowed-back (on_left xs) p (handle_record e) h = absurd h
allowed-back (on_left xs) p (call_record k n) h = absurd h
allowed-back (on_right xs) p (constant_record b) h = refl
allowed-back (on_right xs) p succ_record h = refl
allowed-back (on_right xs) p if_record h = refl
allowed-back (on_right xs) p (variable_record x) h = ap (λ (b : Bool). pick b (good (on_right xs)) (refuse 7 p)) h
allowed-back (on_right xs) p (raise_record e) h = refl
allowed-back (on_right xs) p (handle_record e) h = refl
allowed-back (on_right xs) p (call_record k n) h = refl
allowed-back in_question p (constant_record b) h = refl
allowed-back in_question p succ_record h = refl
allowed-back in_question p if_record h = refl
allowed-back in_question p (variable_record x) h = absurd h
allowed-back in_question p (raise_record e) h = refl
allowed-back in_question p (handle_record e) h = refl
allowed-back in_question p (call_record k n) h = refl

-- the ceiling stays
same-ceiling : (w : Where) (t : TermRecord) → ceiling (after w t) ≡ ceiling w
same-ceiling w (constant_record b) = refl
same-ceiling w succ_record = refl
same-ceiling w if_record = refl
same-ceiling w (variable_record x) = go w
  where
    go : (w : Where) → ceiling (seeing w x) ≡ ceiling w
    go (on_left xs) = refl
    go (on_right xs) = refl
    go in_question = refl
same-ceiling w (raise_record e) = refl
same-ceiling w (handle_record e) = refl
same-ceiling w (call_record k n) = refl

abbrev pub MayAll : Where → List TermRecord → Type 0
MayAll w [] = Unit {0}
MayAll w (k ∷ ks) = May w k × MayAll (after w k) ks

abbrev pub afters : Where → List TermRecord → Where
afters w [] = w
afters w (k ∷ ks) = afters (after w k) ks

-- A SIDE that is read: its bytes, what may stand there, and its words
record SideIs (w : Where) (count p : ℕ) (bs : List ℕ) (s : Side) : Type 0 where
  spelt : bs ≡ bytes_toks s.records ++ s.rest
  may : MayAll w s.records
  seen : s.seen ≡ afters w s.records
  place : s.from ≡ p + length (bytes_toks s.records)
  room : count ≤ ceiling w → count + words_toks s.records ≤ ceiling w

side-none : (w : Where) (count p : ℕ) (bs : List ℕ) → SideIs w count p bs (record { records = []; seen = w; from = p; rest = bs })
side-none w count p bs = record { spelt = refl; may = tt; seen = refl; place = omega arith; room = λ h. omega (arith, h) }

side-more : (w : Where) (count p n : ℕ) (bs rest : List ℕ) (t : TermRecord) (s : Side) → IsTok bs n rest t → May w t → count + record_words t ≤ ceiling w
    → SideIs (after w t) (count + record_words t) (p + n) rest s → SideIs w count p bs (record { records = t ∷ s.records; seen = s.seen; from = s.from; rest = s.rest })
side-more w count p n bs rest t s i m l h =
    record {
      spelt = i.0 ∙ ap (bytes_tok t ++◌) h.spelt ∙ sym (append_assoc (bytes_tok t) (bytes_toks s.records) s.rest);
      may = (m, h.may);
      seen = h.seen;
      place = let e = length-append (bytes_tok t) (bytes_toks s.records) in let f = i.1 in let g = h.place in omega (arith, e, f, g);
      room = λ x. (let c = same-ceiling w t in let y = h.room (omega (arith, c, l)) in omega (arith, c, y));
    }

module _ (D : Declared) where
  side-is : (fuel : ℕ) (w : Where) (due count p : ℕ) (bs : List ℕ) → Ok (SideIs w count p bs) (read_side D fuel w due count p bs)
  side-is zero w zero count p bs = side-none w count p bs
  side-is zero w (suc due) count p bs = tt
  side-is (suc fuel) w zero count p bs = side-none w count p bs
  side-is (suc fuel) w (suc due) count p bs = go (next_record bs) (next-is bs) (side-is fuel)
    where
      go : (x : NextRecord) → IsNext bs x → ((w : Where) (due count p : ℕ) (bs : List ℕ) → Ok (SideIs w count p bs) (read_side D fuel w due count p bs))
          → Ok (SideIs w count p bs) (read_term_record D (read_side D fuel) w due count p x)
      go none_left i ih = tt
      go cut_short i ih = tt
      go (next_is k b c n rest) i ih =
          also-ok (IsTok bs n rest) (SideIs w count p bs) (term_record D p k b) _ (tok-is D p k b c n bs rest i)
          (λ t ht. also-ok (λ v. May w t × (v ≡ after w t)) (SideIs w count p bs) (allowed w p t) _ (allowed-ok w p t)
          (λ v hv. choose-ok (SideIs w count p bs) (leb (count + record_words t) (ceiling w)) _ _
          (λ l. also-ok (SideIs (after w t) (count + record_words t) (p + n) rest) (SideIs w count p bs) (read_side D fuel v (record_parts t + due) (count + record_words t) (p + n) rest) (add_record t)
          (subst (λ (x : Where). Ok (SideIs (after w t) (count + record_words t) (p + n) rest) (read_side D fuel x (record_parts t + due) (count + record_words t) (p + n) rest)) (sym hv.1)
          (ih (after w t) (record_parts t + due) (count + record_words t) (p + n) rest))
          (λ s hs. side-more w count p n bs rest t s ht hv.0 (leb→le (count + record_words t) (ceiling w) l) hs)) tt))

  -- and the other way: such records are read
  next-back : (go : Where → ℕ → ℕ → ℕ → List ℕ → Result Side) (w : Where) (due count p k b c n : ℕ) (rest : List ℕ) (t : TermRecord) → term_record D p k b ≡ good t → May w t
      → count + record_words t ≤ ceiling w
      → read_term_record D go w due count p (next_is k b c n rest) ≡ if_good (go (after w t) (record_parts t + due) (count + record_words t) (p + n) rest) (add_record t)
  next-back go w due count p k b c n rest t e m l =
      ap (λ (r : Result TermRecord). if_good r (λ t. if_good (allowed w p t) (λ v. choose (leb (count + record_words t) (ceiling w)) (λ u. if_good (go v (record_parts t + due) (count + record_words t) (p + n) rest) (add_record t)) (λ u. refuse 8 p)))) e
      ∙ ap (λ (r : Result Where). if_good r (λ v. choose (leb (count + record_words t) (ceiling w)) (λ u. if_good (go v (record_parts t + due) (count + record_words t) (p + n) rest) (add_record t)) (λ u. refuse 8 p))) (allowed-back w p t m)
      ∙ ap (λ (x : Bool). choose x (λ u. if_good (go (after w t) (record_parts t + due) (count + record_words t) (p + n) rest) (add_record t)) (λ u. refuse 8 p)) (leb-true (count + record_words t) (ceiling w) l)

  side-end : (fuel : ℕ) (w : Where) (count p : ℕ) (rest : List ℕ) → read_side D fuel w 0 count p rest ≡ good (record { records = []; seen = w; from = p; rest = rest })
  side-end zero w count p rest = refl
  side-end (suc fuel) w count p rest = refl

  side-back : (ks : List TermRecord) (due : ℕ) → Balanced D due ks → AllTok D ks → (fuel : ℕ) (w : Where) (count p : ℕ) (rest : List ℕ) → length ks ≤ fuel → MayAll w ks
      → count + words_toks ks ≤ ceiling w
      → read_side D fuel w due count p (bytes_toks ks ++ rest) ≡ good (record { records = ks; seen = afters w ks; from = p + length (bytes_toks ks); rest = rest })
  side-back [] zero h a fuel w count p rest f m l =
      let e : p ≡ p + 0 = omega arith in
      side-end fuel w count p rest ∙ ap (λ (i : ℕ). good (record { records = []; seen = w; from = i; rest = rest })) e
  side-back [] (suc due) h a fuel w count p rest f m l = absurd h
  side-back (k ∷ ks) zero h a fuel w count p rest f m l = absurd h
  side-back (k ∷ ks) (suc due) h a zero w count p rest f m l = absurd (omega (arith, f))
  side-back (k ∷ ks) (suc due) h a (suc fuel) w count p rest f m l =
      let r = tok-back D k p (bytes_toks ks ++ rest) a.0 in
      let c = same-ceiling w k in
      let e = length-append (bytes_tok k) (bytes_toks ks) in
      let q : p + length (bytes_tok k) + length (bytes_toks ks) ≡ p + length (bytes_tok k ++ bytes_toks ks) = omega (arith, e) in
      ap (λ (x : List ℕ). read_term_record D (read_side D fuel) w due count p (next_record x)) (append_assoc (bytes_tok k) (bytes_toks ks) rest)
      ∙ ap (read_term_record D (read_side D fuel) w due count p) r.read
      ∙ next-back (read_side D fuel) w due count p r.kind r.number 0 (length (bytes_tok k)) (bytes_toks ks ++ rest) k r.is m.0 (omega (arith, l))
      ∙ ap (λ (x : Result Side). if_good x (add_record k))
      (side-back ks (record_parts k + due) h a.1 fuel (after w k) (count + record_words k) (p + length (bytes_tok k)) rest (omega (arith, f)) m.1 (omega (arith, l, c)))
      ∙ ap (λ (i : ℕ). good (record { records = k ∷ ks; seen = afters (after w k) ks; from = i; rest = rest })) q

-- THE SAME OVER TERMS
pub ok-map : {A : Type 0} (P Q : A → Type 0) (r : Result A) → ((a : A) → P a → Q a) → Ok P r → Ok Q r
ok-map P Q (refused x) f h = tt
ok-map P Q (good a) f h = f a h

ok-both : {A : Type 0} (P Q R : A → Type 0) (r : Result A) → ((a : A) → P a → Q a → R a) → Ok P r → Ok Q r → Ok R r
ok-both P Q R (refused x) f h k = tt
ok-both P Q R (good a) f h k = f a h k

-- a record has a byte at least
some_byte : (t : TermRecord) → 1 ≤ length (bytes_tok t)
some_byte (constant_record b) = omega arith
some_byte succ_record = omega arith
some_byte if_record = omega arith
some_byte (variable_record x) = omega arith
some_byte (raise_record e) = omega arith
some_byte (handle_record e) = omega arith
some_byte (call_record k n) = go (ltb k 16)
  where
    go : (b : Bool) → 1 ≤ length (pick b (0x18 ∷ k ∷ []) (0x19 ∷ (k - 16) ∷ []))
    go true = omega arith
    go false = omega arith

no_longer : (ks : List TermRecord) → length ks ≤ length (bytes_toks ks)
no_longer [] = omega arith
no_longer (k ∷ ks) =
    let a = some_byte k in
    let b = no_longer ks in
    let e = length-append (bytes_tok k) (bytes_toks ks) in
    omega (arith, a, b, e)

-- the terms that are read: as many as are due, over what is declared, and their bytes and words
record Reads (D : Declared) (w : Where) (due count p : ℕ) (bs : List ℕ) (s : Side) : Type 0 where
  number : many (terms_from s.records) ≡ due
  over : AllOverDeclared D (terms_from s.records)
  may : MayAll w (flats (terms_from s.records))
  seen : s.seen ≡ afters w (flats (terms_from s.records))
  spelt : bs ≡ encodes (terms_from s.records) ++ s.rest
  place : s.from ≡ p + length (encodes (terms_from s.records))
  room : count ≤ ceiling w → count + terms_words (terms_from s.records) ≤ ceiling w

module _ (D : Declared) where
  side-reads : (fuel : ℕ) (w : Where) (due count p : ℕ) (bs : List ℕ) → Ok (Reads D w due count p bs) (read_side D fuel w due count p bs)
  side-reads fuel w due count p bs =
      ok-both (SideOk D due) (SideIs w count p bs) (Reads D w due count p bs) (read_side D fuel w due count p bs) make (side-ok D fuel w due count p bs) (side-is D fuel w due count p bs)
    where
      make : (s : Side) → SideOk D due s → SideIs w count p bs s → Reads D w due count p bs s
      make s o i =
          let ts = terms_from s.records in
          let e : s.records ≡ flats ts = sym (build-flats D s.records due o.0) in
          let y : bytes_toks s.records ≡ encodes ts = ap bytes_toks e ∙ flats-bytes ts in
          let v : words_toks s.records ≡ terms_words ts = ap words_toks e ∙ flats-words ts in
          record {
            number = build-many D s.records due o.0;
            over = build-ok D s.records due o.0 o.1;
            may = subst (MayAll w) e i.may;
            seen = i.seen ∙ ap (afters w) e;
            spelt = i.spelt ∙ ap (◌++ s.rest) y;
            place = i.place ∙ ap (λ (l : List ℕ). p + length l) y;
            room = λ l. (let m = i.room l in omega (arith, m, v));
          }

  terms-back : (ts : Terms) → AllOverDeclared D ts → (fuel : ℕ) (w : Where) (count p : ℕ) (rest : List ℕ) → length (encodes ts) ≤ fuel → MayAll w (flats ts)
      → count + terms_words ts ≤ ceiling w
      → read_side D fuel w (many ts) count p (encodes ts ++ rest) ≡ good (record { records = flats ts; seen = afters w (flats ts); from = p + length (encodes ts); rest = rest })
  terms-back ts o fuel w count p rest f m l =
      let y = flats-bytes ts in
      let v = flats-words ts in
      let a = no_longer (flats ts) in
      let b : length (bytes_toks (flats ts)) ≡ length (encodes ts) = ap length y in
      ap (λ (x : List ℕ). read_side D fuel w (many ts) count p (x ++ rest)) (sym y)
      ∙ side-back D (flats ts) (many ts) (flats-due D ts) (flats-ok D ts o) fuel w count p rest (omega (arith, a, b, f)) m (omega (arith, v, l))
      ∙ ap (λ (i : ℕ). good (record { records = flats ts; seen = afters w (flats ts); from = p + i; rest = rest })) b

-- WHAT MAY STAND, in terms of variables. In a question none:
asked-none : (ks : List TermRecord) → MayAll in_question ks → vars_toks ks ≡ []
asked-none [] h = refl
asked-none (constant_record b ∷ ks) h = asked-none ks h.1
asked-none (succ_record ∷ ks) h = asked-none ks h.1
asked-none (if_record ∷ ks) h = asked-none ks h.1
asked-none (variable_record x ∷ ks) h = absurd h.0
asked-none (raise_record e ∷ ks) h = asked-none ks h.1
asked-none (handle_record e ∷ ks) h = asked-none ks h.1
asked-none (call_record k n ∷ ks) h = asked-none ks h.1

none-asked : (ks : List TermRecord) → vars_toks ks ≡ [] → MayAll in_question ks
none-asked [] h = tt
none-asked (constant_record b ∷ ks) h = (tt, none-asked ks h)
none-asked (succ_record ∷ ks) h = (tt, none-asked ks h)
none-asked (if_record ∷ ks) h = (tt, none-asked ks h)
none-asked (variable_record x ∷ ks) h = absurd (let z = ap length h in omega (arith, z))
none-asked (raise_record e ∷ ks) h = (tt, none-asked ks h)
none-asked (handle_record e ∷ ks) h = (tt, none-asked ks h)
none-asked (call_record k n ∷ ks) h = (tt, none-asked ks h)

-- on a right side those of the left:
right-in : (xs : List ℕ) (ks : List TermRecord) → MayAll (on_right xs) ks → AllIn (vars_toks ks) xs
right-in xs [] h = tt
right-in xs (constant_record b ∷ ks) h = right-in xs ks h.1
right-in xs (succ_record ∷ ks) h = right-in xs ks h.1
right-in xs (if_record ∷ ks) h = right-in xs ks h.1
right-in xs (variable_record x ∷ ks) h = (h.0, right-in xs ks h.1)
right-in xs (raise_record e ∷ ks) h = right-in xs ks h.1
right-in xs (handle_record e ∷ ks) h = right-in xs ks h.1
right-in xs (call_record k n ∷ ks) h = right-in xs ks h.1

in_right : (xs : List ℕ) (ks : List TermRecord) → AllIn (vars_toks ks) xs → MayAll (on_right xs) ks
in_right xs [] h = tt
in_right xs (constant_record b ∷ ks) h = (tt, in_right xs ks h)
in_right xs (succ_record ∷ ks) h = (tt, in_right xs ks h)
in_right xs (if_record ∷ ks) h = (tt, in_right xs ks h)
in_right xs (variable_record x ∷ ks) h = (h.0, in_right xs ks h.1)
in_right xs (raise_record e ∷ ks) h = (tt, in_right xs ks h)
in_right xs (handle_record e ∷ ks) h = (tt, in_right xs ks h)
in_right xs (call_record k n ∷ ks) h = (tt, in_right xs ks h)

-- on a left side each one once; they are kept in the order in which they were seen, the last first
abbrev Fresh : List ℕ → List ℕ → Type 0
Fresh xs [] = Unit {0}
Fresh xs (v ∷ vs) = (elem v xs ≡ false) × Fresh (v ∷ xs) vs

abbrev pub onto : List ℕ → List ℕ → List ℕ
onto [] xs = xs
onto (v ∷ vs) xs = onto vs (v ∷ xs)

left-all : (xs : List ℕ) (ks : List TermRecord) → MayAll (on_left xs) ks → AllLeft ks × Fresh xs (vars_toks ks)
left-all xs [] h = (tt, tt)
left-all xs (constant_record b ∷ ks) h = let i = left-all xs ks h.1 in ((tt, i.0), i.1)
left-all xs (succ_record ∷ ks) h = let i = left-all xs ks h.1 in ((tt, i.0), i.1)
left-all xs (if_record ∷ ks) h = absurd h.0
left-all xs (variable_record x ∷ ks) h = let i = left-all (x ∷ xs) ks h.1 in ((tt, i.0), (h.0, i.1))
left-all xs (raise_record e ∷ ks) h = absurd h.0
left-all xs (handle_record e ∷ ks) h = absurd h.0
left-all xs (call_record k n ∷ ks) h = absurd h.0

all_left : (xs : List ℕ) (ks : List TermRecord) → AllLeft ks → Fresh xs (vars_toks ks) → MayAll (on_left xs) ks × (afters (on_left xs) ks ≡ on_left (onto (vars_toks ks) xs))
all_left xs [] h f = (tt, refl)
all_left xs (constant_record b ∷ ks) h f = let i = all_left xs ks h.1 f in ((tt, i.0), i.1)
all_left xs (succ_record ∷ ks) h f = let i = all_left xs ks h.1 f in ((tt, i.0), i.1)
all_left xs (if_record ∷ ks) h f = absurd h.0
all_left xs (variable_record x ∷ ks) h f = let i = all_left (x ∷ xs) ks h.1 f.1 in ((f.0, i.0), i.1)
all_left xs (raise_record e ∷ ks) h f = absurd h.0
all_left xs (handle_record e ∷ ks) h f = absurd h.0
all_left xs (call_record k n ∷ ks) h f = absurd h.0

pub or-first : (a b : Bool) → (a || b) ≡ false → a ≡ false
or-first true b e = e
or-first false b e = refl

pub or-second : (a b : Bool) → (a || b) ≡ false → b ≡ false
or-second true b e = absurd (false≢true (sym e))
or-second false b e = e

or-none : (a b : Bool) → a ≡ false → b ≡ false → (a || b) ≡ false
or-none a b e f = ap (λ (x : Bool). x || b) e ∙ f

or_swap : (a b c : Bool) → (a || (b || c)) ≡ ((b || a) || c)
or_swap true true c = refl
or_swap true false c = refl
or_swap false true c = refl
or_swap false false c = refl

or_nothing : (a : Bool) → (a || false) ≡ a
or_nothing true = refl
or_nothing false = refl

eqb-turn : (m n : ℕ) → eqb m n ≡ false → eqb n m ≡ false
eqb-turn m n e = eqb-false n m (λ q. ne-of-eqb m n e (sym q))

fresh-distinct : (xs vs : List ℕ) → Fresh xs vs → Each (λ v. elem v xs ≡ false) vs × Distinct vs
fresh-distinct xs [] h = (tt, tt)
fresh-distinct xs (v ∷ vs) h =
    let i = fresh-distinct (v ∷ xs) vs h.1 in
    ((h.0, others vs i.0), (apart vs i.0, i.1))
  where
    others : (us : List ℕ) → Each (λ u. (eqb v u || elem u xs) ≡ false) us → Each (λ u. elem u xs ≡ false) us
    others [] e = tt
    others (u ∷ us) e = (or-second (eqb v u) (elem u xs) e.0, others us e.1)

    apart : (us : List ℕ) → Each (λ u. (eqb v u || elem u xs) ≡ false) us → elem v us ≡ false
    apart [] e = refl
    apart (u ∷ us) e = or-none (eqb u v) (elem v us) (eqb-turn v u (or-first (eqb v u) (elem u xs) e.0)) (apart us e.1)

distinct-fresh : (xs vs : List ℕ) → Each (λ v. elem v xs ≡ false) vs → Distinct vs → Fresh xs vs
distinct-fresh xs [] h d = tt
distinct-fresh xs (v ∷ vs) h d = (h.0, distinct-fresh (v ∷ xs) vs (more vs d.0 h.1) d.1)
  where
    more : (us : List ℕ) → elem v us ≡ false → Each (λ u. elem u xs ≡ false) us → Each (λ u. (eqb v u || elem u xs) ≡ false) us
    more [] e f = tt
    more (u ∷ us) e f = (or-none (eqb v u) (elem u xs) (eqb-turn u v (or-first (eqb u v) (elem v us) e)) f.0, more us (or-second (eqb u v) (elem v us) e) f.1)

none_seen : (vs : List ℕ) → Each (λ v. elem v [] ≡ false) vs
none_seen [] = tt
none_seen (v ∷ vs) = (refl, none_seen vs)

elem-onto : (x : ℕ) (vs xs : List ℕ) → elem x (onto vs xs) ≡ (elem x vs || elem x xs)
elem-onto x [] xs = refl
elem-onto x (v ∷ vs) xs = elem-onto x vs (v ∷ xs) ∙ or_swap (elem x vs) (eqb v x) (elem x xs)

pub all_in : (xs ys zs : List ℕ) → ((x : ℕ) → elem x ys ≡ elem x zs) → AllIn xs ys → AllIn xs zs
all_in [] ys zs e h = tt
all_in (x ∷ xs) ys zs e h = (sym (e x) ∙ h.0, all_in xs ys zs e h.1)

pub seen_same : (x : ℕ) (vs : List ℕ) → elem x (onto vs []) ≡ elem x vs
seen_same x vs = elem-onto x vs [] ∙ or_nothing (elem x vs)

-- variables 0 to 7, on a left side
module _ (D : Declared) where
  each_append : (xs ys : List ℕ) → Each (λ x. x ≤ 7) xs → Each (λ x. x ≤ 7) ys → Each (λ x. x ≤ 7) (xs ++ ys)
  each_append [] ys h k = k
  each_append (x ∷ xs) ys h k = (h.0, each_append xs ys h.1 k)

  pat-low : (p : Pat) → OverDeclared D (term_of p) → Each (λ x. x ≤ 7) (pat_vars p)
  pat-low (pbase b) h = tt
  pat-low (psucc p) h = pat-low p h
  pat-low (pvar x) h = (h, tt)

  pats-low : (ps : List Pat) → AllOverDeclared D (terms_of ps) → Each (λ x. x ≤ 7) (pats_vars ps)
  pats-low [] h = tt
  pats-low (p ∷ ps) h = each_append (pat_vars p) (pats_vars ps) (pat-low p h.0) (pats-low ps h.1)

  low-pat : (p : Pat) → Each (λ x. x ≤ 7) (pat_vars p) → OverDeclared D (term_of p)
  low-pat (pbase b) h = tt
  low-pat (psucc p) h = low-pat p h
  low-pat (pvar x) h = h.0

  pub low-pats : (ps : List Pat) → Each (λ x. x ≤ 7) (pats_vars ps) → AllOverDeclared D (terms_of ps)
  low-pats [] h = tt
  low-pats (p ∷ ps) h = (low-pat p (each_first (λ x. x ≤ 7) (pat_vars p) (pats_vars ps) h), low-pats ps (each-later (λ x. x ≤ 7) (pat_vars p) (pats_vars ps) h))

-- ONE TERM, on a right side or in a question
alone : (ts : Terms) → many ts ≡ 1 → ts ≡ tcons (nth_term ts 0) tnil
alone tnil e = absurd (omega (arith, e))
alone (tcons t tnil) e = refl
alone (tcons t (tcons u ts)) e = absurd (omega (arith, e))

pub record TermReads (D : Declared) (w : Where) (count p : ℕ) (bs : List ℕ) (s : Side) : Type 0 where
  pub over : OverDeclared D (nth_term (terms_from s.records) 0)
  pub may : MayAll w (flats (tcons (nth_term (terms_from s.records) 0) tnil))
  pub spelt : bs ≡ encode (nth_term (terms_from s.records) 0) ++ s.rest
  pub place : s.from ≡ p + length (encode (nth_term (terms_from s.records) 0))
  pub room : count ≤ ceiling w → count + term_words (nth_term (terms_from s.records) 0) ≤ ceiling w

module _ (D : Declared) where
  pub term-reads : (fuel : ℕ) (w : Where) (count p : ℕ) (bs : List ℕ) → Ok (TermReads D w count p bs) (read_side D fuel w 1 count p bs)
  term-reads fuel w count p bs = ok-map (Reads D w 1 count p bs) (TermReads D w count p bs) (read_side D fuel w 1 count p bs) make (side-reads D fuel w 1 count p bs)
    where
      make : (s : Side) → Reads D w 1 count p bs s → TermReads D w count p bs s
      make s r =
          let ts = terms_from s.records in
          let t = nth_term ts 0 in
          let e : ts ≡ tcons t tnil = alone ts r.number in
          let y : encodes ts ≡ encode t = ap encodes e ∙ append-nil (encode t) in
          let v : terms_words ts ≡ term_words t + 0 = ap terms_words e in
          record {
            over = (subst (AllOverDeclared D) e r.over).0;
            may = subst (λ (us : Terms). MayAll w (flats us)) e r.may;
            spelt = r.spelt ∙ ap (◌++ s.rest) y;
            place = r.place ∙ ap (λ (l : List ℕ). p + length l) y;
            room = λ l. (let m = r.room l in omega (arith, m, v));
          }

  pub term-back : (t : Term) → OverDeclared D t → (fuel : ℕ) (w : Where) (count p : ℕ) (rest : List ℕ) → length (encode t) ≤ fuel → MayAll w (flats (tcons t tnil))
      → count + term_words t ≤ ceiling w
      → read_side D fuel w 1 count p (encode t ++ rest) ≡ good (record { records = flats (tcons t tnil); seen = afters w (flats (tcons t tnil)); from = p + length (encode t); rest = rest })
  term-back t o fuel w count p rest f m l =
      let y = append-nil (encode t) in
      let g : length (encode t ++ []) ≡ length (encode t) = ap length y in
      ap (λ (x : List ℕ). read_side D fuel w 1 count p (x ++ rest)) (sym y)
      ∙ terms-back D (tcons t tnil) (o, tt) fuel w count p rest (omega (arith, f, g)) m (omega (arith, l))
      ∙ ap (λ (i : ℕ). good (record { records = flats (tcons t tnil); seen = afters w (flats (tcons t tnil)); from = p + i; rest = rest })) g

  pub built : (t : Term) → nth_term (terms_from (flats (tcons t tnil))) 0 ≡ t
  built t = ap (λ (us : Terms). nth_term us 0) (flats-build (tcons t tnil))

-- THE SIDES OF A RULE, and a question
pub record LeftReads (D : Declared) (a p : ℕ) (bs : List ℕ) (s : Side) : Type 0 where
  pub arguments : length (pats_of (terms_from s.records)) ≡ a
  pub variables : Each (λ x. x ≤ 7) (pats_vars (pats_of (terms_from s.records)))
  pub once : Distinct (pats_vars (pats_of (terms_from s.records)))
  pub words : 1 + pats_words (pats_of (terms_from s.records)) ≤ 32
  pub seen : (x : ℕ) → elem x (vars_of s.seen) ≡ elem x (pats_vars (pats_of (terms_from s.records)))
  pub spelt : bs ≡ encode_pats (pats_of (terms_from s.records)) ++ s.rest
  pub place : s.from ≡ p + length (encode_pats (pats_of (terms_from s.records)))

pub record RightReads (D : Declared) (xs : List ℕ) (p : ℕ) (bs : List ℕ) (s : Side) : Type 0 where
  pub over : OverDeclared D (nth_term (terms_from s.records) 0)
  pub variables : AllIn (term_vars (nth_term (terms_from s.records) 0)) xs
  pub words : term_words (nth_term (terms_from s.records) 0) ≤ 128
  pub spelt : bs ≡ encode (nth_term (terms_from s.records) 0) ++ s.rest
  pub place : s.from ≡ p + length (encode (nth_term (terms_from s.records) 0))

one-vars : (t : Term) → vars_toks (flats (tcons t tnil)) ≡ term_vars t
one-vars t = flats-vars (tcons t tnil) ∙ append-nil (term_vars t)

module _ (D : Declared) where
  pub left-reads : (fuel a p : ℕ) (bs : List ℕ) → Ok (LeftReads D a p bs) (read_side D fuel (on_left []) a 1 p bs)
  left-reads fuel a p bs = ok-map (Reads D (on_left []) a 1 p bs) (LeftReads D a p bs) (read_side D fuel (on_left []) a 1 p bs) make (side-reads D fuel (on_left []) a 1 p bs)
    where
      make : (s : Side) → Reads D (on_left []) a 1 p bs s → LeftReads D a p bs s
      make s r =
          let ts = terms_from s.records in
          let ps = pats_of ts in
          let m = left-all [] (flats ts) r.may in
          let e : ts ≡ terms_of ps = sym (left-pats ts m.0) in
          let y : encodes ts ≡ encode_pats ps = ap encodes e ∙ pats-bytes ps in
          let v : terms_words ts ≡ pats_words ps = ap terms_words e ∙ pats-words ps in
          let x : vars_toks (flats ts) ≡ pats_vars ps = flats-vars ts ∙ ap terms_vars e ∙ pats-vars ps in
          let n = r.room (omega arith) in
          record {
            arguments = sym (pats-many ps) ∙ ap many (sym e) ∙ r.number;
            variables = pats-low D ps (subst (AllOverDeclared D) e r.over);
            once = subst Distinct x (fresh-distinct [] (vars_toks (flats ts)) m.1).1;
            words = omega (arith, n, v);
            seen = λ i. ap (λ (w : Where). elem i (vars_of w)) (r.seen ∙ (all_left [] (flats ts) m.0 m.1).1) ∙ seen_same i (vars_toks (flats ts)) ∙ ap (elem i) x;
            spelt = r.spelt ∙ ap (◌++ s.rest) y;
            place = r.place ∙ ap (λ (l : List ℕ). p + length l) y;
          }

  pub left_back : (ps : List Pat) → Each (λ x. x ≤ 7) (pats_vars ps) → Distinct (pats_vars ps) → 1 + pats_words ps ≤ 32 → (fuel p : ℕ) (rest : List ℕ)
      → length (encode_pats ps) ≤ fuel
      → read_side D fuel (on_left []) (length ps) 1 p (encode_pats ps ++ rest)
      ≡ good (record { records = flats (terms_of ps); seen = on_left (onto (pats_vars ps) []); from = p + length (encode_pats ps); rest = rest })
  left_back ps low once l fuel p rest f =
      let ts = terms_of ps in
      let y = pats-bytes ps in
      let v = pats-words ps in
      let x : vars_toks (flats ts) ≡ pats_vars ps = flats-vars ts ∙ pats-vars ps in
      let d = distinct-fresh [] (pats_vars ps) (none_seen (pats_vars ps)) once in
      let m = all_left [] (flats ts) (pats-left ps) (subst (Fresh []) (sym x) d) in
      let g : length (encodes ts) ≡ length (encode_pats ps) = ap length y in
      ap₂ (λ (n : ℕ) (q : List ℕ). read_side D fuel (on_left []) n 1 p (q ++ rest)) (sym (pats-many ps)) (sym y)
      ∙ terms-back D ts (low-pats D ps low) fuel (on_left []) 1 p rest (omega (arith, f, g)) m.0 (omega (arith, l, v))
      ∙ ap₂ (λ (w : Where) (i : ℕ). good (record { records = flats ts; seen = w; from = p + i; rest = rest })) (m.1 ∙ ap (λ (q : List ℕ). on_left (onto q [])) x) g

  pub right-reads : (fuel : ℕ) (xs : List ℕ) (p : ℕ) (bs : List ℕ) → Ok (RightReads D xs p bs) (read_side D fuel (on_right xs) 1 0 p bs)
  right-reads fuel xs p bs = ok-map (TermReads D (on_right xs) 0 p bs) (RightReads D xs p bs) (read_side D fuel (on_right xs) 1 0 p bs) make (term-reads D fuel (on_right xs) 0 p bs)
    where
      make : (s : Side) → TermReads D (on_right xs) 0 p bs s → RightReads D xs p bs s
      make s r =
          let t = nth_term (terms_from s.records) 0 in
          let n = r.room (omega arith) in
          record {
            over = r.over;
            variables = subst (λ (q : List ℕ). AllIn q xs) (one-vars t) (right-in xs (flats (tcons t tnil)) r.may);
            words = omega (arith, n);
            spelt = r.spelt;
            place = r.place;
          }

  pub right-back : (t : Term) (xs : List ℕ) → OverDeclared D t → AllIn (term_vars t) xs → term_words t ≤ 128 → (fuel p : ℕ) (rest : List ℕ) → length (encode t) ≤ fuel
      → read_side D fuel (on_right xs) 1 0 p (encode t ++ rest)
      ≡ good (record { records = flats (tcons t tnil); seen = afters (on_right xs) (flats (tcons t tnil)); from = p + length (encode t); rest = rest })
  right-back t xs o i l fuel p rest f =
      term-back D t o fuel (on_right xs) 0 p rest f (in_right xs (flats (tcons t tnil)) (subst (λ (q : List ℕ). AllIn q xs) (sym (one-vars t)) i)) (omega (arith, l))

  pub asked-reads : (fuel p : ℕ) (bs : List ℕ) → Ok (λ s. TermReads D in_question 0 p bs s × (term_vars (nth_term (terms_from s.records) 0) ≡ [])) (read_side D fuel in_question 1 0 p bs)
  asked-reads fuel p bs =
      ok-map (TermReads D in_question 0 p bs) (λ s. TermReads D in_question 0 p bs s × (term_vars (nth_term (terms_from s.records) 0) ≡ [])) (read_side D fuel in_question 1 0 p bs)
      (λ s r. (let t = nth_term (terms_from s.records) 0 in (r, sym (one-vars t) ∙ asked-none (flats (tcons t tnil)) r.may))) (term-reads D fuel in_question 0 p bs)

  pub asked-back : (t : Term) → OverDeclared D t → term_vars t ≡ [] → term_words t ≤ 512 → (fuel p : ℕ) (rest : List ℕ) → length (encode t) ≤ fuel
      → read_side D fuel in_question 1 0 p (encode t ++ rest)
      ≡ good (record { records = flats (tcons t tnil); seen = afters in_question (flats (tcons t tnil)); from = p + length (encode t); rest = rest })
  asked-back t o n l fuel p rest f = term-back D t o fuel in_question 0 p rest f (none-asked (flats (tcons t tnil)) (one-vars t ∙ n)) (omega (arith, l))
