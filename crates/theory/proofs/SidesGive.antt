-- What the records of a side give: as many terms as are due, over what is declared.
use Prim.Native.Nat.{ℕ, zero, suc, ◌+◌, ◌<◌, ◌≤◌}
use mathlib.Core.Path.{◌≡◌, refl, sym, ap, subst}
use mathlib.Core.Logic.{inl, inr}
use mathlib.Core.Bool.{Bool, true, false}
use mathlib.Core.List.{List, [], ◌∷◌}
use native.Mathlib.Omega.{arith}
use lib.Dec.{T, leb}
use Rattle.theory.specs.Syntax.{Terms, tnil, tcons, many, choose}
use Rattle.theory.specs.Bytes.{TermRecord, constant_record, succ_record, if_record, variable_record, raise_record, handle_record, call_record, record_parts, record_words, first_terms, later_terms, nth_term, term_from, terms_from, NextRecord, none_left, cut_short, next_is, next_record, Result, refused, good, if_good, Declared, term_record, Where, allowed, ceiling, Side, add_record, read_term_record, read_side, or_refuse}
use Rattle.theory.specs.Encoding.{Callable, OverDeclared, AllOverDeclared}
use Rattle.theory.proofs.RecordRead.{RecordRead, record-read}

-- a fact of what is read, where nothing is refused
abbrev pub Ok : {A : Type 0} → (A → Type 0) → Result A → Type 0
Ok Q (refused r) = Unit {0}
Ok Q (good a) = Q a

pub any : {A : Type 0} (r : Result A) → Ok (λ x. Unit {0}) r
any (refused x) = tt
any (good a) = tt

pub choose-ok : {A : Type 0} (Q : A → Type 0) (b : Bool) (x y : Unit {0} → Result A) → (T b → Ok Q (x tt)) → Ok Q (y tt) → Ok Q (choose b x y)
choose-ok Q true x y h k = h tt
choose-ok Q false x y h k = k

pub within-ok : {A : Type 0} (Q : A → Type 0) (b : Bool) (n p : ℕ) (x : Unit {0} → Result A) → (T b → Ok Q (x tt)) → Ok Q (or_refuse b n p x)
within-ok Q true n p x h = h tt
within-ok Q false n p x h = tt

pub also-ok : {A B : Type 0} (Q : A → Type 0) (R : B → Type 0) (r : Result A) (f : A → Result B) → Ok Q r → ((a : A) → Q a → Ok R (f a)) → Ok R (if_good r f)
also-ok Q R (refused x) f h k = tt
also-ok Q R (good a) f h k = k a h

-- what holds of a thing that was read
pub ok_of : {A : Type 0} (Q : A → Type 0) (r : Result A) (a : A) → Ok Q r → r ≡ good a → Q a
ok_of Q r a h e = subst (Ok Q) e h

-- what the records of a term give: a term over what is declared
module _ (D : Declared) where
  abbrev pub TokOk : TermRecord → Type 0
  TokOk (constant_record b) = Unit {0}
  TokOk succ_record = Unit {0}
  TokOk if_record = Unit {0}
  TokOk (variable_record x) = x ≤ 7
  TokOk (raise_record e) = e < D.exceptions
  TokOk (handle_record e) = e < D.exceptions
  TokOk (call_record k n) = Callable D k n

  tok-ok : (p k b : ℕ) → Ok TokOk (term_record D p k b)
  tok-ok p k b = ok (term_record D p k b) (record-read D p k b)
    where
      ok : (r : Result TermRecord) → RecordRead D p k b r → Ok TokOk r
      ok (refused r) h = tt
      ok (good (constant_record c)) h = tt
      ok (good succ_record) h = tt
      ok (good if_record) h = tt
      ok (good (variable_record x)) h = h.2
      ok (good (raise_record e)) h = h.2
      ok (good (handle_record e)) h = h.2
      ok (good (call_record f n)) (inl h) = inl (h.2, h.3)
      ok (good (call_record f n)) (inr h) = inr (b, h.1, h.2, h.3)

  -- the records of a side: as many as make the terms that are due
  abbrev pub Balanced : ℕ → List TermRecord → Type 0
  Balanced zero [] = Unit {0}
  Balanced zero (k ∷ ks) = ⊥
  Balanced (suc n) [] = ⊥
  Balanced (suc n) (k ∷ ks) = Balanced (record_parts k + n) ks

  abbrev pub AllTok : List TermRecord → Type 0
  AllTok [] = Unit {0}
  AllTok (k ∷ ks) = TokOk k × AllTok ks

  abbrev pub SideOk : ℕ → Side → Type 0
  SideOk due s = Balanced due s.records × AllTok s.records

  on_next-ok : (go : Where → ℕ → ℕ → ℕ → List ℕ → Result Side) (w : Where) (due count p : ℕ) (x : NextRecord)
      → ((w : Where) (due count p : ℕ) (bs : List ℕ) → Ok (SideOk due) (go w due count p bs)) → Ok (SideOk (suc due)) (read_term_record D go w due count p x)
  on_next-ok go w due count p none_left h = tt
  on_next-ok go w due count p cut_short h = tt
  on_next-ok go w due count p (next_is k b c n bs) h =
      also-ok TokOk (SideOk (suc due)) (term_record D p k b) _ (tok-ok p k b)
      (λ t ht. also-ok (λ x. Unit {0}) (SideOk (suc due)) (allowed w p t) _ (any (allowed w p t))
      (λ w' u. choose-ok (SideOk (suc due)) (leb (count + record_words t) (ceiling w)) _ _
      (λ l. also-ok (SideOk (record_parts t + due)) (SideOk (suc due)) (go w' (record_parts t + due) (count + record_words t) (p + n) bs) (add_record t)
      (h w' (record_parts t + due) (count + record_words t) (p + n) bs) (λ s hs. (hs.0, (ht, hs.1)))) tt))

  pub side-ok : (fuel : ℕ) (w : Where) (due count p : ℕ) (bs : List ℕ) → Ok (SideOk due) (read_side D fuel w due count p bs)
  side-ok zero w zero count p bs = (tt, tt)
  side-ok zero w (suc due) count p bs = tt
  side-ok (suc fuel) w zero count p bs = (tt, tt)
  side-ok (suc fuel) w (suc due) count p bs = on_next-ok (read_side D fuel) w due count p (next_record bs) (side-ok fuel)

  -- building
  many-others : (a n : ℕ) (ts : Terms) → many ts ≡ a + n → many (later_terms a ts) ≡ n
  many-others zero n ts e = omega (arith, e)
  many-others (suc a) n tnil e = absurd (omega (arith, e))
  many-others (suc a) n (tcons t ts) e = many-others a n ts (omega (arith, e))

  pub many-first : (a n : ℕ) (ts : Terms) → many ts ≡ a + n → many (first_terms a ts) ≡ a
  many-first zero n ts e = refl
  many-first (suc a) n tnil e = absurd (omega (arith, e))
  many-first (suc a) n (tcons t ts) e = ap suc (many-first a n ts (omega (arith, e)))

  pub build-many : (ks : List TermRecord) (n : ℕ) → Balanced n ks → many (terms_from ks) ≡ n
  build-many [] zero h = refl
  build-many [] (suc n) h = absurd h
  build-many (k ∷ ks) zero h = absurd h
  build-many (k ∷ ks) (suc n) h = ap suc (many-others (record_parts k) n (terms_from ks) (build-many ks (record_parts k + n) h))

  first-ok : (a : ℕ) (ts : Terms) → AllOverDeclared D ts → AllOverDeclared D (first_terms a ts)
  first-ok zero ts h = tt
  first-ok (suc a) tnil h = tt
  first-ok (suc a) (tcons t ts) h = (h.0, first-ok a ts h.1)

  others-ok : (a : ℕ) (ts : Terms) → AllOverDeclared D ts → AllOverDeclared D (later_terms a ts)
  others-ok zero ts h = h
  others-ok (suc a) tnil h = tt
  others-ok (suc a) (tcons t ts) h = others-ok a ts h.1

  term-ok : (ts : Terms) (i : ℕ) → AllOverDeclared D ts → OverDeclared D (nth_term ts i)
  term-ok tnil i h = tt
  term-ok (tcons t ts) zero h = h.0
  term-ok (tcons t ts) (suc i) h = term-ok ts i h.1

  make-ok : (k : TermRecord) (n : ℕ) (ts : Terms) → TokOk k → many ts ≡ record_parts k + n → AllOverDeclared D ts → OverDeclared D (term_from k ts)
  make-ok (constant_record b) n ts h e hs = tt
  make-ok succ_record n ts h e hs = term-ok ts 0 hs
  make-ok if_record n ts h e hs = (term-ok ts 0 hs, term-ok ts 1 hs, term-ok ts 2 hs)
  make-ok (variable_record x) n ts h e hs = h
  make-ok (raise_record x) n ts h e hs = h
  make-ok (handle_record x) n ts h e hs = (term-ok ts 0 hs, h, term-ok ts 1 hs)
  make-ok (call_record k m) n ts h e hs = (subst (Callable D k) (sym (many-first m n ts e)) h, first-ok m ts hs)

  pub build-ok : (ks : List TermRecord) (n : ℕ) → Balanced n ks → AllTok ks → AllOverDeclared D (terms_from ks)
  build-ok [] n h a = tt
  build-ok (k ∷ ks) zero h a = absurd h
  build-ok (k ∷ ks) (suc n) h a =
      let ih = build-ok ks (record_parts k + n) h a.1 in
      (make-ok k n (terms_from ks) a.0 (build-many ks (record_parts k + n) h) ih, others-ok (record_parts k) (terms_from ks) ih)
