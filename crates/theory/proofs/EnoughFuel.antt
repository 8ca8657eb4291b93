-- FUEL IS ALWAYS ENOUGH: where the readers have as much as there are bytes, more changes nothing.
use Prim.Native.Nat.{ℕ, zero, suc, ◌+◌, ◌≤◌}
use mathlib.Core.Path.{◌≡◌, refl, ap, ◌∙◌}
use mathlib.Core.Bool.{Bool, true, false, ◌&&◌}
use mathlib.Core.List.{List, [], ◌∷◌, ◌++◌}
use native.Mathlib.Omega.{arith}
use lib.Dec.{eqb, leb, ltb}
use lib.ListN.{length, length-append}
use Rattle.theory.specs.Syntax.{choose}
use Rattle.theory.specs.Bytes.{record_parts, record_words, nth_term, terms_from, NextRecord, none_left, cut_short, next_is, next_record, Result, refused, good, if_good, Declared, nth_arity, term_record, Where, on_left, on_right, allowed, ceiling, Side, add_record, read_term_record, read_side, RuleAt, pats_of, vars_of, Book, rule_count, or_refuse, read_rule, read_top_record, read_records}
use Rattle.theory.specs.Encoding.{encode, encode_pats}
use Rattle.theory.proofs.SidesGive.{Ok, any}
use Rattle.theory.proofs.SidesRead.{Spelt, IsNext, next-is, next-long, LeftReads, RightReads, left-reads, right-reads}
use Rattle.theory.proofs.ProgramRead.{with_exn, with_fun, with_rule}

-- the same results, from the same results of the parts
also-same : {A B : Type 0} (Q : A → Type 0) (r : Result A) (f g : A → Result B) → Ok Q r → ((a : A) → Q a → f a ≡ g a) → if_good r f ≡ if_good r g
also-same Q (refused x) f g h e = refl
also-same Q (good a) f g h e = e a h

choose-same : {A : Type 0} (b : Bool) (f g h k : Unit {0} → Result A) → f tt ≡ g tt → h tt ≡ k tt → choose b f h ≡ choose b g k
choose-same true f g h k e i = e
choose-same false f g h k e i = i

within_same : {A : Type 0} (b : Bool) (n p : ℕ) (f g : Unit {0} → Result A) → f tt ≡ g tt → or_refuse b n p f ≡ or_refuse b n p g
within_same true n p f g e = e
within_same false n p f g e = refl

-- behind a record there are fewer bytes
behind : (bs : List ℕ) (k b c n : ℕ) (rest : List ℕ) → Spelt bs k b c n rest → suc (length rest) ≤ length bs
behind bs k b c n rest i =
    let l = next-long bs k b c n rest i in
    let e = l.0 in
    let f = l.1 in
    omega (arith, e, f)

-- behind a part there are no more
no_more : (bs front rest : List ℕ) → bs ≡ front ++ rest → length rest ≤ length bs
no_more bs front rest e =
    let a : length bs ≡ length (front ++ rest) = ap length e in
    let b = length-append front rest in
    omega (arith, a, b)

module _ (D : Declared) where
  abbrev Enough : ℕ → ℕ → Type 0
  Enough fuel fuel' =
      (w : Where) (due count p : ℕ) (bs : List ℕ) → length bs ≤ fuel → length bs ≤ fuel' → read_side D fuel w due count p bs ≡ read_side D fuel' w due count p bs

  pub side-enough-fuel : (fuel fuel' : ℕ) (w : Where) (due count p : ℕ) (bs : List ℕ) → length bs ≤ fuel → length bs ≤ fuel'
      → read_side D fuel w due count p bs ≡ read_side D fuel' w due count p bs
  side-enough-fuel zero zero w due count p bs h k = refl
  side-enough-fuel zero (suc fuel') w zero count p bs h k = refl
  side-enough-fuel zero (suc fuel') w (suc due) count p [] h k = refl
  side-enough-fuel zero (suc fuel') w (suc due) count p (b ∷ bs) h k = absurd (omega (arith, h))
  side-enough-fuel (suc fuel) zero w zero count p bs h k = refl
  side-enough-fuel (suc fuel) zero w (suc due) count p [] h k = refl
  side-enough-fuel (suc fuel) zero w (suc due) count p (b ∷ bs) h k = absurd (omega (arith, k))
  side-enough-fuel (suc fuel) (suc fuel') w zero count p bs h k = refl
  side-enough-fuel (suc fuel) (suc fuel') w (suc due) count p bs h k = go (next_record bs) (next-is bs) (side-enough-fuel fuel fuel')
    where
      go : (x : NextRecord) → IsNext bs x → Enough fuel fuel' → read_term_record D (read_side D fuel) w due count p x ≡ read_term_record D (read_side D fuel') w due count p x
      go none_left i ih = refl
      go cut_short i ih = refl
      go (next_is v b c n rest) i ih =
          let l = behind bs v b c n rest i in
          also-same (λ t. Unit {0}) (term_record D p v b) _ _ (any (term_record D p v b))
          (λ t x. also-same (λ w'. Unit {0}) (allowed w p t) _ _ (any (allowed w p t))
          (λ w' y. choose-same (leb (count + record_words t) (ceiling w)) _ _ _ _
          (ap (λ (r : Result Side). if_good r (add_record t)) (ih w' (record_parts t + due) (count + record_words t) (p + n) rest (omega (arith, l, h)) (omega (arith, l, k)))) refl))

abbrev EnoughTop : ℕ → ℕ → Type 0
EnoughTop fuel fuel' = (s : Book) (p : ℕ) (bs : List ℕ) → length bs ≤ fuel → length bs ≤ fuel' → read_records fuel s p bs ≡ read_records fuel' s p bs

sides-enough : (fuel fuel' : ℕ) (s : Book) (b p0 p : ℕ) (bs : List ℕ) → length bs ≤ fuel → length bs ≤ fuel' → EnoughTop fuel fuel'
    → read_rule fuel s b p0 p bs (λ r q rest. read_records fuel (with_rule s r) q rest) ≡ read_rule fuel' s b p0 p bs (λ r q rest. read_records fuel' (with_rule s r) q rest)
sides-enough fuel fuel' s b p0 p bs h k ih =
    ap (λ (x : Result Side). if_good x (second fuel)) (side-enough-fuel D fuel fuel' (on_left []) a 1 p bs h k)
    ∙ also-same (LeftReads D a p bs) (read_side D fuel' (on_left []) a 1 p bs) (second fuel) (second fuel') (left-reads D fuel' a p bs)
    (λ l hl. (let i = no_more bs (encode_pats (pats_of (terms_from l.records))) l.rest hl.spelt in
    ap (λ (x : Result Side). if_good x (third fuel l)) (side-enough-fuel D fuel fuel' (on_right (vars_of l.seen)) 1 0 l.from l.rest (omega (arith, h, i)) (omega (arith, k, i)))
    ∙ also-same (RightReads D (vars_of l.seen) l.from l.rest) (read_side D fuel' (on_right (vars_of l.seen)) 1 0 l.from l.rest) (third fuel l) (third fuel' l)
    (right-reads D fuel' (vars_of l.seen) l.from l.rest)
    (λ r hr. (let j = no_more l.rest (encode (nth_term (terms_from r.records) 0)) r.rest hr.spelt in
    ih (with_rule s (made l r)) r.from r.rest (omega (arith, h, i, j)) (omega (arith, k, i, j))))))
  where
    D : Declared
    D = s.decls

    a : ℕ
    a = nth_arity s.decls.arities b

    made : Side → Side → RuleAt
    made l r = record { owner = b; opened = p0; sides = record { left = pats_of (terms_from l.records); right = nth_term (terms_from r.records) 0 } }

    third : ℕ → Side → Side → Result Book
    third f l r =
        read_records f (with_rule s (record { owner = b; opened = p0; sides = record { left = pats_of (terms_from l.records); right = nth_term (terms_from r.records) 0 } })) r.from r.rest

    second : ℕ → Side → Result Book
    second f l =
        if_good (read_side s.decls f (on_right (vars_of l.seen)) 1 0 l.from l.rest)
        (λ r. read_records f (with_rule s (record { owner = b; opened = p0; sides = record { left = pats_of (terms_from l.records); right = nth_term (terms_from r.records) 0 } })) r.from r.rest)

pub enough-fuel : (fuel fuel' : ℕ) (s : Book) (p : ℕ) (bs : List ℕ) → length bs ≤ fuel → length bs ≤ fuel' → read_records fuel s p bs ≡ read_records fuel' s p bs
enough-fuel zero zero s p bs h k = refl
enough-fuel zero (suc fuel') s p [] h k = refl
enough-fuel zero (suc fuel') s p (b ∷ bs) h k = absurd (omega (arith, h))
enough-fuel (suc fuel) zero s p [] h k = refl
enough-fuel (suc fuel) zero s p (b ∷ bs) h k = absurd (omega (arith, k))
enough-fuel (suc fuel) (suc fuel') s p bs h k = go (next_record bs) (next-is bs) (enough-fuel fuel fuel')
  where
    D : Declared
    D = s.decls

    go : (x : NextRecord) → IsNext bs x → EnoughTop fuel fuel' → read_top_record fuel (read_records fuel) s p x ≡ read_top_record fuel' (read_records fuel') s p x
    go none_left i ih = refl
    go cut_short i ih = refl
    go (next_is v b c n rest) i ih =
        let l = behind bs v b c n rest i in
        let f : length rest ≤ fuel = omega (arith, l, h) in
        let g : length rest ≤ fuel' = omega (arith, l, k) in
        choose-same (eqb v 1) _ _ _ _
        (within_same (eqb s.stage 0) 3 p _ _ (within_same (ltb D.exceptions 16) 9 p _ _ (within_same (eqb b D.exceptions) 4 p _ _ (ih (with_exn s) (p + n) rest f g))))
        (choose-same (eqb v 2) _ _ _ _
        (within_same (leb s.stage 1) 3 p _ _ (within_same (ltb (length D.arities) 32) 9 p _ _ (within_same (eqb b (length D.arities) && leb c 4) 4 p _ _ (ih (with_fun s c) (p + n) rest f g))))
        (choose-same (eqb v 3) _ _ _ _
        (within_same (ltb (rule_count s.rules_at) 64) 9 p _ _ (within_same (ltb b (length D.arities)) 4 p _ _ (sides-enough fuel fuel' s b p (p + n) rest f g ih))) refl))
