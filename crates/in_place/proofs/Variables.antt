-- Rules whose left side is a symbol on the variables in order, f(x1..xn): what they make of a term, where the right side is another symbol
-- on the same variables, or a guard with the test of one of them before it.
use mathlib.Core.Path.{◌≡◌, refl, sym, ap, ap₂, subst, ◌∙◌}
use mathlib.Core.Bool.{true, false, false≢true}
use mathlib.Core.Option.{some}
use mathlib.Core.List.{List, [], ◌∷◌, ◌++◌, append_assoc}
use Prim.Native.Nat.{ℕ, zero, suc, ◌+◌, ◌-◌, ◌≤◌, ◌<◌}
use native.Mathlib.Numerals.{add-one}
use native.Mathlib.Omega.{arith}
use lib.ListN.{length, get_or, take, drop, set, replicate, length-set, length-drop, take-append-drop}
use lib.Seq.{get_or-set_same, get_or-set_other, drop-drop, take-add, set_split}
use Rattle.std.specs.Prelude.{Option as Maybe, Some, None}
use Rattle.theory.specs.Words.{is_var}
use Rattle.theory.specs.Buffers.{part}
use Rattle.theory.proofs.Lists.{drop-next}
use Rattle.theory.proofs.Readability.{is_var-word}
use Rattle.words.specs.Terms.{arity_of, past, skip_at}
use Rattle.words.proofs.Skips.{past-none, past-reach, past-later, skip-reach, skip-then}
use Rattle.words.proofs.Parts.{tail-part}
use Rattle.rules.specs.Matching.{takes, reached, fits, binds, no_words, taken_by}
use Rattle.rules.specs.declared.index.Span.{Span}
use Rattle.rules.proofs.Takes.{takes-var, takes_same, fits_next, binds-var, binds-plain}
use Rattle.splice.specs.Right.{words_of, word_for, new}
use Rattle.splice.proofs.Laws.{shows-itself, shows-part}
use Rattle.step.specs.Next.{left, right, end_by, ruled}
use Rattle.in_place.specs.InPlace.{vars}
use Rattle.step.proofs.Ruled.{past-var, past-plain, ruled-is}

-- ---- the first of eight variables, with which those of a rule are compared
-- the first n of m variables
pub take-vars : (n m x : ℕ) → n ≤ m → take n (vars x m) ≡ vars x n
take-vars zero m x h = refl
take-vars (suc n) zero x h = absurd (omega (arith, h))
take-vars (suc n) (suc m) x h = ap (λ (l : List ℕ). x ∷ l) (take-vars n m (suc x) (omega (arith, h)))

-- ---- parts
parts_join : (a b c : ℕ) (l : List ℕ) → a ≤ b → b ≤ c → part a b l ++ part b c l ≡ part a c l
parts_join a b c l h k =
    let z : a + (b - a) ≡ b = omega arith in
    let y : b - a + (c - b) ≡ c - a = omega arith in
    ap (λ (i : ℕ). part a b l ++ take (c - b) (drop i l)) (sym z)
    ∙ ap (λ (x : List ℕ). part a b l ++ take (c - b) x) (sym (drop-drop (b - a) a l))
    ∙ sym (take-add (b - a) (c - b) (drop a l)) ∙ ap (λ (i : ℕ). take i (drop a l)) y

-- ---- what a right side's word stands for
module _ (ss : List ℕ) (B : List Span) (w : ℕ) where
  word-var : is_var w ≡ true → word_for ss B w ≡ part (taken_by B (w - 64)).from (taken_by B (w - 64)).to ss
  unfolding word_for
  word-var v = ap (words_of ss) (sym (shows-part B w v))

  word-plain : is_var w ≡ false → word_for ss B w ≡ w ∷ []
  unfolding word_for
  word-plain v = ap (words_of ss) (sym (shows-itself B w v))

-- ---- the first word of a left side that fits
fits-first : (ks ss ws : List ℕ) (w j : ℕ) → fits ks ss (w ∷ ws) j ≡ true → (e : ℕ) × ((takes ks ss w j ≡ Some e) × (fits ks ss ws e ≡ true))
unfolding fits
fits-first ks ss ws w j f = go (takes ks ss w j) refl f
  where
    go : (r : Maybe ℕ) → takes ks ss w j ≡ r → reached r (fits ks ss ws) false ≡ true → (e : ℕ) × ((takes ks ss w j ≡ Some e) × (fits ks ss ws e ≡ true))
    go None q g = absurd (false≢true g)
    go (Some e) q g = (e, (q, g))

-- ---- variables in order, each of which takes one term
module _ (ks ss : List ℕ) where
  -- of the terms from the place j on, the slot y has the term number x
  abbrev Slot : (j x y : ℕ) → List Span → Type 0
  Slot j x y b = (past (arity_of ks) (drop j ss) x j ≡ Some (taken_by b y).from) × (skip_at ks ss (taken_by b y).from ≡ Some (taken_by b y).to)

  -- the n variables from the word w on take the n terms from the place j on, and leave the slots below as they were
  record Passed (n w j : ℕ) (B b : List Span) : Type 0 where
    to : ℕ
    passes : past (arity_of ks) (drop j ss) n j ≡ Some to
    ends_there : end_by b (vars w n) j ≡ to
    makes : new ss b (vars w n) ≡ part j to ss
    slot : (x : ℕ) → x < n → Slot j x (w + x - 64) b
    below : (y : ℕ) → y < w - 64 → taken_by b y ≡ taken_by B y

  -- one variable more, before the others
  module _ (n w j e : ℕ) (B : List Span) (low : 64 ≤ w) (v : is_var w ≡ true) (hs : w - 64 < length B) (skips : skip_at ks ss j ≡ Some e)
      (b : List Span) (r : Passed n (suc w) e (set B (w - 64) (record { from = j; to = e })) b) where
    slot_is : taken_by b (w - 64) ≡ record { from = j; to = e }
    slot_is = r.below (w - 64) (omega (arith, low)) ∙ get_or-set_same B (w - 64) (record { from = j; to = e }) no_words hs

    start_is : (taken_by b (w - 64)).from ≡ j
    start_is = ap (λ (s : Span). s.from) slot_is

    end_is : (taken_by b (w - 64)).to ≡ e
    end_is = ap (λ (s : Span). s.to) slot_is

    past_first : (m : ℕ) → past (arity_of ks) (drop j ss) (suc m) j ≡ past (arity_of ks) (drop e ss) m e
    past_first m =
        let z : suc m - 1 ≡ m = omega arith in
        skip-then ks ss j e (suc m) (omega arith) skips ∙ ap (λ (i : ℕ). past (arity_of ks) (drop e ss) i e) z

    slot-more : (x : ℕ) → x < suc n → Slot j x (w + x - 64) b
    slot-more zero h =
        let z : w - 64 ≡ w + 0 - 64 = omega arith in
        subst (λ (y : ℕ). Slot j 0 y b) z (past-none (arity_of ks) (drop j ss) j ∙ ap Some (sym start_is), ap (skip_at ks ss) start_is ∙ skips ∙ ap Some (sym end_is))
    slot-more (suc x) h =
        let z : suc w + x - 64 ≡ w + suc x - 64 = omega arith in
        let s = r.slot x (omega (arith, h)) in
        subst (λ (y : ℕ). Slot j (suc x) y b) z (past_first x ∙ s.0, s.1)

    more-passed : Passed (suc n) w j B b
    unfolding end_by
    more-passed =
        let k = (skip-reach ks ss j e skips).0 in
        let l = (past-reach (arity_of ks) (drop e ss) n e r.to r.passes).0 in
        record {
          to = r.to;
          passes = past_first n ∙ r.passes;
          ends_there = ap (end_by b (vars (suc w) n)) (sym (past-var b w j v) ∙ end_is) ∙ r.ends_there;
          makes =
              ap₂ ◌++◌ (word-var ss b w v ∙ ap₂ (λ (x y : ℕ). part x y ss) start_is end_is) r.makes
              ∙ parts_join j e r.to ss (omega (arith, k)) (omega (arith, l));
          slot = slot-more;
          below = λ y h. r.below y (omega (arith, h)) ∙ get_or-set_other B (w - 64) y (record { from = j; to = e }) no_words (λ i. omega (arith, h, i));
        }

  passed : (n w j : ℕ) (B : List Span) → 64 ≤ w → w + n ≤ 72 → length B ≡ 8 → fits ks ss (vars w n) j ≡ true → Passed n w j B (binds ks ss (vars w n) j B)
  unfolding binds end_by
  passed zero w j B low high ls f =
      let z : 0 ≡ j - j = omega arith in
      record {
        to = j;
        passes = past-none (arity_of ks) (drop j ss) j;
        ends_there = refl;
        makes = ap (λ (i : ℕ). take i (drop j ss)) z;
        slot = λ x h. absurd (omega (arith, h));
        below = λ y h. refl;
      }
  passed (suc n) w j B low high ls f =
      let first = fits-first ks ss (vars (suc w) n) w j f in
      let e : ℕ = first.0 in
      let z : 64 + (w - 64) ≡ w = omega (arith, low) in
      let v : is_var w ≡ true = subst (λ (x : ℕ). is_var x ≡ true) z (is_var-word (w - 64) (omega (arith, high))) in
      let B' : List Span = set B (w - 64) (record { from = j; to = e }) in
      let r = passed n (suc w) e B' (omega (arith, low)) (omega (arith, high)) (simp length-set ls) first.1.1 in
      subst (Passed (suc n) w j B) (sym (binds-var ks ss (vars w (suc n)) 0 j (omega arith) B e v first.1.0))
      (more-passed n w j e B low v (omega (arith, high, ls)) (sym (takes-var ks ss w j v) ∙ first.1.0) (binds ks ss (vars (suc w) n) e B') r)

-- ---- the left side a(x1..xn) fits the term t at the place p
module _ (ks t : List ℕ) (p n a : ℕ) (within : p < length t) (root : get_or t p 0 ≡ a) (plain : is_var a ≡ false) (few : n ≤ 8)
    (fit : fits ks (drop p t) (a ∷ vars 64 n) 0 ≡ true) where
  abbrev rest : List ℕ
  rest = drop (p + 1) t

  abbrev b : List Span
  b = binds ks (a ∷ rest) (a ∷ vars 64 n) 0 (replicate 8 no_words)

  abbrev news : List ℕ → List ℕ
  news r = new (a ∷ rest) b r

  subject : drop p t ≡ a ∷ rest
  subject = drop-next t p within ∙ ap (λ (w : ℕ). w ∷ rest) root

  -- the variables take the terms behind the root
  args : Passed ks (a ∷ rest) n 64 1 (replicate 8 no_words) b
  args =
      let q : takes ks (a ∷ rest) a 0 ≡ Some 1 = takes_same ks (a ∷ rest) a 0 plain (omega arith) refl in
      subst (Passed ks (a ∷ rest) n 64 1 (replicate 8 no_words))
      (sym (binds-plain ks (a ∷ rest) (a ∷ vars 64 n) 0 0 (omega arith) (replicate 8 no_words) 1 plain q))
      (passed ks (a ∷ rest) n 64 1 (replicate 8 no_words) (omega arith) (omega (arith, few)) refl
      (sym (fits_next ks (a ∷ rest) (a ∷ vars 64 n) 0 0 (omega arith) 1 q) ∙ sym (ap (λ (s : List ℕ). fits ks s (a ∷ vars 64 n) 0) subject) ∙ fit))

  passes-there : past (arity_of ks) rest n (p + 1) ≡ Some (p + args.to)
  passes-there = past-later (arity_of ks) rest n 1 p args.to args.passes

  inside : p + args.to ≤ length t
  inside = omega (arith, (past-reach (arity_of ks) rest n (p + 1) (p + args.to) passes-there).1, length-drop (p + 1) t, within)

  -- WHOLE ARGUMENTS stand behind the root, from which their places are counted
  pub taken : (m : ℕ) × (past (arity_of ks) (drop (p + 1) t) n 1 ≡ Some m)
  taken = (args.to, args.passes)

  -- a symbol on the same variables, and what is behind them: the symbol for the root
  new-root : (c : ℕ) → is_var c ≡ false → news (c ∷ vars 64 n) ++ drop (p + args.to) t ≡ c ∷ rest
  new-root c v =
      let l = (past-reach (arity_of ks) rest n 1 args.to args.passes).0 in
      let z : p + args.to ≡ p + 1 + (args.to - 1) = omega (arith, l) in
      ap₂ ◌++◌ (ap₂ ◌++◌ (word-plain (a ∷ rest) b c v) args.makes) (ap (λ (i : ℕ). drop i t) z ∙ sym (drop-drop (args.to - 1) (p + 1) t))
      ∙ ap (λ (x : List ℕ). c ∷ x) (take-append-drop (args.to - 1) rest)

  -- a variable stands for the argument of its number
  new-arg : (x q e : ℕ) → x < n → past (arity_of ks) rest x (p + 1) ≡ Some q → skip_at ks t q ≡ Some e → word_for (a ∷ rest) b (64 + x) ≡ part q e t
  unfolding skip_at
  new-arg x q e h hq he =
      let s = args.slot x h in
      let i : ℕ = (taken_by b (64 + x - 64)).from in
      let j : ℕ = (taken_by b (64 + x - 64)).to in
      let from : Some (p + i) ≡ Some q = sym (past-later (arity_of ks) rest x 1 p i s.0) ∙ hq in
      let eq : p + i ≡ q = cc in
      let at : drop q t ≡ drop i (a ∷ rest) = ap (λ (k : ℕ). drop k t) (sym eq) ∙ sym (drop-drop i p t) ∙ ap (drop i) subject in
      let up_to : Some (p + j) ≡ Some e =
      sym (past-later (arity_of ks) (drop i (a ∷ rest)) 1 i p j s.1) ∙ ap₂ (λ (l : List ℕ) (k : ℕ). past (arity_of ks) l 1 k) (sym at) eq ∙ he in
      let ee : p + j ≡ e = cc in
      let z : j - i ≡ e - q = omega (arith, eq, ee) in
      word-var (a ∷ rest) b (64 + x) (is_var-word x (omega (arith, h, few))) ∙ ap₂ take z (sym at)

  module _ (rule : List ℕ) (whole : 2 + get_or rule 0 0 + get_or rule 1 0 ≤ length rule) (is-left : left rule ≡ a ∷ vars 64 n) where
    used : (r : List ℕ) → right rule ≡ r → ruled ks rule t p ≡ some (take p t ++ (news r ++ drop (p + args.to) t))
    unfolding end_by
    used r is_right =
        let es : part p (length t) t ≡ a ∷ rest = tail-part t p ∙ subject in
        let ends = ap (λ (x : List ℕ). end_by b x 0) is-left ∙ ap (end_by b (vars 64 n)) (sym (past-plain b a 0 plain)) ∙ args.ends_there in
        ruled-is ks rule t p whole b (sym (ap₂ (λ (s x : List ℕ). binds ks s x 0 (replicate 8 no_words)) es is-left)) args.to (sym ends) inside
        ∙ ap₂ (λ (s x : List ℕ). some (take p t ++ (new s b x ++ drop (p + args.to) t))) es is_right

    -- A CALL'S FIRST RULE, a(x1..xn) -> c(x1..xn), changes one word
    pub renamed : (c : ℕ) → is_var c ≡ false → right rule ≡ c ∷ vars 64 n → ruled ks rule t p ≡ some (set t p c)
    renamed c v is_right =
        used (c ∷ vars 64 n) is_right ∙ ap (λ (x : List ℕ). some (take p t ++ x)) (new-root c v) ∙ ap some (sym (rw add-one (set_split t p c within)))

    -- A TEST'S RULE, a(x1..xn) -> guard(isData(xi), c(x1..xn)), puts the test of that argument before the term
    pub tested : (x c q e : ℕ) → x < n → is_var c ≡ false → right rule ≡ 7 ∷ 9 ∷ (64 + x) ∷ c ∷ vars 64 n → past (arity_of ks) (drop (p + 1) t) x (p + 1) ≡ Some q
        → skip_at ks t q ≡ Some e → ruled ks rule t p ≡ some (take p t ++ 7 ∷ 9 ∷ (part q e t ++ c ∷ drop (p + 1) t))
    tested x c q e h v is_right hq he =
        let word = word-plain (a ∷ rest) b in
        used (7 ∷ 9 ∷ (64 + x) ∷ c ∷ vars 64 n) is_right
        ∙ ap (λ (y : List ℕ). some (take p t ++ (y ++ drop (p + args.to) t)))
        (ap₂ ◌++◌ (word 7 refl) (ap₂ ◌++◌ (word 9 refl) (ap (λ (y : List ℕ). y ++ news (c ∷ vars 64 n)) (new-arg x q e h hq he))))
        ∙ ap (λ (y : List ℕ). some (take p t ++ 7 ∷ 9 ∷ y)) (append_assoc (part q e t) (news (c ∷ vars 64 n)) (drop (p + args.to) t) ∙ ap (λ (y : List ℕ). part q e t ++ y) (new-root c v))
