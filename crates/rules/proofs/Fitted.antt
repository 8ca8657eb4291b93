-- The rule that is found is a whole rule, and its left side fits: over any words, no tree is asked for.
use mathlib.Core.Path.{◌≡◌, refl, sym, ap, ap₂, subst, subst₂, ◌∙◌}
use mathlib.Core.Bool.{Bool, true, false, false≢true}
use mathlib.Core.List.{List, [], ◌∷◌}
use Prim.Native.Nat.{ℕ, zero, suc, ◌+◌, ◌-◌, ◌≤◌}
use native.Mathlib.Numerals.{add-one}
use native.Mathlib.Omega.{arith}
use lib.Dec.{T, leb, leb→le}
use lib.ListN.{length, get_or, take, drop}
use lib.Seq.{length-take-le, take-take, drop-drop}
use Rattle.std.specs.Prelude.{Option, Some, None, is_some}
use Rattle.theory.proofs.Lists.{past-it}
use Rattle.rules.specs.Matching.{fits}
use Rattle.rules.specs.Index.{span_of, part_in}
use Rattle.rules.specs.Finding.{stored, choose, first_from, first_fit, moved, first_among, first_in, first_at, standing_first, fitting_of, rule_of}
use Rattle.rules.specs.declared.index.Span.{Span}
use Rattle.rules.specs.declared.finding.Fitting.{Fitting}
use Rattle.rules.proofs.Pass.{span-inside}
use Rattle.rules.proofs.Placed.{part_within}

-- the words of a stored rule are all there, and its left side fits the subject ss
pub record Fitted (ks rule ss : List ℕ) : Type 0 where
  pub fit : fits ks ss (take (get_or rule 0 0) (drop 2 rule)) 0 ≡ true
  pub whole : length rule ≡ 2 + (get_or rule 0 0 + get_or rule 1 0)

-- one word on
one_on : (list : List ℕ) (at w : ℕ) (ws : List ℕ) → drop at list ≡ w ∷ ws → drop (suc at) list ≡ ws
one_on list at w ws e = ap (λ (k : ℕ). drop k list) (sym (add-one at)) ∙ past-it list (w ∷ []) ws at e

-- a part of a list's front is a part of the list
part-of-front : (n at k : ℕ) (l : List ℕ) → at + n ≤ k → take n (drop at (take k l)) ≡ take n (drop at l)
part-of-front n zero k l h = take-take n k l (omega arith)
part-of-front n (suc at) zero l h = absurd (omega arith)
part-of-front n (suc at) (suc k) [] h = refl
part-of-front n (suc at) (suc k) (x ∷ l) h = part-of-front n at k l (omega arith)

module _ (ks ss : List ℕ) where
  -- a rule that fits, as it stands in a list before the words ws
  rule-fitted : (l r : ℕ) (ws : List ℕ) → l + r ≤ length ws → fits ks ss (take l ws) 0 ≡ true → Fitted ks (take (2 + (l + r)) (l ∷ r ∷ ws)) ss
  rule-fitted l r ws h e =
      let z : suc (suc (l + r)) ≡ 2 + (l + r) = omega arith in
      let n = length-take-le (l + r) ws h in
      subst (λ (k : ℕ). Fitted ks (take k (l ∷ r ∷ ws)) ss) z
      (record {
        fit = ap (λ (x : List ℕ). fits ks ss x 0) (take-take l (l + r) ws (omega arith)) ∙ e;
        whole = omega (arith, n);
      })

  -- the rule at a place of a list is fitted
  abbrev FittedIn : List ℕ → Option Span → Type 0
  FittedIn list None = Unit {0}
  FittedIn list (Some p) = Fitted ks (part_in list p) ss

  choose-fitted : (list : List ℕ) (b f : Bool) (here on : Option Span) → (T b → f ≡ true → FittedIn list here) → FittedIn list on → FittedIn list (choose b f here on)
  choose-fitted list false f here on p q = tt
  choose-fitted list true true here on p q = p tt refl
  choose-fitted list true false here on p q = q

  -- the walk along a list, of which ws stand from word number at on
  walk-fitted : (list : List ℕ) (n at : ℕ) (ws : List ℕ) → drop at list ≡ ws → FittedIn list (first_from ks ss n at ws)
  unfolding first_from
  walk-fitted list n at [] e = tt
  walk-fitted list (suc n) at (w ∷ ws) e = walk-fitted list n (suc at) ws (one_on list at w ws e)
  walk-fitted list zero at (l ∷ []) e = tt
  walk-fitted list zero at (l ∷ r ∷ ws) e =
      choose-fitted list (leb (l + r) (length ws)) (fits ks ss (take l ws) 0) (stored at (2 + (l + r))) (first_from ks ss (l + r) (2 + at) ws)
      (λ t f. subst₂ (λ (n : ℕ) (x : List ℕ). Fitted ks (take n x) ss) len (sym e) (rule-fitted l r ws (leb→le (l + r) (length ws) t) f))
      (walk-fitted list (l + r) (2 + at) ws on)
    where
      len : 2 + (l + r) ≡ at + (2 + (l + r)) - at
      len = omega arith

      on : drop (2 + at) list ≡ ws
      on =
          let z : suc (suc at) ≡ 2 + at = omega arith in
          ap (λ (k : ℕ). drop k list) (sym z) ∙ one_on list (suc at) r ws (one_on list at l (r ∷ ws) e)

  -- in a part of a list
  moved-fitted : (list : List ℕ) (s : Span) → s.from ≤ s.to → s.to ≤ length list → (p : Option Span) → first_fit ks (part_in list s) ss ≡ p → FittedIn (part_in list s) p → FittedIn list (moved s.from p)
  moved-fitted list s h k None e f = tt
  moved-fitted list s h k (Some p) e f =
      let w = part_within ks list ss s (part_in list s) h k refl e in
      let n : s.from + p.to - (s.from + p.from) ≡ p.to - p.from = omega arith in
      subst (λ (x : List ℕ). Fitted ks x ss)
      (part-of-front (p.to - p.from) p.from (s.to - s.from) (drop s.from list) (omega (arith, w, h))
      ∙ ap₂ take (sym n) (drop-drop p.from s.from list)) f

  at-fitted : (list : List ℕ) (index : List Span) → FittedIn list (first_at ks list index ss)
  unfolding first_at first_in
  at-fitted list index = go (span_of index (length list) (get_or ss 0 0)) refl
    where
      go : (o : Option Span) → span_of index (length list) (get_or ss 0 0) ≡ o → FittedIn list (first_among ks list o ss)
      go None e = tt
      go (Some s) e =
          let i = span-inside index (length list) (get_or ss 0 0) e in
          moved-fitted list s i.0 i.1 (first_fit ks (part_in list s) ss) refl (walk-fitted (part_in list s) 0 0 (part_in list s) refl)

  -- in either of two lists
  two-fitted : (standing own : List ℕ) (p q : Option Span) → FittedIn standing p → FittedIn own q → is_some (standing_first p q) ≡ true → Fitted ks (rule_of standing own (standing_first p q)) ss
  two-fitted standing own (Some p) q h k e = h
  two-fitted standing own None (Some p) h k e = k
  two-fitted standing own None None h k e = absurd (false≢true e)

-- THE RULE that is found is whole, and fits
pub found-fits : (ks standing own : List ℕ) (si oi : List Span) (ss : List ℕ) (f : Option Fitting) → fitting_of ks standing own si oi ss ≡ f → is_some f ≡ true → Fitted ks (rule_of standing own f) ss
unfolding fitting_of
found-fits ks standing own si oi ss f e h =
    subst (λ (g : Option Fitting). is_some g ≡ true → Fitted ks (rule_of standing own g) ss) e
    (two-fitted ks ss standing own (first_at ks standing si ss) (first_at ks own oi ss) (at-fitted ks ss standing si) (at-fitted ks ss own oi)) h
