-- The laws of the noted path: the search goes on from a place of it, and a step leaves it as it is up to the rewritten place.
use mathlib.Core.Path.{◌≡◌, refl, sym, ap, subst, ◌∙◌}
use mathlib.Core.Bool.{Bool, true, false}
use mathlib.Core.List.{List, [], ◌∷◌}
use Prim.Native.Nat.{ℕ, zero, suc, ◌+◌, ◌-◌, ◌≤◌, ◌<◌}
use native.Mathlib.Nat.{sub-zero, zero-sub}
use native.Mathlib.Numerals.{add-one}
use native.Mathlib.Omega.{arith}
use lib.Dec.{ltb}
use lib.ListN.{length, get_or, take, drop, set}
use lib.Seq.{get_or-take, get_or-set_same, get_or-set_other, take-take, take-nil}
use borrow.Author.Tests.{lt-ltb, le-ltb, ltb-true, ltb-false}
use Rattle.std.specs.Prelude.{Option, Some, None}
use Rattle.theory.specs.Syntax.{pick}
use Rattle.theory.specs.Tree.{active}
use Rattle.words.specs.Terms.{arity_of, past}
use Rattle.words.proofs.Skips.{past-front}
use Rattle.rules.specs.declared.finding.Fitting.{Fitting}
use Rattle.place.specs.Path.{below, below_at, site_of, here_at, here_in, site_at}
use Rattle.place.specs.Noted.{OnPath, Numbered}
use Rattle.place.specs.declared.Site.{Site}
use Rattle.place.proofs.Path.{below-reach, below-further, site-out, site-short, site-deeper, site-here}

-- ---- the places of a noted path
module _ (ks ws path : List ℕ) (n : ℕ) (h : OnPath ks ws path n) where
  rises : (i : ℕ) → i < n → get_or path i 0 < get_or path (i + 1) 0
  rises i k = omega (arith, below-reach ks (get_or ws (get_or path i 0) 0) (drop (get_or path i 0 + 1) ws) (get_or path i 0 + 1) (get_or path (i + 1) 0) (h.steps i k))

  -- place number i is at i at least, and each before the last is within the words
  pub number-low : (i : ℕ) → i ≤ n → i ≤ get_or path i 0
  number-low zero k = omega arith
  number-low (suc i) k =
      let r = rises i (omega arith) in
      let l = number-low i (omega arith) in
      let e : get_or path (i + 1) 0 ≡ get_or path (suc i) 0 = ap (λ (j : ℕ). get_or path j 0) (add-one i) in
      omega (arith, r, l, e)

  upward : (k i : ℕ) → i + k ≡ n → get_or path i 0 + k ≤ get_or path n 0
  upward zero i e = let z : i ≡ n = omega arith in subst (λ (j : ℕ). get_or path i 0 + 0 ≤ get_or path j 0) z (omega arith)
  upward (suc k) i e = omega (arith, upward k (i + 1) (omega arith), rises i (omega arith))

  pub place-below : (i : ℕ) → i ≤ n → get_or path i 0 + (n - i) ≤ get_or path n 0
  place-below i k = upward (n - i) i (omega arith)

  pub place_inside : (i : ℕ) → i < n → get_or path i 0 < length ws
  place_inside i k = omega (arith, place-below i (omega arith), h.ends)

  pub number-within : n ≤ length ws
  number-within = omega (arith, number-low n (omega arith), h.ends)

  -- a noted path is noted up to each of its places
  pub path-up : (i : ℕ) → i ≤ n → OnPath ks ws path i
  path-up i k = record { root = h.root; ends = omega (arith, place-below i k, h.ends); steps = λ j l. h.steps j (omega arith) }

  -- one place more
  pub path-down : (at p : ℕ) → at ≡ get_or path n 0 → at < length ws → below_at ks ws at ≡ Some p → (n + 1 ≤ p) × ((at < p) × (p ≤ length ws))
  path-down at p e k b =
      let r = below-further ks (λ ss. None) ws at k p b in
      (omega (arith, r, e, number-low n (omega arith)), r)

  noted : (p : ℕ) → below_at ks ws (get_or path n 0) ≡ Some p → n + 1 < length path → p ≤ length ws → OnPath ks ws (set path (n + 1) p) (n + 1)
  noted p e k l =
      let same : get_or (set path (n + 1) p) (n + 1) 0 ≡ p = get_or-set_same path (n + 1) p 0 k in
      record { root = old 0 (omega arith) ∙ h.root; ends = subst (λ (q : ℕ). q ≤ length ws) (sym same) l; steps = λ i m. go i m (ltb i n) refl same }
    where
      old : (i : ℕ) → i < n + 1 → get_or (set path (n + 1) p) i 0 ≡ get_or path i 0
      old i m = get_or-set_other path (n + 1) i p 0 (λ e. absurd (omega arith))

      go : (i : ℕ) → i < n + 1 → (b : Bool) → ltb i n ≡ b → get_or (set path (n + 1) p) (n + 1) 0 ≡ p → below_at ks ws (get_or (set path (n + 1) p) i 0) ≡ Some (get_or (set path (n + 1) p) (i + 1) 0)
      go i m true t same = ap (below_at ks ws) (old i m) ∙ h.steps i (ltb-true i n t) ∙ ap Some (sym (old (i + 1) (let z : i < n = ltb-true i n t in omega arith)))
      go i m false t same =
          let z : i ≡ n = let y : n ≤ i = ltb-false i n t in omega arith in
          ap (below_at ks ws) (old i m ∙ ap (λ (j : ℕ). get_or path j 0) z) ∙ e ∙ ap Some (sym (ap (λ (j : ℕ). get_or (set path (n + 1) p) (j + 1) 0) z ∙ same))

  pub path-noted : (at p : ℕ) → at ≡ get_or path n 0 → at < length ws → below_at ks ws at ≡ Some p → length ws < length path
      → OnPath ks ws (set path (n + 1) p) (n + 1) × (p ≡ get_or (set path (n + 1) p) (n + 1) 0)
  path-noted at p e k b l =
      let r = path-down at p e k b in
      let m : n + 1 < length path = omega arith in
      (noted p (ap (below_at ks ws) (sym e) ∙ b) m r.1.1, sym (get_or-set_same path (n + 1) p 0 m))

-- the root alone
pub path-root : (ks ws path : List ℕ) → get_or path 0 0 ≡ 0 → OnPath ks ws path 0
path-root ks ws path e = record { root = e; ends = subst (λ (q : ℕ). q ≤ length ws) (sym e) (omega arith); steps = λ i k. absurd (omega arith) }

-- ---- what fits on it
abbrev place_or : ℕ → Option Site → ℕ
place_or d (Some s) = s.place
place_or d None = d

module _ (ks : List ℕ) (find : List ℕ → Option Fitting) (ws : List ℕ) where
  pub here-inside : (at : ℕ) → at < length ws → here_at find (drop at ws) at ≡ here_in find ws at
  unfolding here_in
  here-inside at h = sym (ap (λ (b : Bool). pick b (here_at find (drop at ws) at) None) (lt-ltb at (length ws) h))

  pub here-outside : (at : ℕ) → length ws ≤ at → None ≡ here_in find ws at
  unfolding here_in
  here-outside at h = sym (ap (λ (b : Bool). pick b (here_at find (drop at ws) at) None) (le-ltb at (length ws) h))

  -- where the path goes no further, only the place itself is left
  pub site-deepest : (at : ℕ) → (at < length ws → below_at ks ws at ≡ None) → site_at ks find ws at ≡ here_in find ws at
  site-deepest at d = go (ltb at (length ws)) refl
    where
      go : (b : Bool) → ltb at (length ws) ≡ b → site_at ks find ws at ≡ here_in find ws at
      go true t = let h = ltb-true at (length ws) t in site-short ks find ws at h (d h) ∙ here-inside at h
      go false t = let h = ltb-false at (length ws) t in site-out ks find ws at h ∙ here-outside at h

  -- what fits here is at this place
  pub here_place : (at : ℕ) (t : Site) → here_in find ws at ≡ Some t → at ≡ t.place
  unfolding here_in here_at
  here_place at t e = go (ltb at (length ws)) (find (drop at ws)) e
    where
      go : (a : Bool) (f : Option Fitting) → pick a (site_of at f) None ≡ Some t → at ≡ t.place
      go true (Some f) e = ap (place_or 0) e
      go true None e = cc
      go false f e = cc

  module _ (path : List ℕ) (n : ℕ) (h : OnPath ks ws path n) where
    -- where nothing fits below a noted place, only the place itself is left
    pub site-up : (i : ℕ) → i < n → site_at ks find ws (get_or path (i + 1) 0) ≡ None → site_at ks find ws (get_or path i 0) ≡ here_in find ws (get_or path i 0)
    site-up i k e =
        let inside = place_inside ks ws path n h i k in
        site-here ks find ws (get_or path i 0) inside (get_or path (i + 1) 0) (h.steps i k) e ∙ here-inside (get_or path i 0) inside

    -- what fits at or below a noted place is the deepest from the root
    pub site-top : (t : Site) (i : ℕ) → i ≤ n → site_at ks find ws (get_or path i 0) ≡ Some t → site_at ks find ws 0 ≡ Some t
    site-top t zero k e = sym (ap (site_at ks find ws) h.root) ∙ e
    site-top t (suc i) k e =
        let inside = place_inside ks ws path n h i (omega arith) in
        site-top t i (omega arith)
        (site-deeper ks find ws (get_or path i 0) inside (get_or path (i + 1) 0) t (h.steps i (omega arith)) (ap (λ (j : ℕ). site_at ks find ws (get_or path j 0)) (add-one i) ∙ e))

    -- on the way up, at the place number i: a rule fits there; none does, and it is not the root, or it is
    module _ (i : ℕ) (k : i ≤ n) (left : site_at ks find ws (get_or path i 0) ≡ here_in find ws (get_or path i 0)) where
      pub climb_found : (t : Site) → Some t ≡ here_in find ws (get_or path i 0) → (Some t ≡ site_at ks find ws 0) × Numbered ks ws path (Some t) i
      climb_found t e = (sym (site-top t i k (left ∙ sym e)), (here_place (get_or path i 0) t (sym e), path-up ks ws path n h i k))

      pub climb_on : None ≡ here_in find ws (get_or path i 0) → 0 < i → site_at ks find ws (get_or path (i - 1) 0) ≡ here_in find ws (get_or path (i - 1) 0)
      climb_on e z =
          let m : i - 1 + 1 ≡ i = omega arith in
          site-up (i - 1) (omega arith) (ap (λ (j : ℕ). site_at ks find ws (get_or path j 0)) m ∙ left ∙ sym e)

      pub climb_out : None ≡ here_in find ws (get_or path i 0) → i ≤ 0 → None ≡ site_at ks find ws 0
      climb_out e z =
          let m : i ≡ 0 = omega arith in
          e ∙ sym left ∙ ap (λ (j : ℕ). site_at ks find ws (get_or path j 0)) m ∙ ap (site_at ks find ws) h.root

-- ---- a step leaves the path up to the rewritten place
drop-take : (a q : ℕ) (l : List ℕ) → drop a (take q l) ≡ take (q - a) (drop a l)
drop-take zero q l = ap (λ (k : ℕ). take k l) (sym (sub-zero q))
drop-take (suc a) q [] = ap (drop (suc a)) (take-nil q) ∙ sym (take-nil (q - suc a))
drop-take (suc a) zero (w ∷ l) = sym (ap (λ (k : ℕ). take k (drop a l)) (zero-sub (suc a)))
drop-take (suc a) (suc q) (w ∷ l) = drop-take a q l ∙ ap (λ (k : ℕ). take k (drop a l)) (let z : q - a ≡ suc q - suc a = omega arith in z)

module _ (ks ws us : List ℕ) (p : ℕ) (front : take p us ≡ take p ws) where
  same_word : (a : ℕ) → a < p → get_or us a 0 ≡ get_or ws a 0
  same_word a h = sym (get_or-take p us a 0 h) ∙ ap (λ (l : List ℕ). get_or l a 0) front ∙ get_or-take p ws a 0 h

  same-behind : (a q : ℕ) → q ≤ p → a ≤ q → take (q - a) (drop a us) ≡ take (q - a) (drop a ws)
  same-behind a q h k = sym (part_of us) ∙ ap (λ (l : List ℕ). drop a (take q l)) front ∙ part_of ws
    where
      part_of : (l : List ℕ) → drop a (take q (take p l)) ≡ take (q - a) (drop a l)
      part_of l = ap (drop a) (take-take q p l h) ∙ drop-take a q l

  below-kept : (a q : ℕ) → below_at ks ws a ≡ Some q → q ≤ p → below_at ks us a ≡ Some q
  unfolding below
  below-kept a q e h =
      let r = below-reach ks (get_or ws a 0) (drop (a + 1) ws) (a + 1) q e in
      ap (λ (w : ℕ). below ks w (drop (a + 1) us) (a + 1)) (same_word a (omega arith)) ∙ go (ltb (active (get_or ws a 0)) 1) (ltb (arity_of ks (get_or ws a 0)) (active (get_or ws a 0))) (same-behind (a + 1) q h (omega arith)) e
    where
      rest : List ℕ → Option ℕ
      rest l = past (arity_of ks) l (active (get_or ws a 0) - 1) (a + 1)

      go : (x y : Bool) → take (q - (a + 1)) (drop (a + 1) us) ≡ take (q - (a + 1)) (drop (a + 1) ws) → pick x None (pick y None (rest (drop (a + 1) ws))) ≡ Some q → pick x None (pick y None (rest (drop (a + 1) us))) ≡ Some q
      go true y same k = k
      go false true same k = k
      go false false same k = past-front (arity_of ks) (drop (a + 1) ws) (drop (a + 1) us) (active (get_or ws a 0) - 1) (a + 1) q k same

  pub path-kept : (path : List ℕ) (n : ℕ) → OnPath ks ws path n → get_or path n 0 ≡ p → p ≤ length us → OnPath ks us path n
  path-kept path n h e l =
      record {
        root = h.root;
        ends = subst (λ (q : ℕ). q ≤ length us) (sym e) l;
        steps = λ i k. below-kept (get_or path i 0) (get_or path (i + 1) 0) (h.steps i k) (omega (arith, place-below ks ws path n h (i + 1) (omega arith), e));
      }
