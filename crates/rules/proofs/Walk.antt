-- One step of the walk along a stored rule list.
use mathlib.Core.Path.{◌≡◌, refl, sym, ap, ap₂, ◌∙◌, subst}
use mathlib.Core.Bool.{Bool, true, false}
use mathlib.Core.List.{List, [], ◌∷◌}
use Prim.Native.Nat.{ℕ, zero, suc, ◌+◌, ◌-◌, ◌<◌, ◌≤◌}
use native.Mathlib.Nat.{add-zero}
use native.Mathlib.Numerals.{add-one}
use native.Mathlib.Omega.{arith}
use lib.Dec.{T, leb, ltb, leb→le}
use lib.ListN.{length, get_or, take, drop, drop_of_length-le, length-drop}
use lib.Seq.{drop-cons, drop-drop, drop-nil}
use borrow.Author.Tests.{le-leb, lt-leb, ltb-true, ltb-false}
use Rattle.std.specs.Prelude.{Option, Some, None}
use Rattle.rules.specs.Finding.{stored, choose, first_from, first_fit}
use Rattle.rules.specs.Matching.{fits}
use Rattle.rules.specs.Stored.{NoneStored, StoredAt}
use Rattle.rules.specs.declared.stored_rule.Stored.{Stored}
use Rattle.rules.specs.declared.index.Span.{Span}

-- a rule that is found lies within the list
abbrev pub Within : Option Span → ℕ → Type 0
Within None k = Unit {0}
Within (Some s) k = (s.from ≤ s.to) × (s.to ≤ k)

choose-within : (b f : Bool) (here on : Option Span) (k : ℕ) → (T b → Within here k) → Within on k → Within (choose b f here on) k
choose-within false f here on k p q = tt
choose-within true true here on k p q = p tt
choose-within true false here on k p q = q

-- the counts of the rule that stands at a place
pub counts : (rules : List ℕ) (at l r : ℕ) → at + 2 ≤ length rules → l ≡ get_or rules at 0 → r ≡ get_or rules (at + 1) 0 → drop at rules ≡ l ∷ r ∷ drop (at + 2) rules
counts rules at l r h el er =
    let m : suc (at + 1) ≡ at + 2 = omega arith in
    drop-cons rules at 0 (omega arith)
    ∙ ap (λ (ws : List ℕ). get_or rules at 0 ∷ ws)
    (rw (← add-one at, drop-cons rules (at + 1) 0 (omega arith)) (ap (λ (k : ℕ). get_or rules (at + 1) 0 ∷ drop k rules) m))
    ∙ sym (ap₂ (λ (a b : ℕ). a ∷ b ∷ drop (at + 2) rules) el er)

module _ (ks : List ℕ) where
  -- the words of a rule that does not fit are passed
  pub passing : (ss : List ℕ) (n at : ℕ) (ws : List ℕ) → first_from ks ss n at ws ≡ first_from ks ss 0 (at + n) (drop n ws)
  unfolding first_from
  passing ss n at [] = rw drop-nil
  passing ss zero at (w ∷ ws) = rw add-zero
  passing ss (suc n) at (w ∷ ws) =
      passing ss n (suc at) ws ∙ ap (λ (k : ℕ). first_from ks ss 0 k (drop n ws)) (omega arith)

  over : (ss : List ℕ) (at l r : ℕ) (ws : List ℕ) → length ws < l + r → first_from ks ss 0 at (l ∷ r ∷ ws) ≡ None
  unfolding first_from
  over ss at l r ws h = rw (lt-leb (l + r) (length ws) h)

  pub found : (ss : List ℕ) (at l r : ℕ) (ws : List ℕ) → l + r ≤ length ws → fits ks ss (take l ws) 0 ≡ true → first_from ks ss 0 at (l ∷ r ∷ ws) ≡ stored at (2 + (l + r))
  unfolding first_from
  found ss at l r ws h e = rw (le-leb (l + r) (length ws) h, e)

  pub next : (ss : List ℕ) (at l r : ℕ) (ws : List ℕ) → l + r ≤ length ws → fits ks ss (take l ws) 0 ≡ false
      → first_from ks ss 0 at (l ∷ r ∷ ws) ≡ first_from ks ss (l + r) (2 + at) ws
  unfolding first_from
  next ss at l r ws h e = rw (le-leb (l + r) (length ws) h, e)

  -- ---- at a place of the list
  module _ (ss rules : List ℕ) (at : ℕ) where
    pub at-end : length rules ≤ at → first_from ks ss 0 at (drop at rules) ≡ None
    unfolding first_from
    at-end h = rw (drop_of_length-le rules h)

    pub at_last : at < length rules → length rules ≤ at + 1 → first_from ks ss 0 at (drop at rules) ≡ None
    unfolding first_from
    at_last h k = rw (drop-cons rules at 0, ← add-one at, drop_of_length-le rules k)

    -- l and r are the counts that stand there
    module _ (l r : ℕ) (h : at + 2 ≤ length rules) (el : l ≡ get_or rules at 0) (er : r ≡ get_or rules (at + 1) 0) where
      two : drop at rules ≡ l ∷ r ∷ drop (at + 2) rules
      two = counts rules at l r h el er

      pub at-over : length rules - (at + 2) < l + r → first_from ks ss 0 at (drop at rules) ≡ None
      at-over k = rw two (over _ _ _ _ _ (rw length-drop k))

      module _ (k : l + r ≤ length rules - (at + 2)) where
        pub at-found : fits ks ss (take l (drop (at + 2) rules)) 0 ≡ true → first_from ks ss 0 at (drop at rules) ≡ stored at (2 + (l + r))
        at-found e = rw two (found _ _ _ _ _ (rw length-drop k) e)

        pub at_next : fits ks ss (take l (drop (at + 2) rules)) 0 ≡ false
            → first_from ks ss 0 at (drop at rules) ≡ first_from ks ss 0 (at + 2 + (l + r)) (drop (at + 2 + (l + r)) rules)
        at_next e =
            let m : 2 + at + (l + r) ≡ at + 2 + (l + r) = omega arith in
            ap (λ (ws : List ℕ). first_from ks ss 0 at ws) two
            ∙ next _ _ _ _ _ (rw length-drop k) e
            ∙ passing _ _ _ _
            ∙ ap (λ (ws : List ℕ). first_from ks ss 0 (2 + at + (l + r)) ws) (drop-drop (l + r) (at + 2) rules)
            ∙ ap (λ (i : ℕ). first_from ks ss 0 i (drop (at + 2 + (l + r)) rules)) m

  -- where the code's steps lead: no rule stands there, or r does
  module _ (ss rules : List ℕ) (at : ℕ) where
    pub at-none : NoneStored rules at → first_from ks ss 0 at (drop at rules) ≡ None
    at-none k = go (ltb at (length rules)) refl (ltb (at + 1) (length rules)) refl
      where
        go : (a : Bool) → ltb at (length rules) ≡ a → (b : Bool) → ltb (at + 1) (length rules) ≡ b → first_from ks ss 0 at (drop at rules) ≡ None
        go false p b q = at-end ss rules at (ltb-false at (length rules) p)
        go true p false q = at_last ss rules at (ltb-true at (length rules) p) (ltb-false (at + 1) (length rules) q)
        go true p true q = let l = ltb-true (at + 1) (length rules) q in at-over ss rules at (get_or rules at 0) (get_or rules (at + 1) 0) (omega (arith, l)) refl refl (omega (arith, k, l))

    module _ (r : Stored) (s : StoredAt rules at r) where
      left : take (r.left.to - r.left.from) (drop r.left.from rules) ≡ take (get_or rules at 0) (drop (at + 2) rules)
      left = let n : r.left.to - r.left.from ≡ get_or rules at 0 = omega (arith, s.from, s.to) in ap₂ (λ (n i : ℕ). take n (drop i rules)) n s.from

      pub stored-found : (l : List ℕ) → l ≡ take (r.left.to - r.left.from) (drop r.left.from rules) → fits ks ss l 0 ≡ true → first_from ks ss 0 at (drop at rules) ≡ Some (record { from = at; to = r.past })
      stored-found l h e =
          let n : at + (2 + (get_or rules at 0 + get_or rules (at + 1) 0)) ≡ r.past = omega (arith, s.past) in
          at-found ss rules at (get_or rules at 0) (get_or rules (at + 1) 0) (omega (arith, s.past, s.within)) refl refl (omega (arith, s.past, s.within)) (sym (ap (λ (w : List ℕ). fits ks ss w 0) (h ∙ left)) ∙ e)
          ∙ ap (λ (e : ℕ). Some (record { from = at; to = e })) n

      pub stored-passed : (l : List ℕ) → l ≡ take (r.left.to - r.left.from) (drop r.left.from rules) → fits ks ss l 0 ≡ false → first_from ks ss 0 at (drop at rules) ≡ first_from ks ss 0 r.past (drop r.past rules)
      stored-passed l h e =
          at_next ss rules at (get_or rules at 0) (get_or rules (at + 1) 0) (omega (arith, s.past, s.within)) refl refl (omega (arith, s.past, s.within)) (sym (ap (λ (w : List ℕ). fits ks ss w 0) (h ∙ left)) ∙ e)
          ∙ ap (λ (i : ℕ). first_from ks ss 0 i (drop i rules)) (sym s.past)

  within : (ss : List ℕ) (n at : ℕ) (ws : List ℕ) (k : ℕ) → at + length ws ≤ k → Within (first_from ks ss n at ws) k
  unfolding first_from
  within ss n at [] k h = tt
  within ss (suc n) at (w ∷ ws) k h = within ss n (suc at) ws k (omega arith)
  within ss zero at (l ∷ []) k h = tt
  within ss zero at (l ∷ r ∷ ws) k h =
      choose-within (leb (l + r) (length ws)) (fits ks ss (take l ws) 0) (stored at (2 + (l + r))) (first_from ks ss (l + r) (2 + at) ws) k
      (λ t. (omega arith, omega (arith, leb→le (l + r) (length ws) t))) (within ss (l + r) (2 + at) ws k (omega arith))

  pub first-within-all : (ss rules : List ℕ) → Within (first_fit ks rules ss) (length rules)
  first-within-all ss rules = within ss 0 0 rules (length rules) (omega arith)

  pub first-within : (ss rules : List ℕ) {s : Span} → first_fit ks rules ss ≡ Some s → (s.from ≤ s.to) × (s.to ≤ length rules)
  first-within ss rules e = subst (λ (s : Option Span). Within s (length rules)) e (first-within-all ss rules)

pub ruleset walk_steps = (at-none, stored-found, stored-passed)
