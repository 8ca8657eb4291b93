-- One step of the pass that makes an index, and the part that an index gives.
use mathlib.Core.Path.{◌≡◌, refl, sym, ap, ap₂, subst, ◌∙◌}
use mathlib.Core.Bool.{Bool, true, false}
use mathlib.Core.List.{List, [], ◌∷◌}
use Prim.Native.Nat.{ℕ, zero, suc, ◌+◌, ◌-◌, ◌<◌, ◌≤◌}
use native.Mathlib.Nat.{add-zero}
use native.Mathlib.Numerals.{add-one}
use native.Mathlib.Omega.{arith}
use lib.Dec.{ltb}
use lib.ListN.{length, get_or, set, drop, drop_of_length-le, length-drop}
use lib.Seq.{drop-cons, drop-drop, drop-nil, get_or-drop}
use borrow.Author.Tests.{le-leb, lt-leb, ltb-true, ltb-false}
use Rattle.std.specs.Prelude.{Option, Some, None}
use Rattle.theory.specs.Syntax.{pick}
use Rattle.rules.specs.Index.{slot_of, at_slot, extended, noted, index_from, least_of, clip, span_of}
use Rattle.rules.specs.Stored.{NoneStored, StoredAt}
use Rattle.rules.specs.declared.stored_rule.Stored.{Stored}
use Rattle.rules.specs.declared.index.Span.{Span}
use Rattle.rules.proofs.Walk.{counts}

-- the words of a rule that is noted are passed
pub passed : (n at : ℕ) (ws : List ℕ) (index : List Span) → index_from n at ws index ≡ index_from 0 (at + n) (drop n ws) index
unfolding index_from
passed n at [] index = rw drop-nil
passed zero at (w ∷ ws) index = rw add-zero
passed (suc n) at (w ∷ ws) index = passed n (suc at) ws index ∙ ap (λ (k : ℕ). index_from 0 k (drop n ws) index) (omega arith)

over : (at l r : ℕ) (ws : List ℕ) (index : List Span) → length ws < l + r → index_from 0 at (l ∷ r ∷ ws) index ≡ index
unfolding index_from
over at l r ws index h = rw (lt-leb (l + r) (length ws) h)

pub next-rule : (at l r : ℕ) (ws : List ℕ) (index : List Span) → l + r ≤ length ws
    → index_from 0 at (l ∷ r ∷ ws) index ≡ index_from 0 (at + 2 + (l + r)) (drop (l + r) ws) (noted index (slot_of (get_or ws 0 0)) at (at + 2 + (l + r)))
unfolding index_from
next-rule at l r ws index h =
    let m : 2 + at + (l + r) ≡ at + 2 + (l + r) = omega arith in
    let one : index_from 0 at (l ∷ r ∷ ws) index ≡ index_from (l + r) (2 + at) ws (noted index (slot_of (get_or ws 0 0)) at (at + 2 + (l + r))) = rw (le-leb (l + r) (length ws) h) in
    one ∙ passed (l + r) (2 + at) ws (noted index (slot_of (get_or ws 0 0)) at (at + 2 + (l + r)))
    ∙ ap (λ (k : ℕ). index_from 0 k (drop (l + r) ws) (noted index (slot_of (get_or ws 0 0)) at (at + 2 + (l + r)))) m

-- ---- at a place of the list
module _ (list : List ℕ) (at : ℕ) (index : List Span) where
  pub pass-end : length list ≤ at → index_from 0 at (drop at list) index ≡ index
  unfolding index_from
  pass-end h = rw (drop_of_length-le list h)

  pub pass-last : at < length list → length list ≤ at + 1 → index_from 0 at (drop at list) index ≡ index
  unfolding index_from
  pass-last h k = rw (drop-cons list at 0, ← add-one at, drop_of_length-le list k)

  module _ (l r : ℕ) (h : at + 2 ≤ length list) (el : l ≡ get_or list at 0) (er : r ≡ get_or list (at + 1) 0) where
    pub pass-over : length list - (at + 2) < l + r → index_from 0 at (drop at list) index ≡ index
    pass-over k = rw (counts list at l r h el er) (over at l r (drop (at + 2) list) index (rw length-drop k))

    pub pass_on : l + r ≤ length list - (at + 2) → (w s : ℕ) (v : Span) → w ≡ get_or list (at + 2) 0 → s ≡ slot_of w → v ≡ extended (at_slot index s) at (at + 2 + (l + r))
        → index_from 0 at (drop at list) index
        ≡ index_from 0 (at + 2 + (l + r)) (drop (at + 2 + (l + r)) list) (set index s v)
    unfolding noted
    pass_on k w s v ew es ev =
        let past : ℕ = at + 2 + (l + r) in
        let g : get_or (drop (at + 2) list) 0 0 ≡ get_or list (at + 2) 0 = get_or-drop (at + 2) list 0 0 ∙ ap (λ (i : ℕ). get_or list i 0) (add-zero (at + 2)) in
        let es' : slot_of (get_or (drop (at + 2) list) 0 0) ≡ s = ap slot_of (g ∙ sym ew) ∙ sym es in
        ap (λ (ws : List ℕ). index_from 0 at ws index) (counts list at l r h el er)
        ∙ next-rule at l r (drop (at + 2) list) index (rw length-drop k)
        ∙ ap₂ (λ (ws : List ℕ) (i : ℕ). index_from 0 past ws (noted index i at past)) (drop-drop (l + r) (at + 2) list) es'
        ∙ ap (λ (x : Span). index_from 0 past (drop past list) (set index s x)) (sym ev)

  -- where the code's steps lead: no rule stands there, or r does
  pub pass-none : NoneStored list at → index_from 0 at (drop at list) index ≡ index
  pass-none k = go (ltb at (length list)) refl (ltb (at + 1) (length list)) refl
    where
      go : (a : Bool) → ltb at (length list) ≡ a → (b : Bool) → ltb (at + 1) (length list) ≡ b → index_from 0 at (drop at list) index ≡ index
      go false p b q = pass-end (ltb-false at (length list) p)
      go true p false q = pass-last (ltb-true at (length list) p) (ltb-false (at + 1) (length list) q)
      go true p true q = let l = ltb-true (at + 1) (length list) q in pass-over (get_or list at 0) (get_or list (at + 1) 0) (omega (arith, l)) refl refl (omega (arith, k, l))

  pub pass-stored : (r : Stored) → StoredAt list at r → (w s : ℕ) (v : Span) → w ≡ get_or list r.left.from 0 → s ≡ slot_of w → v ≡ extended (at_slot index s) at r.past
      → index_from 0 at (drop at list) index ≡ index_from 0 r.past (drop r.past list) (set index s v)
  pass-stored r h w s v ew es ev =
      pass_on (get_or list at 0) (get_or list (at + 1) 0) (omega (arith, h.past, h.within)) refl refl (omega (arith, h.past, h.within)) w s v
      (ew ∙ ap (λ (i : ℕ). get_or list i 0) h.from) es (ev ∙ ap (extended (at_slot index s) at) h.past)
      ∙ ap (λ (i : ℕ). index_from 0 i (drop i list) (set index s v)) (sym h.past)

-- ---- the lesser of two
pub least-le : (a b : ℕ) → least_of a b ≤ b
unfolding least_of
least-le a b = go (ltb a b) refl
  where
    go : (t : Bool) → ltb a b ≡ t → pick t a b ≤ b
    go true e = let l = ltb-true a b e in omega arith
    go false e = omega arith

pub least-of : (a b : ℕ) → a ≤ b → least_of a b ≡ a
unfolding least_of
least-of a b h = go (ltb a b) refl
  where
    go : (t : Bool) → ltb a b ≡ t → pick t a b ≡ a
    go true e = refl
    go false e = let l = ltb-false a b e in omega arith

-- the part that an index gives lies within the list
pub span-inside : (index : List Span) (len w : ℕ) {s : Span} → span_of index len w ≡ Some s → (s.from ≤ s.to) × (s.to ≤ len)
unfolding span_of
span-inside index len w {s} e = subst Inside e (go (at_slot index (slot_of w)))
  where
    Inside : Option Span → Type 0
    Inside None = Unit {0}
    Inside (Some s) = (s.from ≤ s.to) × (s.to ≤ len)

    go : (o : Option Span) → Inside (clip len o)
    go None = tt
    go (Some s) = (least-le s.from _, least-le s.to len)

pub ruleset pass_steps = (pass-none)
