-- What `bind` gives a variable ends no earlier than it starts.
use mathlib.Core.Path.{◌≡◌, refl, sym, subst}
use mathlib.Core.Bool.{Bool, true, false}
use mathlib.Core.List.{List, [], ◌∷◌}
use Prim.Native.Nat.{ℕ, zero, suc, ◌+◌, ◌-◌, ◌≤◌}
use native.Mathlib.Omega.{arith}
use lib.Dec.{eqb, ltb}
use lib.ListN.{length, get_or, set, replicate}
use Rattle.std.specs.Prelude.{Option, Some, None}
use Rattle.theory.specs.Syntax.{pick}
use Rattle.theory.specs.Words.{is_var}
use Rattle.words.specs.Terms.{skip_at}
use Rattle.words.proofs.Skips.{skip-reach}
use Rattle.rules.specs.Matching.{no_words, taken_by, takes, reached, noted, binds}
use Rattle.rules.specs.declared.index.Span.{Span}

-- none of the spans ends before it starts
abbrev Ordered : List Span → Type 0
Ordered [] = Unit {0}
Ordered (s ∷ B) = (s.from ≤ s.to) × Ordered B

ordered_at : (B : List Span) → Ordered B → (v : ℕ) → (taken_by B v).from ≤ (taken_by B v).to
ordered_at [] h v = omega arith
ordered_at (s ∷ B) h zero = h.0
ordered_at (s ∷ B) h (suc v) = ordered_at B h.1 v

set-ordered : (B : List Span) (i : ℕ) (x : Span) → x.from ≤ x.to → Ordered B → Ordered (set B i x)
set-ordered [] i x l h = tt
set-ordered (s ∷ B) zero x l h = (l, h.1)
set-ordered (s ∷ B) (suc i) x l h = (h.0, set-ordered B i x l h.1)

noted-ordered : (B : List Span) (p : ℕ) (x : Span) → x.from ≤ x.to → Ordered B → Ordered (noted B p x)
unfolding noted
noted-ordered B p x l h = go (is_var p)
  where
    go : (b : Bool) → Ordered (pick b (set B (p - 64) x) B)
    go true = set-ordered B (p - 64) x l h
    go false = h

module _ (ks ss : List ℕ) where
  -- a word of a left side leads on
  takes-on : (p j e : ℕ) → takes ks ss p j ≡ Some e → j ≤ e
  unfolding takes
  takes-on p j e q = go (is_var p) (ltb j (length ss)) (eqb p (get_or ss j 0)) q
    where
      go : (a b c : Bool) → pick a (skip_at ks ss j) (pick b (pick c (Some (j + 1)) None) None) ≡ Some e → j ≤ e
      go true b c k = let l = skip-reach ks ss j e k in omega (arith, l)
      go false true true k = let m : j + 1 ≡ e = cc in omega arith
      go false true false k = cc
      go false false c k = cc

  binds-ordered : (ps : List ℕ) (j : ℕ) (B : List Span) → Ordered B → Ordered (binds ks ss ps j B)
  unfolding binds
  binds-ordered [] j B h = h
  binds-ordered (p ∷ ps) j B h = go (takes ks ss p j) refl (λ e k. binds-ordered ps e (noted B p (record { from = j; to = e })) k)
    where
      go : (r : Option ℕ) → takes ks ss p j ≡ r
          → ((e : ℕ) → Ordered (noted B p (record { from = j; to = e })) → Ordered (binds ks ss ps e (noted B p (record { from = j; to = e }))))
          → Ordered (reached r (λ e. binds ks ss ps e (noted B p (record { from = j; to = e }))) B)
      go (Some e) q on = on e (noted-ordered B p (record { from = j; to = e }) (takes-on p j e q) h)
      go None q on = h

  pub bound-ordered : (left : List ℕ) (b : List Span) → b ≡ binds ks ss left 0 (replicate 8 no_words) → (v : ℕ) → (taken_by b v).from ≤ (taken_by b v).to
  bound-ordered left b e v = subst (λ (x : List Span). (taken_by x v).from ≤ (taken_by x v).to) (sym e) (ordered_at (binds ks ss left 0 (replicate 8 no_words)) (binds-ordered left 0 (replicate 8 no_words) zeros) v)
    where
      l : zero ≤ zero
      l = omega arith

      zeros : Ordered (replicate 8 no_words)
      zeros = (l, (l, (l, (l, (l, (l, (l, (l, tt))))))))
