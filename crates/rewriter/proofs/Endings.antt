-- The laws of reading an ending off the words.
use mathlib.Core.Path.{◌≡◌, refl, sym, ap, subst, ◌∙◌}
use mathlib.Core.Logic.{◌≢◌}
use mathlib.Core.Bool.{Bool, true, false, not}
use mathlib.Core.List.{List, [], ◌∷◌}
use Prim.Native.Nat.{ℕ, suc, ◌+◌, ◌-◌, ◌≤◌}
use native.Mathlib.Nat.{add-zero, zero-add, sub-zero}
use native.Mathlib.Numerals.{add-one}
use native.Mathlib.Omega.{arith}
use lib.Dec.{eqb}
use lib.ListN.{length, get_or}
use Rattle.std.specs.Prelude.{Option, Some, None, cond, position}
use Rattle.std.specs.List.{position_from}
use Rattle.std.proofs.lemmas.Iterator.Adapters.{position_from-zero}
use Rattle.theory.specs.Syntax.{pick}
use Rattle.theory.proofs.Tests.{eqb-false}
use Rattle.rewriter.specs.Read.{fired_w, root_w, read_w}
use Rattle.words.specs.declared.base.Base.TheVariants as b
use Rattle.rewriter.specs.declared.ending.Said.TheVariants.{Value, Stuck}

-- ---- the cases of a root
module _ (k x : ℕ) where
  pub root-1 : Value k b.Zero ≡ root_w 1 k x
  unfolding root_w
  root-1 = refl

  pub root-3 : Value k b.True ≡ root_w 3 k x
  unfolding root_w
  root-3 = refl

  pub root-4 : Value k b.False ≡ root_w 4 k x
  unfolding root_w
  root-4 = refl

  pub root-6 : fired_w k x ≡ root_w 6 k x
  unfolding root_w
  root-6 = refl

  pub root-other : (w : ℕ) → w ≢ 1 → w ≢ 3 → w ≢ 4 → w ≢ 6 → Stuck k ≡ root_w w k x
  unfolding root_w
  root-other w a c d e = rw (eqb-false w 1 a, eqb-false w 3 c, eqb-false w 4 d, eqb-false w 6 e) refl

-- ---- the first word that is no succ tells the ending
abbrev pub no_succ : ℕ → Bool
no_succ w = not (eqb w 2)

-- what the words ws show under k succ signs, where that word is number i, counted from k
abbrev Shown : List ℕ → ℕ → Option ℕ → Type 0
Shown ws k None = read_w ws k ≡ Stuck (k + length ws)
Shown ws k (Some i) = (k ≤ i) × (read_w ws k ≡ root_w (get_or ws (i - k) 0) i (get_or ws (suc (i - k)) 0))

shown : (ws : List ℕ) (k : ℕ) → Shown ws k (position_from no_succ k ws)
unfolding read_w
shown [] k = ap Stuck (sym (add-zero k))
shown (w ∷ ws) k = by (eqb w 2) refl (shown ws (k + 1))
  where
    onward : (o : Option ℕ) → eqb w 2 ≡ true → Shown ws (k + 1) o → Shown (w ∷ ws) k o
    onward None e h =
        let n : k + 1 + length ws ≡ k + suc (length ws) = omega arith in
        ap (λ (b : Bool). pick b (read_w ws (k + 1)) (root_w w k (get_or ws 0 0))) e ∙ h ∙ ap Stuck n
    onward (Some i) e h =
        let j : i - k ≡ suc (i - (k + 1)) = omega arith in (
          omega arith,
          ap (λ (b : Bool). pick b (read_w ws (k + 1)) (root_w w k (get_or ws 0 0))) e ∙ h.1
              ∙ ap (λ (m : ℕ). root_w (get_or (w ∷ ws) m 0) i (get_or (w ∷ ws) (suc m) 0)) (sym j),
        )

    here : eqb w 2 ≡ false → Shown (w ∷ ws) k (Some k)
    here e =
        let z : 0 ≡ k - k = omega arith in (
          omega arith,
          ap (λ (b : Bool). pick b (read_w ws (k + 1)) (root_w w k (get_or ws 0 0))) e ∙ ap (λ (m : ℕ). root_w (get_or (w ∷ ws) m 0) k (get_or (w ∷ ws) (suc m) 0)) z,
        )

    by : (b : Bool) → eqb w 2 ≡ b → Shown ws (k + 1) (position_from no_succ (k + 1) ws) → Shown (w ∷ ws) k (cond (not b) (Some k) (position_from no_succ (k + 1) ws))
    by true e h = onward (position_from no_succ (k + 1) ws) e h
    by false e h = here e

module _ (ws : List ℕ) where
  shown_first : Shown ws 0 (position no_succ ws)
  shown_first = subst (Shown ws 0) (sym (position_from-zero no_succ ws)) (shown ws 0)

  pub read-none : position no_succ ws ≡ None → read_w ws 0 ≡ Stuck (length ws)
  read-none e = subst (Shown ws 0) e shown_first ∙ ap Stuck (zero-add (length ws))

  pub read-first : (k : ℕ) → position no_succ ws ≡ Some k → read_w ws 0 ≡ root_w (get_or ws k 0) k (get_or ws (k + 1) 0)
  read-first k e = (subst (Shown ws 0) e shown_first).1 ∙ ap (λ (m : ℕ). root_w (get_or ws m 0) k (get_or ws (suc m) 0)) (sub-zero k) ∙ ap (λ (m : ℕ). root_w (get_or ws k 0) k (get_or ws m 0)) (sym (add-one k))
