-- One word of a left side: what it takes, and how the walk goes on.
use mathlib.Core.Path.{◌≡◌, refl, ap, ◌∙◌}
use mathlib.Core.Logic.{◌≢◌}
use mathlib.Core.Bool.{Bool, true, false}
use mathlib.Core.List.{List, ◌∷◌}
use Prim.Native.Nat.{ℕ, ◌+◌, ◌-◌, ◌≤◌, ◌<◌}
use native.Mathlib.Omega.{arith}
use lib.Dec.{eqb, leb, ltb}
use lib.ListN.{length, get_or, drop, set, drop_of_length-le}
use borrow.Author.Tests.{lt-ltb}
use Rattle.std.specs.Prelude.{Option, Some, None}
use Rattle.theory.proofs.Lists.{drop-next}
use Rattle.theory.specs.Syntax.{pick}
use Rattle.theory.specs.Words.{is_var}
use Rattle.theory.proofs.Tests.{eqb-true, eqb-false, le-of-leb}
use Rattle.theory.proofs.Readability.{is_var-le}
use Rattle.words.specs.Terms.{skip_at}
use Rattle.rules.specs.Matching.{takes, reached, fits, noted, binds}
use Rattle.rules.specs.declared.index.Span.{Span}

-- the variables' words are 64 to 71
pub is_var-slot : (w : ℕ) → is_var w ≡ true → (64 ≤ w) × (w - 64 < 8)
is_var-slot w e = let l = is_var-le w e in (l, let k = top (leb 64 w) refl e in omega arith)
  where
    top : (b : Bool) → leb 64 w ≡ b → pick b (leb w 71) false ≡ true → w ≤ 71
    top true q k = le-of-leb w 71 k
    top false q k = absurd (let z : ◌≡◌ {A = Bool} false true = k in let y : ◌≡◌ {A = ℕ} 0 1 = cc in omega arith)

module _ (ks ss : List ℕ) (p j : ℕ) where
  pub takes-var : is_var p ≡ true → takes ks ss p j ≡ skip_at ks ss j
  unfolding takes
  takes-var e = ap (λ (b : Bool). pick b (skip_at ks ss j) (pick (ltb j (length ss)) (pick (eqb p (get_or ss j 0)) (Some (j + 1)) None) None)) e

  takes-word : is_var p ≡ false → takes ks ss p j ≡ pick (ltb j (length ss)) (pick (eqb p (get_or ss j 0)) (Some (j + 1)) None) None
  unfolding takes
  takes-word e = ap (λ (b : Bool). pick b (skip_at ks ss j) (pick (ltb j (length ss)) (pick (eqb p (get_or ss j 0)) (Some (j + 1)) None) None)) e

  pub takes_same : is_var p ≡ false → j < length ss → p ≡ get_or ss j 0 → takes ks ss p j ≡ Some (j + 1)
  takes_same e h q =
      takes-word e ∙ ap (λ (b : Bool). pick b (pick (eqb p (get_or ss j 0)) (Some (j + 1)) None) None) (lt-ltb j (length ss) h)
      ∙ ap (λ (b : Bool). pick b (Some (j + 1)) None) (eqb-true p (get_or ss j 0) q)

  pub takes-other : is_var p ≡ false → j < length ss → p ≢ get_or ss j 0 → takes ks ss p j ≡ None
  takes-other e h q =
      takes-word e ∙ ap (λ (b : Bool). pick b (pick (eqb p (get_or ss j 0)) (Some (j + 1)) None) None) (lt-ltb j (length ss) h)
      ∙ ap (λ (b : Bool). pick b (Some (j + 1)) None) (eqb-false p (get_or ss j 0) q)

module _ (ks ss left : List ℕ) (i j : ℕ) where
  pub fits-end : length left ≤ i → fits ks ss (drop i left) j ≡ true
  unfolding fits
  fits-end h = ap (λ (l : List ℕ). fits ks ss l j) (drop_of_length-le left h)

  pub binds-end : (s : List Span) → length left ≤ i → binds ks ss (drop i left) j s ≡ s
  unfolding binds
  binds-end s h = ap (λ (l : List ℕ). binds ks ss l j s) (drop_of_length-le left h)

  module _ (h : i < length left) where
    fits_word : fits ks ss (drop i left) j ≡ reached (takes ks ss (get_or left i 0) j) (fits ks ss (drop (i + 1) left)) false
    unfolding fits
    fits_word = ap (λ (l : List ℕ). fits ks ss l j) (drop-next left i h)

    pub fits_next : (e : ℕ) → takes ks ss (get_or left i 0) j ≡ Some e → fits ks ss (drop i left) j ≡ fits ks ss (drop (i + 1) left) e
    fits_next e q = fits_word ∙ ap (λ (r : Option ℕ). reached r (fits ks ss (drop (i + 1) left)) false) q

    pub fits-stop : takes ks ss (get_or left i 0) j ≡ None → fits ks ss (drop i left) j ≡ false
    fits-stop q = fits_word ∙ ap (λ (r : Option ℕ). reached r (fits ks ss (drop (i + 1) left)) false) q

    abbrev on : List Span → ℕ → List Span
    on s e = binds ks ss (drop (i + 1) left) e (noted s (get_or left i 0) (record { from = j; to = e }))

    binds-word : (s : List Span) → binds ks ss (drop i left) j s ≡ reached (takes ks ss (get_or left i 0) j) (on s) s
    unfolding binds
    binds-word s = ap (λ (l : List ℕ). binds ks ss l j s) (drop-next left i h)

    binds-next : (s : List Span) (e : ℕ) → takes ks ss (get_or left i 0) j ≡ Some e → binds ks ss (drop i left) j s ≡ on s e
    binds-next s e q = binds-word s ∙ ap (λ (r : Option ℕ). reached r (on s) s) q

    pub binds-stop : (s : List Span) → takes ks ss (get_or left i 0) j ≡ None → binds ks ss (drop i left) j s ≡ s
    binds-stop s q = binds-word s ∙ ap (λ (r : Option ℕ). reached r (on s) s) q

    pub binds-var : (s : List Span) (e : ℕ) → is_var (get_or left i 0) ≡ true → takes ks ss (get_or left i 0) j ≡ Some e
        → binds ks ss (drop i left) j s ≡ binds ks ss (drop (i + 1) left) e (set s (get_or left i 0 - 64) (record { from = j; to = e }))
    unfolding noted
    binds-var s e v q =
        binds-next s e q ∙ ap (λ (b : Bool). binds ks ss (drop (i + 1) left) e (pick b (set s (get_or left i 0 - 64) (record { from = j; to = e })) s)) v

    pub binds-plain : (s : List Span) (e : ℕ) → is_var (get_or left i 0) ≡ false → takes ks ss (get_or left i 0) j ≡ Some e
        → binds ks ss (drop i left) j s ≡ binds ks ss (drop (i + 1) left) e s
    unfolding noted
    binds-plain s e v q =
        binds-next s e q ∙ ap (λ (b : Bool). binds ks ss (drop (i + 1) left) e (pick b (set s (get_or left i 0 - 64) (record { from = j; to = e })) s)) v

-- a left side whose second word is not the subject's does not fit
pub fits-other : (ks : List ℕ) (a b c : ℕ) (ws ps : List ℕ) → is_var a ≡ false → is_var c ≡ false → c ≢ b → fits ks (a ∷ b ∷ ws) (a ∷ c ∷ ps) 0 ≡ false
fits-other ks a b c ws ps va vc n =
    fits_next ks (a ∷ b ∷ ws) (a ∷ c ∷ ps) 0 0 (omega arith) 1 (takes_same ks (a ∷ b ∷ ws) a 0 va (omega arith) refl)
    ∙ fits-stop ks (a ∷ b ∷ ws) (a ∷ c ∷ ps) 1 1 (omega arith) (takes-other ks (a ∷ b ∷ ws) c 1 vc (omega arith) n)

-- the steps of the loops in `does_fit` and `bind`
pub ruleset fit_steps = (fits-end, fits_next, fits-stop)

pub ruleset bind_steps = (binds-end, binds-stop)
