-- The part that may be rewritten, by cases of the symbol: the laws for the code that computes it.
use Prim.Native.Nat.{ℕ, ◌%◌, ◌<◌, ◌≤◌}
use mathlib.Core.Path.{◌≡◌, refl, sym, ap}
use mathlib.Core.Logic.{◌≢◌}
use mathlib.Core.Bool.{Bool, ◌||◌}
use lib.Dec.{eqb}
use Rattle.theory.specs.Syntax.{pick}
use Rattle.theory.specs.Tree.{active}
use Rattle.theory.proofs.Tests.{leb-true, leb-false, eqb-false}

pub active-high : (s : ℕ) → 256 ≤ s → s % 8 ≡ active s
active-high s h = sym (ap (λ (b : Bool). pick b (s % 8) (pick (eqb s 2 || eqb s 7 || eqb s 8 || eqb s 10 || eqb s 12) 1 0)) (leb-true 256 s h))

pub active-none : (s : ℕ) → s < 256 → s ≢ 2 → s ≢ 7 → s ≢ 8 → s ≢ 10 → s ≢ 12 → 0 ≡ active s
active-none s h h2 h7 h8 h10 h12 =
    rw (leb-false 256 s h, eqb-false s 2 h2, eqb-false s 7 h7, eqb-false s 8 h8, eqb-false s 10 h10, eqb-false s 12 h12) refl
