-- `position`, an item at a time.
use Prim.Native.Nat.{ℕ, suc, ◌+◌, ◌<◌}
use mathlib.Core.Path.{◌≡◌, refl, ap, ◌∙◌, sym}
use mathlib.Core.Bool.{Bool, true, false, not, cond}
use mathlib.Core.List.{List, ◌∷◌}
use native.Mathlib.Omega.{arith}
use lib.Dec.{ltb, leb-suc-suc}
use lib.ListN.{length}
use borrow.Author.Tests.{lt-ltb}
use Rattle.std.specs.Prelude.{Some, None, option_map}
use Rattle.std.specs.List.{position, position_or_len}

module _ {A : Type 0} (test : A → Bool) (x : A) (xs : List A) where
  pub position-next : position test (x ∷ xs) ≡ cond (test x) (Some 0) (option_map suc (position test xs))
  position-next = by (test x) (position_or_len test xs) (length xs)
    where
      same : (b : Bool) (p : ℕ) → cond b (Some (1 + p)) None ≡ option_map suc (cond b (Some p) None)
      same true p = let z : 1 + p ≡ suc p = omega arith in ap Some z
      same false p = refl

      by : (t : Bool) (p n : ℕ) → cond (ltb (cond (not t) (1 + p) 0) (suc n)) (Some (cond (not t) (1 + p) 0)) None ≡ cond t (Some 0) (option_map suc (cond (ltb p n) (Some p) None))
      by true p n =
          let l : 0 < suc n = omega arith in
          rw (lt-ltb 0 (suc n) l)
      by false p n =
          let z : 1 + p ≡ suc p = omega arith in
          ap (λ (i : ℕ). cond (ltb i (suc n)) (Some i) None) z ∙ ap (λ (b : Bool). cond b (Some (suc p)) None) (leb-suc-suc (suc p) n) ∙ ap (λ (i : ℕ). cond (ltb p n) (Some i) None) (sym z) ∙ same (ltb p n) p
