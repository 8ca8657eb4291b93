-- Lists: what is in them, what stands from a place on, and what holds of each of their things.
use Prim.Native.Nat.{ℕ, zero, suc, ◌+◌, ◌<◌}
use mathlib.Core.Path.{◌≡◌, refl, sym, ap, ◌∙◌, subst}
use mathlib.Core.Logic.{◌⊎◌, inl, inr, ⊎_elim}
use mathlib.Core.Bool.{Bool, true, false, ◌||◌, false≢true}
use mathlib.Core.List.{List, [], ◌∷◌, ◌++◌}
use native.Mathlib.Numerals.{add-one}
use native.Mathlib.Omega.{arith}
use lib.Dec.{eqb}
use lib.ListN.{length, get_or, drop, replicate}
use lib.Seq.{drop-cons, drop-drop, drop-append_seam}
use Rattle.theory.specs.Syntax.{elem}
use Rattle.theory.specs.Proper.{AllIn}
use Rattle.theory.specs.Bytes.{add_last}
use Rattle.theory.specs.Encoding.{Each}
use Rattle.theory.proofs.Tests.{eq-of-eqb}

pub or-true : (a b : Bool) → (a || b) ≡ true → (a ≡ true) ⊎ (b ≡ true)
or-true true b e = inl refl
or-true false b e = inr e

pub or_right : (a b : Bool) → b ≡ true → (a || b) ≡ true
or_right true b e = refl
or_right false b e = e

pub elem-append : (x : ℕ) (xs ys : List ℕ) → elem x (xs ++ ys) ≡ (elem x xs || elem x ys)
elem-append x [] ys = refl
elem-append x (y ∷ xs) ys = go (eqb y x) (elem-append x xs ys)
  where
    go : (b : Bool) → elem x (xs ++ ys) ≡ (elem x xs || elem x ys) → (b || elem x (xs ++ ys)) ≡ (b || elem x xs || elem x ys)
    go true e = refl
    go false e = e

pub elem-left : (x : ℕ) (xs ys : List ℕ) → elem x xs ≡ true → elem x (xs ++ ys) ≡ true
elem-left x xs ys h = elem-append x xs ys ∙ ap (◌|| elem x ys) h

pub elem-right : (x : ℕ) (xs ys : List ℕ) → elem x ys ≡ true → elem x (xs ++ ys) ≡ true
elem-right x xs ys h = elem-append x xs ys ∙ or_right (elem x xs) (elem x ys) h

pub elem-one : (x y : ℕ) → elem x (y ∷ []) ≡ true → y ≡ x
elem-one x y h = ⊎_elim (eq-of-eqb y x) (λ e. absurd (false≢true e)) (or-true (eqb y x) false h)

pub all_in : (xs ys : List ℕ) → AllIn xs ys → (x : ℕ) → elem x xs ≡ true → elem x ys ≡ true
all_in [] ys h x e = absurd (false≢true e)
all_in (y ∷ xs) ys h x e =
    ⊎_elim (λ p. subst (λ (z : ℕ). elem z ys ≡ true) (eq-of-eqb y x p) h.0) (all_in xs ys h.1 x) (or-true (eqb y x) (elem x xs) e)

pub none_left : (l : List ℕ) → length l ≡ 0 → l ≡ []
none_left [] e = refl
none_left (x ∷ l) e = absurd (omega (arith, e))

-- the numbers from the place p on are the one at p and those from p + 1 on
-- n times a has a at every index, and a is said to stand past them
pub copies-same : {A : Type 0} (n i : ℕ) (a : A) → get_or (replicate n a) i a ≡ a
copies-same zero i a = refl
copies-same (suc n) zero a = refl
copies-same (suc n) (suc i) a = copies-same n i a

pub drop-next : (ws : List ℕ) (p : ℕ) → p < length ws → drop p ws ≡ get_or ws p 0 ∷ drop (p + 1) ws
drop-next ws p h = rw add-one (drop-cons ws p 0 h)

-- where xs stand at the place p, what stands behind them
pub past-it : (ws xs ys : List ℕ) (p : ℕ) → drop p ws ≡ xs ++ ys → drop (p + length xs) ws ≡ ys
past-it ws xs ys p e = sym (drop-drop (length xs) p ws) ∙ ap (drop (length xs)) e ∙ drop-append_seam xs ys

-- each of a list's things
pub each_snoc : {A : Type 0} (P : A → Type 0) (xs : List A) (x : A) → Each P xs → P x → Each P (add_last xs x)
each_snoc P [] x h k = (k, tt)
each_snoc P (y ∷ xs) x h k = (h.0, each_snoc P xs x h.1 k)

pub each_both : {A : Type 0} (P Q R : A → Type 0) (xs : List A) → ((x : A) → P x → Q x → R x) → Each P xs → Each Q xs → Each R xs
each_both P Q R [] f h k = tt
each_both P Q R (x ∷ xs) f h k = (f x h.0 k.0, each_both P Q R xs f h.1 k.1)

pub each_map : {A : Type 0} (P Q : A → Type 0) (xs : List A) → ((x : A) → P x → Q x) → Each P xs → Each Q xs
each_map P Q [] f h = tt
each_map P Q (x ∷ xs) f h = (f x h.0, each_map P Q xs f h.1)

pub each_first : {A : Type 0} (P : A → Type 0) (xs ys : List A) → Each P (xs ++ ys) → Each P xs
each_first P [] ys h = tt
each_first P (x ∷ xs) ys h = (h.0, each_first P xs ys h.1)

pub each-later : {A : Type 0} (P : A → Type 0) (xs ys : List A) → Each P (xs ++ ys) → Each P ys
each-later P [] ys h = h
each-later P (x ∷ xs) ys h = each-later P xs ys h.1
