-- The computed tests on numbers as equations, both ways, and what a choice by a test comes to.
use Prim.Native.Nat.{ℕ, ◌<◌, ◌≤◌}
use mathlib.Core.Path.{◌≡◌, refl, sym, ap, ◌∙◌, subst}
use mathlib.Core.Logic.{◌≢◌, ◌⊎◌, inl, inr}
use mathlib.Core.Bool.{Bool, true, false, not, ◌&&◌, false≢true}
use mathlib.Core.Option.{Option, none, some, none-ne-some}
use native.Mathlib.Omega.{arith}
use lib.Dec.{T, eqb, leb, le→leb, leb→le, nleb→lt, eqb→eq, eqb_refl}
use Rattle.theory.specs.Syntax.{pick, and_then}

pub T→true : (b : Bool) → T b → b ≡ true
T→true true t = refl
T→true false t = absurd t

pub true→T : (b : Bool) → b ≡ true → T b
true→T true e = tt
true→T false e = absurd (false≢true e)

pub leb-true : (m n : ℕ) → m ≤ n → leb m n ≡ true
leb-true m n h = T→true (leb m n) (le→leb m n h)

pub le-of-leb : (m n : ℕ) → leb m n ≡ true → m ≤ n
le-of-leb m n e = leb→le m n (true→T (leb m n) e)

pub leb-false : (m n : ℕ) → n < m → leb m n ≡ false
leb-false m n h = go (leb m n) refl
  where
    go : (b : Bool) → leb m n ≡ b → leb m n ≡ false
    go true e = absurd (let k = le-of-leb m n e in omega arith)
    go false e = e

pub lt-of-leb : (m n : ℕ) → leb m n ≡ false → n < m
lt-of-leb m n e = nleb→lt m n (true→T (not (leb m n)) (ap not e))

-- one or the other
pub enough-or-not : (m n : ℕ) → (m ≤ n) ⊎ (n < m)
enough-or-not m n = go (leb m n) refl
  where
    go : (b : Bool) → leb m n ≡ b → (m ≤ n) ⊎ (n < m)
    go true e = inl (le-of-leb m n e)
    go false e = inr (lt-of-leb m n e)

pub eqb-true : (m n : ℕ) → m ≡ n → eqb m n ≡ true
eqb-true m n e = subst (λ (k : ℕ). eqb m k ≡ true) e (T→true (eqb m m) (eqb_refl m))

pub eq-of-eqb : (m n : ℕ) → eqb m n ≡ true → m ≡ n
eq-of-eqb m n e = eqb→eq m n (true→T (eqb m n) e)

pub eqb-false : (m n : ℕ) → m ≢ n → eqb m n ≡ false
eqb-false m n h = go (eqb m n) refl
  where
    go : (b : Bool) → eqb m n ≡ b → eqb m n ≡ false
    go true e = absurd (h (eq-of-eqb m n e))
    go false e = e

pub ne-of-eqb : (m n : ℕ) → eqb m n ≡ false → m ≢ n
ne-of-eqb m n e p = false≢true (sym e ∙ eqb-true m n p)

pub and_left : (a b : Bool) → T (a && b) → T a
and_left true b t = tt
and_left false b t = t

pub and_right : (a b : Bool) → T (a && b) → T b
and_right true b t = t
and_right false b t = absurd t

pub and_both : (a b : Bool) → T a → T b → T (a && b)
and_both true b h k = k
and_both false b h k = h

pub is_false : (b : Bool) → T (not b) → b ≡ false
is_false true h = absurd h
is_false false h = refl

pub not-true : (b : Bool) → not b ≡ false → b ≡ true
not-true true e = refl
not-true false e = sym e

pub not-false : (b : Bool) → not b ≡ true → b ≡ false
not-false true e = sym e
not-false false e = refl

-- what holds of both choices holds of the one that is made
pub pick-any : {A : Type 0} (P : A → Type 0) (t : Bool) (a b : A) → P a → P b → P (pick t a b)
pick-any P true a b h g = h
pick-any P false a b h g = g

pub then_some : {A B : Type 0} (o : Option A) (f : A → Option B) (b : B) → and_then o f ≡ some b → (a : A) × (o ≡ some a) × (f a ≡ some b)
then_some none f b e = absurd (none-ne-some b e)
then_some (some a) f b e = (a, refl, e)
