-- A value at a place, as the code that looks for one answers: a constant stands where the succs end.
use mathlib.Core.Path.{◌≡◌, refl, sym, subst}
use mathlib.Core.Bool.{Bool, true, false}
use mathlib.Core.Logic.{inl, inr}
use mathlib.Core.List.{List}
use Prim.Native.Nat.{ℕ, ◌<◌}
use lib.Dec.{eqb}
use lib.ListN.{length, get_or, drop}
use Rattle.std.specs.Prelude.{Some, None, IsSome}
use Rattle.theory.specs.Syntax.{pick}
use Rattle.theory.proofs.Tests.{eq-of-eqb}
use Rattle.words.specs.Base.{base_of}
use Rattle.words.specs.Terms.{succs_end}
use Rattle.words.specs.declared.base.Base.TheVariants.{Zero, True, False}
use Rattle.rules.specs.Usual.{Base, Valued}

is-base : (w : ℕ) → IsSome (base_of w) → Base w
is-base w h = go (eqb w 1) refl (eqb w 3) refl (eqb w 4) refl h
  where
    go : (a : Bool) → eqb w 1 ≡ a → (b : Bool) → eqb w 3 ≡ b → (c : Bool) → eqb w 4 ≡ c → IsSome (pick a (Some Zero) (pick b (Some True) (pick c (Some False) None))) → Base w
    go true p b q c r h = inl (eq-of-eqb w 1 p)
    go false p true q c r h = inr (inl (eq-of-eqb w 3 q))
    go false p false q true r h = inr (inr (eq-of-eqb w 4 r))
    go false p false q false r h = cc

base-is : (w : ℕ) → Base w → IsSome (base_of w)
base-is w h =
    elim h [
      | inl e ↦ subst (λ (n : ℕ). IsSome (base_of n)) (sym e) refl
      | inr k ↦ elim k [ inl e ↦ subst (λ (n : ℕ). IsSome (base_of n)) (sym e) refl | inr e ↦ subst (λ (n : ℕ). IsSome (base_of n)) (sym e) refl ]
    ]

-- where a constant is found, a value stands
pub value-stands : (t : List ℕ) (q e : ℕ) → e ≡ succs_end (drop q t) q → e < length t → IsSome (base_of (get_or t e 0)) → Valued t q
value-stands t q e p h b =
    record {
      inside = subst (λ (n : ℕ). n < length t) p h;
      base = is-base (get_or t (succs_end (drop q t) q) 0) (subst (λ (n : ℕ). IsSome (base_of (get_or t n 0))) p b);
    }

-- and where a value stands, one is found
pub value-found : (t : List ℕ) (q : ℕ) → Valued t q → (succs_end (drop q t) q < length t → base_of (get_or t (succs_end (drop q t) q) 0) ≡ None) → ⊥
value-found t q v none =
    let b = base-is (get_or t (succs_end (drop q t) q) 0) v.base in
    let n = none v.inside in
    absurd (cc)

-- the laws of the place where a value ends
pub ruleset value_laws = (value-stands, value-found)
