-- The laws of refusal 17: which functions have a rule, as booleans, and that the first that is false is the theory's lowest.
use Prim.Native.Nat.{ℕ, zero, suc, ◌+◌, ◌≤◌, ◌<◌}
use mathlib.Core.Path.{◌≡◌, refl, sym, ap, ap₂, subst, ◌∙◌}
use mathlib.Core.Bool.{Bool, true, false, not, ◌||◌}
use Rattle.std.specs.Prelude.{Option, Some, None, option_map}
use Rattle.std.specs.List.{position}
use mathlib.Core.List.{List, [], ◌∷◌}
use native.Mathlib.Omega.{arith}
use lib.Dec.{eqb}
use lib.ListN.{length, take, set}
use borrow.Author.Tests.{eq-eqb, ne_eqb}
use Rattle.theory.specs.Syntax.{choose}
use Rattle.theory.specs.Bytes.{Result, good, refuse, Declared, RuleAt, add_last, has_rule, declared_at, refuse_lost}
use Rattle.theory.proofs.Lists.{or_right}
use Rattle.checker.specs.Program.{lost_from, marks}
use Rattle.checker.proofs.Position.{position-next}

-- one rule more
has-this : (f : ℕ) (rs : List RuleAt) (r : RuleAt) → r.owner ≡ f → has_rule f (add_last rs r) ≡ true
has-this f [] r e = rw (eq-eqb r.owner f e)
has-this f (q ∷ qs) r e = or_right (eqb q.owner f) (has_rule f (add_last qs r)) (has-this f qs r e)

has-others : (f : ℕ) (rs : List RuleAt) (r : RuleAt) → (r.owner ≡ f → ⊥) → has_rule f (add_last rs r) ≡ has_rule f rs
has-others f [] r h = rw (ne_eqb r.owner f h)
has-others f (q ∷ qs) r h = ap (λ (b : Bool). eqb q.owner f || b) (has-others f qs r h)

marks-behind : (n f : ℕ) (rs : List RuleAt) (r : RuleAt) → r.owner < f → marks n f (add_last rs r) ≡ marks n f rs
unfolding marks
marks-behind zero f rs r h = refl
marks-behind (suc n) f rs r h =
    let d : r.owner ≡ f → ⊥ = omega arith in
    ap₂ (λ (b : Bool) (bs : List Bool). b ∷ bs) (has-others f rs r d) (marks-behind n (suc f) rs r (omega arith))

pub marks-set : (n f i : ℕ) (rs : List RuleAt) (r : RuleAt) → r.owner ≡ f + i → i < n → set (marks n f rs) i true ≡ marks n f (add_last rs r)
unfolding marks
marks-set zero f i rs r e h = absurd (omega arith)
marks-set (suc n) f zero rs r e h =
    let z : r.owner ≡ f = omega arith in
    let l : r.owner < suc f = omega arith in
    rw (has-this f rs r z, marks-behind n (suc f) rs r l)
marks-set (suc n) f (suc i) rs r e h =
    let d : r.owner ≡ f → ⊥ = omega arith in
    let z : r.owner ≡ suc f + i = omega arith in
    rw (has-others f rs r d) (ap (λ (bs : List Bool). has_rule f rs ∷ bs) (marks-set n (suc f) i rs r z (omega arith)))

pub marks-long : (n f : ℕ) (rs : List RuleAt) → length (marks n f rs) ≡ n
unfolding marks
marks-long zero f rs = refl
marks-long (suc n) f rs = ap suc (marks-long n (suc f) rs)

pub marks-take : (n m f : ℕ) (rs : List RuleAt) → n ≤ m → take n (marks m f rs) ≡ marks n f rs
unfolding marks
marks-take zero m f rs h = refl
marks-take (suc n) zero f rs h = absurd (omega arith)
marks-take (suc n) (suc m) f rs h = ap (λ (bs : List Bool). has_rule f rs ∷ bs) (marks-take n m (suc f) rs (omega arith))

-- the theory's search, by the booleans
module _ (D : Declared) (rs : List RuleAt) where
  abbrev pub lost_as : ℕ → Option ℕ → Result (Unit {0})
  lost_as f (Some l) = refuse 17 (declared_at D (f + l))
  lost_as f None = good tt

  lost-from : (f : ℕ) (ns : List ℕ) → refuse_lost D rs f ns ≡ lost_as f (lost_from (marks (length ns) f rs))
  unfolding marks lost_from
  lost-from f [] = refl
  lost-from f (a ∷ ns) = go (has_rule f rs) (lost-from (suc f) ns)
    where
      later : (o : Option ℕ) → lost_as (suc f) o ≡ lost_as f (option_map suc o)
      later None = refl
      later (Some l) =
          let z : suc f + l ≡ f + suc l = omega arith in
          rw z

      go : (b : Bool) → refuse_lost D rs (suc f) ns ≡ lost_as (suc f) (lost_from (marks (length ns) (suc f) rs))
          → choose b (λ u. refuse_lost D rs (suc f) ns) (λ u. refuse 17 (declared_at D f))
          ≡ lost_as f (choose b (λ u. option_map suc (lost_from (marks (length ns) (suc f) rs))) (λ u. Some 0))
      go true h = h ∙ later (lost_from (marks (length ns) (suc f) rs))
      go false h =
          let z : f ≡ f + 0 = omega arith in
          rw (← z)

  pub lost-is : (ns : List ℕ) (m : ℕ) → length ns ≤ m → refuse_lost D rs 0 ns ≡ lost_as 0 (lost_from (take (length ns) (marks m 0 rs)))
  lost-is ns m h = lost-from 0 ns ∙ ap (λ (bs : List Bool). lost_as 0 (lost_from bs)) (sym (marks-take (length ns) m 0 rs h))

-- of n functions it is one
Below : ℕ → Option ℕ → Type 0
Below n None = Unit {0}
Below n (Some l) = l < n

below-next : (n : ℕ) (o : Option ℕ) → Below n o → Below (suc n) (option_map suc o)
unfolding Below
below-next n None h = tt
below-next n (Some l) h = omega arith

lost-below : (n : ℕ) (bs : List Bool) → Below n (lost_from (take n bs))
unfolding lost_from Below
lost-below zero bs = tt
lost-below (suc n) [] = tt
lost-below (suc n) (true ∷ bs) = below-next n (lost_from (take n bs)) (lost-below n bs)
lost-below (suc n) (false ∷ bs) = omega arith

pub lost_most : (n : ℕ) (bs : List Bool) (l : ℕ) → Some l ≡ lost_from (take n bs) → l < n
unfolding Below
lost_most n bs l e = subst (Below n) (sym e) (lost-below n bs)

-- `position` asks the same
pub position-lost : (bs : List Bool) → position not bs ≡ lost_from bs
unfolding lost_from
position-lost [] = refl
position-lost (true ∷ bs) = position-next not true bs ∙ ap (option_map suc) (position-lost bs)
position-lost (false ∷ bs) = position-next not false bs
