-- RULES THAT DO NOT OVERLAP: what the reader's test means, both ways.
use Prim.Native.Nat.{ℕ}
use mathlib.Core.Path.{◌≡◌, refl, sym, ap, ◌∙◌}
use mathlib.Core.Bool.{Bool, true, false, ◌&&◌, ◌||◌}
use mathlib.Core.List.{List, [], ◌∷◌}
use lib.Dec.{eqb}
use Rattle.theory.proofs.Lists.{each_snoc, each_first, each-later, each_both, each_map}
use Rattle.theory.specs.Syntax.{choose}
use Rattle.theory.specs.Overlap.{overlaps}
use Rattle.theory.specs.Bytes.{good, refuse, RuleAt, add_last, overlaps_earlier, refuse_overlaps}
use Rattle.theory.specs.Encoding.{Each, NotOverlapping, NoneOverlap}
use Rattle.theory.proofs.Tests.{eqb-true, eq-of-eqb}
use Rattle.theory.proofs.SidesGive.{Ok}
use Rattle.theory.proofs.SidesRead.{ok-map, or-first, or-second}

-- The reader asks it of each rule and those before it, `NoneOverlap` of each rule and those behind it
not-both : (m n : ℕ) (b : Bool) → (eqb m n && b) ≡ false → m ≡ n → b ≡ false
not-both m n b h e = ap (λ (x : Bool). x && b) (sym (eqb-true m n e)) ∙ h

both-not : (m n : ℕ) (b : Bool) → (m ≡ n → b ≡ false) → (eqb m n && b) ≡ false
both-not m n b h = go (eqb m n) refl
  where
    go : (x : Bool) → eqb m n ≡ x → (x && b) ≡ false
    go true e = h (eq-of-eqb m n e)
    go false e = refl

pub apart_of : (r : RuleAt) (qs : List RuleAt) → overlaps_earlier r qs ≡ false → Each (λ q. NotOverlapping q r) qs
apart_of r [] h = tt
apart_of r (q ∷ qs) h =
    let a = eqb q.owner r.owner && overlaps q.sides.left r.sides.left in
    (not-both q.owner r.owner (overlaps q.sides.left r.sides.left) (or-first a (overlaps_earlier r qs) h), apart_of r qs (or-second a (overlaps_earlier r qs) h))

of-apart : (r : RuleAt) (qs : List RuleAt) → Each (λ q. NotOverlapping q r) qs → overlaps_earlier r qs ≡ false
of-apart r [] h = refl
of-apart r (q ∷ qs) h =
    ap (λ (x : Bool). x || overlaps_earlier r qs) (both-not q.owner r.owner (overlaps q.sides.left r.sides.left) h.0) ∙ of-apart r qs h.1

abbrev pub Clear : List RuleAt → List RuleAt → Type 0
Clear before rs = Each (λ q. Each (NotOverlapping q) rs) before × NoneOverlap rs

pub overlap-reads : (before rs : List RuleAt) → Ok (λ u. Clear before rs) (refuse_overlaps before rs)
overlap-reads before [] = (none before, tt)
  where
    none : (qs : List RuleAt) → Each (λ q. Unit {0}) qs
    none [] = tt
    none (q ∷ qs) = (tt, none qs)
overlap-reads before (r ∷ rs) = go (overlaps_earlier r before) refl (overlap-reads (add_last before r) rs)
  where
    go : (b : Bool) → overlaps_earlier r before ≡ b → Ok (λ u. Clear (add_last before r) rs) (refuse_overlaps (add_last before r) rs)
        → Ok (λ u. Clear before (r ∷ rs)) (choose b (λ u. refuse 10 r.opened) (λ u. refuse_overlaps (add_last before r) rs))
    go true e h = tt
    go false e h =
        ok-map (λ u. Clear (add_last before r) rs) (λ u. Clear before (r ∷ rs)) (refuse_overlaps (add_last before r) rs)
        (λ u c. (
          each_both (λ q. NotOverlapping q r) (λ q. Each (NotOverlapping q) rs) (λ q. Each (NotOverlapping q) (r ∷ rs)) before (λ q x y. (x, y)) (apart_of r before e) (each_first (λ q. Each (NotOverlapping q) rs) before (r ∷ []) c.0),
          ((each-later (λ q. Each (NotOverlapping q) rs) before (r ∷ []) c.0).0, c.1),
        )) h

pub clear-now : (before : List RuleAt) (r : RuleAt) (rs : List RuleAt) → Clear before (r ∷ rs) → overlaps_earlier r before ≡ false
clear-now before r rs h = of-apart r before (each_map (λ q. Each (NotOverlapping q) (r ∷ rs)) (λ q. NotOverlapping q r) before (λ q x. x.0) h.0)

pub clear_next : (before : List RuleAt) (r : RuleAt) (rs : List RuleAt) → Clear before (r ∷ rs) → Clear (add_last before r) rs
clear_next before r rs h =
    (each_snoc (λ q. Each (NotOverlapping q) rs) before r (each_map (λ q. Each (NotOverlapping q) (r ∷ rs)) (λ q. Each (NotOverlapping q) rs) before (λ q x. x.1) h.0) h.1.0, h.1.1)

pub overlap-back : (before rs : List RuleAt) → Clear before rs → refuse_overlaps before rs ≡ good tt
overlap-back before [] h = refl
overlap-back before (r ∷ rs) h =
    ap (λ (b : Bool). choose b (λ u. refuse 10 r.opened) (λ u. refuse_overlaps (add_last before r) rs)) (clear-now before r rs h)
    ∙ overlap-back (add_last before r) rs (clear_next before r rs h)
