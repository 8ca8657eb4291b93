-- Overlap on the bytes is the theory's, for rules that stand in them.
use Prim.Native.Nat.{ℕ, ◌+◌}
use mathlib.Core.Path.{◌≡◌, refl, sym, ap, ◌∙◌}
use mathlib.Core.Bool.{Bool, true, false, ◌&&◌}
use mathlib.Core.List.{List, [], ◌∷◌, ◌++◌}
use native.Mathlib.Omega.{arith}
use lib.Dec.{eqb}
use lib.ListN.{get_or}
use borrow.Author.Tests.{eqb-true, eqb-false}
use Rattle.theory.specs.Syntax.{choose}
use Rattle.theory.specs.Overlap.{overlaps}
use Rattle.theory.specs.Bytes.{Result, good, refuse, RuleAt, add_last, overlaps_earlier, refuse_overlaps}
use Rattle.std.specs.Prelude.{Option, Some, None}
use Rattle.theory.specs.Bytes.{opened_at}
use Rattle.checker.specs.Overlap.{clash_at, any_clash, first_clash}
use Rattle.theory.specs.Encoding.{encode, Each}
use Rattle.theory.proofs.Lists.{each_snoc}
use Rattle.checker.proofs.overlap.Laws.{clash-other, clash-same}
use Rattle.checker.proofs.overlap.Encode.{args_are}
use Rattle.checker.proofs.Rules.{Stands}

abbrev pub as_result : Option ℕ → Result (Unit {0})
as_result (Some q) = refuse 10 q
as_result None = good tt

opened-snoc : (rs : List RuleAt) (r : RuleAt) → opened_at (add_last rs r) ≡ opened_at rs ++ (r.opened ∷ [])
opened-snoc [] r = refl
opened-snoc (q ∷ qs) r = ap (λ l. q.opened ∷ l) (opened-snoc qs r)

module _ (ws ns : List ℕ) where
  clash-is : (q r : RuleAt) → Stands ws ns q → Stands ws ns r → clash_at ws ns q.opened r.opened ≡ (eqb q.owner r.owner && overlaps q.sides.left r.sides.left)
  clash-is q r h k = by-owner (eqb q.owner r.owner) refl
    where
      by-owner : (b : Bool) → eqb q.owner r.owner ≡ b → clash_at ws ns q.opened r.opened ≡ (b && overlaps q.sides.left r.sides.left)
      by-owner true e =
          let o = eqb-true q.owner r.owner e in
          clash-same ws ns q.opened r.opened (omega (arith, h.0)) (omega (arith, k.0)) (h.1 ∙ o ∙ sym k.1)
          ∙ rw (h.3.1, k.3.1) (args_are q.sides.left r.sides.left (get_or ns (get_or ws (r.opened + 1) 0) 0) (encode q.sides.right ++ h.3.0) (encode r.sides.right ++ k.3.0)
          (h.2 ∙ ap (λ i. get_or ns i 0) (o ∙ sym k.1)) (k.2 ∙ ap (λ i. get_or ns i 0) (sym k.1)))
      by-owner false e =
          clash-other ws ns q.opened r.opened (omega (arith, h.0)) (omega (arith, k.0)) (λ g. eqb-false q.owner r.owner e (sym h.1 ∙ g ∙ k.1))

  any-is : (qs : List RuleAt) (r : RuleAt) → Each (Stands ws ns) qs → Stands ws ns r → any_clash ws ns (opened_at qs) r.opened ≡ overlaps_earlier r qs
  unfolding any_clash
  any-is [] r h k = refl
  any-is (q ∷ qs) r h k = rw (clash-is q r h.0 k, any-is qs r h.1 k)

  pub overlap-is : (qs rs : List RuleAt) → Each (Stands ws ns) qs → Each (Stands ws ns) rs → as_result (first_clash ws ns (opened_at qs) (opened_at rs)) ≡ refuse_overlaps qs rs
  unfolding first_clash
  overlap-is qs [] h k = refl
  overlap-is qs (r ∷ rs) h k = rw (any-is qs r h k.0, ← opened-snoc qs r) (by-clash (overlaps_earlier r qs) (overlap-is (add_last qs r) rs (each_snoc (Stands ws ns) qs r h k.0) k.1))
    where
      by-clash : (b : Bool) → as_result (first_clash ws ns (opened_at (add_last qs r)) (opened_at rs)) ≡ refuse_overlaps (add_last qs r) rs
          → as_result (choose b (λ u. Some r.opened) (λ u. first_clash ws ns (opened_at (add_last qs r)) (opened_at rs))) ≡ choose b (λ u. refuse 10 r.opened) (λ u. refuse_overlaps (add_last qs r) rs)
      by-clash true e = refl
      by-clash false e = e
