-- THE INDEX LOSES NO RULE: the first rule that fits among those of the subject's root is the first of the whole list.
use mathlib.Core.Path.{◌≡◌, refl, sym, ap, subst, ◌∙◌}
use mathlib.Core.Logic.{◌≢◌}
use mathlib.Core.Bool.{Bool, true, false}
use mathlib.Core.List.{List, [], ◌∷◌, ◌++◌, append_assoc}
use Prim.Native.Nat.{ℕ, zero, suc, ◌+◌, ◌-◌, ◌≤◌}
use native.Mathlib.Nat.{add-zero}
use native.Mathlib.Omega.{arith}
use lib.Dec.{leb, ltb}
use lib.ListN.{length, take, length-append}
use borrow.Author.Tests.{ltb-true}
use Rattle.std.specs.Prelude.{Option, Some, None}
use Rattle.theory.specs.Syntax.{pick}
use Rattle.theory.specs.Tree.{Tree, var, node, Rule}
use Rattle.theory.specs.Words.{words, all_words, is_var, stored_rule, stored_rules}
use Rattle.theory.proofs.Shape.{head_sym}
use Rattle.theory.proofs.Readability.{list-append}
use Rattle.rules.specs.Matching.{reached, fits}
use Rattle.rules.specs.Index.{slot_of, at_slot, index_of}
use Rattle.rules.specs.Finding.{stored, choose, first_from, first_fit, moved, first_among, first_in, first_at}
use Rattle.rules.specs.declared.index.Span.{Span}
use Rattle.rules.proofs.Takes.{takes-other}
use Rattle.rules.proofs.Stored.{root_of, Rooted, rooted-left, rooted-right, rule_fits, rule-passed}
use Rattle.rules.proofs.Scan.{Other, other-append, span_from, ranged, none-given, span-given, part-given}

pub slot-le : (w : ℕ) → slot_of w ≤ 400
unfolding slot_of
slot-le w = go (ltb w 16) refl (ltb w 256) (ltb w 640) refl
  where
    go : (a : Bool) → ltb w 16 ≡ a → (b c : Bool) → ltb w 640 ≡ c → pick a w (pick b 400 (pick c (w - 240) 400)) ≤ 400
    go true e b c f = let l = ltb-true w 16 e in omega arith
    go false e true c f = omega arith
    go false e false true f = let l = ltb-true w 640 f in omega arith
    go false e false false f = omega arith

-- ---- a search that starts further on finds the same, further on
choose-moved : (n : ℕ) (b f : Bool) (here on : Option Span) → moved n (choose b f here on) ≡ choose b f (moved n here) (moved n on)
choose-moved n false f here on = refl
choose-moved n true true here on = refl
choose-moved n true false here on = refl

pub shifted : (ks ss : List ℕ) (a n at : ℕ) (ws : List ℕ) → moved a (first_from ks ss n at ws) ≡ first_from ks ss n (a + at) ws
unfolding first_from
shifted ks ss a n at [] = refl
shifted ks ss a (suc n) at (w ∷ ws) =
    let m : a + suc at ≡ suc (a + at) = omega arith in
    shifted ks ss a n (suc at) ws ∙ ap (λ (i : ℕ). first_from ks ss n i ws) m
shifted ks ss a zero at (l ∷ []) = refl
shifted ks ss a zero at (l ∷ r ∷ ws) =
    let m : a + (2 + at) ≡ 2 + (a + at) = omega arith in
    let e : a + (at + (2 + (l + r))) ≡ a + at + (2 + (l + r)) = omega arith in
    choose-moved a (leb (l + r) (length ws)) (fits ks ss (take l ws) 0) (stored at (2 + (l + r))) (first_from ks ss (l + r) (2 + at) ws)
    ∙ ap (λ (n : ℕ). choose (leb (l + r) (length ws)) (fits ks ss (take l ws) 0) (Some (record { from = a + at; to = n })) (moved a (first_from ks ss (l + r) (2 + at) ws))) e
    ∙ ap (choose (leb (l + r) (length ws)) (fits ks ss (take l ws) 0) (stored (a + at) (2 + (l + r)))) (shifted ks ss a (l + r) (2 + at) ws ∙ ap (λ (i : ℕ). first_from ks ss (l + r) i ws) m)

-- ---- a subject with the root w
module _ (ks : List ℕ) (w : ℕ) (more : List ℕ) where
  abbrev ss : List ℕ
  ss = w ∷ more

  -- a rule with another root does not fit
  other-fails : (r : Rule) → is_var (root_of r) ≡ false → slot_of (root_of r) ≢ slot_of w → fits ks ss (words r.lhs) 0 ≡ false
  unfolding fits
  other-fails r v n = go r.lhs v (λ e. n (ap slot_of e))
    where
      go : (l : Tree) → is_var (head_sym l) ≡ false → head_sym l ≢ w → fits ks ss (words l) 0 ≡ false
      go (var x) v n = ap (λ (q : Option ℕ). reached q (fits ks ss []) false) (takes-other ks ss (64 + x) 0 v (omega arith) n)
      go (node s ts) v n = ap (λ (q : Option ℕ). reached q (fits ks ss (all_words ts)) false) (takes-other ks ss s 0 v (omega arith) n)

  others-passed : (xs : List Rule) → Rooted xs → Other (slot_of w) xs → (ys : List ℕ) (at : ℕ)
      → first_from ks ss 0 at (stored_rules xs ++ ys) ≡ first_from ks ss 0 (at + length (stored_rules xs)) ys
  others-passed [] h o ys at = ap (λ (i : ℕ). first_from ks ss 0 i ys) (sym (add-zero at))
  others-passed (r ∷ xs) h o ys at =
      let a = length-append (stored_rule r) (stored_rules xs) in
      let m : at + length (stored_rule r) + length (stored_rules xs) ≡ at + length (stored_rule r ++ stored_rules xs) = omega (arith, a) in
      ap (first_from ks ss 0 at) (append_assoc (stored_rule r) (stored_rules xs) ys) ∙ rule-passed r (stored_rules xs ++ ys) ks ss at (other-fails r h.0 o.0)
      ∙ others-passed xs h.1 o.1 ys (at + length (stored_rule r)) ∙ ap (λ (i : ℕ). first_from ks ss 0 i ys) m

  none-of-others : (xs : List Rule) → Rooted xs → Other (slot_of w) xs → (at : ℕ) → first_from ks ss 0 at (stored_rules xs) ≡ None
  unfolding first_from
  none-of-others [] h o at = refl
  none-of-others (r ∷ xs) h o at = rule-passed r (stored_rules xs) ks ss at (other-fails r h.0 o.0) ∙ none-of-others xs h.1 o.1 (at + length (stored_rule r))

  -- rules behind which nothing fits
  front-only : (xs : List Rule) (ys : List ℕ) → ((at : ℕ) → first_from ks ss 0 at ys ≡ None) → (at : ℕ) → first_from ks ss 0 at (stored_rules xs ++ ys) ≡ first_from ks ss 0 at (stored_rules xs)
  unfolding first_from
  front-only [] ys h at = h at
  front-only (r ∷ xs) ys h at = ap (first_from ks ss 0 at) (append_assoc (stored_rule r) (stored_rules xs) ys) ∙ go (fits ks ss (words r.lhs) 0) refl (front-only xs ys h (at + length (stored_rule r)))
    where
      go : (b : Bool) → fits ks ss (words r.lhs) 0 ≡ b
          → first_from ks ss 0 (at + length (stored_rule r)) (stored_rules xs ++ ys) ≡ first_from ks ss 0 (at + length (stored_rule r)) (stored_rules xs)
          → first_from ks ss 0 at (stored_rule r ++ (stored_rules xs ++ ys)) ≡ first_from ks ss 0 at (stored_rule r ++ stored_rules xs)
      go true e f = rule_fits r (stored_rules xs ++ ys) ks ss at e ∙ sym (rule_fits r (stored_rules xs) ks ss at e)
      go false e f = rule-passed r (stored_rules xs ++ ys) ks ss at e ∙ f ∙ sym (rule-passed r (stored_rules xs) ks ss at e)

  among : (index : List Span) (before between after : List Rule) → Rooted (before ++ (between ++ after)) → Other (slot_of w) before → Other (slot_of w) after
      → at_slot index (slot_of w) ≡ span_from (length (stored_rules before)) between
      → first_at ks (stored_rules (before ++ (between ++ after))) index ss ≡ first_fit ks (stored_rules (before ++ (between ++ after))) ss
  unfolding first_at first_in
  among index before [] after h nb na e =
      let list : List ℕ = stored_rules (before ++ after) in
      ap (λ (x : Option Span). first_among ks list x ss) (none-given index w (length list) e)
      ∙ sym (none-of-others (before ++ after) h (other-append (slot_of w) before after nb na) 0)
  among index before (r ∷ more) after h nb na e =
      let between : List Rule = r ∷ more in
      let list : List ℕ = stored_rules (before ++ (between ++ after)) in
      let b : ℕ = length (stored_rules before) in
      let rest = rooted-right before (between ++ after) h in
      let z : b + 0 ≡ 0 + b = omega arith in
      ap (λ (x : Option Span). first_among ks list x ss) (span-given index w before r more after e) ∙ ap (λ (v : List ℕ). moved b (first_fit ks v ss)) (part-given index w before r more after)
      ∙ shifted ks ss b 0 0 (stored_rules between) ∙ ap (λ (i : ℕ). first_from ks ss 0 i (stored_rules between)) z
      ∙ sym (front-only between (stored_rules after) (none-of-others after (rooted-right between after rest) na) (0 + b))
      ∙ ap (first_from ks ss 0 (0 + b)) (sym (list-append between after))
      ∙ sym (others-passed before (rooted-left before (between ++ after) h) nb (stored_rules (between ++ after)) 0)
      ∙ ap (first_from ks ss 0 0) (sym (list-append before (between ++ after)))

  first-by-root : (rs : List Rule) → Rooted rs → first_at ks (stored_rules rs) (index_of (stored_rules rs)) ss ≡ first_fit ks (stored_rules rs) ss
  first-by-root rs h =
      let g = ranged (slot_of w) (slot-le w) rs in
      subst (λ (x : List Rule). first_at ks (stored_rules x) (index_of (stored_rules rs)) ss ≡ first_fit ks (stored_rules x) ss) (sym g.whole)
      (among (index_of (stored_rules rs)) g.before g.between g.after (subst Rooted g.whole h) g.none_before g.none_after g.stand)

pub index-finds : (ks : List ℕ) (rs : List Rule) → Rooted rs → (t : Tree) (rest : List ℕ)
    → first_at ks (stored_rules rs) (index_of (stored_rules rs)) (words t ++ rest) ≡ first_fit ks (stored_rules rs) (words t ++ rest)
index-finds ks rs h (var x) rest = first-by-root ks (64 + x) rest rs h
index-finds ks rs h (node s ts) rest = first-by-root ks s (all_words ts ++ rest) rs h
