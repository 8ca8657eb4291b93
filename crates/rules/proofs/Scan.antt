-- The index of stored rules: what each rule changes in it, and where the rules of a slot are said to stand.
use mathlib.Core.Path.{◌≡◌, refl, sym, ap, ap₂, subst, ◌∙◌}
use mathlib.Core.Logic.{◌≢◌}
use mathlib.Core.Bool.{Bool, true, false}
use mathlib.Core.List.{List, [], ◌∷◌, ◌++◌, append_assoc, append-nil}
use Prim.Native.Nat.{ℕ, ◌+◌, ◌-◌, ◌<◌, ◌≤◌}
use native.Mathlib.Nat.{add-zero}
use native.Mathlib.Omega.{arith}
use lib.Dec.{eqb}
use lib.ListN.{length, take, drop, replicate, length-set, length-append}
use lib.Seq.{get_or-set_same, get_or-set_other, take-append_seam, drop-append_seam}
use borrow.Author.Tests.{eqb-true, eqb-false, lt-ltb}
use Rattle.theory.proofs.Lists.{copies-same}
use Rattle.theory.specs.Tree.{Rule}
use Rattle.theory.specs.Words.{stored_rule, stored_rules}
use Rattle.theory.specs.Syntax.{pick}
use Rattle.theory.proofs.Readability.{list-append}
use Rattle.std.specs.Prelude.{Option, Some, None}
use Rattle.rules.specs.Index.{slot_of, empty, held, at_slot, extended, noted, index_from, index_of, least_of, clip, span_of, part_in, part_at, rules_with}
use Rattle.rules.specs.declared.index.Span.{Span}
use Rattle.rules.proofs.Pass.{least-of}
use Rattle.rules.proofs.Stored.{root_of, list_length, rule-length, rule-noted}

-- the rules noted one after the other
abbrev pub scan : ℕ → List Rule → List Span → List Span
scan at [] index = index
scan at (r ∷ rs) index = scan (at + length (stored_rule r)) rs (noted index (slot_of (root_of r)) at (at + length (stored_rule r)))

pub scan-words : (rs : List Rule) (at : ℕ) (index : List Span) → index_from 0 at (stored_rules rs) index ≡ scan at rs index
unfolding index_from
scan-words [] at index = refl
scan-words (r ∷ rs) at index =
    rule-noted r (stored_rules rs) at index ∙ scan-words rs (at + length (stored_rule r)) (noted index (slot_of (root_of r)) at (at + length (stored_rule r)))

pub index-scan : (rs : List Rule) → index_of (stored_rules rs) ≡ scan 0 rs (replicate 401 empty)
unfolding index_of
index-scan rs = scan-words rs 0 (replicate 401 empty)

pub scan-append : (xs ys : List Rule) (at : ℕ) (index : List Span) → scan at (xs ++ ys) index ≡ scan (at + length (stored_rules xs)) ys (scan at xs index)
scan-append [] ys at index = ap (λ (a : ℕ). scan a ys index) (sym (add-zero at))
scan-append (r ∷ xs) ys at index =
    let m = length-append (stored_rule r) (stored_rules xs) in
    let p : at + length (stored_rule r) + length (stored_rules xs) ≡ at + length (stored_rule r ++ stored_rules xs) = omega (arith, m) in
    let next : List Span = noted index (slot_of (root_of r)) at (at + length (stored_rule r)) in
    scan-append xs ys (at + length (stored_rule r)) next ∙ ap (λ (a : ℕ). scan a ys (scan (at + length (stored_rule r)) xs next)) p

-- no rule of a list has the slot s; each has it
abbrev pub Other : ℕ → List Rule → Type 0
Other s [] = Unit {0}
Other s (r ∷ rs) = (slot_of (root_of r) ≢ s) × Other s rs

abbrev pub Mine : ℕ → List Rule → Type 0
Mine s [] = Unit {0}
Mine s (r ∷ rs) = (slot_of (root_of r) ≡ s) × Mine s rs

pub other-append : (s : ℕ) (xs ys : List Rule) → Other s xs → Other s ys → Other s (xs ++ ys)
other-append s [] ys h k = k
other-append s (r ∷ xs) ys h k = (h.0, other-append s xs ys h.1 k)

-- where rules stand together from a place on; nowhere if there are none
abbrev pub span_from : ℕ → List Rule → Option Span
span_from at [] = None
span_from at (r ∷ rs) = Some (record { from = at; to = at + length (stored_rules (r ∷ rs)) })

noted-length : (index : List Span) (s at past : ℕ) → length (noted index s at past) ≡ length index
unfolding noted
noted-length index s at past = length-set index s _

module _ (index : List Span) (s at past : ℕ) where
  other-slot : (k : ℕ) → s ≢ k → at_slot (noted index s at past) k ≡ at_slot index k
  unfolding noted
  other-slot k h = ap held (get_or-set_other index s k (extended (at_slot index s) at past) empty (λ e. h (sym e)))

  mine : s < length index → 0 < past → at_slot (noted index s at past) s ≡ Some (extended (at_slot index s) at past)
  unfolding noted
  mine long some =
      ap held (get_or-set_same index s (extended (at_slot index s) at past) empty long)
      ∙ ap (λ (b : Bool). pick b (Some (extended (at_slot index s) at past)) None) (lt-ltb 0 past some)

-- a stored rule has words, its two counts
some_words : (r : Rule) → 0 < length (stored_rule r)
some_words r = let e = rule-length r in omega (arith, e)

-- ---- the rules of a slot lie where the index says
pub record Ranged (s : ℕ) (rs : List Rule) (index : List Span) : Type 0 where
  pub before : List Rule
  pub between : List Rule
  pub after : List Rule
  pub whole : rs ≡ before ++ (between ++ after)
  pub none_before : Other s before
  pub none_after : Other s after
  pub stand : at_slot index s ≡ span_from (length (stored_rules before)) between

abbrev pub blank : List Span
blank = replicate 401 empty

pub blank-slot : (s : ℕ) → at_slot blank s ≡ None
blank-slot s = ap held (copies-same 401 s empty)

one_more : (s : ℕ) (rs : List Rule) (r : Rule) (index : List Span) → s < length index → Ranged s rs index
    → Ranged s (rs ++ (r ∷ [])) (noted index (slot_of (root_of r)) (length (stored_rules rs)) (length (stored_rules rs) + length (stored_rule r)))
one_more s rs r index long g = go (eqb (slot_of (root_of r)) s) refl
  where
    at : ℕ
    at = length (stored_rules rs)

    past : ℕ
    past = at + length (stored_rule r)

    Goal : ℕ → Type 0
    Goal k = Ranged s (rs ++ (r ∷ [])) (noted index k at past)

    one : length (stored_rules (r ∷ [])) ≡ length (stored_rule r)
    one = length-append (stored_rule r) [] ∙ add-zero (length (stored_rule r))

    joined : rs ++ (r ∷ []) ≡ g.before ++ (g.between ++ (g.after ++ (r ∷ [])))
    joined =
        ap (λ (xs : List Rule). xs ++ (r ∷ [])) g.whole ∙ append_assoc g.before (g.between ++ g.after) (r ∷ [])
        ∙ ap (g.before ++◌) (append_assoc g.between g.after (r ∷ []))

    -- another slot's rule comes after
    other : slot_of (root_of r) ≢ s → Goal (slot_of (root_of r))
    other n =
        record {
          before = g.before;
          between = g.between;
          after = g.after ++ (r ∷ []);
          whole = joined;
          none_before = g.none_before;
          none_after = other-append s g.after (r ∷ []) g.none_after (n, tt);
          stand = other-slot index (slot_of (root_of r)) at past s n ∙ g.stand;
        }

    -- one more of the slot: the first, or behind those between
    mine_now : (o : Option Span) → at_slot index s ≡ o → at_slot (noted index s at past) s ≡ Some (extended o at past)
    mine_now o e = mine index s at past long (let w = some_words r in omega (arith, w)) ∙ ap (λ (x : Option Span). Some (extended x at past)) e

    more : (m : List Rule) → g.between ≡ m → Goal s
    more [] e =
        let w : g.before ++ g.after ≡ rs = sym (g.whole ∙ ap (λ (x : List Rule). g.before ++ (x ++ g.after)) e) in
        record {
          before = rs;
          between = r ∷ [];
          after = [];
          whole = refl;
          none_before = subst (Other s) w (other-append s g.before g.after g.none_before g.none_after);
          none_after = tt;
          stand =
              mine_now None (g.stand ∙ ap (span_from (length (stored_rules g.before))) e)
              ∙ ap (λ (n : ℕ). Some (record { from = at; to = at + n })) (sym one);
        }
    more (q ∷ qs) e =
        let b : ℕ = length (stored_rules g.before) in
        let on : List Rule = (q ∷ qs) ++ (g.after ++ (r ∷ [])) in
        let whole : rs ++ (r ∷ []) ≡ g.before ++ on = joined ∙ ap (λ (x : List Rule). g.before ++ (x ++ (g.after ++ (r ∷ [])))) e in
        let l : length (stored_rules (rs ++ (r ∷ []))) ≡ length (stored_rules (g.before ++ on)) = ap (λ (x : List Rule). length (stored_rules x)) whole in
        let h = list_length rs (r ∷ []) in
        let k = list_length g.before on in
        let end : past ≡ b + length (stored_rules on) = omega (arith, one, l, h, k) in
        record {
          before = g.before;
          between = on;
          after = [];
          whole = whole ∙ ap (g.before ++◌) (sym (append-nil on));
          none_before = g.none_before;
          none_after = tt;
          stand =
              mine_now (span_from b (q ∷ qs)) (g.stand ∙ ap (span_from b) e)
              ∙ ap (λ (n : ℕ). Some (record { from = b; to = n })) end;
        }

    go : (b : Bool) → eqb (slot_of (root_of r)) s ≡ b → Goal (slot_of (root_of r))
    go true e = subst Goal (sym (eqb-true (slot_of (root_of r)) s e)) (more g.between refl)
    go false e = other (eqb-false (slot_of (root_of r)) s e)

many_more : (s : ℕ) (rs qs : List Rule) (index : List Span) → s < length index → Ranged s rs index → Ranged s (rs ++ qs) (scan (length (stored_rules rs)) qs index)
many_more s rs [] index long g = subst (λ (x : List Rule). Ranged s x index) (sym (append-nil rs)) g
many_more s rs (r ∷ qs) index long g =
    let past : ℕ = length (stored_rules rs) + length (stored_rule r) in
    let next : List Span = noted index (slot_of (root_of r)) (length (stored_rules rs)) past in
    let one : length (stored_rules (r ∷ [])) ≡ length (stored_rule r) = length-append (stored_rule r) [] ∙ add-zero (length (stored_rule r)) in
    let p : length (stored_rules (rs ++ (r ∷ []))) ≡ past = list_length rs (r ∷ []) ∙ ap (λ (n : ℕ). length (stored_rules rs) + n) one in
    let n = noted-length index (slot_of (root_of r)) (length (stored_rules rs)) past in
    subst (λ (a : ℕ). Ranged s (rs ++ (r ∷ qs)) (scan a qs next)) p
    (subst (λ (x : List Rule). Ranged s x (scan (length (stored_rules (rs ++ (r ∷ [])))) qs next)) (append_assoc rs (r ∷ []) qs)
    (many_more s (rs ++ (r ∷ [])) qs next (omega (arith, n, long)) (one_more s rs r index long g)))

pub ranged : (s : ℕ) → s ≤ 400 → (rs : List Rule) → Ranged s rs (index_of (stored_rules rs))
ranged s h rs =
    subst (Ranged s rs) (sym (index-scan rs))
    (many_more s [] rs blank (let l : length {A = Span} blank ≡ 401 = refl in omega (arith, l, h))
    (record { before = []; between = []; after = []; whole = refl; none_before = tt; none_after = tt; stand = blank-slot s }))

-- ---- and the part of the list there is what the index gives
pub none-given : (index : List Span) (w len : ℕ) → at_slot index (slot_of w) ≡ None → span_of index len w ≡ None
unfolding span_of
none-given index w len e = ap (clip len) e

module _ (index : List Span) (w : ℕ) (before : List Rule) (r : Rule) (more after : List Rule) where
  abbrev between : List Rule
  between = r ∷ more

  abbrev list : List ℕ
  list = stored_rules (before ++ (between ++ after))

  abbrev b : ℕ
  b = length (stored_rules before)

  abbrev m : ℕ
  m = length (stored_rules between)

  pub span-given : at_slot index (slot_of w) ≡ span_from b between → span_of index (length list) w ≡ span_from b between
  unfolding span_of
  span-given e =
      let l = list_length before (between ++ after) in
      let k = list_length between after in
      let to : least_of (b + m) (length list) ≡ b + m = least-of (b + m) (length list) (omega (arith, l, k)) in
      let from : least_of b (least_of (b + m) (length list)) ≡ b = ap (least_of b) to ∙ least-of b (b + m) (omega arith) in
      ap (clip (length list)) e ∙ ap₂ (λ (x y : ℕ). Some (record { from = x; to = y })) from to

  pub part-given : part_in list (record { from = b; to = b + m }) ≡ stored_rules between
  part-given =
      let d : b + m - b ≡ m = omega arith in
      let e : list ≡ stored_rules before ++ (stored_rules between ++ stored_rules after) = list-append before (between ++ after) ∙ ap (stored_rules before ++◌) (list-append between after) in
      ap₂ (λ (n : ℕ) (v : List ℕ). take n (drop b v)) d e
      ∙ ap (take m) (drop-append_seam (stored_rules before) (stored_rules between ++ stored_rules after)) ∙ take-append_seam (stored_rules between) (stored_rules after)

-- the rules with the root w are those between
pub rules-given : (index : List Span) (w : ℕ) (before between after : List Rule) → at_slot index (slot_of w) ≡ span_from (length (stored_rules before)) between
    → rules_with (stored_rules (before ++ (between ++ after))) index w ≡ stored_rules between
unfolding rules_with
rules-given index w before [] after e =
    let list : List ℕ = stored_rules (before ++ after) in
    ap (part_at list) (none-given index w (length list) e)
rules-given index w before (r ∷ more) after e =
    let list : List ℕ = stored_rules (before ++ ((r ∷ more) ++ after)) in
    ap (part_at list) (span-given index w before r more after e) ∙ part-given index w before r more after

-- ---- where the rules of a slot stand together, the places are exactly theirs
pub scan-other : (s : ℕ) (rs : List Rule) → Other s rs → (at : ℕ) (index : List Span) → at_slot (scan at rs index) s ≡ at_slot index s
scan-other s [] h at index = refl
scan-other s (r ∷ rs) h at index =
    let past : ℕ = at + length (stored_rule r) in
    scan-other s rs h.1 past (noted index (slot_of (root_of r)) at past) ∙ other-slot index (slot_of (root_of r)) at past s h.0

pub scan-length : (rs : List Rule) (at : ℕ) (index : List Span) → length (scan at rs index) ≡ length index
scan-length [] at index = refl
scan-length (r ∷ rs) at index =
    let past : ℕ = at + length (stored_rule r) in
    scan-length rs past (noted index (slot_of (root_of r)) at past) ∙ noted-length index (slot_of (root_of r)) at past

module _ (s : ℕ) where
  scan-mine : (rs : List Rule) → Mine s rs → (from at : ℕ) (index : List Span) → s < length index → at_slot index s ≡ Some (record { from = from; to = at })
      → at_slot (scan at rs index) s ≡ Some (record { from = from; to = at + length (stored_rules rs) })
  scan-mine [] h from at index long e = e ∙ ap (λ (n : ℕ). Some (record { from = from; to = n })) (sym (add-zero at))
  scan-mine (r ∷ rs) h from at index long e =
      let past : ℕ = at + length (stored_rule r) in
      let a = length-append (stored_rule r) (stored_rules rs) in
      let n = noted-length index s at past in
      let m : past + length (stored_rules rs) ≡ at + length (stored_rule r ++ stored_rules rs) = omega (arith, a) in
      subst (λ (k : ℕ). at_slot (scan past rs (noted index k at past)) s ≡ Some (record { from = from; to = at + length (stored_rule r ++ stored_rules rs) })) (sym h.0)
      (scan-mine rs h.1 from past (noted index s at past) (omega (arith, n, long)) (mine index s at past long (let w = some_words r in omega (arith, w)) ∙ ap (λ (x : Option Span). Some (extended x at past)) e)
      ∙ ap (λ (n : ℕ). Some (record { from = from; to = n })) m)

  -- the first rule of the slot starts the part
  pub scan-first : (rs : List Rule) → Mine s rs → (at : ℕ) (index : List Span) → s < length index → at_slot index s ≡ None → at_slot (scan at rs index) s ≡ span_from at rs
  scan-first [] h at index long e = e
  scan-first (r ∷ rs) h at index long e =
      let past : ℕ = at + length (stored_rule r) in
      let a = length-append (stored_rule r) (stored_rules rs) in
      let n = noted-length index s at past in
      let m : past + length (stored_rules rs) ≡ at + length (stored_rule r ++ stored_rules rs) = omega (arith, a) in
      subst (λ (k : ℕ). at_slot (scan past rs (noted index k at past)) s ≡ span_from at (r ∷ rs)) (sym h.0)
      (scan-mine rs h.1 at past (noted index s at past) (omega (arith, n, long)) (mine index s at past long (let w = some_words r in omega (arith, w)) ∙ ap (λ (x : Option Span). Some (extended x at past)) e)
      ∙ ap (λ (n : ℕ). Some (record { from = at; to = n })) m)
