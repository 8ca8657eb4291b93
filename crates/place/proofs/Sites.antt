-- The deepest place that fits, among the words, is the site of the tree's step.
use mathlib.Core.Path.{◌≡◌, refl, sym, ap, subst, subst₂, ◌∙◌}
use mathlib.Core.Bool.{Bool, true, false, false≢true}
use mathlib.Core.Option.{Option, none, some}
use mathlib.Core.List.{List, [], ◌∷◌, ◌++◌, append_assoc}
use Prim.Native.Nat.{ℕ, zero, suc, ◌+◌, ◌-◌, ◌≤◌, ◌<◌}
use native.Mathlib.Nat.{add-zero}
use native.Mathlib.Omega.{arith}
use lib.Dec.{leb}
use lib.ListN.{get_or, drop}
use Rattle.std.specs.Prelude.{Option as Maybe, Some, None, is_some, unwrap_or}
use Rattle.theory.specs.Syntax.{or_else}
use Rattle.theory.specs.Tree.{Tree, Trees, var, node, [·], ◌▹◌, no_subst, match, Rule, filled, first_fit, active, size, len}
use Rattle.theory.specs.Words.{words, all_words, is_var, Shaped, Shapeds}
use Rattle.theory.specs.Overlap.{IsSome}
use Rattle.theory.proofs.Readability.{is_var-word}
use Rattle.theory.proofs.Tests.{le-of-leb, lt-of-leb}
use Rattle.theory.proofs.Shape.{head_sym, ShapedRules}
use Rattle.theory.proofs.Place.{Site, shift, root_site, site, site_part}
use Rattle.theory.proofs.Active.{active-none}
use Rattle.words.specs.Terms.{arity_of, past}
use Rattle.words.proofs.Skips.{past-none}
use Rattle.words.proofs.Trees.{past_words}
use Rattle.rules.specs.declared.finding.Fitting.{Fitting}
use Rattle.rules.specs.declared.finding.Fitting.TheVariants.{Standing}
use Rattle.rules.proofs.Match.{WordAt, word_at, past-tree}
use Rattle.rules.proofs.Stored.{Rooted}
use Rattle.rules.proofs.Found.{Picked}
use Rattle.place.specs.Path.{site_of, here_at, or_here, site_at}
use Rattle.place.specs.declared.Site.{Site as Found}
use Rattle.place.proofs.Path.{below_none, below-few, below-past, site-short, site-deep, here-is}

-- no part has the number 0, or one past the last
part_none : (root : Tree → Option Tree) (ts : Trees) → site_part root ts 0 ≡ none
part_none root [·] = refl
part_none root (t ▹ ts) = refl

part-past : (root : Tree → Option Tree) (ts : Trees) (i : ℕ) → len ts < i → site_part root ts i ≡ none
part-past root [·] i h = refl
part-past root (t ▹ ts) zero h = refl
part-past root (t ▹ ts) (suc zero) h = absurd (omega arith)
part-past root (t ▹ ts) (suc (suc i)) h = ap (shift (size t)) (part-past root ts (suc i) (omega arith))

-- no rule fits a variable
pub var-none : (parts : ℕ → ℕ) (rs : List Rule) → ShapedRules parts rs → Rooted rs → (x : ℕ) → first_fit rs (var x) ≡ none
var-none parts [] h k x = refl
var-none parts (r ∷ rs) h k x = go r.lhs h.0 k.0 (var-none parts rs h.2 k.1 x)
  where
    go : (l : Tree) → Shaped parts l → is_var (head_sym l) ≡ false → first_fit rs (var x) ≡ none → or_else (filled r.rhs (match l (var x) no_subst)) (first_fit rs (var x)) ≡ none
    go (var y) s i e = absurd (false≢true (sym i ∙ is_var-word y s))
    go (node n ts) s i e = e

the_tree : (o : Option Tree) → IsSome o → (u : Tree) × (o ≡ some u)
the_tree none h = absurd h
the_tree (some u) h = (u, refl)

-- a place with the rule that was found for it; with any where none was
abbrev pub ruled_at : ℕ → Maybe Fitting → Maybe Found
ruled_at p f = Some (record { place = p; rule = unwrap_or f (Standing (record { from = 0; to = 0 })) })

-- `find` gives, at each tree's words, the first of the rules that fits the tree; its words are what `rule` gives
module _ (ks : List ℕ) (rs : List Rule) (find : List ℕ → Maybe Fitting) (rule : Maybe Fitting → List ℕ)
    (found : (t : Tree) → Shaped (arity_of ks) t → (rest : List ℕ) → Picked ks t rs (rule (find (words t ++ rest))) (is_some (find (words t ++ rest)))) (vars : (x : ℕ) → first_fit rs (var x) ≡ none)
    (ws : List ℕ) where
  abbrev root : Tree → Option Tree
  root = first_fit rs

  abbrev S : ℕ → Maybe Found
  S at = site_at ks find ws at

  abbrev H : ℕ → Maybe Found
  H at = here_at find (drop at ws) at

  -- a place, with what is found there
  abbrev pub with_rule : ℕ → Maybe Found
  with_rule p = ruled_at p (find (drop p ws))

  -- where a site is, the tree standing at the place p
  abbrev pub where_is : ℕ → Option Site → Maybe Found
  where_is p none = None
  where_is p (some z) = with_rule (p + z.place)

  where-shift : (p n : ℕ) (z : Option Site) → where_is (p + n) z ≡ where_is p (shift n z)
  where-shift p n none = refl
  where-shift p n (some z) = ap with_rule (omega arith)

  where-or : (p : ℕ) (a b : Option Site) → or_here (where_is p a) (where_is p b) ≡ where_is p (or_else a b)
  where-or p none b = refl
  where-or p (some z) b = refl

  -- at the place itself
  here_is : (t : Tree) (at : ℕ) (rest : List ℕ) → Shaped (arity_of ks) t → drop at ws ≡ words t ++ rest → H at ≡ where_is at (root_site t (root t))
  here_is t at rest ht e = sym (here-is ks find (drop at ws) at refl) ∙ ap (site_of at) (ap find e) ∙ go (find (words t ++ rest)) refl (found t ht rest)
    where
      go : (f : Maybe Fitting) → find (words t ++ rest) ≡ f → Picked ks t rs (rule f) (is_some f) → site_of at f ≡ where_is at (root_site t (root t))
      go (Some f) q c =
          let u = the_tree (first_fit rs t) (subst IsSome (sym c.fit) c.applies) in
          sym (ap (λ (g : Maybe Fitting). ruled_at at g) (ap find e ∙ q)) ∙ ap with_rule (sym (add-zero at)) ∙ ap (λ (o : Option Tree). where_is at (root_site t o)) (sym u.1)
      go None q c = ap (λ (o : Option Tree). where_is at (root_site t o)) (sym c)

  var-active : (x : ℕ) → x < 8 → active (64 + x) < 1
  var-active x h = subst (λ (n : ℕ). n < 1) (active-none (64 + x) (omega arith) (λ e. omega arith) (λ e. omega arith) (λ e. omega arith) (λ e. omega arith) (λ e. omega arith)) (omega arith)

  -- what stands where the path goes on
  record Part (ts : Trees) (i p : ℕ) : Type 0 where
    at : ℕ
    ends : past (arity_of ks) (drop p ws) i p ≡ Some at
    sited : S at ≡ where_is p (site_part root ts (suc i))

  tests : (s : ℕ) (ts : Trees) (at : ℕ) (rest : List ℕ) → Shaped (arity_of ks) (node s ts) → drop at ws ≡ s ∷ (all_words ts ++ rest)
      → ((i : ℕ) → suc i ≤ len ts → Part ts i (at + 1)) → (i : ℕ) → active s ≡ i
      → S at ≡ or_here (where_is at (shift 1 (site_part root ts i))) (H at)
  tests s ts at rest h e on zero q =
      let w = word_at ws at s (all_words ts ++ rest) e in
      let n : active (get_or ws at 0) < 1 = subst (λ (k : ℕ). k < 1) (sym (ap active w.word ∙ q)) (omega arith) in
      site-short ks find ws at w.within (below_none ks (get_or ws at 0) (drop (at + 1) ws) (at + 1) n)
      ∙ ap (λ (z : Option Site). or_here (where_is at (shift 1 z)) (H at)) (sym (part_none root ts))
  tests s ts at rest h e on (suc i) q = go (leb (suc i) (len ts)) refl
    where
      w : WordAt ws at s (all_words ts ++ rest)
      w = word_at ws at s (all_words ts ++ rest) e

      act : active (get_or ws at 0) ≡ suc i
      act = ap active w.word ∙ q

      parts : arity_of ks (get_or ws at 0) ≡ len ts
      parts = ap (arity_of ks) w.word ∙ sym h.1

      some-part : 1 ≤ active (get_or ws at 0)
      some-part = subst (λ (k : ℕ). 1 ≤ k) (sym act) (omega arith)

      go : (b : Bool) → leb (suc i) (len ts) ≡ b → S at ≡ or_here (where_is at (shift 1 (site_part root ts (suc i)))) (H at)
      go true l =
          let k : suc i ≤ len ts = le-of-leb (suc i) (len ts) l in
          let f = on i k in
          let enough : active (get_or ws at 0) ≤ arity_of ks (get_or ws at 0) = subst₂ (λ (a b : ℕ). a ≤ b) (sym act) (sym parts) k in
          let m : suc i - 1 ≡ i = omega arith in
          site-deep ks find ws at w.within f.at
          (below-past ks (get_or ws at 0) (drop (at + 1) ws) (at + 1) some-part enough
          ∙ ap (λ (n : ℕ). past (arity_of ks) (drop (at + 1) ws) n (at + 1)) (ap (λ (n : ℕ). n - 1) act ∙ m) ∙ f.ends)
          ∙ ap (λ (x : Maybe Found). or_here x (H at)) (f.sited ∙ where-shift at 1 (site_part root ts (suc i)))
      go false l =
          let k : len ts < suc i = lt-of-leb (suc i) (len ts) l in
          let few : arity_of ks (get_or ws at 0) < active (get_or ws at 0) = subst₂ (λ (a b : ℕ). a < b) (sym parts) (sym act) k in
          site-short ks find ws at w.within (below-few ks (get_or ws at 0) (drop (at + 1) ws) (at + 1) some-part few)
          ∙ ap (λ (z : Option Site). or_here (where_is at (shift 1 z)) (H at)) (sym (part-past root ts (suc i) k))

  mutual
    pub site-is : (t : Tree) (at : ℕ) (rest : List ℕ) → Shaped (arity_of ks) t → drop at ws ≡ words t ++ rest → S at ≡ where_is at (site root t)
    site-is (var x) at rest h e =
        let w = word_at ws at (64 + x) rest e in
        let n : active (get_or ws at 0) < 1 = subst (λ (k : ℕ). active k < 1) (sym w.word) (var-active x h) in
        site-short ks find ws at w.within (below_none ks (get_or ws at 0) (drop (at + 1) ws) (at + 1) n)
        ∙ here_is (var x) at rest h e ∙ ap (λ (o : Option Tree). where_is at (root_site (var x) o)) (vars x)
    site-is (node s ts) at rest h e =
        let w = word_at ws at s (all_words ts ++ rest) e in
        tests s ts at rest h e (λ i k. parts_are ts i (at + 1) rest h.2 w.behind k) (active s) refl
        ∙ ap (or_here (where_is at (shift 1 (site_part root ts (active s))))) (here_is (node s ts) at rest h e)
        ∙ where-or at (shift 1 (site_part root ts (active s))) (root_site (node s ts) (root (node s ts)))

    parts_are : (ts : Trees) (i p : ℕ) (rest : List ℕ) → Shapeds (arity_of ks) ts → drop p ws ≡ all_words ts ++ rest → suc i ≤ len ts → Part ts i p
    parts_are [·] i p rest h e k = absurd (omega arith)
    parts_are (t ▹ ts) zero p rest h e k =
        record { at = p; ends = past-none (arity_of ks) (drop p ws) p; sited = site-is t p (all_words ts ++ rest) h.0 (e ∙ append_assoc (words t) (all_words ts) rest) }
    parts_are (t ▹ ts) (suc i) p rest h e k =
        let f = e ∙ append_assoc (words t) (all_words ts) rest in
        let g = past-tree ws t (all_words ts ++ rest) p f in
        let r = parts_are ts i (p + size t) rest h.1 g (omega arith) in
        record {
          at = r.at;
          ends = ap (λ (l : List ℕ). past (arity_of ks) l (suc i) p) f ∙ past_words ks t (all_words ts ++ rest) i p h.0
              ∙ ap (λ (l : List ℕ). past (arity_of ks) l i (p + size t)) (sym g) ∙ r.ends;
          sited = r.sited ∙ where-shift p (size t) (site_part root ts (suc i));
        }
