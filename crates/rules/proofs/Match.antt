-- MATCHING ON WORDS IS MATCHING ON TREES: a left side fits where the theory matches it, and its variables take the words of what the
-- substitution gives them. So a right side that has only variables of the left is filled in as the theory fills it.
use mathlib.Core.Path.{◌≡◌, refl, sym, ap, ap₂, subst, subst₂, ◌∙◌}
use mathlib.Core.Logic.{◌≢◌, ⊎_elim}
use mathlib.Core.Bool.{Bool, true, false, false≢true}
use mathlib.Core.Option.{Option, none, some}
use mathlib.Core.List.{List, [], ◌∷◌, ◌++◌, append_assoc, append-nil}
use Prim.Native.Nat.{ℕ, suc, ◌+◌, ◌-◌, ◌≤◌, ◌<◌}
use native.Mathlib.Nat.{add-zero}
use native.Mathlib.Omega.{arith}
use lib.Dec.{eqb}
use lib.ListN.{length, get_or, take, drop, set, replicate, length-set, length-drop}
use lib.Seq.{get_or-set_same, get_or-set_other, take-append_seam}
use Rattle.std.specs.Prelude.{Option as Maybe, Some, None}
use Rattle.theory.specs.Syntax.{pick, and_then, elem}
use Rattle.theory.specs.Tree.{Tree, Trees, var, node, [·], ◌▹◌, Subst, bind_tree, no_subst, inst, match, matches, size, sizes, len}
use Rattle.theory.specs.Words.{words, all_words, is_var, Shaped, Shapeds}
use Rattle.theory.specs.Buffers.{part}
use Rattle.theory.specs.Proper.{AllIn, tree_vars, trees_vars}
use Rattle.theory.proofs.Lists.{or-true, elem-append, elem-one, all_in, copies-same, drop-next, past-it}
use Rattle.theory.proofs.Tests.{eqb-true, eq-of-eqb, ne-of-eqb}
use Rattle.theory.proofs.Readability.{is_var-word, length-words}
use Rattle.theory.proofs.Filling.{fill, fill-words}
use Rattle.words.specs.Terms.{arity_of}
use Rattle.words.proofs.Trees.{skip-tree}
use Rattle.rules.specs.Matching.{no_words, taken_by, takes, reached, fits, noted, binds, bound_to}
use Rattle.rules.specs.declared.index.Span.{Span}
use Rattle.rules.proofs.Takes.{takes-var, takes_same, takes-other}

-- ---- words at a place
pub past-tree : (ws : List ℕ) (t : Tree) (ys : List ℕ) (p : ℕ) → drop p ws ≡ words t ++ ys → drop (p + size t) ws ≡ ys
past-tree ws t ys p e = ap (λ (n : ℕ). drop (p + n) ws) (sym (length-words t)) ∙ past-it ws (words t) ys p e

pub record WordAt (ws : List ℕ) (p w : ℕ) (rest : List ℕ) : Type 0 where
  pub within : p < length ws
  pub word : get_or ws p 0 ≡ w
  pub behind : drop (p + 1) ws ≡ rest

pub word_at : (ws : List ℕ) (p w : ℕ) (rest : List ℕ) → drop p ws ≡ w ∷ rest → WordAt ws p w rest
word_at ws p w rest e =
    let l : length ws - p ≡ suc (length rest) = sym (length-drop p ws) ∙ ap length e in
    let h : p < length ws = omega arith in
    let d = drop-next ws p h in
    record { within = h; word = cc; behind = cc }

pub size-pos : (t : Tree) → 1 ≤ size t
size-pos (var x) = omega arith
size-pos (node s ts) = omega arith

abbrev pub matched : Option Subst → Bool
matched none = false
matched (some σ) = true

module _ (ks ss : List ℕ) where
  -- the words that the slots give a variable
  abbrev slot : List Span → ℕ → List ℕ
  slot B x = part (taken_by B x).from (taken_by B x).to ss

  -- a slot that is filled
  abbrev Full : List Span → ℕ → Type 0
  Full B x = (taken_by B x).from < (taken_by B x).to

  -- the slots that are filled hold a substitution
  pub record Holds (B : List Span) (σ : Subst) : Type 0 where
    pub slots8 : length B ≡ 8
    pub slots : (x : ℕ) → x < 8 → Full B x → slot B x ≡ words (σ x)

  start-holds : Holds (replicate 8 no_words) no_subst
  start-holds =
      record {
        slots8 = refl;
        slots = λ x h l. let z = copies-same 8 x no_words in let f = ap (λ (s : Span). s.from) z in let t = ap (λ (s : Span). s.to) z in absurd (omega (arith, f, t, l));
      }

  -- what is left to do after a part of the left side, whose variables are vs: their slots are filled, and those that were stay so
  pub record After (qs ps : List ℕ) (j k : ℕ) (B : List Span) (τ : Subst) (vs : List ℕ) : Type 0 where
    pub bound : List Span
    pub fit : fits ks ss qs j ≡ fits ks ss ps k
    pub bind : binds ks ss qs j B ≡ binds ks ss ps k bound
    pub holds : Holds bound τ
    pub kept : (x : ℕ) → Full B x → Full bound x
    pub filled : (x : ℕ) → elem x vs ≡ true → Full bound x

  abbrev Outcome : List ℕ → List ℕ → ℕ → ℕ → List Span → Option Subst → List ℕ → Type 0
  Outcome qs ps j k B none vs = fits ks ss qs j ≡ false
  Outcome qs ps j k B (some τ) vs = After qs ps j k B τ vs

  join : (qs ms ps : List ℕ) (j k l : ℕ) (B : List Span) (τ : Subst) (vs us : List ℕ) (a : After qs ms j k B τ vs) (o : Option Subst) → Outcome ms ps k l a.bound o us
      → Outcome qs ps j l B o (vs ++ us)
  join qs ms ps j k l B τ vs us a none h = a.fit ∙ h
  join qs ms ps j k l B τ vs us a (some υ) h =
      record {
        bound = h.bound;
        fit = a.fit ∙ h.fit;
        bind = a.bind ∙ h.bind;
        holds = h.holds;
        kept = λ x f. h.kept x (a.kept x f);
        filled = λ x e. ⊎_elim (λ v. h.kept x (a.filled x v)) (λ u. h.filled x u) (or-true (elem x vs) (elem x us) (sym (elem-append x vs us) ∙ e));
      }

  chain : (qs ms ps : List ℕ) (j k l : ℕ) (B : List Span) (vs us : List ℕ) (o : Option Subst) (f : Subst → Option Subst) → Outcome qs ms j k B o vs
      → ((τ : Subst) (B' : List Span) → Holds B' τ → Outcome ms ps k l B' (f τ) us) → Outcome qs ps j l B (and_then o f) (vs ++ us)
  chain qs ms ps j k l B vs us none f h g = h
  chain qs ms ps j k l B vs us (some τ) f h g = join qs ms ps j k l B τ vs us h (f τ) (g τ h.bound h.holds)

  -- a word of the left side that takes something, or nothing
  module _ (p : ℕ) (ps : List ℕ) (j : ℕ) where
    fits_on : (e : ℕ) → takes ks ss p j ≡ Some e → fits ks ss (p ∷ ps) j ≡ fits ks ss ps e
    unfolding fits
    fits_on e q = ap (λ (r : Maybe ℕ). reached r (fits ks ss ps) false) q

    fits_not : takes ks ss p j ≡ None → fits ks ss (p ∷ ps) j ≡ false
    unfolding fits
    fits_not q = ap (λ (r : Maybe ℕ). reached r (fits ks ss ps) false) q

    binds-on : (B : List Span) (e : ℕ) → takes ks ss p j ≡ Some e → binds ks ss (p ∷ ps) j B ≡ binds ks ss ps e (noted B p (record { from = j; to = e }))
    unfolding binds
    binds-on B e q = ap (λ (r : Maybe ℕ). reached r (λ e. binds ks ss ps e (noted B p (record { from = j; to = e }))) B) q

  noted-plain : (B : List Span) (p : ℕ) (x : Span) → is_var p ≡ false → noted B p x ≡ B
  unfolding noted
  noted-plain B p x e = ap (λ (b : Bool). pick b (set B (p - 64) x) B) e

  noted-var : (B : List Span) (v : ℕ) (x : Span) → v < 8 → noted B (64 + v) x ≡ set B v x
  unfolding noted
  noted-var B v x h =
      let m : 64 + v - 64 ≡ v = omega arith in
      ap (λ (b : Bool). pick b (set B (64 + v - 64) x) B) (is_var-word v h) ∙ ap (λ (i : ℕ). set B i x) m

  -- a variable takes a tree
  module _ (x : ℕ) (hx : x < 8) (t : Tree) (ht : Shaped (arity_of ks) t) (j : ℕ) (rest : List ℕ) (stands : drop j ss ≡ words t ++ rest) where
    the-part : part j (j + size t) ss ≡ words t
    the-part =
        let m : j + size t - j ≡ size t = omega arith in
        ap₂ (λ (n : ℕ) (l : List ℕ). take n l) (m ∙ sym (length-words t)) stands ∙ take-append_seam (words t) rest

    module _ (B : List Span) (σ : Subst) (h : Holds B σ) where
      -- the tree's words
      abbrev the_span : Span
      the_span = record { from = j; to = j + size t }

      abbrev B' : List Span
      B' = set B x the_span

      slot_same : (y : ℕ) → eqb x y ≡ true → taken_by B' y ≡ the_span
      slot_same y e = let l : x < length B = omega (arith, h.slots8) in ap (taken_by B') (sym (eq-of-eqb x y e)) ∙ get_or-set_same B x the_span no_words l

      slot-other : (y : ℕ) → eqb x y ≡ false → taken_by B' y ≡ taken_by B y
      slot-other y e = get_or-set_other B x y the_span no_words (λ q. ne-of-eqb x y e (sym q))

      set_full : (y : ℕ) → eqb x y ≡ true → Full B' y
      set_full y e = subst (λ (s : Span). s.from < s.to) (sym (slot_same y e)) (omega (arith, size-pos t))

      set-kept : (y : ℕ) → Full B y → Full B' y
      set-kept y f = go (eqb x y) refl
        where
          go : (b : Bool) → eqb x y ≡ b → Full B' y
          go true e = set_full y e
          go false e = subst (λ (s : Span). s.from < s.to) (sym (slot-other y e)) f

      set_holds : Holds B' (bind_tree σ x t)
      set_holds = record { slots8 = simp length-set h.slots8; slots = λ y hy f. go y hy f (eqb x y) refl }
        where
          go : (y : ℕ) → y < 8 → Full B' y → (b : Bool) → eqb x y ≡ b → slot B' y ≡ words (pick b t (σ y))
          go y hy f true e = ap (λ (s : Span). part s.from s.to ss) (slot_same y e) ∙ the-part
          go y hy f false e =
              ap (λ (s : Span). part s.from s.to ss) (slot-other y e) ∙ h.slots y hy (subst (λ (s : Span). s.from < s.to) (slot-other y e) f)

    take-var : (ps : List ℕ) (B : List Span) (σ : Subst) → Holds B σ → After ((64 + x) ∷ ps) ps j (j + size t) B (bind_tree σ x t) (x ∷ [])
    take-var ps B σ h =
        let q = takes-var ks ss (64 + x) j (is_var-word x hx) ∙ skip-tree ks ss j t rest ht stands in
        record {
          bound = set B x (record { from = j; to = j + size t });
          fit = fits_on (64 + x) ps j (j + size t) q;
          bind = binds-on (64 + x) ps j B (j + size t) q ∙ ap (binds ks ss ps (j + size t)) (noted-var B x (record { from = j; to = j + size t }) hx);
          holds = set_holds B σ h;
          kept = set-kept B σ h;
          filled = λ y e. set_full B σ h y (eqb-true x y (elem-one y x e));
        }

  -- any other word takes itself
  take_same : (s : ℕ) → is_var s ≡ false → (ps : List ℕ) (B : List Span) (j : ℕ) (σ : Subst) (rest : List ℕ) → drop j ss ≡ s ∷ rest → Holds B σ → After (s ∷ ps) ps j (j + 1) B σ []
  take_same s v ps B j σ rest stands h =
      let w = word_at ss j s rest stands in
      let q = takes_same ks ss s j v w.within (sym w.word) in
      record {
        bound = B;
        fit = fits_on s ps j (j + 1) q;
        bind = binds-on s ps j B (j + 1) q ∙ ap (binds ks ss ps (j + 1)) (noted-plain B s (record { from = j; to = j + 1 }) v);
        holds = h;
        kept = λ x f. f;
        filled = λ x e. absurd (false≢true e);
      }

  take-other : (s r : ℕ) → is_var s ≡ false → s ≢ r → (ps : List ℕ) (j : ℕ) (rest : List ℕ) → drop j ss ≡ r ∷ rest → fits ks ss (s ∷ ps) j ≡ false
  take-other s r v n ps j rest stands =
      let w = word_at ss j r rest stands in
      fits_not s ps j (takes-other ks ss s j v w.within (λ e. n (e ∙ w.word)))

  not-var : (s y : ℕ) → is_var s ≡ false → y < 8 → s ≢ 64 + y
  not-var s y v h e = let z : ◌≡◌ {A = Bool} false true = sym v ∙ ap is_var e ∙ is_var-word y h in let k : ◌≡◌ {A = ℕ} 0 1 = cc in omega arith

  mutual
    match-tree : (l t : Tree) (σ : Subst) (ps rest : List ℕ) (j : ℕ) (B : List Span) → Shaped (arity_of ks) l → Shaped (arity_of ks) t → drop j ss ≡ words t ++ rest → Holds B σ
        → Outcome (words l ++ ps) ps j (j + size t) B (match l t σ) (tree_vars l)
    match-tree (var x) t σ ps rest j B hl ht e h = take-var x hl t ht j rest e ps B σ h
    match-tree (node s qs) (var y) σ ps rest j B hl ht e h = take-other s (64 + y) hl.0 (not-var s y hl.0 ht) (all_words qs ++ ps) j rest e
    match-tree (node s qs) (node r ts) σ ps rest j B hl ht e h =
        go (eqb s r) refl
        (λ q. let f : drop j ss ≡ s ∷ (all_words ts ++ rest) = e ∙ ap (λ (w : ℕ). w ∷ (all_words ts ++ rest)) (sym q) in
        let m : j + 1 + sizes ts ≡ j + suc (sizes ts) = omega arith in
        subst (λ (k : ℕ). Outcome (s ∷ (all_words qs ++ ps)) ps j k B (matches qs ts σ) (trees_vars qs)) m
        (chain (s ∷ (all_words qs ++ ps)) (all_words qs ++ ps) ps j (j + 1) (j + 1 + sizes ts) B [] (trees_vars qs) (some σ) (matches qs ts) (take_same s hl.0 (all_words qs ++ ps) B j σ (all_words ts ++ rest) f h)
        (λ τ B' h'. match-trees qs ts τ ps rest (j + 1) B' hl.2 ht.2 (hl.1 ∙ ap (arity_of ks) q ∙ sym ht.1) (word_at ss j s (all_words ts ++ rest) f).behind h')))
      where
        go : (b : Bool) → eqb s r ≡ b → (s ≡ r → Outcome (s ∷ (all_words qs ++ ps)) ps j (j + suc (sizes ts)) B (matches qs ts σ) (trees_vars qs))
            → Outcome (s ∷ (all_words qs ++ ps)) ps j (j + suc (sizes ts)) B (pick b (matches qs ts σ) none) (trees_vars qs)
        go true q on = on (eq-of-eqb s r q)
        go false q on = take-other s r hl.0 (ne-of-eqb s r q) (all_words qs ++ ps) j (all_words ts ++ rest) e

    match-trees : (qs ts : Trees) (σ : Subst) (ps rest : List ℕ) (j : ℕ) (B : List Span) → Shapeds (arity_of ks) qs → Shapeds (arity_of ks) ts → len qs ≡ len ts → drop j ss ≡ all_words ts ++ rest → Holds B σ
        → Outcome (all_words qs ++ ps) ps j (j + sizes ts) B (matches qs ts σ) (trees_vars qs)
    match-trees [·] [·] σ ps rest j B hq ht n e h =
        record { bound = B; fit = ap (fits ks ss ps) (sym (add-zero j)); bind = ap (λ (k : ℕ). binds ks ss ps k B) (sym (add-zero j)); holds = h; kept = λ x f. f; filled = λ x e. absurd (false≢true e) }
    match-trees [·] (t ▹ ts) σ ps rest j B hq ht n e h = absurd (omega arith)
    match-trees (q ▹ qs) [·] σ ps rest j B hq ht n e h = absurd (omega arith)
    match-trees (q ▹ qs) (t ▹ ts) σ ps rest j B hq ht n e h =
        let f = e ∙ append_assoc (words t) (all_words ts) rest in
        let m : j + size t + sizes ts ≡ j + (size t + sizes ts) = omega arith in
        let n' : len qs ≡ len ts = omega arith in
        subst₂ (λ (l : List ℕ) (k : ℕ). Outcome l ps j k B (and_then (match q t σ) (matches qs ts)) (tree_vars q ++ trees_vars qs)) (sym (append_assoc (words q) (all_words qs) ps)) m
        (chain (words q ++ (all_words qs ++ ps)) (all_words qs ++ ps) ps j (j + size t) (j + size t + sizes ts) B (tree_vars q) (trees_vars qs) (match q t σ) (matches qs ts)
        (match-tree q t σ (all_words qs ++ ps) (all_words ts ++ rest) j B hq.0 ht.0 f h)
        (λ τ B' h'. match-trees qs ts τ ps rest (j + size t) B' hq.1 ht.1 n' (past-tree ss t (all_words ts ++ rest) j f) h'))

  -- ---- THE WHOLE LEFT SIDE against the tree at the front
  module _ (l t : Tree) (hl : Shaped (arity_of ks) l) (ht : Shaped (arity_of ks) t) (rest : List ℕ) (e : ss ≡ words t ++ rest) where
    whole : Outcome (words l) [] 0 (0 + size t) (replicate 8 no_words) (match l t no_subst) (tree_vars l)
    whole =
        subst (λ (qs : List ℕ). Outcome qs [] 0 (0 + size t) (replicate 8 no_words) (match l t no_subst) (tree_vars l)) (append-nil (words l))
        (match-tree l t no_subst [] rest 0 (replicate 8 no_words) hl ht e start-holds)

    pub fits-is : fits ks ss (words l) 0 ≡ matched (match l t no_subst)
    unfolding fits
    fits-is = go (match l t no_subst) whole
      where
        go : (o : Option Subst) → Outcome (words l) [] 0 (0 + size t) (replicate 8 no_words) o (tree_vars l) → fits ks ss (words l) 0 ≡ matched o
        go none h = h
        go (some τ) h = h.fit

    -- what the variables take, where the tree matches
    module _ (σ : Subst) (q : match l t no_subst ≡ some σ) where
      abbrev pub taken : List Span
      taken = binds ks ss (words l) 0 (replicate 8 no_words)

      pub bound-is : (x : ℕ) → x < 8 → elem x (tree_vars l) ≡ true → bound_to ss taken x ≡ words (σ x)
      unfolding binds
      bound-is x h v =
          let a = subst (λ (o : Option Subst). Outcome (words l) [] 0 (0 + size t) (replicate 8 no_words) o (tree_vars l)) q whole in
          let f : taken ≡ a.bound = a.bind in
          ap (λ (b : List Span). bound_to ss b x) f ∙ a.holds.slots x h (a.filled x v)

      -- the right side's words with the taken words in the place of its variables, all of which stand on the left
      pub filled_is : (r : Tree) → Shaped (arity_of ks) r → AllIn (tree_vars r) (tree_vars l) → fill (bound_to ss taken) (words r) ≡ words (inst σ r)
      filled_is r hr scoped = fill-words (arity_of ks) (bound_to ss taken) σ r hr (λ x h e. bound-is x h (all_in (tree_vars r) (tree_vars l) scoped x e))
