-- Rewriting keeps the shape: each symbol has its parts, so the words of a term stay the words of one tree.
use Prim.Native.Nat.{ℕ, zero, suc, ◌+◌, ◌-◌, ◌/◌, ◌<◌, ◌≤◌}
use mathlib.Core.Path.{◌≡◌, refl, sym, ap, ◌∙◌}
use mathlib.Core.Bool.{Bool, true, false, not, ◌&&◌}
use mathlib.Core.List.{List, [], ◌∷◌, ◌++◌}
use mathlib.Core.Option.{Option, none, some}
use native.Mathlib.Omega.{arith}
use lib.ListN.{length}
use lib.Dec.{T, eqb, leb, ltb, ltb→lt, eqb→eq}
use Rattle.theory.specs.Syntax.{Base, zero_b, true_b, false_b, Term, const, succ, tvar, raise, handle, cond, call, Terms, tnil, tcons, many, Pat, pbase, psucc, pvar, Def, Fun, Program, pick, and_then, or_else}
use Rattle.theory.specs.WellFormed.{WellFormed, AllWellFormed, DefsWellFormed, ProgramWellFormed, Narrow, Narrows, NarrowPat, NarrowPats, NarrowDefs, small_parts, parts_of}
use Rattle.theory.specs.Tree.{Tree, Trees, var, node, [·], ◌▹◌, Subst, bind_tree, no_subst, inst, insts, match, matches, Rule, filled, apply, first_fit, active, inside, first, later, step, step_part, len}
use Rattle.theory.specs.Words.{is_var, Shaped, Shapeds}
use Rattle.theory.specs.Translation.{base_t, exn_t, fire_t, select_t, aux, tree, trees, pat_t, pat_ts, ◌⇒◌, common_rules, numbers, gather, raise_rule, handle_rule, same_rule, other_rule, exn_rules, variables, arg_rule, own_rules, fun_rules, builtins, standing, own_list, rules}
use Rattle.theory.proofs.Tests.{and_left, and_right, leb-true, leb-false, eqb-false, is_false}

-- the first word of a tree
abbrev pub head_sym : Tree → ℕ
head_sym (var x) = 64 + x
head_sym (node s ts) = s

pub len-trees : (ts : Terms) → len (trees ts) ≡ many ts
len-trees tnil = refl
len-trees (tcons t ts) = ap suc (len-trees ts)

module _ (parts : ℕ → ℕ) where
  abbrev pub ShapedO : Option Tree → Type 0
  ShapedO none = Unit {0}
  ShapedO (some t) = Shaped parts t

  abbrev ShapedsO : ℕ → Option Trees → Type 0
  ShapedsO n none = Unit {0}
  ShapedsO n (some ts) = (len ts ≡ n) × Shapeds parts ts

  abbrev ShapedS : Subst → Type 0
  ShapedS σ = (x : ℕ) → Shaped parts (σ x)

  abbrev ShapedSO : Option Subst → Type 0
  ShapedSO none = Unit {0}
  ShapedSO (some σ) = ShapedS σ

  -- a step of what keeps the shape at a root
  module _ (root : Tree → Option Tree) (keeps : (t : Tree) → Shaped parts t → ShapedO (root t)) where
    inside-shaped : (s : ℕ) (ts : Trees) (o : Option Trees) (r : Option Tree) → Shaped parts (node s ts) → ShapedsO (len ts) o → ShapedO r → ShapedO (inside s o r)
    inside-shaped s ts none r h k g = g
    inside-shaped s ts (some us) r h k g = (h.0, k.0 ∙ h.1, k.1)

    first-shaped : (ts : Trees) (o : Option Tree) → Shapeds parts ts → ShapedO o → ShapedsO (suc (len ts)) (first ts o)
    first-shaped ts none h k = tt
    first-shaped ts (some t) h k = (refl, (k, h))

    later-shaped : (t : Tree) (n : ℕ) (o : Option Trees) → Shaped parts t → ShapedsO n o → ShapedsO (suc n) (later t o)
    later-shaped t n none h k = tt
    later-shaped t n (some ts) h k = (ap suc k.0, (h, k.1))

    mutual
      unfolding step

      pub step-shaped : (t : Tree) → Shaped parts t → ShapedO (step root t)
      step-shaped (var x) h = tt
      step-shaped (node s ts) h =
          inside-shaped s ts (step_part root ts (active s)) (root (node s ts)) h (part-shaped ts (active s) h.2) (keeps (node s ts) h)

      part-shaped : (ts : Trees) (i : ℕ) → Shapeds parts ts → ShapedsO (len ts) (step_part root ts i)
      part-shaped [·] i h = tt
      part-shaped (t ▹ ts) zero h = tt
      part-shaped (t ▹ ts) (suc zero) h = first-shaped ts (step root t) h.1 (step-shaped t h.0)
      part-shaped (t ▹ ts) (suc (suc i)) h = later-shaped t (len ts) (step_part root ts (suc i)) h.0 (part-shaped ts (suc i) h.1)

  -- matching and filling in
  bind-shaped : (σ : Subst) (x : ℕ) (t : Tree) → ShapedS σ → Shaped parts t → ShapedS (bind_tree σ x t)
  bind-shaped σ x t hs ht y = go (eqb x y)
    where
      go : (b : Bool) → Shaped parts (pick b t (σ y))
      go true = ht
      go false = hs y

  pick-shaped : (b : Bool) (o : Option Subst) → ShapedSO o → ShapedSO (pick b o none)
  pick-shaped true o h = h
  pick-shaped false o h = tt

  then-shaped : (o : Option Subst) (f : Subst → Option Subst) → ShapedSO o → ((σ : Subst) → ShapedS σ → ShapedSO (f σ)) → ShapedSO (and_then o f)
  then-shaped none f h k = tt
  then-shaped (some σ) f h k = k σ h

  mutual
    match-shaped : (l t : Tree) (σ : Subst) → Shaped parts t → ShapedS σ → ShapedSO (match l t σ)
    match-shaped (var x) t σ ht hs = bind-shaped σ x t hs ht
    match-shaped (node s ps) (var y) σ ht hs = tt
    match-shaped (node s ps) (node r ts) σ ht hs = pick-shaped (eqb s r) (matches ps ts σ) (matches-shaped ps ts σ ht.2 hs)

    matches-shaped : (ps ts : Trees) (σ : Subst) → Shapeds parts ts → ShapedS σ → ShapedSO (matches ps ts σ)
    matches-shaped [·] [·] σ ht hs = hs
    matches-shaped [·] (t ▹ ts) σ ht hs = tt
    matches-shaped (p ▹ ps) [·] σ ht hs = tt
    matches-shaped (p ▹ ps) (t ▹ ts) σ ht hs =
        then-shaped (match p t σ) (matches ps ts) (match-shaped p t σ ht.0 hs) (λ τ h. matches-shaped ps ts τ ht.1 h)

  len-insts : (σ : Subst) (ts : Trees) → len (insts σ ts) ≡ len ts
  len-insts σ [·] = refl
  len-insts σ (t ▹ ts) = ap suc (len-insts σ ts)

  mutual
    inst-shaped : (t : Tree) (σ : Subst) → Shaped parts t → ShapedS σ → Shaped parts (inst σ t)
    inst-shaped (var x) σ h hs = hs x
    inst-shaped (node s ts) σ h hs = (h.0, len-insts σ ts ∙ h.1, insts-shaped ts σ h.2 hs)

    insts-shaped : (ts : Trees) (σ : Subst) → Shapeds parts ts → ShapedS σ → Shapeds parts (insts σ ts)
    insts-shaped [·] σ h hs = tt
    insts-shaped (t ▹ ts) σ h hs = (inst-shaped t σ h.0 hs, insts-shaped ts σ h.1 hs)

  -- rules whose sides have the shape
  abbrev pub ShapedRules : List Rule → Type 0
  ShapedRules [] = Unit {0}
  ShapedRules (r ∷ rs) = Shaped parts r.lhs × Shaped parts r.rhs × ShapedRules rs

  filled-shaped : (r : Tree) (o : Option Subst) → Shaped parts r → ShapedSO o → ShapedO (filled r o)
  filled-shaped r none h k = tt
  filled-shaped r (some σ) h k = inst-shaped r σ h k

  or-shaped : (a b : Option Tree) → ShapedO a → ShapedO b → ShapedO (or_else a b)
  or-shaped none b h k = k
  or-shaped (some t) b h k = h

  module _ (zero-parts : parts 1 ≡ 0) where
    none-shaped : ShapedS no_subst
    none-shaped x = (refl, sym zero-parts, tt)

    pub fit-shaped : (rs : List Rule) → ShapedRules rs → (t : Tree) → Shaped parts t → ShapedO (first_fit rs t)
    fit-shaped [] h t k = tt
    fit-shaped (r ∷ rs) h t k =
        or-shaped (apply r t) (first_fit rs t)
        (filled-shaped r.rhs (match r.lhs t no_subst) h.1 (match-shaped r.lhs t no_subst k none-shaped)) (fit-shaped rs h.2 t k)

-- the shape as a computed test
module _ (parts : ℕ → ℕ) where
  abbrev mutual
    pub shaped : Tree → Bool
    shaped (var x) = ltb x 8
    shaped (node s ts) = not (is_var s) && (eqb (len ts) (parts s) && shapeds ts)

    pub shapeds : Trees → Bool
    shapeds [·] = true
    shapeds (t ▹ ts) = shaped t && shapeds ts

  mutual
    pub shaped_of : (t : Tree) → T (shaped t) → Shaped parts t
    shaped_of (var x) h = ltb→lt x 8 h
    shaped_of (node s ts) h =
        let r = and_right (not (is_var s)) (eqb (len ts) (parts s) && shapeds ts) h in
        (is_false (is_var s) (and_left (not (is_var s)) (eqb (len ts) (parts s) && shapeds ts) h), eqb→eq (len ts) (parts s) (and_left (eqb (len ts) (parts s)) (shapeds ts) r), shapeds-of ts (and_right (eqb (len ts) (parts s)) (shapeds ts) r))

    pub shapeds-of : (ts : Trees) → T (shapeds ts) → Shapeds parts ts
    shapeds-of [·] h = tt
    shapeds-of (t ▹ ts) h = (shaped_of t (and_left (shaped t) (shapeds ts) h), shapeds-of ts (and_right (shaped t) (shapeds ts) h))

  abbrev pub shaped_rules : List Rule → Bool
  shaped_rules [] = true
  shaped_rules (r ∷ rs) = shaped r.lhs && (shaped r.rhs && shaped_rules rs)

  pub shaped_rules-of : (rs : List Rule) → T (shaped_rules rs) → ShapedRules parts rs
  shaped_rules-of [] h = tt
  shaped_rules-of (r ∷ rs) h =
      let k = and_right (shaped r.lhs) (shaped r.rhs && shaped_rules rs) h in
      (shaped_of r.lhs (and_left (shaped r.lhs) (shaped r.rhs && shaped_rules rs) h), shaped_of r.rhs (and_left (shaped r.rhs) (shaped_rules rs) k), shaped_rules-of rs (and_right (shaped r.rhs) (shaped_rules rs) k))

-- the same as a computed test
abbrev mutual
  pub narrow : Term → Bool
  narrow (const b) = true
  narrow (succ t) = narrow t
  narrow (tvar x) = ltb x 8
  narrow (raise e) = true
  narrow (handle t e h) = narrow t && narrow h
  narrow (cond t a b) = narrow t && (narrow a && narrow b)
  narrow (call k ts) = narrows ts

  pub narrows : Terms → Bool
  narrows tnil = true
  narrows (tcons t ts) = narrow t && narrows ts

mutual
  narrow-of : (t : Term) → T (narrow t) → Narrow t
  narrow-of (const b) h = tt
  narrow-of (succ t) h = narrow-of t h
  narrow-of (tvar x) h = ltb→lt x 8 h
  narrow-of (raise e) h = tt
  narrow-of (handle t e k) h = (narrow-of t (and_left (narrow t) (narrow k) h), narrow-of k (and_right (narrow t) (narrow k) h))
  narrow-of (cond t a b) h =
      let r = and_right (narrow t) (narrow a && narrow b) h in
      (narrow-of t (and_left (narrow t) (narrow a && narrow b) h), narrow-of a (and_left (narrow a) (narrow b) r), narrow-of b (and_right (narrow a) (narrow b) r))
  narrow-of (call k ts) h = narrows-of ts h

  narrows-of : (ts : Terms) → T (narrows ts) → Narrows ts
  narrows-of tnil h = tt
  narrows-of (tcons t ts) h = (narrow-of t (and_left (narrow t) (narrows ts) h), narrows-of ts (and_right (narrow t) (narrows ts) h))

abbrev pub narrow_pat : Pat → Bool
narrow_pat (pbase b) = true
narrow_pat (psucc p) = narrow_pat p
narrow_pat (pvar x) = ltb x 8

narrow_pat-of : (p : Pat) → T (narrow_pat p) → NarrowPat p
narrow_pat-of (pbase b) h = tt
narrow_pat-of (psucc p) h = narrow_pat-of p h
narrow_pat-of (pvar x) h = ltb→lt x 8 h

abbrev pub narrow_pats : List Pat → Bool
narrow_pats [] = true
narrow_pats (p ∷ ps) = narrow_pat p && narrow_pats ps

narrow_pats-of : (ps : List Pat) → T (narrow_pats ps) → NarrowPats ps
narrow_pats-of [] h = tt
narrow_pats-of (p ∷ ps) h = (narrow_pat-of p (and_left (narrow_pat p) (narrow_pats ps) h), narrow_pats-of ps (and_right (narrow_pat p) (narrow_pats ps) h))

abbrev pub narrow_defs : ℕ → List Def → Bool
narrow_defs n [] = true
narrow_defs n (d ∷ ds) = eqb (length d.left) n && (narrow_pats d.left && (narrow d.right && narrow_defs n ds))

pub narrow_defs-of : (n : ℕ) (ds : List Def) → T (narrow_defs n ds) → NarrowDefs n ds
narrow_defs-of n [] h = tt
narrow_defs-of n (d ∷ ds) h =
    let a = eqb (length d.left) n in
    let b = narrow_pats d.left in
    let c = narrow d.right in
    let r = narrow_defs n ds in
    let h1 = and_right a (b && (c && r)) h in
    let h2 = and_right b (c && r) h1 in
    (eqb→eq (length d.left) n (and_left a (b && (c && r)) h), narrow_pats-of d.left (and_left b (c && r) h1), narrow-of d.right (and_left c r h2), narrow_defs-of n ds (and_right c r h2))

abbrev pub narrow_funs : List Fun → Bool
narrow_funs [] = true
narrow_funs (f ∷ fs) = narrow_defs f.arity f.defs && narrow_funs fs

pick_same : {A : Type 0} (b : Bool) (a : A) → pick b a a ≡ a
pick_same true a = refl
pick_same false a = refl

pub is_var-high : (s : ℕ) → 71 < s → is_var s ≡ false
is_var-high s h = ap (λ (b : Bool). pick (leb 64 s) b false) (leb-false s 71 h) ∙ pick_same (leb 64 s) false

is_var-low : (s : ℕ) → s < 64 → is_var s ≡ false
is_var-low s h = ap (λ (b : Bool). pick b (leb s 71) false) (leb-false 64 s h)

module _ (P : Program) where
  pub parts-aux : (k j : ℕ) → j < 8 → parts_of P (aux k j) ≡ (P.fun k).arity
  parts-aux k j h =
      ap (λ (b : Bool). pick b (P.fun ((aux k j - 256) / 8)).arity (small_parts (aux k j))) (leb-true 256 (aux k j) (omega arith))
      ∙ ap (λ (i : ℕ). (P.fun i).arity) (omega arith)

  parts-exn : (e : ℕ) → e < 16 → parts_of P (32 + e) ≡ 0
  parts-exn e h =
      rw (leb-false 256 (32 + e) (omega arith), eqb-false (32 + e) 2 (omega arith), eqb-false (32 + e) 6 (omega arith), eqb-false (32 + e) 7 (omega arith), eqb-false (32 + e) 8 (omega arith), eqb-false (32 + e) 9 (omega arith), eqb-false (32 + e) 10 (omega arith), eqb-false (32 + e) 11 (omega arith), eqb-false (32 + e) 12 (omega arith)) refl

  abbrev S : Tree → Type 0
  S t = Shaped (parts_of P) t

  exn-shaped : (e : ℕ) → e < 16 → S (exn_t e)
  exn-shaped e h = (is_var-low (32 + e) (omega arith), sym (parts-exn e h), tt)

  len-vars : (i n : ℕ) → len (variables i n) ≡ n
  len-vars i zero = refl
  len-vars i (suc n) = ap suc (len-vars (suc i) n)

  vars-shaped : (i n : ℕ) → i + n ≤ 8 → Shapeds (parts_of P) (variables i n)
  vars-shaped i zero h = tt
  vars-shaped i (suc n) h = (omega arith, vars-shaped (suc i) n (omega arith))

  base-shaped : (b : Base) → S (base_t b)
  base-shaped zero_b = (refl, refl, tt)
  base-shaped true_b = (refl, refl, tt)
  base-shaped false_b = (refl, refl, tt)

  module _ (few : P.exns ≤ 16) where
    mutual
      pub tree-shaped : (t : Term) → WellFormed P t → Narrow t → S (tree t)
      tree-shaped (const b) w n = base-shaped b
      tree-shaped (succ t) w n = (refl, refl, (tree-shaped t w n, tt))
      tree-shaped (tvar x) w n = n
      tree-shaped (raise e) w n = (refl, refl, (exn-shaped e (omega arith), tt))
      tree-shaped (handle t e h) w n =
          let l = w.1 in
          (refl, refl, (tree-shaped t w.0 n.0, (exn-shaped e (omega arith), (tree-shaped h w.2 n.1, tt))))
      tree-shaped (cond t a b) w n = (refl, refl, (tree-shaped t w.0 n.0, (tree-shaped a w.1 n.1, (tree-shaped b w.2 n.2, tt))))
      tree-shaped (call k ts) w n = (is_var-high (aux k 0) (omega arith), len-trees ts ∙ w.1 ∙ sym (parts-aux k 0 (omega arith)), trees-shaped ts w.2 n)

      trees-shaped : (ts : Terms) → AllWellFormed P ts → Narrows ts → Shapeds (parts_of P) (trees ts)
      trees-shaped tnil w n = tt
      trees-shaped (tcons t ts) w n = (tree-shaped t w.0 n.0, trees-shaped ts w.1 n.1)

    abbrev SR : List Rule → Type 0
    SR rs = ShapedRules (parts_of P) rs

    append-rules : (xs ys : List Rule) → SR xs → SR ys → SR (xs ++ ys)
    append-rules [] ys h k = k
    append-rules (r ∷ xs) ys h k = (h.0, h.1, append-rules xs ys h.2 k)

    gather-rules : (f : ℕ → List Rule) → ((d : ℕ) → SR (f d)) → (xs : List ℕ) → SR (gather f xs)
    gather-rules f h [] = tt
    gather-rules f h (x ∷ xs) = append-rules (f x) (gather f xs) (h x) (gather-rules f h xs)

    gather-upto : (f : ℕ → List Rule) (i n : ℕ) → ((d : ℕ) → d < i + n → SR (f d)) → SR (gather f (numbers i n))
    gather-upto f i zero h = tt
    gather-upto f i (suc n) h = append-rules (f i) (gather f (numbers (suc i) n)) (h i (omega arith)) (gather-upto f (suc i) n (λ d l. h d (omega arith)))

    fired-shaped : (d : ℕ) → d < 16 → S (fire_t (exn_t d))
    fired-shaped d h = (refl, refl, (exn-shaped d h, tt))

    select-shaped : (d e : ℕ) → d < 16 → e < 16 → S (select_t (fire_t (exn_t d)) (var 0) (exn_t e) (var 1))
    select-shaped d e hd he = (refl, refl, (fired-shaped d hd, (omega arith, (exn-shaped e he, (omega arith, tt)))))

    other-shaped : (d e : ℕ) → d < 16 → e < 16 → SR (other_rule d e)
    other-shaped d e hd he = go (eqb d e)
      where
        go : (b : Bool) → SR (pick b [] ((select_t (fire_t (exn_t d)) (var 0) (exn_t e) (var 1) ⇒ fire_t (exn_t d)) ∷ []))
        go true = tt
        go false = (select-shaped d e hd he, fired-shaped d hd, tt)

    handle-shaped : (d : ℕ) → d < 16 → SR (handle_rule d)
    handle-shaped d h =
        ((refl, refl, (omega arith, (exn-shaped d h, (omega arith, tt)))), (refl, refl, ((refl, refl, (omega arith, tt)), (omega arith, (exn-shaped d h, (omega arith, tt))))), tt)

    exn-rules : SR (exn_rules P.exns)
    exn-rules =
        let n = P.exns in
        let es = numbers 0 n in
        append-rules (gather raise_rule es) (gather handle_rule es ++ (gather same_rule es ++ gather (λ d. gather (other_rule d) es) es))
        (gather-upto raise_rule 0 n (λ d l. ((refl, refl, (exn-shaped d (omega arith), tt)), fired-shaped d (omega arith), tt)))
        (append-rules (gather handle_rule es) (gather same_rule es ++ gather (λ d. gather (other_rule d) es) es)
        (gather-upto handle_rule 0 n (λ d l. handle-shaped d (omega arith)))
        (append-rules (gather same_rule es) (gather (λ d. gather (other_rule d) es) es)
        (gather-upto same_rule 0 n (λ d l. (select-shaped d d (omega arith) (omega arith), omega arith, tt)))
        (gather-upto (λ d. gather (other_rule d) es) 0 n (λ d l. gather-upto (other_rule d) 0 n (λ e m. other-shaped d e (omega arith) (omega arith))))))

    common-rules : SR common_rules
    common-rules = shaped_rules-of (parts_of P) common_rules tt

    len-pats : (ps : List Pat) → len (pat_ts ps) ≡ length ps
    len-pats [] = refl
    len-pats (p ∷ ps) = ap suc (len-pats ps)

    pat-shaped : (p : Pat) → NarrowPat p → S (pat_t p)
    pat-shaped (pbase b) h = base-shaped b
    pat-shaped (psucc p) h = (refl, refl, (pat-shaped p h, tt))
    pat-shaped (pvar x) h = h

    pats-shaped : (ps : List Pat) → NarrowPats ps → Shapeds (parts_of P) (pat_ts ps)
    pats-shaped [] h = tt
    pats-shaped (p ∷ ps) h = (pat-shaped p h.0, pats-shaped ps h.1)

    own-rules : (k : ℕ) → (P.fun k).arity ≤ 4 → (ds : List Def) → DefsWellFormed P ds → NarrowDefs (P.fun k).arity ds → SR (own_rules k (P.fun k).arity ds)
    own-rules k small [] w h = tt
    own-rules k small (d ∷ ds) w h =
        let n = (P.fun k).arity in
        ((is_var-high (aux k (suc n)) (omega arith), len-pats d.left ∙ h.0 ∙ sym (parts-aux k (suc n) (omega arith)), pats-shaped d.left h.1), tree-shaped d.right w.0 h.2, own-rules k small ds w.1 h.3)

    module _ (wp : ProgramWellFormed P) (narrow : (k : ℕ) → NarrowDefs (P.fun k).arity (P.fun k).defs) where
      aux-shaped : (k j : ℕ) → j < 8 → S (node (aux k j) (variables 0 (P.fun k).arity))
      aux-shaped k j h =
          let n = (P.fun k).arity in
          let small = wp.small k in
          (is_var-high (aux k j) (omega arith), len-vars 0 n ∙ sym (parts-aux k j h), vars-shaped 0 n (omega arith))

      arg-rules : (k i : ℕ) → i < 0 + (P.fun k).arity → SR (arg_rule k (P.fun k).arity i)
      arg-rules k i l =
          let small = wp.small k in
          (aux-shaped k (suc i) (omega arith), (refl, refl, ((refl, refl, (omega arith, tt)), (aux-shaped k (suc (suc i)) (omega arith), tt))), tt)

      fun-rules : (k : ℕ) → SR (fun_rules P.fun k)
      fun-rules k =
          let n = (P.fun k).arity in (
            aux-shaped k 0 (omega arith),
            aux-shaped k 1 (omega arith),
            append-rules (gather (arg_rule k n) (numbers 0 n)) (own_rules k n (P.fun k).defs) (gather-upto (arg_rule k n) 0 n (arg-rules k)) (own-rules k (wp.small k) (P.fun k).defs (wp.bodies k) (narrow k)),
          )

      pub rules-shaped : SR (rules P)
      rules-shaped =
          append-rules (standing P.fun) (own_list P)
          (append-rules common_rules (gather (fun_rules P.fun) builtins) common-rules (gather-rules (fun_rules P.fun) fun-rules builtins))
          (append-rules (exn_rules P.exns) (gather (fun_rules P.fun) P.own) exn-rules (gather-rules (fun_rules P.fun) fun-rules P.own))

      -- a step of a program's rules keeps the shape
      pub rewriting-keeps-shape : (t : Tree) → S t → ShapedO (parts_of P) (step (first_fit (rules P)) t)
      rewriting-keeps-shape = step-shaped (parts_of P) (first_fit (rules P)) (fit-shaped (parts_of P) refl (rules P) rules-shaped)
