-- The rules of a program, in their order, do at a root what Roots says.
use Prim.Native.Nat.{ℕ, zero, suc, ◌+◌, ◌<◌, ◌≤◌}
use mathlib.Core.Path.{◌≡◌, refl, sym, ap, ap₂, ◌∙◌, fun_ext}
use mathlib.Core.Logic.{◌≢◌}
use mathlib.Core.Bool.{Bool, true, false, ◌||◌, ◌&&◌, true≢false}
use mathlib.Core.List.{List, [], ◌∷◌, ◌++◌}
use mathlib.Core.Option.{Option, none, some}
use native.Mathlib.Omega.{arith}
use native.Mathlib.Nat.{le_of_suc-le-suc, not-suc-le-zero}
use lib.Dec.{T, eqb, ltb, ltb→lt}
use Rattle.theory.specs.Syntax.{Base, zero_b, true_b, false_b, Val, base, up, Pat, pbase, psucc, pvar, Def, Fun, Program, Bindings, pick, nothing_bound, and_then, or_else, fit, fits, Found, found, chosen, elem}
use Rattle.theory.specs.WellFormed.{Known, ProgramWellFormed}
use Rattle.theory.specs.Tree.{Tree, Trees, var, node, [·], ◌▹◌, Subst, bind_tree, no_subst, insts, match, matches, Rule, filled, apply, first_fit, len}
use Rattle.theory.specs.Translation.{base_t, succ_t, tt_t, exn_t, fire_t, guard_t, select_t, is_data_t, if_t, raise_t, handle_t, aux, val_t, tree, pat_t, pat_ts, ◌⇒◌, common_rules, numbers, gather, raise_rule, handle_rule, same_rule, other_rule, exn_rules, variables, arg_rule, own_rules, fun_rules, builtins, standing, own_list, rules}
use Rattle.theory.proofs.Tests.{and_left, and_right, eqb-true, eqb-false, eq-of-eqb, ne-of-eqb}
use Rattle.theory.proofs.Reach.{onto, past, past-suc, past-len, len-onto}
use Rattle.theory.proofs.Roots.{val_ts, placed, RootLaws}

-- options
or_else-assoc : {A : Type 0} (a b c : Option A) → or_else (or_else a b) c ≡ or_else a (or_else b c)
or_else-assoc none b c = refl
or_else-assoc (some x) b c = refl

or_else-none : {A : Type 0} (a : Option A) → or_else a none ≡ a
or_else-none none = refl
or_else-none (some x) = refl

or_else-self : {A : Type 0} (a : Option A) (b : Bool) → or_else a (pick b a none) ≡ a
or_else-self none true = refl
or_else-self none false = refl
or_else-self (some x) b = refl

-- first fit over lists put together
pub fit_append : (xs ys : List Rule) (t : Tree) → first_fit (xs ++ ys) t ≡ or_else (first_fit xs t) (first_fit ys t)
fit_append [] ys t = refl
fit_append (r ∷ xs) ys t = ap (or_else (apply r t)) (fit_append xs ys t) ∙ sym (or_else-assoc (apply r t) (first_fit xs t) (first_fit ys t))

gather_none : (f : ℕ → List Rule) (t : Tree) → ((d : ℕ) → first_fit (f d) t ≡ none) → (xs : List ℕ) → first_fit (gather f xs) t ≡ none
gather_none f t h [] = refl
gather_none f t h (x ∷ xs) = fit_append (f x) (gather f xs) t ∙ ap₂ or_else (h x) (gather_none f t h xs)

-- where only the rules for e can fit: they decide, if e is there at all
gather-at : (f : ℕ → List Rule) (t : Tree) (e : ℕ) → ((d : ℕ) → d ≢ e → first_fit (f d) t ≡ none)
    → (xs : List ℕ) → first_fit (gather f xs) t ≡ pick (elem e xs) (first_fit (f e) t) none
gather-at f t e h [] = refl
gather-at f t e h (x ∷ xs) =
    fit_append (f x) (gather f xs) t ∙ ap (or_else (first_fit (f x) t)) (gather-at f t e h xs) ∙ go (eqb x e) refl
  where
    go : (b : Bool) → eqb x e ≡ b → or_else (first_fit (f x) t) (pick (elem e xs) (first_fit (f e) t) none) ≡ pick (b || elem e xs) (first_fit (f e) t) none
    go true q =
        ap (λ (y : ℕ). or_else (first_fit (f y) t) (pick (elem e xs) (first_fit (f e) t) none)) (eq-of-eqb x e q)
        ∙ or_else-self (first_fit (f e) t) (elem e xs)
    go false q = ap (λ (o : Option Tree). or_else o (pick (elem e xs) (first_fit (f e) t) none)) (h x (λ p. true≢false (sym (eqb-true x e p) ∙ q)))

gather-hit : (f : ℕ → List Rule) (t : Tree) (e : ℕ) → ((d : ℕ) → d ≢ e → first_fit (f d) t ≡ none)
    → (xs : List ℕ) → elem e xs ≡ true → first_fit (gather f xs) t ≡ first_fit (f e) t
gather-hit f t e h xs q = gather-at f t e h xs ∙ ap (λ (b : Bool). pick b (first_fit (f e) t) none) q

pub elem-upto : (e i n : ℕ) → i ≤ e → e < i + n → elem e (numbers i n) ≡ true
elem-upto e i zero lo hi = absurd (omega (arith, lo, hi))
elem-upto e i (suc n) lo hi = go (eqb i e) refl (λ l h. elem-upto e (suc i) n l h)
  where
    go : (b : Bool) → eqb i e ≡ b → (suc i ≤ e → e < suc i + n → elem e (numbers (suc i) n) ≡ true) → (b || elem e (numbers (suc i) n)) ≡ true
    go true q ih = refl
    go false q ih = let d = ne-of-eqb i e q in ih (omega (arith, d)) (omega arith)

elem_past : (e i n : ℕ) → i + n ≤ e → elem e (numbers i n) ≡ false
elem_past e i zero h = refl
elem_past e i (suc n) h = ap₂ ◌||◌ (eqb-false i e (omega arith)) (elem_past e (suc i) n (omega arith))

-- a rule whose root is another symbol; a rule whose root is the tree's
miss : (s r : ℕ) (ps ts : Trees) (w : Tree) → s ≢ r → apply (node s ps ⇒ w) (node r ts) ≡ none
miss s r ps ts w h = ap (λ (b : Bool). filled w (pick b (matches ps ts no_subst) none)) (eqb-false s r h)

hit : (s : ℕ) (ps ts : Trees) (w : Tree) → apply (node s ps ⇒ w) (node s ts) ≡ filled w (matches ps ts no_subst)
hit s ps ts w = ap (λ (b : Bool). filled w (pick b (matches ps ts no_subst) none)) (eqb-true s s refl)

miss-one : (s r : ℕ) (ps ts : Trees) (w : Tree) → s ≢ r → first_fit ((node s ps ⇒ w) ∷ []) (node r ts) ≡ none
miss-one s r ps ts w h = ap (λ (o : Option Tree). or_else o none) (miss s r ps ts w h)

-- the roots of a list below a bound: a computed test
abbrev pub head_below : ℕ → Tree → Bool
head_below n (var x) = false
head_below n (node s ps) = ltb s n

abbrev pub below : ℕ → List Rule → Bool
below n [] = true
below n (r ∷ rs) = head_below n r.lhs && below n rs

apply-below : (n s : ℕ) (l w : Tree) (ts : Trees) → T (head_below n l) → n ≤ s → apply (l ⇒ w) (node s ts) ≡ none
apply-below n s (var x) w ts t h = absurd t
apply-below n s (node r ps) w ts t h = let l = ltb→lt r n t in miss r s ps ts w (omega arith)

below_none : (n s : ℕ) (rs : List Rule) (ts : Trees) → T (below n rs) → n ≤ s → first_fit rs (node s ts) ≡ none
below_none n s [] ts t h = refl
below_none n s (r ∷ rs) ts t h =
    ap₂ or_else (apply-below n s r.lhs r.rhs ts (and_left (head_below n r.lhs) (below n rs) t) h)
    (below_none n s rs ts (and_right (head_below n r.lhs) (below n rs) t) h)

gather-none-upto : (f : ℕ → List Rule) (t : Tree) (i n : ℕ) → ((d : ℕ) → d < i + n → first_fit (f d) t ≡ none) → first_fit (gather f (numbers i n)) t ≡ none
gather-none-upto f t i zero h = refl
gather-none-upto f t i (suc n) h =
    fit_append (f i) (gather f (numbers (suc i) n)) t ∙ ap₂ or_else (h i (omega arith)) (gather-none-upto f t (suc i) n (λ d l. h d (omega arith)))

-- the rules of exceptions
maybe-none : (b : Bool) (r : Rule) (t : Tree) → apply r t ≡ none → first_fit (pick b [] (r ∷ [])) t ≡ none
maybe-none true r t h = refl
maybe-none false r t h = ap (λ (o : Option Tree). or_else o none) h

exn-split : (n : ℕ) (t : Tree)
    → let es = numbers 0 n in first_fit (exn_rules n) t
    ≡ or_else (first_fit (gather raise_rule es) t) (or_else (first_fit (gather handle_rule es) t) (or_else (first_fit (gather same_rule es) t) (first_fit (gather (λ d. gather (other_rule d) es) es) t)))
exn-split n t =
    let es = numbers 0 n in
    let o = gather (λ d. gather (other_rule d) es) es in
    fit_append (gather raise_rule es) (gather handle_rule es ++ (gather same_rule es ++ o)) t
    ∙ ap (or_else (first_fit (gather raise_rule es) t))
    (fit_append (gather handle_rule es) (gather same_rule es ++ o) t ∙ ap (or_else (first_fit (gather handle_rule es) t)) (fit_append (gather same_rule es) o t))

exn-none : (n s : ℕ) (ts : Trees) → 11 ≢ s → 12 ≢ s → 8 ≢ s → first_fit (exn_rules n) (node s ts) ≡ none
exn-none n s ts h11 h12 h8 =
    let es = numbers 0 n in
    let t = node s ts in
    exn-split n t
    ∙ ap₂ or_else (gather_none raise_rule t (λ d. miss-one 11 s (exn_t d ▹ [·]) ts (fire_t (exn_t d)) h11) es)
    (ap₂ or_else (gather_none handle_rule t (λ d. miss-one 12 s (var 0 ▹ exn_t d ▹ var 1 ▹ [·]) ts (select_t (is_data_t (var 0)) (var 0) (exn_t d) (var 1)) h12) es)
    (ap₂ or_else (gather_none same_rule t (λ d. miss-one 8 s (fire_t (exn_t d) ▹ var 0 ▹ exn_t d ▹ var 1 ▹ [·]) ts (var 1) h8) es)
    (gather_none (λ d. gather (other_rule d) es) t (λ d. gather_none (other_rule d) t (other d) es) es)))
  where
    other : (d e : ℕ) → first_fit (other_rule d e) (node s ts) ≡ none
    other d e =
        maybe-none (eqb d e) (select_t (fire_t (exn_t d)) (var 0) (exn_t e) (var 1) ⇒ fire_t (exn_t d)) (node s ts)
        (miss 8 s (fire_t (exn_t d) ▹ var 0 ▹ exn_t e ▹ var 1 ▹ [·]) ts (fire_t (exn_t d)) h8)

-- the rules of a function, at the root of something else
own-none : (k n s : ℕ) (ds : List Def) (ts : Trees) → aux k (suc n) ≢ s → first_fit (own_rules k n ds) (node s ts) ≡ none
own-none k n s [] ts h = refl
own-none k n s (d ∷ ds) ts h = ap₂ or_else (miss (aux k (suc n)) s (pat_ts d.left) ts (tree d.right) h) (own-none k n s ds ts h)

fun-none : (fun : ℕ → Fun) (d s : ℕ) (ts : Trees) → ((j : ℕ) → j < suc (suc (fun d).arity) → aux d j ≢ s) → first_fit (fun_rules fun d) (node s ts) ≡ none
fun-none fun d s ts h =
    let n = (fun d).arity in
    let t = node s ts in
    ap₂ or_else (miss (aux d 0) s (variables 0 n) ts (node (aux d 1) (variables 0 n)) (h 0 (omega arith)))
    (fit_append (gather (arg_rule d n) (numbers 0 n)) (own_rules d n (fun d).defs) t
    ∙ ap₂ or_else
    (gather-none-upto (arg_rule d n) t 0 n
    (λ i l. miss-one (aux d (suc i)) s (variables 0 n) ts (guard_t (is_data_t (var i)) (node (aux d (suc (suc i))) (variables 0 n))) (h (suc i) (omega arith))))
    (own-none d n s (fun d).defs ts (h (suc n) (omega arith))))

-- a row of variables fits any parts, as many as it has, and gives them back
abbrev binds : ℕ → Trees → Subst → Subst
binds i [·] σ = σ
binds i (t ▹ ts) σ = binds (suc i) ts (bind_tree σ i t)

vars-fit : (ts : Trees) (i : ℕ) (σ : Subst) → matches (variables i (len ts)) ts σ ≡ some (binds i ts σ)
vars-fit [·] i σ = refl
vars-fit (t ▹ ts) i σ = vars-fit ts (suc i) (bind_tree σ i t)

binds-below : (ts : Trees) (i j : ℕ) (σ : Subst) → j < i → binds i ts σ j ≡ σ j
binds-below [·] i j σ h = refl
binds-below (t ▹ ts) i j σ h =
    binds-below ts (suc i) j (bind_tree σ i t) (omega arith) ∙ ap (λ (b : Bool). pick b t (σ j)) (eqb-false i j (omega arith))

binds-here : (t : Tree) (ts : Trees) (i : ℕ) (σ : Subst) → binds i (t ▹ ts) σ i ≡ t
binds-here t ts i σ = binds-below ts (suc i) i (bind_tree σ i t) (omega arith) ∙ ap (λ (b : Bool). pick b t (σ i)) (eqb-true i i refl)

vars-back : (ts : Trees) (i : ℕ) (σ : Subst) → insts (binds i ts σ) (variables i (len ts)) ≡ ts
vars-back [·] i σ = refl
vars-back (t ▹ ts) i σ = ap₂ ◌▹◌ (binds-here t ts i σ) (vars-back ts (suc i) (bind_tree σ i t))

abbrev part : Trees → ℕ → Tree
part [·] j = tt_t
part (t ▹ ts) zero = t
part (t ▹ ts) (suc j) = part ts j

part-onto : (pre ts : Trees) (j : ℕ) → part (onto pre ts) (past pre j) ≡ part ts j
part-onto [·] ts j = refl
part-onto (p ▹ pre) ts j = part-onto pre (p ▹ ts) (suc j)

binds-part : (ts : Trees) (i j : ℕ) (σ : Subst) → j < len ts → binds i ts σ (i + j) ≡ part ts j
binds-part [·] i j σ h = absurd (not-suc-le-zero h)
binds-part (t ▹ ts) i zero σ h = ap (binds i (t ▹ ts) σ) (omega arith) ∙ binds-here t ts i σ
binds-part (t ▹ ts) i (suc j) σ h =
    ap (binds (suc i) ts (bind_tree σ i t)) (omega arith) ∙ binds-part ts (suc i) j (bind_tree σ i t) (le_of_suc-le-suc h)

-- a left side of a program's rule fits values as its patterns do
abbrev on_trees : Option Bindings → Option Subst
on_trees none = none
on_trees (some θ) = some (λ x. val_t (θ x))

and_then-some : {A : Type 0} (o : Option A) → and_then o some ≡ o
and_then-some none = refl
and_then-some (some a) = refl

pick-val : (b : Bool) (v w : Val) → pick b (val_t v) (val_t w) ≡ val_t (pick b v w)
pick-val true v w = refl
pick-val false v w = refl

match-fit : (p : Pat) (v : Val) (θ : Bindings) → match (pat_t p) (val_t v) (λ x. val_t (θ x)) ≡ on_trees (fit p v θ)
match-fit (pbase zero_b) (base zero_b) θ = refl
match-fit (pbase zero_b) (base true_b) θ = refl
match-fit (pbase zero_b) (base false_b) θ = refl
match-fit (pbase true_b) (base zero_b) θ = refl
match-fit (pbase true_b) (base true_b) θ = refl
match-fit (pbase true_b) (base false_b) θ = refl
match-fit (pbase false_b) (base zero_b) θ = refl
match-fit (pbase false_b) (base true_b) θ = refl
match-fit (pbase false_b) (base false_b) θ = refl
match-fit (pbase zero_b) (up v) θ = refl
match-fit (pbase true_b) (up v) θ = refl
match-fit (pbase false_b) (up v) θ = refl
match-fit (psucc p) (base zero_b) θ = refl
match-fit (psucc p) (base true_b) θ = refl
match-fit (psucc p) (base false_b) θ = refl
match-fit (psucc p) (up v) θ = and_then-some (match (pat_t p) (val_t v) (λ x. val_t (θ x))) ∙ match-fit p v θ
match-fit (pvar x) v θ = ap some (fun_ext (λ y. pick-val (eqb x y) v (θ y)))

matches-fits : (ps : List Pat) (vs : List Val) (θ : Bindings) → matches (pat_ts ps) (val_ts vs) (λ x. val_t (θ x)) ≡ on_trees (fits ps vs θ)
matches-fits [] [] θ = refl
matches-fits [] (v ∷ vs) θ = refl
matches-fits (p ∷ ps) [] θ = refl
matches-fits (p ∷ ps) (v ∷ vs) θ =
    ap (λ (o : Option Subst). and_then o (matches (pat_ts ps) (val_ts vs))) (match-fit p v θ) ∙ go (fit p v θ) (λ σ. matches-fits ps vs σ)
  where
    go : (o : Option Bindings) → ((σ : Bindings) → matches (pat_ts ps) (val_ts vs) (λ x. val_t (σ x)) ≡ on_trees (fits ps vs σ))
        → and_then (on_trees o) (matches (pat_ts ps) (val_ts vs)) ≡ on_trees (and_then o (fits ps vs))
    go none ih = refl
    go (some σ) ih = ih σ

filled-placed : (o : Option Bindings) (d : Def) → filled (tree d.right) (on_trees o) ≡ placed (found d.right o)
filled-placed none d = refl
filled-placed (some θ) d = refl

placed-or : (a b : Option Found) → or_else (placed a) (placed b) ≡ placed (or_else a b)
placed-or none b = refl
placed-or (some f) b = refl

own-fit : (k n : ℕ) (ds : List Def) (vs : List Val) → first_fit (own_rules k n ds) (node (aux k (suc n)) (val_ts vs)) ≡ placed (chosen ds vs)
own-fit k n [] vs = refl
own-fit k n (d ∷ ds) vs =
    ap₂ or_else
    (hit (aux k (suc n)) (pat_ts d.left) (val_ts vs) (tree d.right)
    ∙ ap (filled (tree d.right)) (matches-fits d.left vs nothing_bound) ∙ filled-placed (fits d.left vs nothing_bound) d)
    (own-fit k n ds vs)
    ∙ placed-or (found d.right (fits d.left vs nothing_bound)) (chosen ds vs)

known-pick : (a b : Bool) (o : Option Tree) → T (a || b) → or_else (or_else none (pick a o none)) (or_else none (pick b o none)) ≡ o
known-pick true b o t = or_else-self o b
known-pick false true o t = refl
known-pick false false o t = absurd t

module _ (P : Program) (wp : ProgramWellFormed P) where
  abbrev root : Tree → Option Tree
  root = first_fit (rules P)

  root-split : (t : Tree)
      → root t ≡ or_else (or_else (first_fit common_rules t) (first_fit (gather (fun_rules P.fun) builtins) t)) (or_else (first_fit (exn_rules P.exns) t) (first_fit (gather (fun_rules P.fun) P.own) t))
  root-split t =
      fit_append (standing P.fun) (own_list P) t
      ∙ ap₂ or_else (fit_append common_rules (gather (fun_rules P.fun) builtins) t) (fit_append (exn_rules P.exns) (gather (fun_rules P.fun) P.own) t)

  small-none : (s : ℕ) (ts : Trees) → s < 256 → (ks : List ℕ) → first_fit (gather (fun_rules P.fun) ks) (node s ts) ≡ none
  small-none s ts h ks = gather_none (fun_rules P.fun) (node s ts) (λ d. fun-none P.fun d s ts (λ j l. omega (arith, h))) ks

  root-small : (s : ℕ) (ts : Trees) → s < 256 → root (node s ts) ≡ or_else (first_fit common_rules (node s ts)) (first_fit (exn_rules P.exns) (node s ts))
  root-small s ts h =
      let t = node s ts in
      root-split t ∙ ap₂ or_else (ap (or_else (first_fit common_rules t)) (small-none s ts h builtins) ∙ or_else-none (first_fit common_rules t))
      (ap (or_else (first_fit (exn_rules P.exns) t)) (small-none s ts h P.own) ∙ or_else-none (first_fit (exn_rules P.exns) t))

  root-plain : (s : ℕ) (ts : Trees) → s < 11 → 8 ≢ s → root (node s ts) ≡ first_fit common_rules (node s ts)
  root-plain s ts h h8 =
      root-small s ts (omega arith) ∙ ap (or_else (first_fit common_rules (node s ts))) (exn-none P.exns s ts (omega arith) (omega arith) h8) ∙ or_else-none (first_fit common_rules (node s ts))

  only-fun : (k j : ℕ) (ts : Trees) → j < 8 → (ks : List ℕ)
      → first_fit (gather (fun_rules P.fun) ks) (node (aux k j) ts) ≡ pick (elem k ks) (first_fit (fun_rules P.fun k) (node (aux k j) ts)) none
  only-fun k j ts h ks =
      gather-at (fun_rules P.fun) (node (aux k j) ts) k (λ d ne. fun-none P.fun d (aux k j) ts (λ i l. let a = wp.small d in omega (arith, a, ne, l, h))) ks

  root-fun : (k j : ℕ) (ts : Trees) → Known P k → j < 8 → root (node (aux k j) ts) ≡ first_fit (fun_rules P.fun k) (node (aux k j) ts)
  root-fun k j ts kn h =
      let t = node (aux k j) ts in
      root-split t
      ∙ ap₂ or_else (ap₂ or_else (below_none 256 (aux k j) common_rules ts tt (omega arith)) (only-fun k j ts h builtins))
      (ap₂ or_else (exn-none P.exns (aux k j) ts (omega arith) (omega arith) (omega arith)) (only-fun k j ts h P.own))
      ∙ known-pick (elem k builtins) (elem k P.own) (first_fit (fun_rules P.fun k) t) kn

  -- the common rules
  guard_tt : (y : Tree) → root (guard_t tt_t y) ≡ some y
  guard_tt y = root-plain 7 (tt_t ▹ y ▹ [·]) (omega arith) (omega arith)

  guard_fire : (x y : Tree) → root (guard_t (fire_t x) y) ≡ some (fire_t x)
  guard_fire x y = root-plain 7 (fire_t x ▹ y ▹ [·]) (omega arith) (omega arith)

  is_data_succ : (x : Tree) → root (is_data_t (succ_t x)) ≡ some (is_data_t x)
  is_data_succ x = root-plain 9 (succ_t x ▹ [·]) (omega arith) (omega arith)

  is_data-base : (b : Base) → root (is_data_t (base_t b)) ≡ some tt_t
  is_data-base zero_b = root-plain 9 (base_t zero_b ▹ [·]) (omega arith) (omega arith)
  is_data-base true_b = root-plain 9 (base_t true_b ▹ [·]) (omega arith) (omega arith)
  is_data-base false_b = root-plain 9 (base_t false_b ▹ [·]) (omega arith) (omega arith)

  is_data_fire : (x : Tree) → root (is_data_t (fire_t x)) ≡ some (fire_t x)
  is_data_fire x = root-plain 9 (fire_t x ▹ [·]) (omega arith) (omega arith)

  succ_fire : (x : Tree) → root (succ_t (fire_t x)) ≡ some (fire_t x)
  succ_fire x = root-plain 2 (fire_t x ▹ [·]) (omega arith) (omega arith)

  if_true : (y z : Tree) → root (if_t (base_t true_b) y z) ≡ some y
  if_true y z = root-plain 10 (base_t true_b ▹ y ▹ z ▹ [·]) (omega arith) (omega arith)

  if_false : (y z : Tree) → root (if_t (base_t false_b) y z) ≡ some z
  if_false y z = root-plain 10 (base_t false_b ▹ y ▹ z ▹ [·]) (omega arith) (omega arith)

  if_fire : (x y z : Tree) → root (if_t (fire_t x) y z) ≡ some (fire_t x)
  if_fire x y z = root-plain 10 (fire_t x ▹ y ▹ z ▹ [·]) (omega arith) (omega arith)

  select_tt : (x e z : Tree) → root (select_t tt_t x e z) ≡ some x
  select_tt x e z = root-small 8 (tt_t ▹ x ▹ e ▹ z ▹ [·]) (omega arith)

  base-none : (b : Base) → root (base_t b) ≡ none
  base-none zero_b = root-plain 1 [·] (omega arith) (omega arith)
  base-none true_b = root-plain 3 [·] (omega arith) (omega arith)
  base-none false_b = root-plain 4 [·] (omega arith) (omega arith)

  tt-none : root tt_t ≡ none
  tt-none = root-plain 5 [·] (omega arith) (omega arith)

  fire-none : (x : Tree) → root (fire_t x) ≡ none
  fire-none x = root-plain 6 (x ▹ [·]) (omega arith) (omega arith)

  succ-none : (s : ℕ) (ts : Trees) → s ≢ 6 → root (succ_t (node s ts)) ≡ none
  succ-none s ts h = root-plain 2 (node s ts ▹ [·]) (omega arith) (omega arith) ∙ rw (eqb-false 6 s (omega arith)) refl

  is_data-none : (s : ℕ) (ts : Trees) → 6 < s → root (is_data_t (node s ts)) ≡ none
  is_data-none s ts h =
      root-plain 9 (node s ts ▹ [·]) (omega arith) (omega arith)
      ∙ rw (eqb-false 2 s (omega arith), eqb-false 1 s (omega arith), eqb-false 3 s (omega arith), eqb-false 4 s (omega arith), eqb-false 6 s (omega arith)) refl

  guard_none : (s : ℕ) (ts : Trees) (y : Tree) → 6 < s → root (guard_t (node s ts) y) ≡ none
  guard_none s ts y h =
      root-plain 7 (node s ts ▹ y ▹ [·]) (omega arith) (omega arith) ∙ rw (eqb-false 5 s (omega arith), eqb-false 6 s (omega arith)) refl

  if_none : (s : ℕ) (ts : Trees) (y z : Tree) → s ≢ 3 → s ≢ 4 → s ≢ 6 → root (if_t (node s ts) y z) ≡ none
  if_none s ts y z h3 h4 h6 =
      root-plain 10 (node s ts ▹ y ▹ z ▹ [·]) (omega arith) (omega arith)
      ∙ rw (eqb-false 3 s (omega arith), eqb-false 4 s (omega arith), eqb-false 6 s (omega arith)) refl

  -- the rules of exceptions
  abbrev es : List ℕ
  es = numbers 0 P.exns

  declared : (e : ℕ) → e < P.exns → elem e es ≡ true
  declared e h = elem-upto e 0 P.exns (omega arith) (omega arith)

  raise-at : (e : ℕ) → e < P.exns → root (raise_t (exn_t e)) ≡ some (fire_t (exn_t e))
  raise-at e h =
      let t = raise_t (exn_t e) in
      root-small 11 (exn_t e ▹ [·]) (omega arith) ∙ exn-split P.exns t
      ∙ ap (λ (o : Option Tree). or_else o (or_else (first_fit (gather handle_rule es) t) (or_else (first_fit (gather same_rule es) t) (first_fit (gather (λ d. gather (other_rule d) es) es) t))))
      (gather-hit raise_rule t e (λ d ne. rw (eqb-false (32 + d) (32 + e) (omega (arith, ne))) refl) es (declared e h) ∙ fitting)
    where
      fitting : first_fit (raise_rule e) (raise_t (exn_t e)) ≡ some (fire_t (exn_t e))
      fitting = rw (eqb-true (32 + e) (32 + e) refl) refl

  no_raise : (s : ℕ) (ts : Trees) → 11 ≢ s → first_fit (gather raise_rule es) (node s ts) ≡ none
  no_raise s ts h = gather_none raise_rule (node s ts) (λ d. miss-one 11 s (exn_t d ▹ [·]) ts (fire_t (exn_t d)) h) es

  no-handle : (s : ℕ) (ts : Trees) → 12 ≢ s → first_fit (gather handle_rule es) (node s ts) ≡ none
  no-handle s ts h =
      gather_none handle_rule (node s ts) (λ d. miss-one 12 s (var 0 ▹ exn_t d ▹ var 1 ▹ [·]) ts (select_t (is_data_t (var 0)) (var 0) (exn_t d) (var 1)) h) es

  handle-at : (x : Tree) (e : ℕ) (z : Tree) → e < P.exns → root (handle_t x (exn_t e) z) ≡ some (select_t (is_data_t x) x (exn_t e) z)
  handle-at x e z h =
      let ts = x ▹ exn_t e ▹ z ▹ [·] in
      let t = node 12 ts in
      root-small 12 ts (omega arith) ∙ exn-split P.exns t
      ∙ ap₂ (λ (o p : Option Tree). or_else o (or_else p (or_else (first_fit (gather same_rule es) t) (first_fit (gather (λ d. gather (other_rule d) es) es) t))))
      (no_raise 12 ts (omega arith))
      (gather-hit handle_rule t e (λ d ne. rw (eqb-false (32 + d) (32 + e) (omega (arith, ne))) refl) es (declared e h) ∙ fitting)
    where
      fitting : first_fit (handle_rule e) (handle_t x (exn_t e) z) ≡ some (select_t (is_data_t x) x (exn_t e) z)
      fitting = rw (eqb-true (32 + e) (32 + e) refl) refl

  root-select : (a x y z : Tree)
      → let t = select_t a x y z in root t ≡ or_else (first_fit common_rules t) (or_else (first_fit (gather same_rule es) t) (first_fit (gather (λ d. gather (other_rule d) es) es) t))
  root-select a x y z =
      let ts = a ▹ x ▹ y ▹ z ▹ [·] in
      let t = node 8 ts in
      root-small 8 ts (omega arith)
      ∙ ap (or_else (first_fit common_rules t))
      (exn-split P.exns t
      ∙ ap₂ (λ (o p : Option Tree). or_else o (or_else p (or_else (first_fit (gather same_rule es) t) (first_fit (gather (λ d. gather (other_rule d) es) es) t))))
      (no_raise 8 ts (omega arith)) (no-handle 8 ts (omega arith)))

  select-none : (s : ℕ) (ts : Trees) (x e z : Tree) → 6 < s → root (select_t (node s ts) x e z) ≡ none
  select-none s ts x e z h =
      let t = select_t (node s ts) x e z in
      root-select (node s ts) x e z
      ∙ ap₂ or_else no-tt
      (ap₂ or_else (gather_none same_rule t (λ d. rw (eqb-false 6 s (omega arith)) refl) es)
      (gather_none (λ d. gather (other_rule d) es) t (λ d. gather_none (other_rule d) t (λ e'. other d e') es) es))
    where
      no-tt : first_fit common_rules (select_t (node s ts) x e z) ≡ none
      no-tt = rw (eqb-false 5 s (omega arith)) refl

      other : (d e' : ℕ) → first_fit (other_rule d e') (select_t (node s ts) x e z) ≡ none
      other d e' =
          maybe-none (eqb d e') (select_t (fire_t (exn_t d)) (var 0) (exn_t e') (var 1) ⇒ fire_t (exn_t d)) (select_t (node s ts) x e z)
          (rw (eqb-false 6 s (omega arith)) refl)

  select-same : (d : ℕ) (x : Tree) (e : ℕ) (z : Tree) → d < P.exns → e < P.exns → eqb d e ≡ true → root (select_t (fire_t (exn_t d)) x (exn_t e) z) ≡ some z
  select-same d x e z hd he q =
      let t = select_t (fire_t (exn_t d)) x (exn_t e) z in
      root-select (fire_t (exn_t d)) x (exn_t e) z
      ∙ ap (λ (o : Option Tree). or_else o (first_fit (gather (λ d. gather (other_rule d) es) es) t))
      (gather-hit same_rule t d (λ d' ne. rw (eqb-false (32 + d') (32 + d) (omega (arith, ne))) refl) es (declared d hd)
      ∙ fitting)
    where
      p : d ≡ e
      p = eq-of-eqb d e q

      fitting : first_fit (same_rule d) (select_t (fire_t (exn_t d)) x (exn_t e) z) ≡ some z
      fitting = rw (eqb-true (32 + d) (32 + d) refl, eqb-true (32 + d) (32 + e) (omega (arith, p))) refl

  select-other : (d : ℕ) (x : Tree) (e : ℕ) (z : Tree) → d < P.exns → e < P.exns → eqb d e ≡ false
      → root (select_t (fire_t (exn_t d)) x (exn_t e) z) ≡ some (fire_t (exn_t d))
  select-other d x e z hd he q =
      root-select (fire_t (exn_t d)) x (exn_t e) z
      ∙ ap₂ or_else (gather_none same_rule t same es)
      (gather-hit (λ d'. gather (other_rule d') es) t d (λ d' ne. gather_none (other_rule d') t (λ e'. first d' e' ne) es) es (declared d hd)
      ∙ gather-hit (other_rule d) t e third es (declared e he)
      ∙ rw (q, eqb-true (32 + d) (32 + d) refl, eqb-true (32 + e) (32 + e) refl) refl)
    where
      ne : d ≢ e
      ne = ne-of-eqb d e q

      t : Tree
      t = select_t (fire_t (exn_t d)) x (exn_t e) z

      same : (c : ℕ) → first_fit (same_rule c) t ≡ none
      same c = go (eqb c d) refl
        where
          go : (b : Bool) → eqb c d ≡ b → first_fit (same_rule c) t ≡ none
          go true r =
              let cd = eq-of-eqb c d r in
              rw (eqb-true (32 + c) (32 + d) (omega (arith, cd)), eqb-false (32 + c) (32 + e) (omega (arith, cd, ne))) refl
          go false r = let cd = ne-of-eqb c d r in rw (eqb-false (32 + c) (32 + d) (omega (arith, cd))) refl

      first : (d' e' : ℕ) → d' ≢ d → first_fit (other_rule d' e') t ≡ none
      first d' e' n =
          maybe-none (eqb d' e') (select_t (fire_t (exn_t d')) (var 0) (exn_t e') (var 1) ⇒ fire_t (exn_t d')) t (rw (eqb-false (32 + d') (32 + d) (omega (arith, n))) refl)

      third : (e' : ℕ) → e' ≢ e → first_fit (other_rule d e') t ≡ none
      third e' n =
          maybe-none (eqb d e') (select_t (fire_t (exn_t d)) (var 0) (exn_t e') (var 1) ⇒ fire_t (exn_t d)) t
          (rw (eqb-true (32 + d) (32 + d) refl, eqb-false (32 + e') (32 + e) (omega (arith, n))) refl)

  -- the rules of functions
  all_fit : (n : ℕ) (ts : Trees) → len ts ≡ n → matches (variables 0 n) ts no_subst ≡ some (binds 0 ts no_subst)
  all_fit n ts h = ap (λ (m : ℕ). matches (variables 0 m) ts no_subst) (sym h) ∙ vars-fit ts 0 no_subst

  all_back : (n : ℕ) (ts : Trees) → len ts ≡ n → insts (binds 0 ts no_subst) (variables 0 n) ≡ ts
  all_back n ts h = ap (λ (m : ℕ). insts (binds 0 ts no_subst) (variables 0 m)) (sym h) ∙ vars-back ts 0 no_subst

  -- past the entry rule: the rules of the arguments, then those of the program
  past-entry : (k j : ℕ) (ts : Trees) → Known P k → suc j < 8
      → let n = (P.fun k).arity in let t = node (aux k (suc j)) ts in
      root t ≡ or_else (first_fit (gather (arg_rule k n) (numbers 0 n)) t) (first_fit (own_rules k n (P.fun k).defs) t)
  past-entry k j ts kn h =
      let n = (P.fun k).arity in
      let t = node (aux k (suc j)) ts in
      root-fun k (suc j) ts kn h
      ∙ ap (λ (o : Option Tree). or_else o (first_fit (gather (arg_rule k n) (numbers 0 n) ++ own_rules k n (P.fun k).defs) t))
      (miss (aux k 0) (aux k (suc j)) (variables 0 n) ts (node (aux k 1) (variables 0 n)) (omega arith))
      ∙ fit_append (gather (arg_rule k n) (numbers 0 n)) (own_rules k n (P.fun k).defs) t

  other-arg : (k n i d : ℕ) (ts : Trees) → d ≢ i → first_fit (arg_rule k n d) (node (aux k (suc i)) ts) ≡ none
  other-arg k n i d ts ne =
      miss-one (aux k (suc d)) (aux k (suc i)) (variables 0 n) ts (guard_t (is_data_t (var d)) (node (aux k (suc (suc d))) (variables 0 n))) (omega (arith, ne))

  entry : (k : ℕ) (ts : Trees) → Known P k → len ts ≡ (P.fun k).arity → root (node (aux k 0) ts) ≡ some (node (aux k 1) ts)
  entry k ts kn h =
      let n = (P.fun k).arity in
      root-fun k 0 ts kn (omega arith)
      ∙ ap (λ (o : Option Tree). or_else o (first_fit (gather (arg_rule k n) (numbers 0 n) ++ own_rules k n (P.fun k).defs) (node (aux k 0) ts)))
      (hit (aux k 0) (variables 0 n) ts (node (aux k 1) (variables 0 n)) ∙ ap (filled (node (aux k 1) (variables 0 n))) (all_fit n ts h)
      ∙ ap (λ (us : Trees). some (node (aux k 1) us)) (all_back n ts h))

  argument : (k : ℕ) (pre : Trees) (t : Tree) (post : Trees) → Known P k → len (onto pre (t ▹ post)) ≡ (P.fun k).arity
      → root (node (aux k (suc (len pre))) (onto pre (t ▹ post)))
      ≡ some (guard_t (is_data_t t) (node (aux k (suc (suc (len pre)))) (onto pre (t ▹ post))))
  argument k pre t post kn h =
      past-entry k i ts kn (omega (arith, inside, small))
      ∙ ap (λ (o : Option Tree). or_else o (first_fit (own_rules k n (P.fun k).defs) (node (aux k (suc i)) ts)))
      (gather-hit (arg_rule k n) (node (aux k (suc i)) ts) i (λ d ne. other-arg k n i d ts ne) (numbers 0 n) (elem-upto i 0 n (omega arith) (omega (arith, inside)))
      ∙ fitting)
    where
      n : ℕ
      n = (P.fun k).arity

      i : ℕ
      i = len pre

      ts : Trees
      ts = onto pre (t ▹ post)

      small : n ≤ 4
      small = wp.small k

      inside : i < n
      inside = let l = len-onto pre (t ▹ post) in omega (arith, l, h)

      place : past pre 0 ≡ i
      place = let a = past-suc pre 0 in let b = past-len pre in omega (arith, a, b)

      bound : binds 0 ts no_subst i ≡ t
      bound =
          ap (binds 0 ts no_subst) (omega arith) ∙ binds-part ts 0 i no_subst (omega (arith, h, inside))
          ∙ ap (part ts) (sym place) ∙ part-onto pre (t ▹ post) 0

      w : Tree
      w = guard_t (is_data_t (var i)) (node (aux k (suc (suc i))) (variables 0 n))

      fitting : first_fit (arg_rule k n i) (node (aux k (suc i)) ts) ≡ some (guard_t (is_data_t t) (node (aux k (suc (suc i))) ts))
      fitting =
          or_else-none (apply (node (aux k (suc i)) (variables 0 n) ⇒ w) (node (aux k (suc i)) ts))
          ∙ hit (aux k (suc i)) (variables 0 n) ts w ∙ ap (filled w) (all_fit n ts h)
          ∙ ap₂ (λ (x : Tree) (us : Trees). some (guard_t (is_data_t x) (node (aux k (suc (suc i))) us))) bound (all_back n ts h)

  own : (k : ℕ) (vs : List Val) → Known P k → root (node (aux k (suc (P.fun k).arity)) (val_ts vs)) ≡ placed (chosen (P.fun k).defs vs)
  own k vs kn =
      let n = (P.fun k).arity in
      let ts = val_ts vs in
      let small = wp.small k in
      past-entry k n ts kn (omega (arith, small))
      ∙ ap (λ (o : Option Tree). or_else o (first_fit (own_rules k n (P.fun k).defs) (node (aux k (suc n)) ts)))
      (gather-at (arg_rule k n) (node (aux k (suc n)) ts) n (λ d ne. other-arg k n n d ts ne) (numbers 0 n)
      ∙ ap (λ (b : Bool). pick b (first_fit (arg_rule k n n) (node (aux k (suc n)) ts)) none) (elem_past n 0 n (omega arith)))
      ∙ own-fit k n (P.fun k).defs vs

  pub lawful : RootLaws P (first_fit (rules P))
  lawful =
      record {
        guard_tt = guard_tt;
        guard_fire = guard_fire;
        is_data_succ = is_data_succ;
        is_data-base = is_data-base;
        is_data_fire = is_data_fire;
        succ_fire = succ_fire;
        if_true = if_true;
        if_false = if_false;
        if_fire = if_fire;
        select_tt = select_tt;
        raise-at = raise-at;
        handle-at = handle-at;
        select-same = select-same;
        select-other = select-other;
        entry = entry;
        argument = argument;
        own = own;
        base-none = base-none;
        tt-none = tt-none;
        fire-none = fire-none;
        succ-none = succ-none;
        is_data-none = is_data-none;
        guard_none = guard_none;
        select-none = select-none;
        if_none = if_none;
      }
