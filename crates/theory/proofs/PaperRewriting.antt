-- The rewriter's `step` is document 004's context-sensitive innermost rewriting, and there is at most one such step.
use Prim.Native.Nat.{ℕ, zero, suc, ◌-◌, ◌/◌, ◌%◌, ◌≤◌}
use mathlib.Core.Path.{◌≡◌, refl, sym, ap, ap₂, ◌∙◌, subst}
use mathlib.Core.Logic.{◌↔◌, ◌⊎◌, inl, inr, ⊎_elim}
use mathlib.Core.Bool.{Bool, true, false, not, ◌&&◌, ◌||◌, false≢true}
use mathlib.Core.List.{List, [], ◌∷◌, ◌++◌, append-nil, cons≢nil}
use mathlib.Core.Option.{Option, none, some, some-injective, none-ne-some, some-ne-none}
use native.Mathlib.Omega.{arith}
use lib.Dec.{T, eqb, leb}
use Rattle.theory.specs.Syntax.{Program, pick, and_then, or_else, ◌∈◌, elem}
use Rattle.theory.specs.WellFormed.{small_parts, parts_of}
use Rattle.theory.specs.Tree.{Tree, Trees, var, node, [·], ◌▹◌, Subst, bind_tree, no_subst, inst, insts, match, matches, Rule, filled, apply, first_fit, active, inside, first, later, step, step_part, len}
use Rattle.theory.specs.Rewriting.{Finite, Position, part, ◌∣◌, change, put, Opens, succ_opens, if_opens, handle_opens, guard_opens, select_opens, auxiliary_opens, Posμ, at_root, below, Redex, Innermost, Rewrites, Normal}
use Rattle.theory.specs.Words.{Shaped, Shapeds}
use Rattle.theory.specs.Translation.{aux}
use Rattle.theory.specs.Overlap.{IsSome}
use Rattle.theory.specs.Proper.{Distinct, tree_vars, trees_vars, ProperRule, ApartRule, ProperRules}
use Rattle.theory.proofs.Tests.{T→true, le-of-leb, eqb-true, eq-of-eqb, then_some}
use Rattle.theory.proofs.Lists.{or-true, elem-append, elem-left, elem-right, elem-one, all_in}
use Rattle.theory.proofs.Reach.{step-shut}
use Rattle.theory.proofs.OverlapMeaning.{alone, apart, only_one}
use Rattle.theory.proofs.Shape.{parts-aux}
use Rattle.theory.proofs.Active.{active-high}

-- RESULTS THAT MAY BE NONE, AND TESTS
some_same : {A : Type 0} (a b : A) → some a ≡ some b → a ≡ b
some_same a b e = some-injective a b e

pick_some : {A : Type 0} (b : Bool) (o : Option A) (a : A) → pick b o none ≡ some a → (b ≡ true) × (o ≡ some a)
pick_some true o a e = (refl, e)
pick_some false o a e = absurd (none-ne-some a e)

or-false : (a b : Bool) → (a || b) ≡ false → (a ≡ false) × (b ≡ false)
or-false true b e = absurd (false≢true (sym e))
or-false false b e = (refl, e)

-- LISTS WITH NO NUMBER TWICE
distinct-parts : (xs ys : List ℕ) → Distinct (xs ++ ys) → Distinct xs × Distinct ys × ((x : ℕ) → elem x xs ≡ true → elem x ys ≡ false)
distinct-parts [] ys d = (tt, d, λ x e. absurd (false≢true e))
distinct-parts (y ∷ xs) ys d =
    let r = distinct-parts xs ys d.1 in
    let n = or-false (elem y xs) (elem y ys) (sym (elem-append y xs ys) ∙ d.0) in
    ((n.0, r.0), r.1, λ x e. ⊎_elim (λ p. subst (λ (z : ℕ). elem z ys ≡ false) (eq-of-eqb y x p) n.1) (r.2 x) (or-true (eqb y x) (elem x xs) e))

-- INSTANCES: they depend on the values at the variables, and on nothing else
mutual
  agree-inst : (t : Tree) (σ τ : Subst) → ((x : ℕ) → elem x (tree_vars t) ≡ true → σ x ≡ τ x) → inst σ t ≡ inst τ t
  agree-inst (var y) σ τ h = h y (ap (◌|| false) (eqb-true y y refl))
  agree-inst (node s ts) σ τ h = ap (node s) (agree-insts ts σ τ h)

  agree-insts : (ts : Trees) (σ τ : Subst) → ((x : ℕ) → elem x (trees_vars ts) ≡ true → σ x ≡ τ x) → insts σ ts ≡ insts τ ts
  agree-insts [·] σ τ h = refl
  agree-insts (t ▹ ts) σ τ h =
      ap₂ ◌▹◌ (agree-inst t σ τ (λ x e. h x (elem-left x (tree_vars t) (trees_vars ts) e)))
      (agree-insts ts σ τ (λ x e. h x (elem-right x (tree_vars t) (trees_vars ts) e)))

abbrev parts_under : Tree → Trees
parts_under (var x) = [·]
parts_under (node s ts) = ts

abbrev first_or : Tree → Trees → Tree
first_or d [·] = d
first_or d (t ▹ ts) = t

abbrev rest : Trees → Trees
rest [·] = [·]
rest (t ▹ ts) = ts

mutual
  inst-agrees : (t : Tree) (σ τ : Subst) → inst σ t ≡ inst τ t → (x : ℕ) → elem x (tree_vars t) ≡ true → σ x ≡ τ x
  inst-agrees (var y) σ τ e x h = subst (λ (z : ℕ). σ z ≡ τ z) (elem-one x y h) e
  inst-agrees (node s ts) σ τ e x h = insts-agree ts σ τ (ap parts_under e) x h

  insts-agree : (ts : Trees) (σ τ : Subst) → insts σ ts ≡ insts τ ts → (x : ℕ) → elem x (trees_vars ts) ≡ true → σ x ≡ τ x
  insts-agree [·] σ τ e x h = absurd (false≢true h)
  insts-agree (t ▹ ts) σ τ e x h =
      ⊎_elim (λ k. inst-agrees t σ τ (ap (first_or (inst σ t)) e) x k) (λ k. insts-agree ts σ τ (ap rest e) x k)
      (or-true (elem x (tree_vars t)) (elem x (trees_vars ts)) (sym (elem-append x (tree_vars t) (trees_vars ts)) ∙ h))

-- MATCHING: it leaves the other variables alone, and finds the substitution of a linear left side
mutual
  match-keeps : (l t : Tree) (σ τ : Subst) → match l t σ ≡ some τ → (x : ℕ) → elem x (tree_vars l) ≡ false → τ x ≡ σ x
  match-keeps (var y) t σ τ e x h =
      ap (λ (f : Subst). f x) (sym (some_same (bind_tree σ y t) τ e)) ∙ ap (λ (b : Bool). pick b t (σ x)) (or-false (eqb y x) false h).0
  match-keeps (node s ps) (var y) σ τ e x h = absurd (none-ne-some τ e)
  match-keeps (node s ps) (node r ts) σ τ e x h = matches-keeps ps ts σ τ (pick_some (eqb s r) (matches ps ts σ) τ e).1 x h

  matches-keeps : (ps ts : Trees) (σ τ : Subst) → matches ps ts σ ≡ some τ → (x : ℕ) → elem x (trees_vars ps) ≡ false → τ x ≡ σ x
  matches-keeps [·] [·] σ τ e x h = ap (λ (f : Subst). f x) (sym (some_same σ τ e))
  matches-keeps [·] (t ▹ ts) σ τ e x h = absurd (none-ne-some τ e)
  matches-keeps (p ▹ ps) [·] σ τ e x h = absurd (none-ne-some τ e)
  matches-keeps (p ▹ ps) (t ▹ ts) σ τ e x h =
      let w = then_some (match p t σ) (matches ps ts) τ e in
      let n = or-false (elem x (tree_vars p)) (elem x (trees_vars ps)) (sym (elem-append x (tree_vars p) (trees_vars ps)) ∙ h) in
      matches-keeps ps ts w.0 τ w.2 x n.1 ∙ match-keeps p t σ w.0 w.1 x n.0

mutual
  match-inst : (l t : Tree) (σ τ : Subst) → Distinct (tree_vars l) → match l t σ ≡ some τ → inst τ l ≡ t
  match-inst (var y) t σ τ d e =
      ap (λ (f : Subst). f y) (sym (some_same (bind_tree σ y t) τ e)) ∙ ap (λ (b : Bool). pick b t (σ y)) (eqb-true y y refl)
  match-inst (node s ps) (var y) σ τ d e = absurd (none-ne-some τ e)
  match-inst (node s ps) (node r ts) σ τ d e =
      let w = pick_some (eqb s r) (matches ps ts σ) τ e in
      ap₂ node (eq-of-eqb s r w.0) (matches-inst ps ts σ τ d w.1)

  matches-inst : (ps ts : Trees) (σ τ : Subst) → Distinct (trees_vars ps) → matches ps ts σ ≡ some τ → insts τ ps ≡ ts
  matches-inst [·] [·] σ τ d e = refl
  matches-inst [·] (t ▹ ts) σ τ d e = absurd (none-ne-some τ e)
  matches-inst (p ▹ ps) [·] σ τ d e = absurd (none-ne-some τ e)
  matches-inst (p ▹ ps) (t ▹ ts) σ τ d e =
      let w = then_some (match p t σ) (matches ps ts) τ e in
      let n = distinct-parts (tree_vars p) (trees_vars ps) d in
      ap₂ ◌▹◌ (agree-inst p τ w.0 (λ x h. matches-keeps ps ts w.0 τ w.2 x (n.2 x h)) ∙ match-inst p t σ w.0 n.0 w.1)
      (matches-inst ps ts w.0 τ n.1 w.2)

mutual
  instance-matches : (l : Tree) (τ σ : Subst) → (ρ : Subst) × (match l (inst τ l) σ ≡ some ρ)
  instance-matches (var x) τ σ = (bind_tree σ x (τ x), refl)
  instance-matches (node s ps) τ σ =
      let w = instances-match ps τ σ in
      (w.0, ap (λ (b : Bool). pick b (matches ps (insts τ ps) σ) none) (eqb-true s s refl) ∙ w.1)

  instances-match : (ps : Trees) (τ σ : Subst) → (ρ : Subst) × (matches ps (insts τ ps) σ ≡ some ρ)
  instances-match [·] τ σ = (σ, refl)
  instances-match (p ▹ ps) τ σ =
      let v = instance-matches p τ σ in
      let w = instances-match ps τ v.0 in
      (w.0, ap (λ (o : Option Subst). and_then o (matches ps (insts τ ps))) v.1 ∙ w.1)

-- ONE RULE, AND THE FIRST THAT FITS
instance-applies : (r : Rule) → ProperRule r → (τ : Subst) → apply r (inst τ r.lhs) ≡ some (inst τ r.rhs)
instance-applies r h τ =
    let w = instance-matches r.lhs τ no_subst in
    let same = match-inst r.lhs (inst τ r.lhs) no_subst w.0 h.linear w.1 in
    ap (filled r.rhs) w.1
    ∙ ap some (agree-inst r.rhs w.0 τ (λ x e. inst-agrees r.lhs w.0 τ same x (all_in (tree_vars r.rhs) (tree_vars r.lhs) h.scoped x e)))

-- a tree that is an instance, by a substitution that moves the rule's variables only
record Fits (r : Rule) (t u : Tree) : Type 0 where
  pub θ : Subst
  pub finite : Finite θ
  pub left : inst θ r.lhs ≡ t
  pub right : inst θ r.rhs ≡ u

only-on : List ℕ → Subst → Subst
only-on xs σ = λ x. pick (elem x xs) (σ x) (var x)

applied-fits : (r : Rule) → ProperRule r → (t u : Tree) → apply r t ≡ some u → Fits r t u
unfolding only-on
applied-fits r h t u e = go (match r.lhs t no_subst) refl e
  where
    go : (o : Option Subst) → match r.lhs t no_subst ≡ o → filled r.rhs o ≡ some u → Fits r t u
    go none m e = absurd (none-ne-some u e)
    go (some σ) m e =
        let xs = tree_vars r.lhs in
        let same : (x : ℕ) → elem x xs ≡ true → only-on xs σ x ≡ σ x = λ x k. ap (λ (b : Bool). pick b (σ x) (var x)) k in
        record {
          θ = only-on xs σ;
          finite = (xs, λ x k. ap (λ (b : Bool). pick b (σ x) (var x)) k);
          left = agree-inst r.lhs (only-on xs σ) σ same ∙ match-inst r.lhs t no_subst σ h.linear m;
          right = agree-inst r.rhs (only-on xs σ) σ (λ x k. same x (all_in (tree_vars r.rhs) xs h.scoped x k)) ∙ some_same (inst σ r.rhs) u e;
        }

proper-of : (rs : List Rule) → ProperRules rs → {r : Rule} → r ∈ rs → ProperRule r
proper-of [] h i = absurd i
proper-of (q ∷ rs) h (inl e) = subst ProperRule (sym e) h.0
proper-of (q ∷ rs) h (inr m) = proper-of rs h.2 m

alone_of : (r : Rule) (rs : List Rule) → ApartRule r rs → T (alone r.lhs rs)
alone_of r [] h = tt
alone_of r (q ∷ rs) h = subst (λ (b : Bool). T (not b && alone r.lhs rs)) (sym h.0) (alone_of r rs h.1)

pub apart_of : (rs : List Rule) → ProperRules rs → T (apart rs)
apart_of [] h = tt
apart_of (r ∷ rs) h = subst (λ (b : Bool). T (b && apart rs)) (sym (T→true (alone r.lhs rs) (alone_of r rs h.1))) (apart_of rs h.2)

-- some rule makes u of t exactly where the first that fits does
fit-of-first : (rs : List Rule) → ProperRules rs → (t u : Tree) → first_fit rs t ≡ some u → (r : Rule) × (r ∈ rs) × Fits r t u
fit-of-first [] h t u e = absurd (none-ne-some u e)
fit-of-first (r ∷ rs) h t u e = go (apply r t) refl e (fit-of-first rs h.2 t u)
  where
    go : (o : Option Tree) → apply r t ≡ o → or_else o (first_fit rs t) ≡ some u → (first_fit rs t ≡ some u → (q : Rule) × (q ∈ rs) × Fits q t u)
        → (q : Rule) × (q ∈ (r ∷ rs)) × Fits q t u
    go none a e k = let w = k e in (w.0, inr w.1, w.2)
    go (some v) a e k = (r, inl refl, applied-fits r h.0 t u (a ∙ e))

first-of-fit : (rs : List Rule) → ProperRules rs → (r : Rule) → r ∈ rs → (θ : Subst) → first_fit rs (inst θ r.lhs) ≡ some (inst θ r.rhs)
first-of-fit [] h r i θ = absurd i
first-of-fit (q ∷ rs) h r (inl e) θ =
    ap (λ (o : Option Tree). or_else o (first_fit rs (inst θ r.lhs))) (ap (λ (x : Rule). apply x (inst θ r.lhs)) (sym e) ∙ instance-applies r (subst ProperRule (sym e) h.0) θ)
first-of-fit (q ∷ rs) h r (inr m) θ = go (apply q t) (only_one (q ∷ rs) (apart_of (q ∷ rs) h) t).0 (first-of-fit rs h.2 r m θ)
  where
    t : Tree
    t = inst θ r.lhs

    go : (o : Option Tree) → (IsSome o → first_fit rs t ≡ none) → first_fit rs t ≡ some (inst θ r.rhs) → or_else o (first_fit rs t) ≡ some (inst θ r.rhs)
    go none k e = e
    go (some v) k e = absurd (none-ne-some (inst θ r.rhs) (sym (k tt) ∙ e))

-- PARTS
-- what holds of a tree when it holds of its parts holds of all trees
module _ (C : Tree → Type 0) (at-var : (x : ℕ) → C (var x))
    (at-node : (s : ℕ) (ts : Trees) → ((i : ℕ) (t : Tree) → part ts i ≡ some t → C t) → C (node s ts)) where
  mutual
    by_parts : (t : Tree) → C t
    by_parts (var x) = at-var x
    by_parts (node s ts) = at-node s ts (λ i t e. each_part ts i t e)

    each_part : (ts : Trees) (i : ℕ) (t : Tree) → part ts i ≡ some t → C t
    each_part [·] i t e = absurd (none-ne-some t e)
    each_part (u ▹ ts) zero t e = absurd (none-ne-some t e)
    each_part (u ▹ ts) (suc zero) t e = subst C (some_same u t e) (by_parts u)
    each_part (u ▹ ts) (suc (suc i)) t e = each_part ts (suc i) t e

part-shape : (parts : ℕ → ℕ) (ts : Trees) (i : ℕ) (t : Tree) → part ts i ≡ some t → Shapeds parts ts → Shaped parts t
part-shape parts [·] i t e h = absurd (none-ne-some t e)
part-shape parts (u ▹ ts) zero t e h = absurd (none-ne-some t e)
part-shape parts (u ▹ ts) (suc zero) t e h = subst (Shaped parts) (some_same u t e) h.0
part-shape parts (u ▹ ts) (suc (suc i)) t e h = part-shape parts ts (suc i) t e h.1

part-number : (ts : Trees) (i : ℕ) (t : Tree) → part ts i ≡ some t → (1 ≤ i) × (i ≤ len ts)
part-number [·] i t e = absurd (none-ne-some t e)
part-number (u ▹ ts) zero t e = absurd (none-ne-some t e)
part-number (u ▹ ts) (suc zero) t e = (omega arith, omega arith)
part-number (u ▹ ts) (suc (suc i)) t e = let k = (part-number ts (suc i) t e).1 in (omega arith, omega arith)

-- t|ₚ = u is what the paper writes as t = t[u]ₚ; and what is put at a place stands there
change-same : (f : Tree → Tree) (ts : Trees) (i : ℕ) (t : Tree) → part ts i ≡ some t → f t ≡ t → change f ts i ≡ ts
change-same f [·] i t e h = refl
change-same f (u ▹ ts) zero t e h = refl
change-same f (u ▹ ts) (suc zero) t e h = ap (◌▹ ts) (subst (λ (v : Tree). f v ≡ v) (sym (some_same u t e)) h)
change-same f (u ▹ ts) (suc (suc i)) t e h = ap (u ▹◌) (change-same f ts (suc i) t e h)

part-changed : (f : Tree → Tree) (ts : Trees) (i : ℕ) (t : Tree) → part ts i ≡ some t → part (change f ts i) i ≡ some (f t)
part-changed f [·] i t e = absurd (none-ne-some t e)
part-changed f (u ▹ ts) zero t e = absurd (none-ne-some t e)
part-changed f (u ▹ ts) (suc zero) t e = ap (λ (v : Tree). some (f v)) (some_same u t e)
part-changed f (u ▹ ts) (suc (suc i)) t e = part-changed f ts (suc i) t e

pub subterm-in-place : (p : Position) (t u : Tree) → t ∣ p ≡ some u → put t p u ≡ t
subterm-in-place [] t u e = sym (some_same t u e)
subterm-in-place (i ∷ p) (var x) u e = refl
subterm-in-place (i ∷ p) (node s ts) u e =
    let w = then_some (part ts i) (λ t. t ∣ p) u e in
    ap (node s) (change-same (λ t. put t p u) ts i w.0 w.1 (subterm-in-place p w.0 u w.2))

pub put-stands : (p : Position) (t u v : Tree) → t ∣ p ≡ some u → put t p v ∣ p ≡ some v
put-stands [] t u v e = refl
put-stands (i ∷ p) (var x) u v e = absurd (none-ne-some u e)
put-stands (i ∷ p) (node s ts) u v e =
    let w = then_some (part ts i) (λ t. t ∣ p) u e in
    ap (λ (o : Option Tree). and_then o (λ t. t ∣ p)) (part-changed (λ t. put t p v) ts i w.0 w.1) ∙ put-stands p w.0 u v w.2

-- THE CONTEXT: `active` and μ name the same part wherever that part is there
module _ (P : Program) where
  listed-opens : (s : ℕ) → (eqb s 2 || eqb s 7 || eqb s 8 || eqb s 10 || eqb s 12) ≡ true → Opens P s 1
  listed-opens s e12 =
      ⊎_elim (λ e10. ⊎_elim (λ e8. ⊎_elim (λ e7. ⊎_elim (is 2 succ_opens) (is 7 guard_opens) (or-true (eqb s 2) (eqb s 7) e7))
      (is 8 select_opens) (or-true (eqb s 2 || eqb s 7) (eqb s 8) e8))
      (is 10 if_opens) (or-true (eqb s 2 || eqb s 7 || eqb s 8) (eqb s 10) e10))
      (is 12 handle_opens) (or-true (eqb s 2 || eqb s 7 || eqb s 8 || eqb s 10) (eqb s 12) e12)
    where
      is : (n : ℕ) → Opens P n 1 → eqb s n ≡ true → Opens P s 1
      is n o e = subst (λ (m : ℕ). Opens P m 1) (sym (eq-of-eqb s n e)) o

  active-opens : (s : ℕ) (ts : Trees) (t : Tree) → len ts ≡ parts_of P s → part ts (active s) ≡ some t → Opens P s (active s)
  active-opens s ts t l e = go (leb 256 s) refl l (part-number ts (active s) t e)
    where
      small : ℕ
      small = pick (eqb s 2 || eqb s 7 || eqb s 8 || eqb s 10 || eqb s 12) 1 0

      low : (b : Bool) → (eqb s 2 || eqb s 7 || eqb s 8 || eqb s 10 || eqb s 12) ≡ b → 1 ≤ pick b 1 0 → Opens P s (pick b 1 0)
      low true q n = listed-opens s q
      low false q n = absurd (omega arith)

      go : (b : Bool) → leb 256 s ≡ b → len ts ≡ pick b (P.fun ((s - 256) / 8)).arity (small_parts s)
          → (1 ≤ pick b (s % 8) small) × (pick b (s % 8) small ≤ len ts) → Opens P s (pick b (s % 8) small)
      go true q l n =
          let m = le-of-leb 256 s q in
          let at : aux ((s - 256) / 8) (s % 8) ≡ s = omega arith in
          subst (λ (x : ℕ). Opens P x (s % 8)) at (auxiliary_opens n.0 (subst (λ (x : ℕ). s % 8 ≤ x) l n.1))
      go false q l n = low (eqb s 2 || eqb s 7 || eqb s 8 || eqb s 10 || eqb s 12) refl n.0

  module _ (small : (k : ℕ) → (P.fun k).arity ≤ 4) where
    opens-active : {s i : ℕ} → Opens P s i → active s ≡ i
    opens-active succ_opens = refl
    opens-active if_opens = refl
    opens-active handle_opens = refl
    opens-active guard_opens = refl
    opens-active select_opens = refl
    opens-active (auxiliary_opens {k = k} {i = i} a b) =
        let n = small k in
        let at : aux k i % 8 ≡ i = omega arith in
        sym (active-high (aux k i) (omega arith)) ∙ at

    -- definition 2.4 asks it of a context: only parts that are there are open
    pub opens-within : {s i : ℕ} → Opens P s i → (1 ≤ i) × (i ≤ parts_of P s)
    opens-within succ_opens = (omega arith, omega arith)
    opens-within if_opens = (omega arith, omega arith)
    opens-within handle_opens = (omega arith, omega arith)
    opens-within guard_opens = (omega arith, omega arith)
    opens-within select_opens = (omega arith, omega arith)
    opens-within (auxiliary_opens {k = k} {i = i} a b) =
        let n = small k in
        (a, subst (λ (m : ℕ). i ≤ m) (sym (parts-aux P k i (omega arith))) b)

-- POSITIONS OF THE CONTEXT
module _ (P : Program) where
  record Below (s : ℕ) (ts : Trees) (i : ℕ) (p : Position) : Type 0 where
    pub opens : Opens P s i
    pub tree : Tree
    pub there : part ts i ≡ some tree
    pub deeper : Posμ P tree p

  below_root : {s : ℕ} {ts : Trees} {i : ℕ} {p : Position} → Posμ P (node s ts) (i ∷ p) → Below s ts i p
  below_root (below {t = t} o e m) = record { opens = o; tree = t; there = e; deeper = m }

  there-is : {t : Tree} {p : Position} → Posμ P t p → (u : Tree) × (t ∣ p ≡ some u)
  there-is (at_root {t = t}) = (t, refl)
  there-is (below {p = p} o e m) = let w = there-is m in (w.0, ap (λ (o : Option Tree). and_then o (λ t. t ∣ p)) e ∙ w.1)

  no_part : {x i : ℕ} {p : Position} → Posμ P (var x) (i ∷ p) → ⊥
  no_part a = let w = there-is a in none-ne-some w.0 w.1

-- p is the beginning of q
abbrev pub Begins : Position → Position → Type 0
Begins p q = (r : Position) × (p ++ r ≡ q)

module _ (P : Program) (small : (k : ℕ) → (P.fun k).arity ≤ 4) where
  -- THE PLACES LIE ON ONE PATH: of two, one is on the way to the other
  pub one-path : (t : Tree) (p q : Position) → Posμ P t p → Posμ P t q → Begins p q ⊎ Begins q p
  one-path t [] q a b = inl (q, refl)
  one-path t (i ∷ p) [] a b = inr (i ∷ p, refl)
  one-path (var x) (i ∷ p) (j ∷ q) a b = absurd (no_part P a)
  one-path (node s ts) (i ∷ p) (j ∷ q) a b =
      let v = below_root P a in
      let w = below_root P b in
      let ij : i ≡ j = sym (opens-active P small v.opens) ∙ opens-active P small w.opens in
      let same : v.tree ≡ w.tree = some_same v.tree w.tree (sym v.there ∙ ap (part ts) ij ∙ w.there) in
      both i j ij p q (one-path v.tree p q v.deeper (subst (λ (t : Tree). Posμ P t q) (sym same) w.deeper))
    where
      both : (i j : ℕ) → i ≡ j → (p q : Position) → Begins p q ⊎ Begins q p → Begins (i ∷ p) (j ∷ q) ⊎ Begins (j ∷ q) (i ∷ p)
      both i j e p q (inl b) = inl (b.0, ap₂ ◌∷◌ e b.1)
      both i j e p q (inr b) = inr (b.0, ap₂ ◌∷◌ (sym e) b.1)

-- ONE STEP, BY THE PART THAT IS OPEN
module _ (root : Tree → Option Tree) where
  idle-part : (ts : Trees) (i : ℕ) → ((t : Tree) → part ts i ≡ some t → step root t ≡ none) → step_part root ts i ≡ none
  unfolding step
  idle-part [·] i h = refl
  idle-part (t ▹ ts) zero h = refl
  idle-part (t ▹ ts) (suc zero) h = ap (first ts) (h t refl)
  idle-part (t ▹ ts) (suc (suc i)) h = ap (later t) (idle-part ts (suc i) h)

  busy-part : (f : Tree → Tree) (ts : Trees) (i : ℕ) (t : Tree) → part ts i ≡ some t → step root t ≡ some (f t)
      → step_part root ts i ≡ some (change f ts i)
  unfolding step
  busy-part f [·] i t e h = absurd (none-ne-some t e)
  busy-part f (u ▹ ts) zero t e h = absurd (none-ne-some t e)
  busy-part f (u ▹ ts) (suc zero) t e h = ap (first ts) (subst (λ (v : Tree). step root v ≡ some (f v)) (sym (some_same u t e)) h)
  busy-part f (u ▹ ts) (suc (suc i)) t e h = ap (later u) (busy-part f ts (suc i) t e h)

  part-of-idle : (ts : Trees) (i : ℕ) (t : Tree) → step_part root ts i ≡ none → part ts i ≡ some t → step root t ≡ none
  part-of-idle ts i t n e = go (step root t) refl
    where
      go : (o : Option Tree) → step root t ≡ o → step root t ≡ none
      go none q = q
      go (some u) q = absurd (some-ne-none (change (λ v. u) ts i) (sym (busy-part (λ v. u) ts i t e q) ∙ n))

  step-inside : (s : ℕ) (ts : Trees) (us : Trees) → step_part root ts (active s) ≡ some us → step root (node s ts) ≡ some (node s us)
  unfolding step
  step-inside s ts us h = ap (λ (o : Option Trees). inside s o (root (node s ts))) h

  idle-node : (s : ℕ) (ts : Trees) → step root (node s ts) ≡ none → (step_part root ts (active s) ≡ none) × (root (node s ts) ≡ none)
  unfolding step
  idle-node s ts h = go (step_part root ts (active s)) h
    where
      go : (o : Option Trees) → inside s o (root (node s ts)) ≡ none → (o ≡ none) × (root (node s ts) ≡ none)
      go none e = (refl, e)
      go (some us) e = absurd (some-ne-none (node s us) e)

  idle-var : (x : ℕ) → step root (var x) ≡ none
  unfolding step
  idle-var x = refl

-- REDEXES: at the root, and between a tree and its parts
module _ (P : Program) (rs : List Rule) where
  abbrev redex-up : {s : ℕ} {ts : Trees} {i : ℕ} {t : Tree} {p : Position} → Opens P s i → part ts i ≡ some t
      → Redex P rs t p → Redex P rs (node s ts) (i ∷ p)
  redex-up {p = p} o e x =
      record {
        rule = x.rule;
        listed = x.listed;
        θ = x.θ;
        finite = x.finite;
        open_place = below o e x.open_place;
        subterm = ap (λ (o : Option Tree). and_then o (λ t. t ∣ p)) e ∙ x.subterm;
      }

  abbrev redex-down : {s : ℕ} {ts : Trees} {i : ℕ} {t : Tree} {p : Position} → part ts i ≡ some t → Redex P rs (node s ts) (i ∷ p) → Redex P rs t p
  redex-down {t = t} {p = p} e x =
      let b = below_root P x.open_place in
      record {
        rule = x.rule;
        listed = x.listed;
        θ = x.θ;
        finite = x.finite;
        open_place = subst (λ (u : Tree). Posμ P u p) (some_same b.tree t (sym b.there ∙ e)) b.deeper;
        subterm = sym (ap (λ (o : Option Tree). and_then o (λ t. t ∣ p)) e) ∙ x.subterm;
      }

  module _ (proper : ProperRules rs) where
    redex-fits : {t : Tree} (x : Redex P rs t []) → first_fit rs t ≡ some (inst x.θ x.rule.rhs)
    redex-fits {t} x =
        ap (first_fit rs) (some_same t (inst x.θ x.rule.lhs) x.subterm) ∙ first-of-fit rs proper x.rule x.listed x.θ

    -- a left side is no variable, so a variable has no redex
    variable-normal : (x : ℕ) → Normal P rs (var x)
    variable-normal y [] x =
        let l = proper-of rs proper x.listed in
        clear (ap (inst x.θ) (sym l.rooted) ∙ sym (some_same (var y) (inst x.θ x.rule.lhs) x.subterm))
      where
        is_node : Tree → Type 0
        is_node (var z) = ⊥
        is_node (node s ts) = Unit {0}

        clear : {s : ℕ} {ts : Trees} → node s ts ≡ var y → ⊥
        clear e = subst is_node e tt
    variable-normal y (i ∷ p) x = no_part P x.open_place

    module _ (small : (k : ℕ) → (P.fun k).arity ≤ 4) where
      -- where the open part is idle, only the root can be a redex
      only-root : (s : ℕ) (ts : Trees) → step_part (first_fit rs) ts (active s) ≡ none
          → ((i : ℕ) (t : Tree) → part ts i ≡ some t → step (first_fit rs) t ≡ none → Normal P rs t)
          → (q : Position) → Redex P rs (node s ts) q → q ≡ []
      only-root s ts n h [] x = refl
      only-root s ts n h (i ∷ q) x =
          let b = below_root P x.open_place in
          let shut = ap (step_part (first_fit rs) ts) (sym (opens-active P small b.opens)) ∙ n in
          absurd (h i b.tree b.there (part-of-idle (first_fit rs) ts i b.tree shut b.there) q (redex-down b.there x))

      idle-normal : (t : Tree) → step (first_fit rs) t ≡ none → Normal P rs t
      idle-normal = by_parts (λ t. step (first_fit rs) t ≡ none → Normal P rs t) (λ x e. variable-normal x) at-node
        where
          at-node : (s : ℕ) (ts : Trees) → ((i : ℕ) (t : Tree) → part ts i ≡ some t → step (first_fit rs) t ≡ none → Normal P rs t)
              → step (first_fit rs) (node s ts) ≡ none → Normal P rs (node s ts)
          at-node s ts h e [] x = none-ne-some (inst x.θ x.rule.rhs) (sym (idle-node (first_fit rs) s ts e).1 ∙ redex-fits x)
          at-node s ts h e (i ∷ p) x = cons≢nil (only-root s ts (idle-node (first_fit rs) s ts e).0 h (i ∷ p) x)

      -- THE STEP IS REWRITING (the shape says that the part `active` names is one that the context opens)
      rewritten-root : (s : ℕ) (ts : Trees) (u : Tree) → step_part (first_fit rs) ts (active s) ≡ none → first_fit rs (node s ts) ≡ some u
          → Rewrites P rs (node s ts) u
      rewritten-root s ts u n e =
          let w = fit-of-first rs proper (node s ts) u e in
          let f = w.2 in
          record {
            place = [];
            redex = record { rule = w.0; listed = w.1; θ = f.θ; finite = f.finite; open_place = at_root; subterm = ap some (sym f.left) };
            innermost = λ q x. only-root s ts n (λ i t k. idle-normal t) q (subst (λ (t : Tree). Redex P rs t q) f.left x);
            result = sym f.right;
          }

      pub step-is-rewriting : (t : Tree) → Shaped (parts_of P) t → (u : Tree) → step (first_fit rs) t ≡ some u → Rewrites P rs t u
      step-is-rewriting =
          by_parts (λ t. Shaped (parts_of P) t → (u : Tree) → step (first_fit rs) t ≡ some u → Rewrites P rs t u)
          (λ x h u e. absurd (none-ne-some u (sym (idle-var (first_fit rs) x) ∙ e))) at-node
        where
          root : Tree → Option Tree
          root = first_fit rs

          at-node : (s : ℕ) (ts : Trees)
              → ((i : ℕ) (t : Tree) → part ts i ≡ some t → Shaped (parts_of P) t → (u : Tree) → step root t ≡ some u → Rewrites P rs t u)
              → Shaped (parts_of P) (node s ts) → (u : Tree) → step root (node s ts) ≡ some u → Rewrites P rs (node s ts) u
          at-node s ts ih h u e = go (part ts (active s)) refl
            where
              idle : step_part root ts (active s) ≡ none → Rewrites P rs (node s ts) u
              idle n = rewritten-root s ts u n (sym (step-shut root s ts n) ∙ e)

              turn : (t : Tree) → part ts (active s) ≡ some t → (o : Option Tree) → step root t ≡ o → Rewrites P rs (node s ts) u
              turn t k none q = idle (idle-part root ts (active s) (λ v m. ap (step root) (some_same v t (sym m ∙ k)) ∙ q))
              turn t k (some v) q =
                  let w = ih (active s) t k (part-shape (parts_of P) ts (active s) t k h.2) v q in
                  let x = w.redex in
                  let f : Tree → Tree = λ y. put y w.place (inst x.θ x.rule.rhs) in
                  let us = change f ts (active s) in
                  record {
                    place = active s ∷ w.place;
                    redex = redex-up (active-opens P s ts t h.1 k) k x;
                    innermost = w.innermost;
                    result = some_same u (node s us) (sym e ∙ step-inside root s ts us (busy-part root f ts (active s) t k (q ∙ ap some w.result)));
                  }

              go : (o : Option Tree) → part ts (active s) ≡ o → Rewrites P rs (node s ts) u
              go none k = idle (idle-part root ts (active s) (λ v m. absurd (none-ne-some v (sym k ∙ m))))
              go (some t) k = turn t k (step root t) refl

      -- AND REWRITING IS THE STEP
      innermost-is-step : (p : Position) (t : Tree) → Shaped (parts_of P) t → (x : Redex P rs t p) → Innermost P rs t p x
          → step (first_fit rs) t ≡ some (put t p (inst x.θ x.rule.rhs))
      innermost-is-step [] (var y) h x m = absurd (variable-normal y [] x)
      innermost-is-step [] (node s ts) h x m = step-shut root s ts (idle-part root ts (active s) idle) ∙ redex-fits x
        where
          root : Tree → Option Tree
          root = first_fit rs

          idle : (t : Tree) → part ts (active s) ≡ some t → step root t ≡ none
          idle t k = go (step root t) refl
            where
              go : (o : Option Tree) → step root t ≡ o → step root t ≡ none
              go none q = q
              go (some v) q =
                  let w = step-is-rewriting t (part-shape (parts_of P) ts (active s) t k h.2) v q in
                  let y = redex-up (active-opens P s ts t h.1 k) k w.redex in
                  absurd (cons≢nil (m (active s ∷ w.place)
                  (subst (λ (t : Tree). Redex P rs t (active s ∷ w.place)) (some_same (node s ts) (inst x.θ x.rule.lhs) x.subterm) y)))
      innermost-is-step (i ∷ p) (var y) h x m = absurd (no_part P x.open_place)
      innermost-is-step (i ∷ p) (node s ts) h x m =
          let root = first_fit rs in
          let b = below_root P x.open_place in
          let f : Tree → Tree = λ y. put y p (inst x.θ x.rule.rhs) in
          let ih = innermost-is-step p b.tree (part-shape (parts_of P) ts i b.tree b.there h.2) (redex-down b.there x) m in
          step-inside root s ts (change f ts i) (ap (step_part root ts) (opens-active P small b.opens) ∙ busy-part root f ts i b.tree b.there ih)

      pub rewriting-is-step : (t : Tree) → Shaped (parts_of P) t → (u : Tree) → Rewrites P rs t u → step (first_fit rs) t ≡ some u
      rewriting-is-step t h u w = innermost-is-step w.place t h w.redex w.innermost ∙ ap some (sym w.result)

      -- no tree is rewritten to two
      pub rewriting-unique : (t : Tree) → Shaped (parts_of P) t → (u u' : Tree) → Rewrites P rs t u → Rewrites P rs t u' → u ≡ u'
      rewriting-unique t h u u' w w' = some_same u u' (sym (rewriting-is-step t h u w) ∙ rewriting-is-step t h u' w')

      -- a normal form is a tree without a step
      pub normal-exactly : (t : Tree) → Shaped (parts_of P) t → Normal P rs t ↔ (step (first_fit rs) t ≡ none)
      normal-exactly t h = (λ n. go n (step (first_fit rs) t) refl, idle-normal t)
        where
          go : Normal P rs t → (o : Option Tree) → step (first_fit rs) t ≡ o → step (first_fit rs) t ≡ none
          go n none q = q
          go n (some u) q = let w = step-is-rewriting t h u q in absurd (n w.place w.redex)

      -- INNERMOST IS DEEPEST: a redex is innermost exactly where the places of all redexes stand at or above it
      redex-under : (p r : Position) (t v : Tree) → t ∣ p ≡ some v → Redex P rs t (p ++ r) → Redex P rs v r
      redex-under [] r t v e x = subst (λ (y : Tree). Redex P rs y r) (some_same t v e) x
      redex-under (i ∷ p) r (var y) v e x = absurd (none-ne-some v e)
      redex-under (i ∷ p) r (node s ts) v e x =
          let w = then_some (part ts i) (λ t. t ∣ p) v e in
          redex-under p r w.0 v w.2 (redex-down w.1 x)

      redex-over : (p r : Position) (t v : Tree) → Posμ P t p → t ∣ p ≡ some v → Redex P rs v r → Redex P rs t (p ++ r)
      redex-over [] r t v o e x = subst (λ (y : Tree). Redex P rs y r) (sym (some_same t v e)) x
      redex-over (i ∷ p) r (var y) v o e x = absurd (none-ne-some v e)
      redex-over (i ∷ p) r (node s ts) v o e x =
          let b = below_root P o in
          redex-up b.opens b.there
          (redex-over p r b.tree v b.deeper (sym (ap (λ (o : Option Tree). and_then o (λ t. t ∣ p)) b.there) ∙ e) x)

      back-at-start : (p r z : Position) → (p ++ r) ++ z ≡ p → r ≡ []
      back-at-start [] [] z e = refl
      back-at-start [] (i ∷ r) z e = absurd (cons≢nil e)
      back-at-start (i ∷ p) r z e = back-at-start p r z (ap behind e)
        where
          behind : Position → Position
          behind [] = []
          behind (j ∷ q) = q

      pub innermost-is-deepest : (t : Tree) (p : Position) (x : Redex P rs t p) → Innermost P rs t p x ↔ ((q : Position) → Redex P rs t q → Begins q p)
      innermost-is-deepest t p x = (λ m q y. go m q y (one-path P small t p q x.open_place y.open_place), λ d r y. back d r y)
        where
          v : Tree
          v = inst x.θ x.rule.lhs

          go : Innermost P rs t p x → (q : Position) → Redex P rs t q → Begins p q ⊎ Begins q p → Begins q p
          go m q y (inl b) =
              let r = b.0 in
              let n : r ≡ [] = m r (redex-under p r t v x.subterm (subst (Redex P rs t) (sym b.1) y)) in
              ([], append-nil q ∙ sym b.1 ∙ ap (p ++◌) n ∙ append-nil p)
          go m q y (inr b) = b

          back : ((q : Position) → Redex P rs t q → Begins q p) → (r : Position) → Redex P rs v r → r ≡ []
          back d r y = let b = d (p ++ r) (redex-over p r t v x.open_place x.subterm y) in back-at-start p r b.0 b.1
