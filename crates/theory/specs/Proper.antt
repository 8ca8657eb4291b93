-- What definitions 2.4 and 3.1 of document 004 ask of rules: no variable twice on the left, no variable on the right that is not on the
-- left, no two rules for the same arguments.
use Rattle.std.specs.Prelude.{ℕ, ◌≡◌, true, false, List, [], ◌∷◌, ◌++◌}
use Rattle.theory.specs.Syntax.{Term, const, succ, tvar, raise, handle, cond, call, Terms, tnil, tcons, Pat, pbase, psucc, pvar, Def, Program, elem}
use Rattle.theory.specs.Tree.{Tree, Trees, var, node, [·], ◌▹◌, Rule}
use Rattle.theory.specs.Overlap.{clash, overlaps}

-- no number twice
abbrev pub Distinct : List ℕ → Type 0
Distinct [] = Unit {0}
Distinct (x ∷ xs) = (elem x xs ≡ false) × Distinct xs

-- each number of the first list is in the second
abbrev pub AllIn : List ℕ → List ℕ → Type 0
AllIn [] ys = Unit {0}
AllIn (x ∷ xs) ys = (elem x ys ≡ true) × AllIn xs ys

-- the variables of patterns, of terms and of trees
abbrev pub pat_vars : Pat → List ℕ
pat_vars (pbase b) = []
pat_vars (psucc p) = pat_vars p
pat_vars (pvar x) = x ∷ []

abbrev pub pats_vars : List Pat → List ℕ
pats_vars [] = []
pats_vars (p ∷ ps) = pat_vars p ++ pats_vars ps

abbrev mutual
  pub term_vars : Term → List ℕ
  term_vars (const b) = []
  term_vars (succ t) = term_vars t
  term_vars (tvar x) = x ∷ []
  term_vars (raise e) = []
  term_vars (handle t e h) = term_vars t ++ term_vars h
  term_vars (cond t a b) = term_vars t ++ (term_vars a ++ term_vars b)
  term_vars (call k ts) = terms_vars ts

  pub terms_vars : Terms → List ℕ
  terms_vars tnil = []
  terms_vars (tcons t ts) = term_vars t ++ terms_vars ts

abbrev mutual
  pub tree_vars : Tree → List ℕ
  tree_vars (var x) = x ∷ []
  tree_vars (node s ts) = trees_vars ts

  pub trees_vars : Trees → List ℕ
  trees_vars [·] = []
  trees_vars (t ▹ ts) = tree_vars t ++ trees_vars ts

-- a function's rule, and the rules of a function: none fits what another fits
pub record ProperDef (d : Def) : Type 0 where
  pub linear : Distinct (pats_vars d.left)
  pub scoped : AllIn (term_vars d.right) (pats_vars d.left)

abbrev pub Apart : Def → List Def → Type 0
Apart d [] = Unit {0}
Apart d (e ∷ ds) = (overlaps d.left e.left ≡ false) × Apart d ds

abbrev pub ProperDefs : List Def → Type 0
ProperDefs [] = Unit {0}
ProperDefs (d ∷ ds) = ProperDef d × Apart d ds × ProperDefs ds

abbrev pub Proper : Program → Type 0
Proper P = (k : ℕ) → ProperDefs (P.fun k).defs

-- the same for rewrite rules: the left side is no variable either
pub record ProperRule (r : Rule) : Type 0 where
  pub root : ℕ
  pub parts : Trees
  pub rooted : r.lhs ≡ node root parts
  pub linear : Distinct (tree_vars r.lhs)
  pub scoped : AllIn (tree_vars r.rhs) (tree_vars r.lhs)

abbrev pub ApartRule : Rule → List Rule → Type 0
ApartRule r [] = Unit {0}
ApartRule r (q ∷ rs) = (clash r.lhs q.lhs ≡ false) × ApartRule r rs

abbrev pub ProperRules : List Rule → Type 0
ProperRules [] = Unit {0}
ProperRules (r ∷ rs) = ProperRule r × ApartRule r rs × ProperRules rs
