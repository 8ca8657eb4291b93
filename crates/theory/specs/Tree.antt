-- Trees of symbols and how they are rewritten: context-sensitive rewriting (document 004, definition 2.4) at the deepest place of the
-- one path that document 01 allows. A symbol is document 01's word.
use Rattle.std.specs.Prelude.{ℕ, zero, suc, ◌+◌, ◌%◌, ◌||◌, List, [], ◌∷◌, eqb, leb}
use Rattle.std.proofs.Math.Option.{Option, none, some}
use Rattle.theory.specs.Syntax.{pick, and_then, or_else}

mutual
  pub data Tree : Type 0 where
    var : ℕ → Tree
    node : ℕ → Trees → Tree

  pub data Trees : Type 0 where
    [·] : Trees
    ◌▹◌ : Tree → Trees → Trees

infixr 60 ◌▹◌
abbrev pub Subst : Type 0
Subst = ℕ → Tree

abbrev pub bind_tree : Subst → ℕ → Tree → Subst
bind_tree σ x t = λ y. pick (eqb x y) t (σ y)

abbrev pub no_subst : Subst
no_subst = λ y. node 1 [·]

-- a side of a rule with its variables replaced
abbrev mutual
  pub inst : Subst → Tree → Tree
  inst σ (var x) = σ x
  inst σ (node s ts) = node s (insts σ ts)

  pub insts : Subst → Trees → Trees
  insts σ [·] = [·]
  insts σ (t ▹ ts) = inst σ t ▹ insts σ ts

-- the substitution under which a left side is a tree (a left side has no variable twice)
abbrev mutual
  pub match : Tree → Tree → Subst → Option Subst
  match (var x) t σ = some (bind_tree σ x t)
  match (node s ps) (var y) σ = none
  match (node s ps) (node r ts) σ = pick (eqb s r) (matches ps ts σ) none

  pub matches : Trees → Trees → Subst → Option Subst
  matches [·] [·] σ = some σ
  matches [·] (t ▹ ts) σ = none
  matches (p ▹ ps) [·] σ = none
  matches (p ▹ ps) (t ▹ ts) σ = and_then (match p t σ) (matches ps ts)

pub record Rule : Type 0 where
  pub lhs : Tree
  pub rhs : Tree

abbrev pub filled : Tree → Option Subst → Option Tree
filled r none = none
filled r (some σ) = some (inst σ r)

abbrev pub apply : Rule → Tree → Option Tree
apply r t = filled r.rhs (match r.lhs t no_subst)

-- what the first rule that fits makes of a tree, at its root
abbrev pub first_fit : List Rule → Tree → Option Tree
first_fit [] t = none
first_fit (r ∷ rs) t = or_else (apply r t) (first_fit rs t)

-- The part, counted from 1, in which a tree with this symbol at its root may be rewritten; 0: none.
abbrev pub active : ℕ → ℕ
active s = pick (leb 256 s) (s % 8) (pick (eqb s 2 || eqb s 7 || eqb s 8 || eqb s 10 || eqb s 12) 1 0)

abbrev pub inside : ℕ → Option Trees → Option Tree → Option Tree
inside s (some ts) r = some (node s ts)
inside s none r = r

abbrev pub first : Trees → Option Tree → Option Trees
first ts none = none
first ts (some t) = some (t ▹ ts)

abbrev pub later : Tree → Option Trees → Option Trees
later t none = none
later t (some ts) = some (t ▹ ts)

-- One step, where `root` is what may be done at a root. The deepest place goes first.
module _ (root : Tree → Option Tree) where
  unfoldable mutual
    pub step : Tree → Option Tree
    step (var x) = none
    step (node s ts) = inside s (step_part ts (active s)) (root (node s ts))

    pub step_part : Trees → ℕ → Option Trees
    step_part [·] i = none
    step_part (t ▹ ts) zero = none
    step_part (t ▹ ts) (suc zero) = first ts (step t)
    step_part (t ▹ ts) (suc (suc i)) = later t (step_part ts (suc i))

abbrev pub len : Trees → ℕ
len [·] = 0
len (t ▹ ts) = suc (len ts)

-- the words of a tree
abbrev mutual
  pub size : Tree → ℕ
  size (var x) = 1
  size (node s ts) = suc (sizes ts)

  pub sizes : Trees → ℕ
  sizes [·] = 0
  sizes (t ▹ ts) = size t + sizes ts
