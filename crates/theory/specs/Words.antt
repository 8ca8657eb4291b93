-- Trees as root-first words; rules as they are stored (document 01, "Words of the rewrite system").
use Rattle.std.specs.Prelude.{ℕ, ◌+◌, ◌<◌, ◌≡◌, Bool, false, List, [], ◌∷◌, ◌++◌, leb}
use Rattle.std.proofs.Math.Option.{Option, none, some}
use Rattle.theory.specs.Syntax.{pick}
use Rattle.theory.specs.Tree.{Tree, Trees, var, node, [·], ◌▹◌, Rule, size, len}

-- variable v is the word 64 + v
abbrev mutual
  pub words : Tree → List ℕ
  words (var x) = (64 + x) ∷ []
  words (node s ts) = s ∷ all_words ts

  pub all_words : Trees → List ℕ
  all_words [·] = []
  all_words (t ▹ ts) = words t ++ all_words ts

abbrev pub is_var : ℕ → Bool
is_var w = pick (leb 64 w) (leb w 71) false

abbrev pub join_trees : Trees → Trees → Trees
join_trees [·] us = us
join_trees (t ▹ ts) us = t ▹ join_trees ts us

module _ (parts : ℕ → ℕ) where
  -- a tree in which each symbol has its parts
  abbrev mutual
    pub Shaped : Tree → Type 0
    Shaped (var x) = x < 8
    Shaped (node s ts) = (is_var s ≡ false) × (len ts ≡ parts s) × Shapeds ts

    pub Shapeds : Trees → Type 0
    Shapeds [·] = Unit {0}
    Shapeds (t ▹ ts) = Shaped t × Shapeds ts

-- A rule as it is stored: left count, right count, left words, right words.
abbrev pub stored_rule : Rule → List ℕ
stored_rule r = size r.lhs ∷ size r.rhs ∷ (words r.lhs ++ words r.rhs)

abbrev pub stored_rules : List Rule → List ℕ
stored_rules [] = []
stored_rules (r ∷ rs) = stored_rule r ++ stored_rules rs

abbrev pub words_of : Option Tree → Option (List ℕ)
words_of none = none
words_of (some t) = some (words t)
