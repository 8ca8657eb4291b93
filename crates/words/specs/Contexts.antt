-- A tree with a hole, and the words before and after the hole.
use Rattle.std.specs.Prelude.{ℕ, List, [], ◌∷◌, ◌++◌}
use Rattle.theory.specs.Tree.{Tree, Trees, node, ◌▹◌}
use Rattle.theory.specs.Words.{all_words, join_trees}

-- the hole itself, or a symbol with parts before, a part with the hole and parts after
pub data Context : Type 0 where
  hole : Context
  around : ℕ → Trees → Context → Trees → Context

-- the tree with t in the hole
unfoldable pub plug : Context → Tree → Tree
plug hole t = t
plug (around s before c after) t = node s (join_trees before (plug c t ▹ after))

-- the words before the hole
unfoldable pub head : Context → List ℕ
head hole = []
head (around s before c after) = s ∷ (all_words before ++ head c)

-- the words after the hole
unfoldable pub tail : Context → List ℕ
tail hole = []
tail (around s before c after) = tail c ++ all_words after
