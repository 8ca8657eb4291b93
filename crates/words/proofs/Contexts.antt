-- The words of a tree whose hole is filled, and what a rewrite at the hole makes of them.
use mathlib.Core.Path.{◌≡◌, refl, sym, ap, ◌∙◌}
use mathlib.Core.List.{List, ◌∷◌, ◌++◌, append_assoc, append-nil}
use Prim.Native.Nat.{ℕ, suc, ◌+◌}
use lib.ListN.{length, take, drop}
use lib.Seq.{take-append_seam, drop-append_seam, drop-append-add}
use Rattle.theory.specs.Tree.{Tree, Trees, [·], ◌▹◌, size, len}
use Rattle.theory.specs.Words.{words, all_words, join_trees, Shaped, Shapeds}
use Rattle.theory.proofs.Readability.{length-words}
use Rattle.words.specs.Stands.{Stands}
use Rattle.words.specs.Contexts.{Context, hole, around, plug, head, tail}

words-joined : (ts us : Trees) → all_words (join_trees ts us) ≡ all_words ts ++ all_words us
words-joined [·] us = refl
words-joined (t ▹ ts) us = ap (words t ++◌) (words-joined ts us) ∙ sym (append_assoc (words t) (all_words ts) (all_words us))

-- the words of a plugged context are those before, the tree's, and those after
pub words-plug : (c : Context) (t : Tree) → words (plug c t) ≡ head c ++ (words t ++ tail c)
unfolding plug head tail
words-plug hole t = sym (append-nil (words t))
words-plug (around s bs c cs) t =
    ap (s ∷◌) (words-joined bs (plug c t ▹ cs) ∙ ap (λ (l : List ℕ). all_words bs ++ (l ++ all_words cs)) (words-plug c t) ∙ simp append_assoc)

-- the tree in the hole stands past the words before it
pub plug-stands : (c : Context) (t : Tree) → Stands (words (plug c t)) (length (head c)) t
plug-stands c t = record { rest = tail c; front = ap (drop (length (head c))) (words-plug c t) ∙ drop-append_seam (head c) (words t ++ tail c) }

-- A REWRITE IN PLACE: the words of the tree with u in the hole are those before the hole, those of u, and those after it, from the words of the tree with t there
pub replaced : (c : Context) (t u : Tree) (ws : List ℕ) → ws ≡ words (plug c t) → words (plug c u) ≡ take (length (head c)) ws ++ (words u ++ drop (length (head c) + size t) ws)
replaced c t u ws e =
    let w = e ∙ words-plug c t in
    let a = ap (take (length (head c))) w ∙ take-append_seam (head c) (words t ++ tail c) in
    let b = ap (drop (length (head c) + length (words t))) w ∙ drop-append-add (head c) (words t ++ tail c) (length (words t)) ∙ drop-append_seam (words t) (tail c) in
    rw (← (length-words t), a, b) (words-plug c u)

-- another tree in a list: as many, and each symbol still has its parts
len-joined : (ts : Trees) (t u : Tree) (us : Trees) → len (join_trees ts (t ▹ us)) ≡ len (join_trees ts (u ▹ us))
len-joined [·] t u us = refl
len-joined (x ▹ ts) t u us = ap suc (len-joined ts t u us)

module _ (parts : ℕ → ℕ) where
  shaped-joined : (ts : Trees) (t u : Tree) (us : Trees) → (Shaped parts t → Shaped parts u) → Shapeds parts (join_trees ts (t ▹ us)) → Shapeds parts (join_trees ts (u ▹ us))
  shaped-joined [·] t u us f h = (f h.0, h.1)
  shaped-joined (x ▹ ts) t u us f h = (h.0, shaped-joined ts t u us f h.1)

  -- each symbol still has its parts when another such tree is put into the hole
  pub shaped-plug : (c : Context) (t u : Tree) → Shaped parts u → Shaped parts (plug c t) → Shaped parts (plug c u)
  unfolding plug
  shaped-plug hole t u k h = k
  shaped-plug (around s bs c cs) t u k h =
      (h.0, len-joined bs (plug c u) (plug c t) cs ∙ h.1, shaped-joined bs (plug c t) (plug c u) cs (shaped-plug c t u k) h.2)

  shaped-part : (ts : Trees) (t : Tree) (us : Trees) → Shapeds parts (join_trees ts (t ▹ us)) → Shaped parts t
  shaped-part [·] t us h = h.0
  shaped-part (x ▹ ts) t us h = shaped-part ts t us h.1

  -- and so has the tree in the hole
  pub shaped-hole : (c : Context) (t : Tree) → Shaped parts (plug c t) → Shaped parts t
  unfolding plug
  shaped-hole hole t h = h
  shaped-hole (around s bs c cs) t h = shaped-hole c t (shaped-part bs (plug c t) cs h.2)
