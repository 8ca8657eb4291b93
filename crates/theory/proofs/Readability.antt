-- Every list of words is the words of its trees, and the words of a tree are read as that tree: unique readability.
use Prim.Native.Nat.{ℕ, zero, suc, ◌+◌, ◌-◌, ◌<◌, ◌≤◌}
use mathlib.Core.Path.{◌≡◌, refl, sym, ap, ap₂, ◌∙◌}
use mathlib.Core.Bool.{Bool, true, false, false≢true}
use mathlib.Core.List.{List, [], ◌∷◌, ◌++◌, append_assoc, append-nil}
use native.Mathlib.Omega.{arith}
use lib.Dec.{leb}
use lib.ListN.{length, length-append}
use Rattle.theory.specs.Syntax.{pick}
use Rattle.theory.specs.Builtins.{fun_of}
use Rattle.theory.specs.Tree.{Tree, Trees, var, node, [·], ◌▹◌, Rule, size, sizes, len}
use Rattle.theory.specs.Words.{words, all_words, is_var, join_trees, Shaped, Shapeds, stored_rule, stored_rules}
use Rattle.theory.specs.Translation.{standing}
use Rattle.theory.proofs.Tests.{leb-true, le-of-leb}

abbrev first_trees : ℕ → Trees → Trees
first_trees zero ts = [·]
first_trees (suc n) [·] = [·]
first_trees (suc n) (t ▹ ts) = t ▹ first_trees n ts

abbrev later_trees : ℕ → Trees → Trees
later_trees zero ts = ts
later_trees (suc n) [·] = [·]
later_trees (suc n) (t ▹ ts) = later_trees n ts

-- The trees that a list of words is, one after the other, where `parts` says how many parts a symbol has.
module _ (parts : ℕ → ℕ) where
  abbrev push : ℕ → Trees → Trees
  push w ts = pick (is_var w) (var (w - 64) ▹ ts) (node w (first_trees (parts w) ts) ▹ later_trees (parts w) ts)

  abbrev pub forest : List ℕ → Trees
  forest [] = [·]
  forest (w ∷ ws) = push w (forest ws)

firsts-others : (n : ℕ) (ts : Trees) → all_words (first_trees n ts) ++ all_words (later_trees n ts) ≡ all_words ts
firsts-others zero ts = refl
firsts-others (suc n) [·] = refl
firsts-others (suc n) (t ▹ ts) = append_assoc (words t) (all_words (first_trees n ts)) (all_words (later_trees n ts)) ∙ ap (words t ++◌) (firsts-others n ts)

firsts-joined : (ts us : Trees) → first_trees (len ts) (join_trees ts us) ≡ ts
firsts-joined [·] us = refl
firsts-joined (t ▹ ts) us = ap (t ▹◌) (firsts-joined ts us)

others-joined : (ts us : Trees) → later_trees (len ts) (join_trees ts us) ≡ us
others-joined [·] us = refl
others-joined (t ▹ ts) us = others-joined ts us

pub is_var-word : (x : ℕ) → x < 8 → is_var (64 + x) ≡ true
is_var-word x h = ap₂ (λ (a b : Bool). pick a b false) (leb-true 64 (64 + x) (omega arith)) (leb-true (64 + x) 71 (omega arith))

pub is_var-le : (w : ℕ) → is_var w ≡ true → 64 ≤ w
is_var-le w e = go (leb 64 w) refl e
  where
    go : (b : Bool) → leb 64 w ≡ b → pick b (leb w 71) false ≡ true → 64 ≤ w
    go true q k = le-of-leb 64 w q
    go false q k = absurd (false≢true k)

module _ (parts : ℕ → ℕ) where
  -- every list of words is the words of its trees
  pub words-forest : (ws : List ℕ) → all_words (forest parts ws) ≡ ws
  words-forest [] = refl
  words-forest (w ∷ ws) = go (is_var w) refl (words-forest ws)
    where
      go : (b : Bool) → is_var w ≡ b → all_words (forest parts ws) ≡ ws
          → all_words (pick b (var (w - 64) ▹ forest parts ws) (node w (first_trees (parts w) (forest parts ws)) ▹ later_trees (parts w) (forest parts ws))) ≡ w ∷ ws
      go true e ih = let l = is_var-le w e in ap₂ ◌∷◌ (omega arith) ih
      go false e ih = ap (w ∷◌) (firsts-others (parts w) (forest parts ws) ∙ ih)

  -- and the words of a tree are read as that tree
  mutual
    pub forest-words : (t : Tree) (ws : List ℕ) → Shaped parts t → forest parts (words t ++ ws) ≡ t ▹ forest parts ws
    forest-words (var x) ws h =
        ap (λ (b : Bool). pick b (var (64 + x - 64) ▹ forest parts ws) (node (64 + x) (first_trees (parts (64 + x)) (forest parts ws)) ▹ later_trees (parts (64 + x)) (forest parts ws))) (is_var-word x h)
        ∙ ap (λ (y : ℕ). var y ▹ forest parts ws) (omega arith)
    forest-words (node s ts) ws h =
        ap (λ (b : Bool). pick b (var (s - 64) ▹ forest parts (all_words ts ++ ws)) (node s (first_trees (parts s) (forest parts (all_words ts ++ ws))) ▹ later_trees (parts s) (forest parts (all_words ts ++ ws)))) h.0
        ∙ ap (λ (us : Trees). node s (first_trees (parts s) us) ▹ later_trees (parts s) us) (forest-wordss ts ws h.2)
        ∙ ap (λ (n : ℕ). node s (first_trees n (join_trees ts (forest parts ws))) ▹ later_trees n (join_trees ts (forest parts ws))) (sym h.1)
        ∙ ap₂ (λ (us vs : Trees). node s us ▹ vs) (firsts-joined ts (forest parts ws)) (others-joined ts (forest parts ws))

    pub forest-wordss : (ts : Trees) (ws : List ℕ) → Shapeds parts ts → forest parts (all_words ts ++ ws) ≡ join_trees ts (forest parts ws)
    forest-wordss [·] ws h = refl
    forest-wordss (t ▹ ts) ws h =
        ap (forest parts) (append_assoc (words t) (all_words ts) ws) ∙ forest-words t (all_words ts ++ ws) h.0 ∙ ap (t ▹◌) (forest-wordss ts ws h.1)

  abbrev first_of : Tree → Trees → Tree
  first_of d [·] = d
  first_of d (t ▹ ts) = t

  -- two trees with the same words are the same
  pub words-inj : (t u : Tree) → Shaped parts t → Shaped parts u → words t ≡ words u → t ≡ u
  words-inj t u ht hu e = ap (first_of t) (sym (at-end t ht) ∙ ap (forest parts) e ∙ at-end u hu)
    where
      at-end : (t : Tree) → Shaped parts t → forest parts (words t) ≡ t ▹ [·]
      at-end t h = ap (forest parts) (sym (append-nil (words t))) ∙ forest-words t [] h

-- as many words as the tree is large
mutual
  pub length-words : (t : Tree) → length (words t) ≡ size t
  length-words (var x) = refl
  length-words (node s ts) = ap suc (length-wordss ts)

  pub length-wordss : (ts : Trees) → length (all_words ts) ≡ sizes ts
  length-wordss [·] = refl
  length-wordss (t ▹ ts) = length-append (words t) (all_words ts) ∙ ap₂ ◌+◌ (length-words t) (length-wordss ts)

pub standing-count : (length (standing (fun_of [])) ≡ 74) × (length (stored_rules (standing (fun_of []))) ≡ 649)
standing-count = (refl, refl)

-- the stored words of two lists one after the other
pub list-append : (xs ys : List Rule) → stored_rules (xs ++ ys) ≡ stored_rules xs ++ stored_rules ys
list-append [] ys = refl
list-append (r ∷ xs) ys = ap (stored_rule r ++◌) (list-append xs ys) ∙ sym (append_assoc (stored_rule r) (stored_rules xs) (stored_rules ys))
