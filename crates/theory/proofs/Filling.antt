-- The words of a right side with its variables replaced are the words of the tree with them replaced.
use Prim.Native.Nat.{ℕ, ◌+◌, ◌-◌, ◌<◌}
use mathlib.Core.Path.{◌≡◌, refl, sym, ap, ap₂, ◌∙◌}
use mathlib.Core.Bool.{Bool, true, false, ◌||◌}
use mathlib.Core.List.{List, [], ◌∷◌, ◌++◌, append_assoc, append-nil}
use native.Mathlib.Omega.{arith}
use Rattle.theory.specs.Syntax.{pick, elem}
use Rattle.theory.specs.Tree.{Tree, Trees, var, node, [·], ◌▹◌, Subst, inst, insts}
use Rattle.theory.specs.Words.{words, all_words, is_var, Shaped, Shapeds}
use Rattle.theory.specs.Proper.{tree_vars, trees_vars}
use Rattle.theory.proofs.Tests.{eqb-true}
use Rattle.theory.proofs.Lists.{elem-left, elem-right}
use Rattle.theory.proofs.Readability.{is_var-word}

-- the words of a right side, each variable replaced by the words that are bound to it
abbrev pub fill : (ℕ → List ℕ) → List ℕ → List ℕ
fill ρ [] = []
fill ρ (w ∷ ws) = pick (is_var w) (ρ (w - 64)) (w ∷ []) ++ fill ρ ws

fill-append : (ρ : ℕ → List ℕ) (xs ys : List ℕ) → fill ρ (xs ++ ys) ≡ fill ρ xs ++ fill ρ ys
fill-append ρ [] ys = refl
fill-append ρ (w ∷ xs) ys =
    ap (pick (is_var w) (ρ (w - 64)) (w ∷ []) ++◌) (fill-append ρ xs ys) ∙ sym (append_assoc (pick (is_var w) (ρ (w - 64)) (w ∷ [])) (fill ρ xs) (fill ρ ys))

-- ρ has the words that σ gives each variable of a list
abbrev Same : (ℕ → List ℕ) → Subst → List ℕ → Type 0
Same ρ σ xs = (x : ℕ) → x < 8 → elem x xs ≡ true → ρ x ≡ words (σ x)

module _ (parts : ℕ → ℕ) (ρ : ℕ → List ℕ) (σ : Subst) where
  mutual
    -- FILLING IN: it is enough that the tree's own variables are bound to the right words
    pub fill-words : (t : Tree) → Shaped parts t → Same ρ σ (tree_vars t) → fill ρ (words t) ≡ words (inst σ t)
    fill-words (var x) h b =
        let m : 64 + x - 64 ≡ x = omega arith in
        ap (λ (v : Bool). pick v (ρ (64 + x - 64)) ((64 + x) ∷ []) ++ []) (is_var-word x h) ∙ append-nil (ρ (64 + x - 64)) ∙ ap ρ m ∙ b x h (ap (◌|| false) (eqb-true x x refl))
    fill-words (node s ts) h b =
        ap (λ (v : Bool). pick v (ρ (s - 64)) (s ∷ []) ++ fill ρ (all_words ts)) h.0 ∙ ap (s ∷◌) (fill-wordss ts h.2 b)

    fill-wordss : (ts : Trees) → Shapeds parts ts → Same ρ σ (trees_vars ts) → fill ρ (all_words ts) ≡ all_words (insts σ ts)
    fill-wordss [·] h b = refl
    fill-wordss (t ▹ ts) h b =
        fill-append ρ (words t) (all_words ts)
        ∙ ap₂ ◌++◌ (fill-words t h.0 (λ x l e. b x l (elem-left x (tree_vars t) (trees_vars ts) e))) (fill-wordss ts h.1 (λ x l e. b x l (elem-right x (tree_vars t) (trees_vars ts) e)))
