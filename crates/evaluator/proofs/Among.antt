-- Trees that stand among words, one after the other: their roots, their parts, and the places past them.
use mathlib.Core.Path.{◌≡◌, sym, ap, ◌∙◌}
use mathlib.Core.List.{List, ◌∷◌, ◌++◌, append_assoc}
use Prim.Native.Nat.{ℕ, ◌+◌}
use native.Mathlib.Nat.{add-zero}
use native.Mathlib.Omega.{arith}
use lib.ListN.{get_or, drop, length}
use lib.Seq.{get_or-drop, drop-drop, drop-append_seam}
use Rattle.theory.specs.Syntax.{Base, zero_b, true_b, false_b}
use Rattle.theory.specs.Tree.{Tree, Trees, var, node, ◌▹◌, size}
use Rattle.theory.specs.Words.{words, all_words, Shaped}
use Rattle.theory.specs.Translation.{base_t}
use Rattle.theory.proofs.Readability.{length-words}
use Rattle.words.specs.Terms.{arity_of, skip_at}
use Rattle.words.specs.Stands.{Stands}
use Rattle.words.proofs.Skips.{skip-then}
use Rattle.words.proofs.Stands.{stands-skip}
use Rattle.std.specs.Prelude.{Option, unwrap_or}
use Rattle.evaluator.specs.Places.{place_past}
use Rattle.words.specs.Base.{word_of, named}

-- the words of some trees stand in ws from the place a on
pub record StandAll (ws : List ℕ) (a : ℕ) (ts : Trees) : Type 0 where
  pub rest : List ℕ
  pub front : drop a ws ≡ all_words ts ++ rest

module _ (ws : List ℕ) where
  -- the word that a list begins with, and the rest; words, and what follows them
  pub head_at : {x : ℕ} {xs : List ℕ} (a : ℕ) → drop a ws ≡ x ∷ xs → get_or ws a 0 ≡ x
  head_at a e = sym (rw (add-zero a) at (get_or-drop a ws 0 0)) ∙ ap (λ (l : List ℕ). get_or l 0 0) e

  pub tail_at : {x : ℕ} {xs : List ℕ} (a : ℕ) → drop a ws ≡ x ∷ xs → drop (a + 1) ws ≡ xs
  tail_at a e = sym (drop-drop 1 a ws) ∙ ap (λ (l : List ℕ). drop 1 l) e

  pub behind : (xs : List ℕ) {ys : List ℕ} (a c : ℕ) → c ≡ a + length xs → drop a ws ≡ xs ++ ys → drop c ws ≡ ys
  behind xs {ys} a c h e = ap (λ (i : ℕ). drop i ws) h ∙ sym (drop-drop (length xs) a ws) ∙ ap (drop (length xs)) e ∙ drop-append_seam xs ys

  -- a root, and its parts
  pub root_is : (a s : ℕ) (ts : Trees) → Stands ws a (node s ts) → get_or ws a 0 ≡ s
  root_is a s ts h = head_at a h.front

  pub var-is : (a x : ℕ) → Stands ws a (var x) → get_or ws a 0 ≡ 64 + x
  var-is a x h = head_at a h.front

  pub base-is : (a : ℕ) (b : Base) → Stands ws a (base_t b) → get_or ws a 0 ≡ word_of (named b)
  base-is a zero_b h = head_at a h.front
  base-is a true_b h = head_at a h.front
  base-is a false_b h = head_at a h.front

  pub parts : (a s : ℕ) (ts : Trees) → Stands ws a (node s ts) → StandAll ws (a + 1) ts
  parts a s ts h = record { rest = h.rest; front = tail_at a h.front }

  -- the first of some trees, and the others
  pub first : (a : ℕ) (t : Tree) (ts : Trees) → StandAll ws a (t ▹ ts) → Stands ws a t
  first a t ts h = record { rest = all_words ts ++ h.rest; front = h.front ∙ append_assoc (words t) (all_words ts) h.rest }

  pub others : (a : ℕ) (t : Tree) (ts : Trees) → StandAll ws a (t ▹ ts) → StandAll ws (a + size t) ts
  others a t ts h =
      let e : a + size t ≡ a + length (words t) = omega (arith, length-words t) in
      record { rest = h.rest; front = behind (words t) a (a + size t) e (h.front ∙ append_assoc (words t) (all_words ts) h.rest) }

  -- past one tree, and past two
  module _ (ks : List ℕ) (a : ℕ) (t : Tree) (h : Shaped (arity_of ks) t) (s : Stands ws a t) where
    pub past_one : place_past ks ws a 1 ≡ a + size t
    unfolding place_past skip_at
    past_one = ap (λ (o : Option ℕ). unwrap_or o (length ws)) (stands-skip ks ws a t h s)

    pub past_two : (u : Tree) → Shaped (arity_of ks) u → Stands ws (a + size t) u → place_past ks ws a 2 ≡ a + size t + size u
    unfolding place_past skip_at
    past_two u g r = ap (λ (o : Option ℕ). unwrap_or o (length ws)) (skip-then ks ws a (a + size t) 2 (omega arith) (stands-skip ks ws a t h s) ∙ stands-skip ks ws (a + size t) u g r)
