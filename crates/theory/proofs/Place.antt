-- Where a step happens among the words: the words before it stay, the new words stand in the middle, the rest follows.
use Prim.Native.Nat.{ℕ, zero, suc, ◌+◌}
use mathlib.Core.Path.{◌≡◌, refl, sym, ap, ap₂, ◌∙◌}
use mathlib.Core.List.{List, [], ◌∷◌, ◌++◌, append_assoc, append-nil}
use mathlib.Core.Option.{Option, none, some}
use lib.ListN.{length, length-append}
use Rattle.theory.specs.Syntax.{or_else}
use Rattle.theory.specs.Tree.{Tree, Trees, var, node, [·], ◌▹◌, active, inside, first, later, step, step_part, size}
use Rattle.theory.specs.Words.{words, all_words}
use Rattle.theory.proofs.Readability.{length-words}

-- the place, counted in words from the root; what stands there; what takes its stead
pub record Site : Type 0 where
  pub place : ℕ
  pub old : Tree
  pub new : Tree

abbrev pub shift : ℕ → Option Site → Option Site
shift n none = none
shift n (some z) = some (record { place = n + z.place; old = z.old; new = z.new })

abbrev pub root_site : Tree → Option Tree → Option Site
root_site t none = none
root_site t (some u) = some (record { place = 0; old = t; new = u })

module _ (root : Tree → Option Tree) where
  abbrev mutual
    pub site : Tree → Option Site
    site (var x) = none
    site (node s ts) = or_else (shift 1 (site_part ts (active s))) (root_site (node s ts) (root (node s ts)))

    pub site_part : Trees → ℕ → Option Site
    site_part [·] i = none
    site_part (t ▹ ts) zero = none
    site_part (t ▹ ts) (suc zero) = site t
    site_part (t ▹ ts) (suc (suc i)) = shift (size t) (site_part ts (suc i))

  -- what a step does to the words
  pub record Written (ws us : List ℕ) (z : Site) : Type 0 where
    pub before : List ℕ
    pub behind : List ℕ
    pub was : ws ≡ before ++ (words z.old ++ behind)
    pub becomes : us ≡ before ++ (words z.new ++ behind)
    pub starts : length before ≡ z.place
    pub fits : root z.old ≡ some z.new

  abbrev pub At : List ℕ → Option Site → Option (List ℕ) → Type 0
  At ws none none = Unit {0}
  At ws none (some us) = ⊥
  At ws (some z) none = ⊥
  At ws (some z) (some us) = Written ws us z

  abbrev pub words_o : Option Tree → Option (List ℕ)
  words_o none = none
  words_o (some t) = some (words t)

  abbrev wordss_o : Option Trees → Option (List ℕ)
  wordss_o none = none
  wordss_o (some ts) = some (all_words ts)

  -- words put in front, and words put behind
  ahead : (vs ws us : List ℕ) (n : ℕ) → length vs ≡ n → (z : Site) → Written ws us z
      → Written (vs ++ ws) (vs ++ us) (record { place = n + z.place; old = z.old; new = z.new })
  ahead vs ws us n e z w =
      record {
        before = vs ++ w.before;
        behind = w.behind;
        was = ap (vs ++◌) w.was ∙ sym (append_assoc vs w.before (words z.old ++ w.behind));
        becomes = ap (vs ++◌) w.becomes ∙ sym (append_assoc vs w.before (words z.new ++ w.behind));
        starts = length-append vs w.before ∙ ap₂ ◌+◌ e w.starts;
        fits = w.fits;
      }

  follow : (vs ws us : List ℕ) (z : Site) → Written ws us z → Written (ws ++ vs) (us ++ vs) z
  follow vs ws us z w =
      record {
        before = w.before;
        behind = w.behind ++ vs;
        was = ap (◌++ vs) w.was ∙ append_assoc w.before (words z.old ++ w.behind) vs ∙ ap (w.before ++◌) (append_assoc (words z.old) w.behind vs);
        becomes = ap (◌++ vs) w.becomes ∙ append_assoc w.before (words z.new ++ w.behind) vs ∙ ap (w.before ++◌) (append_assoc (words z.new) w.behind vs);
        starts = w.starts;
        fits = w.fits;
      }

  at_root : (t : Tree) (o : Option Tree) → root t ≡ o → At (words t) (root_site t o) (words_o o)
  at_root t none e = tt
  at_root t (some u) e =
      record { before = []; behind = []; was = sym (append-nil (words t)); becomes = sym (append-nil (words u)); starts = refl; fits = e }

  at-inside : (s : ℕ) (ts : Trees) (z : Option Site) (o : Option Trees) → At (all_words ts) z (wordss_o o)
      → At (words (node s ts)) (or_else (shift 1 z) (root_site (node s ts) (root (node s ts)))) (words_o (inside s o (root (node s ts))))
  at-inside s ts none none h = at_root (node s ts) (root (node s ts)) refl
  at-inside s ts none (some us) h = absurd h
  at-inside s ts (some z) none h = absurd h
  at-inside s ts (some z) (some us) h = ahead (s ∷ []) (all_words ts) (all_words us) 1 refl z h

  at_first : (t : Tree) (ts : Trees) (z : Option Site) (o : Option Tree) → At (words t) z (words_o o) → At (all_words (t ▹ ts)) z (wordss_o (first ts o))
  at_first t ts none none h = tt
  at_first t ts none (some u) h = absurd h
  at_first t ts (some z) none h = absurd h
  at_first t ts (some z) (some u) h = follow (all_words ts) (words t) (words u) z h

  at-later : (t : Tree) (ts : Trees) (z : Option Site) (o : Option Trees) → At (all_words ts) z (wordss_o o) → At (all_words (t ▹ ts)) (shift (size t) z) (wordss_o (later t o))
  at-later t ts none none h = tt
  at-later t ts none (some us) h = absurd h
  at-later t ts (some z) none h = absurd h
  at-later t ts (some z) (some us) h = ahead (words t) (all_words ts) (all_words us) (size t) (length-words t) z h

  mutual
    unfolding step

    -- THE STEP AMONG THE WORDS
    pub step-written : (t : Tree) → At (words t) (site t) (words_o (step root t))
    step-written (var x) = tt
    step-written (node s ts) = at-inside s ts (site_part ts (active s)) (step_part root ts (active s)) (part-written ts (active s))

    pub part-written : (ts : Trees) (i : ℕ) → At (all_words ts) (site_part ts i) (wordss_o (step_part root ts i))
    part-written [·] i = tt
    part-written (t ▹ ts) zero = tt
    part-written (t ▹ ts) (suc zero) = at_first t ts (site t) (step root t) (step-written t)
    part-written (t ▹ ts) (suc (suc i)) = at-later t ts (site_part ts (suc i)) (step_part root ts (suc i)) (part-written ts (suc i))
