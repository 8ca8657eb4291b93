-- Trees and their words. The words of a tree are skipped exactly, what is skipped is the words of a tree, and words begin with those of
-- one tree at most.
use mathlib.Core.Path.{◌≡◌, refl, sym, ap, ap₂, ◌∙◌}
use mathlib.Core.Bool.{Bool, true, false}
use mathlib.Core.List.{List, [], ◌∷◌, ◌++◌, append_assoc, append-nil}
use Prim.Native.Nat.{ℕ, zero, suc, ◌+◌, ◌-◌, ◌<◌, ◌≤◌}
use native.Mathlib.Nat.{suc-add, zero-add, add-zero}
use native.Mathlib.Omega.{arith}
use borrow.Author.Tests.{lt-ltb}
use lib.Dec.{leb}
use lib.ListN.{length, take, drop, get_or-eq_default}
use lib.Seq.{take-append_seam}
use Rattle.std.specs.Prelude.{Some}
use Rattle.theory.specs.Syntax.{pick}
use Rattle.theory.specs.Tree.{Tree, Trees, var, node, [·], ◌▹◌, size, sizes, len}
use Rattle.theory.specs.Words.{words, all_words, is_var, Shaped, Shapeds}
use Rattle.theory.proofs.Tests.{le-of-leb}
use Rattle.theory.proofs.Readability.{forest, is_var-le, words-forest, forest-words, length-words}
use Rattle.words.specs.Terms.{arity_of, fixed, past, skip_at}
use Rattle.words.specs.Stands.{Stands, TreeFrom}
use Rattle.words.proofs.Skips.{past-none}

-- a variable has no parts
pub var-parts : (ks : List ℕ) (x : ℕ) → x < 8 → arity_of ks (64 + x) ≡ 0
unfolding arity_of
var-parts ks x h = simp (lt-ltb (64 + x) 256 (omega arith)) (get_or-eq_default fixed 0 {n = 64 + x} (omega arith))

module _ (ks : List ℕ) where
  -- the words of a tree, and those of a list of trees, are passed to their end
  mutual
    unfolding past

    pub past_words : (t : Tree) (rest : List ℕ) (n p : ℕ) → Shaped (arity_of ks) t → past (arity_of ks) (words t ++ rest) (suc n) p ≡ past (arity_of ks) rest n (p + size t)
    past_words (var x) rest n p h =
        ap (λ (k : ℕ). past (arity_of ks) rest k (p + 1)) (ap (λ (k : ℕ). k + n) (var-parts ks x h) ∙ zero-add n)
    past_words (node s ts) rest n p h =
        let z : p + 1 + sizes ts ≡ p + suc (sizes ts) = omega arith in
        ap (λ (k : ℕ). past (arity_of ks) (all_words ts ++ rest) (k + n) (p + 1)) (sym h.1) ∙ past-wordss ts rest n (p + 1) h.2 ∙ ap (past (arity_of ks) rest n) z

    pub past-wordss : (ts : Trees) (rest : List ℕ) (n p : ℕ) → Shapeds (arity_of ks) ts → past (arity_of ks) (all_words ts ++ rest) (len ts + n) p ≡ past (arity_of ks) rest n (p + sizes ts)
    past-wordss [·] rest n p h = ap₂ (λ (a b : ℕ). past (arity_of ks) rest a b) (zero-add n) (sym (add-zero p))
    past-wordss (t ▹ ts) rest n p h =
        let z : p + size t + sizes ts ≡ p + (size t + sizes ts) = omega arith in
        ap₂ (λ (l : List ℕ) (k : ℕ). past (arity_of ks) l k p) (append_assoc (words t) (all_words ts) rest) (suc-add (len ts) n)
        ∙ past_words t (all_words ts ++ rest) (len ts + n) p h.0 ∙ past-wordss ts rest n (p + size t) h.1 ∙ ap (past (arity_of ks) rest n) z

  -- SKIP IS COMPLETE: where the words of a tree stand, skipping gives their end
  pub skip-tree : (ws : List ℕ) (p : ℕ) (t : Tree) (rest : List ℕ) → Shaped (arity_of ks) t → drop p ws ≡ words t ++ rest → skip_at ks ws p ≡ Some (p + size t)
  unfolding skip_at
  skip-tree ws p t rest h e = ap (λ (l : List ℕ). past (arity_of ks) l 1 p) e ∙ past_words t rest 0 p h ∙ past-none _ _ _

-- a word that is a variable's
var-of : (w : ℕ) → is_var w ≡ true → (64 ≤ w) × (w ≤ 71)
var-of w e = (is_var-le w e, go (leb 64 w) refl e)
  where
    go : (b : Bool) → leb 64 w ≡ b → pick b (leb w 71) false ≡ true → w ≤ 71
    go true q k = le-of-leb w 71 k
    go false q k = absurd (let z : ◌≡◌ {A = ℕ} 0 1 = cc in omega arith)

-- a list of m + n trees cut after m
record Cut (ar : ℕ → ℕ) (us : Trees) (m n : ℕ) : Type 0 where
  front : Trees
  back : Trees
  fronts : len front ≡ m
  backs : len back ≡ n
  flat : all_words us ≡ all_words front ++ all_words back
  large : sizes us ≡ sizes front + sizes back
  shaped-front : Shapeds ar front
  shaped-back : Shapeds ar back

cut : (us : Trees) (ar : ℕ → ℕ) (m n : ℕ) → len us ≡ m + n → Shapeds ar us → Cut ar us m n
cut us ar zero n e h = record { front = [·]; back = us; fronts = refl; backs = e ∙ zero-add n; flat = refl; large = omega arith; shaped-front = tt; shaped-back = h }
cut [·] ar (suc m) n e h = absurd (omega arith)
cut (t ▹ us) ar (suc m) n e h =
    let c : Cut ar us m n = cut us ar m n (omega arith) h.1 in
    record {
      front = t ▹ c.front;
      back = c.back;
      fronts = ap suc c.fronts;
      backs = c.backs;
      flat = ap (words t ++◌) c.flat ∙ sym (append_assoc (words t) (all_words c.front) (all_words c.back));
      large = omega (arith, c.large);
      shaped-front = (h.0, c.shaped-front);
      shaped-back = c.shaped-back;
    }

-- what `past` read: n trees in which each symbol has its parts, and the words after them
record Read (ks l : List ℕ) (n p q : ℕ) : Type 0 where
  trees : Trees
  rest : List ℕ
  number : len trees ≡ n
  shaped : Shapeds (arity_of ks) trees
  flat : l ≡ all_words trees ++ rest
  end : q ≡ p + sizes trees

module _ (ks : List ℕ) where
  -- a word before what was read: a variable, or a symbol that takes its parts
  read_more : (w : ℕ) (ws : List ℕ) (n p q : ℕ) (b : Bool) → is_var w ≡ b → Read ks ws (arity_of ks w + n) (p + 1) q → Read ks (w ∷ ws) (suc n) p q
  read_more w ws n p q true e r =
      let v = var-of w e in
      let i : 64 + (w - 64) ≡ w = omega (arith, v) in
      let none : arity_of ks w ≡ 0 = ap (arity_of ks) (sym i) ∙ var-parts ks (w - 64) (omega (arith, v)) in
      record {
        trees = var (w - 64) ▹ r.trees;
        rest = r.rest;
        number = omega (arith, none, r.number);
        shaped = (omega (arith, v), r.shaped);
        flat = ap₂ ◌∷◌ (sym i) r.flat;
        end = omega (arith, r.end);
      }
  read_more w ws n p q false e r =
      let c : Cut (arity_of ks) r.trees (arity_of ks w) n = cut r.trees (arity_of ks) (arity_of ks w) n r.number r.shaped in
      record {
        trees = node w c.front ▹ c.back;
        rest = r.rest;
        number = ap suc c.backs;
        shaped = ((e, c.fronts, c.shaped-front), c.shaped-back);
        flat = ap (w ∷◌) (r.flat ∙ ap (◌++ r.rest) c.flat);
        end = omega (arith, r.end, c.large);
      }

  past-read : (l : List ℕ) (n p q : ℕ) → past (arity_of ks) l n p ≡ Some q → Read ks l n p q
  unfolding past
  past-read [] zero p q e = let h : p ≡ q = cc in record { trees = [·]; rest = []; number = refl; shaped = tt; flat = refl; end = omega arith }
  past-read [] (suc n) p q e = cc
  past-read (w ∷ ws) zero p q e = let h : p ≡ q = cc in record { trees = [·]; rest = w ∷ ws; number = refl; shaped = tt; flat = refl; end = omega arith }
  past-read (w ∷ ws) (suc n) p q e = read_more w ws n p q (is_var w) refl (past-read ws (arity_of ks w + n) (p + 1) q e)

  one : (ws : List ℕ) (p q : ℕ) (ts : Trees) (rest : List ℕ) → len ts ≡ 1 → Shapeds (arity_of ks) ts → drop p ws ≡ all_words ts ++ rest → q ≡ p + sizes ts → TreeFrom ks ws p q
  one ws p q [·] rest n h e z = absurd (omega arith)
  one ws p q (t ▹ [·]) rest n h e z =
      let f : drop p ws ≡ words t ++ rest = e ∙ ap (◌++ rest) (append-nil (words t)) in
      let m : q - p ≡ length (words t) = omega (arith, length-words t) in
      record {
        tree = t;
        shaped = h.0;
        stands = record { rest = rest; front = f };
        end = omega arith;
        holds = ap₂ (λ (k : ℕ) (l : List ℕ). take k l) m f ∙ take-append_seam (words t) rest;
      }
  one ws p q (t ▹ u ▹ ts) rest n h e z = absurd (omega arith)

  -- SKIP IS SOUND: where skipping gives an end, the words up to there are those of a tree in which each symbol has its parts
  pub skip-is-tree : (ws : List ℕ) (p q : ℕ) → skip_at ks ws p ≡ Some q → TreeFrom ks ws p q
  unfolding skip_at
  skip-is-tree ws p q e =
      let r : Read ks (drop p ws) 1 p q = past-read (drop p ws) 1 p q e in
      one ws p q r.trees r.rest r.number r.shaped r.flat r.end

abbrev first_or : Tree → Trees → Tree
first_or d [·] = d
first_or d (t ▹ ts) = t

abbrev others : Trees → Trees
others [·] = [·]
others (t ▹ ts) = ts

-- READ IN ONE WAY: words begin with those of one tree at most
pub read-once : (parts : ℕ → ℕ) (t u : Tree) (r s : List ℕ) → Shaped parts t → Shaped parts u → words t ++ r ≡ words u ++ s → (t ≡ u) × (r ≡ s)
read-once parts t u r s ht hu e =
    let f : t ▹ forest parts r ≡ u ▹ forest parts s = sym (forest-words parts t r ht) ∙ ap (forest parts) e ∙ forest-words parts u s hu in
    (ap (first_or t) f, sym (words-forest parts r) ∙ ap (λ (ts : Trees). all_words (others ts)) f ∙ words-forest parts s)

-- of two trees that stand at one place
pub stands-once : (parts : ℕ → ℕ) (ws : List ℕ) (p : ℕ) (t u : Tree) → Shaped parts t → Shaped parts u → Stands ws p t → Stands ws p u → t ≡ u
stands-once parts ws p t u ht hu a b = (read-once parts t u a.rest b.rest ht hu (sym a.front ∙ b.front)).0
