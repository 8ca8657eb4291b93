-- Where a left side that fits leads, read off the ends of its variables' parts, is the end of the tree that stands there.
use mathlib.Core.Path.{◌≡◌, refl, sym, ap, ◌∙◌}
use mathlib.Core.Logic.{◌⊎◌, inl, inr}
use mathlib.Core.Bool.{Bool, true, false, false≢true}
use mathlib.Core.List.{List, [], ◌∷◌, ◌++◌, append_assoc, append-nil}
use Prim.Native.Nat.{ℕ, suc, ◌+◌, ◌-◌, ◌<◌}
use native.Mathlib.Omega.{arith}
use lib.Dec.{eqb, ltb}
use lib.ListN.{length, get_or, drop, set, replicate, length-set}
use lib.Seq.{get_or-set_same}
use borrow.Author.Tests.{ltb-true}
use Rattle.std.specs.Prelude.{Option, Some, None}
use Rattle.theory.specs.Syntax.{pick}
use Rattle.theory.specs.Tree.{Tree, Trees, var, node, [·], ◌▹◌, size, len}
use Rattle.theory.specs.Words.{words, all_words, is_var, Shaped, Shapeds}
use Rattle.theory.proofs.Tests.{eq-of-eqb}
use Rattle.theory.proofs.Readability.{is_var-word}
use Rattle.words.specs.Terms.{arity_of, past, skip_at}
use Rattle.words.proofs.Skips.{past-none, past-step, skip-then}
use Rattle.words.proofs.Trees.{skip-tree}
use Rattle.rules.specs.Matching.{takes, reached, fits, noted, binds, no_words, taken_by}
use Rattle.rules.specs.declared.index.Span.{Span}
use Rattle.rules.proofs.Takes.{is_var-slot, takes-var}
use Rattle.step.specs.Next.{past_by, end_by}
use Rattle.step.proofs.Ruled.{past-var, past-plain}

abbrev any_var : List ℕ → Bool
any_var [] = false
any_var (p ∷ ps) = pick (is_var p) true (any_var ps)

-- ---- the slot of a variable that is noted
noted-plain : (E : List Span) (p : ℕ) (x : Span) → is_var p ≡ false → noted E p x ≡ E
unfolding noted
noted-plain E p x v = ap (λ (b : Bool). pick b (set E (p - 64) x) E) v

noted-var : (E : List Span) (p : ℕ) (x : Span) → is_var p ≡ true → noted E p x ≡ set E (p - 64) x
unfolding noted
noted-var E p x v = ap (λ (b : Bool). pick b (set E (p - 64) x) E) v

noted-length : (E : List Span) (p : ℕ) (x : Span) → length E ≡ 8 → length (noted E p x) ≡ 8
noted-length E p x l = go (is_var p) refl
  where
    go : (v : Bool) → is_var p ≡ v → length (noted E p x) ≡ 8
    go true v = ap length (noted-var E p x v) ∙ simp length-set l
    go false v = ap length (noted-plain E p x v) ∙ l

noted-there : (E : List Span) (p : ℕ) (x : Span) → length E ≡ 8 → is_var p ≡ true → taken_by (noted E p x) (p - 64) ≡ x
noted-there E p x l v =
    let s = (is_var-slot p v).1 in
    let i : p - 64 < length E = omega (arith, s, l) in
    ap (λ (e : List Span). taken_by e (p - 64)) (noted-var E p x v) ∙ get_or-set_same E (p - 64) x no_words i

module _ (ks ss : List ℕ) where
  -- the place past what the words of a left side take
  abbrev walk : List ℕ → ℕ → ℕ
  walk [] j = j
  walk (p ∷ ps) j = reached (takes ks ss p j) (walk ps) j

  record Plain (s j e : ℕ) : Type 0 where
    next : e ≡ j + 1
    within : j < length ss
    same : s ≡ get_or ss j 0

  plain : (s j e : ℕ) → is_var s ≡ false → takes ks ss s j ≡ Some e → Plain s j e
  unfolding takes
  plain s j e v q = go (is_var s) v (ltb j (length ss)) refl (eqb s (get_or ss j 0)) refl q
    where
      go : (a : Bool) → a ≡ false → (b : Bool) → ltb j (length ss) ≡ b → (c : Bool) → eqb s (get_or ss j 0) ≡ c → pick a (skip_at ks ss j) (pick b (pick c (Some (j + 1)) None) None) ≡ Some e → Plain s j e
      go true a b t c u k = absurd (false≢true (sym a))
      go false a true t true u k = let m : j + 1 ≡ e = cc in record { next = sym m; within = ltb-true j (length ss) t; same = eq-of-eqb s (get_or ss j 0) u }
      go false a true t false u k = cc
      go false a false t c u k = cc

  -- the slots after the word p, which takes the words from j up to e
  abbrev taken : List Span → ℕ → ℕ → ℕ → List Span
  taken B p j e = noted B p (record { from = j; to = e })

  -- words with no variable leave the slots as they are
  slots-kept : (ps : List ℕ) (j : ℕ) (B : List Span) → any_var ps ≡ false → binds ks ss ps j B ≡ B
  unfolding binds
  slots-kept [] j B e = refl
  slots-kept (p ∷ ps) j B e = go (is_var p) refl e (takes ks ss p j) (λ x B' k. slots-kept ps x B' k)
    where
      go : (v : Bool) → is_var p ≡ v → pick v true (any_var ps) ≡ false → (r : Option ℕ) → ((x : ℕ) (B : List Span) → any_var ps ≡ false → binds ks ss ps x B ≡ B)
          → reached r (λ e. binds ks ss ps e (taken B p j e)) B ≡ B
      go true v k r ih = absurd (false≢true (sym k))
      go false v k None ih = refl
      go false v k (Some x) ih = ih x (taken B p j x) k ∙ noted-plain B p (record { from = j; to = x }) v

  end_is : (ps : List ℕ) (j i : ℕ) (B : List Span) → length B ≡ 8 → fits ks ss ps j ≡ true → (i ≡ j) ⊎ (any_var ps ≡ true) → end_by (binds ks ss ps j B) ps i ≡ walk ps j
  unfolding binds fits end_by
  end_is [] j i B l f h = elim h [ inl e ↦ e | inr e ↦ absurd (false≢true e) ]
  end_is (p ∷ ps) j i B l f h = go (takes ks ss p j) refl f (is_var p) refl h (λ x y B' a b c. end_is ps x y B' a b c)
    where
      go : (r : Option ℕ) → takes ks ss p j ≡ r → reached r (fits ks ss ps) false ≡ true → (v : Bool) → is_var p ≡ v → (i ≡ j) ⊎ (pick v true (any_var ps) ≡ true)
          → ((x y : ℕ) (B : List Span) → length B ≡ 8 → fits ks ss ps x ≡ true → (y ≡ x) ⊎ (any_var ps ≡ true) → end_by (binds ks ss ps x B) ps y ≡ walk ps x)
          → let b = reached r (λ e. binds ks ss ps e (taken B p j e)) B in
          end_by b ps (past_by b p i) ≡ reached r (walk ps) j
      go None q f v e h ih = absurd (false≢true f)
      go (Some x) q f true v h ih = any (any_var ps) refl
        where
          b : List Span
          b = binds ks ss ps x (taken B p j x)

          any : (a : Bool) → any_var ps ≡ a → end_by b ps (past_by b p i) ≡ walk ps x
          any true k = ih x (past_by b p i) (taken B p j x) (noted-length B p (record { from = j; to = x }) l) f (inr k)
          any false k =
              ih x (past_by b p i) (taken B p j x) (noted-length B p (record { from = j; to = x }) l) f
              (inl (sym (past-var b p i v) ∙ ap (λ (s : List Span). (taken_by s (p - 64)).to) (slots-kept ps x (taken B p j x) k) ∙ ap (λ (s : Span). s.to) (noted-there B p (record { from = j; to = x }) l v)))
      go (Some x) q f false v h ih =
          let b = binds ks ss ps x (taken B p j x) in
          ih x (past_by b p i) (taken B p j x) (noted-length B p (record { from = j; to = x }) l) f
          (elim h [ inl e ↦ inl (sym (past-plain b p i v) ∙ ap (λ (n : ℕ). n + 1) e ∙ sym (plain p j x v q).next) | inr e ↦ inr e ])

  -- ---- a shaped left side that fits ends where the tree ends
  record Past (qs ps : List ℕ) (j n : ℕ) : Type 0 where
    to : ℕ
    passes : (m : ℕ) → past (arity_of ks) (drop j ss) (n + m) j ≡ past (arity_of ks) (drop to ss) m to
    fit : fits ks ss qs j ≡ fits ks ss ps to
    walks : walk qs j ≡ walk ps to

  record Word (p : ℕ) (ps : List ℕ) (j : ℕ) : Type 0 where
    to : ℕ
    takes-it : takes ks ss p j ≡ Some to
    fit : fits ks ss (p ∷ ps) j ≡ fits ks ss ps to
    walks : walk (p ∷ ps) j ≡ walk ps to

  word : (p : ℕ) (ps : List ℕ) (j : ℕ) → fits ks ss (p ∷ ps) j ≡ true → Word p ps j
  unfolding fits
  word p ps j f = go (takes ks ss p j) refl f
    where
      go : (r : Option ℕ) → takes ks ss p j ≡ r → reached r (fits ks ss ps) false ≡ true → Word p ps j
      go None q g = absurd (false≢true g)
      go (Some e) q g = record { to = e; takes-it = q; fit = ap (λ (r : Option ℕ). reached r (fits ks ss ps) false) q; walks = ap (λ (r : Option ℕ). reached r (walk ps) j) q }

  mutual
    tree-past : (l : Tree) (ps : List ℕ) (j : ℕ) → Shaped (arity_of ks) l → fits ks ss (words l ++ ps) j ≡ true → Past (words l ++ ps) ps j 1
    tree-past (var x) ps j h f =
        let w = word (64 + x) ps j f in
        record {
          to = w.to;
          passes = λ m. let k : 1 + m - 1 ≡ m = omega arith in
              skip-then ks ss j w.to (1 + m) (omega arith) (sym (takes-var ks ss (64 + x) j (is_var-word x h)) ∙ w.takes-it) ∙ ap (λ (n : ℕ). past (arity_of ks) (drop w.to ss) n w.to) k;
          fit = w.fit;
          walks = w.walks;
        }
    tree-past (node s qs) ps j h f =
        let w = word s (all_words qs ++ ps) j f in
        let c = plain s j w.to h.0 w.takes-it in
        let r = trees-past qs ps w.to h.2 (sym w.fit ∙ f) in
        let a : arity_of ks (get_or ss j 0) ≡ len qs = sym (h.1 ∙ ap (arity_of ks) c.same) in
        record {
          to = r.to;
          passes = λ m. let k : 1 + m - 1 + arity_of ks (get_or ss j 0) ≡ len qs + m = omega (arith, a) in
              past-step ks ss j (1 + m) (omega arith) c.within ∙ ap (λ (n : ℕ). past (arity_of ks) (drop (j + 1) ss) n (j + 1)) k
              ∙ ap (λ (i : ℕ). past (arity_of ks) (drop i ss) (len qs + m) i) (sym c.next) ∙ r.passes m;
          fit = w.fit ∙ r.fit;
          walks = w.walks ∙ r.walks;
        }

    trees-past : (ts : Trees) (ps : List ℕ) (j : ℕ) → Shapeds (arity_of ks) ts → fits ks ss (all_words ts ++ ps) j ≡ true → Past (all_words ts ++ ps) ps j (len ts)
    trees-past [·] ps j h f = record { to = j; passes = λ m. let k : 0 + m ≡ m = omega arith in ap (λ (n : ℕ). past (arity_of ks) (drop j ss) n j) k; fit = refl; walks = refl }
    trees-past (t ▹ ts) ps j h f =
        let e = append_assoc (words t) (all_words ts) ps in
        let a = tree-past t (all_words ts ++ ps) j h.0 (sym (ap (λ (l : List ℕ). fits ks ss l j) e) ∙ f) in
        let b = trees-past ts ps a.to h.1 (sym a.fit ∙ sym (ap (λ (l : List ℕ). fits ks ss l j) e) ∙ f) in
        record {
          to = b.to;
          passes = λ m. let k : suc (len ts) + m ≡ 1 + (len ts + m) = omega arith in ap (λ (n : ℕ). past (arity_of ks) (drop j ss) n j) k ∙ a.passes (len ts + m) ∙ b.passes m;
          fit = ap (λ (l : List ℕ). fits ks ss l j) e ∙ a.fit ∙ b.fit;
          walks = ap (λ (l : List ℕ). walk l j) e ∙ a.walks ∙ b.walks;
        }

  -- THE END: the left side's words fit the tree at the front
  pub left-ends : (l t : Tree) (rest : List ℕ) → Shaped (arity_of ks) l → Shaped (arity_of ks) t → ss ≡ words t ++ rest → fits ks ss (words l) 0 ≡ true
      → end_by (binds ks ss (words l) 0 (replicate 8 no_words)) (words l) 0 ≡ size t
  unfolding skip_at
  left-ends l t rest hl ht e f =
      let n = append-nil (words l) in
      let r = tree-past l [] 0 hl (ap (λ (x : List ℕ). fits ks ss x 0) n ∙ f) in
      let s : past (arity_of ks) ss 1 0 ≡ Some (0 + size t) = skip-tree ks ss 0 t rest ht e in
      let k : Some r.to ≡ Some (0 + size t) = sym (r.passes 0 ∙ past-none (arity_of ks) (drop r.to ss) r.to) ∙ s in
      let m : r.to ≡ 0 + size t = cc in
      end_is (words l) 0 0 (replicate 8 no_words) refl f (inl refl) ∙ sym (ap (λ (x : List ℕ). walk x 0) n) ∙ r.walks ∙ omega (arith, m)
