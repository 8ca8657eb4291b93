-- The answer of a run on words is the theory's.
use mathlib.Core.Path.{◌≡◌, refl, sym, ap, ap₂, subst, ◌∙◌}
use mathlib.Core.Logic.{◌≢◌}
use mathlib.Core.Bool.{Bool, true, false, ◌&&◌}
use mathlib.Core.Option.{Option, none, some}
use mathlib.Core.List.{List, [], ◌∷◌, ◌++◌, append_assoc, append-nil}
use Prim.Native.Nat.{ℕ, zero, suc, ◌+◌, ◌-◌}
use native.Mathlib.Nat.{add-zero, zero-add}
use native.Mathlib.Numerals.{add-one}
use native.Mathlib.Omega.{arith}
use lib.Dec.{eqb, leb}
use lib.ListN.{get_or}
use Rattle.theory.specs.Syntax.{pick, choose, base, height, zero_b, true_b, false_b}
use Rattle.theory.specs.Endings.{Ending, value, raised, stuck, too_deep, Said, is, out_of_steps, too_big, Answer, says}
use Rattle.theory.specs.Tree.{Tree, Trees, var, node, [·], ◌▹◌, Rule, first_fit, step, size, len}
use Rattle.theory.specs.Words.{words, all_words, Shaped, Shapeds}
use Rattle.theory.specs.Turns.{under_succ, read_off_fire, ending_at_root, read_off, read_off_part, turn, one_more, run_in_room, last_at_turn, last_term}
use Rattle.theory.proofs.Tests.{eqb-true, eqb-false, leb-true, leb-false, eq-of-eqb, ne-of-eqb}
use Rattle.theory.specs.Proper.{ProperRules}
use Rattle.theory.proofs.Readability.{length-words}
use Rattle.theory.proofs.Shape.{ShapedRules, ShapedO}
use Rattle.words.specs.Terms.{arity_of}
use Rattle.step.specs.Next.{next_w}
use Rattle.turns.specs.Run.{Last, run, run_from}
use Rattle.turns.specs.declared.run.Ending.TheVariants.{Big as big-ending}
use Rattle.rewriter.specs.Read.{fire_w, fired_w, root_w, read_w, said_w, answer_w}
use Rattle.rewriter.specs.Meaning.{const_of, end_of, said_of, answer_of}
use Rattle.rewriter.specs.declared.ending.Said.{Said as CodeSaid}
use Rattle.rewriter.specs.declared.ending.Said.TheVariants.{Value, Raised, Stuck}
use Rattle.rewriter.proofs.Endings.{root-1, root-3, root-4, root-6, root-other}
use Rattle.std.specs.Prelude.{is_some}
use Rattle.rules.specs.Finding.{fitting_of, rule_of}
use Rattle.rules.specs.declared.index.Span.{Span}
use Rattle.rules.proofs.Found.{Picked}
use Rattle.turns.proofs.TreeRun.{ending_of, last_of, keeps, run_is}

-- an ending under k succ signs
abbrev fired_as : ℕ → ℕ → CodeSaid
fired_as zero e = Raised e
fired_as (suc k) e = Stuck (suc k)

abbrev end_from : ℕ → Ending → CodeSaid
end_from k (value v) = Value (k + height v) (const_of v)
end_from k (raised e) = fired_as k e
end_from k (stuck s) = Stuck (k + s)
end_from k too_deep = Stuck 0

end-up : (k : ℕ) (x : Ending) → end_from (k + 1) x ≡ end_from k (under_succ x)
end-up k (value v) = ap (λ (n : ℕ). Value n (const_of v)) (omega arith)
end-up k (raised e) = ap (λ (n : ℕ). fired_as n e) (add-one k) ∙ ap Stuck (sym (add-one k))
end-up k (stuck s) = ap Stuck (omega arith)
end-up k too_deep = refl

end-zero : (x : Ending) → end_from 0 x ≡ end_of x
end-zero (value v) = ap (λ (n : ℕ). Value n (const_of v)) (zero-add (height v))
end-zero (raised e) = refl
end-zero (stuck s) = ap Stuck (zero-add s)
end-zero too_deep = refl

-- fire's ending, by the word under it
fire-same : (k x : ℕ) → fired_w k x ≡ end_from k (pick (leb 32 x && leb x 47) (raised (x - 32)) (stuck 0))
unfolding fire_w
fire-same k x = go k (leb 32 x && leb x 47) refl
  where
    go : (n : ℕ) (b : Bool) → (leb 32 x && leb x 47) ≡ b → fired_w n x ≡ end_from n (pick b (raised (x - 32)) (stuck 0))
    go zero true e = ap (λ (c : Bool). pick c (Raised (x - 32)) (Stuck 0)) e
    go zero false e = ap (λ (c : Bool). pick c (Raised (x - 32)) (Stuck 0)) e
    go (suc n) true e = refl
    go (suc n) false e = ap Stuck (sym (add-zero (suc n)))

module _ (ks : List ℕ) where
  read_first : (w : ℕ) (ws : List ℕ) (k : ℕ) → w ≢ 2 → read_w (w ∷ ws) k ≡ root_w w k (get_or ws 0 0)
  unfolding read_w
  read_first w ws k n = ap (λ (b : Bool). pick b (read_w ws (k + 1)) (root_w w k (get_or ws 0 0))) (eqb-false w 2 n)

  read_up : (w : ℕ) (ws : List ℕ) (k : ℕ) → w ≡ 2 → read_w (w ∷ ws) k ≡ read_w ws (k + 1)
  unfolding read_w
  read_up w ws k e = ap (λ (b : Bool). pick b (read_w ws (k + 1)) (root_w w k (get_or ws 0 0))) (eqb-true w 2 e)

  succ-parts : arity_of ks 2 ≡ 1
  unfolding arity_of
  succ-parts = refl

  fire-parts : arity_of ks 6 ≡ 1
  unfolding arity_of
  fire-parts = refl

  fire-is : (ts : Trees) (rest : List ℕ) (k : ℕ) → len ts ≡ 1 → fired_w k (get_or (all_words ts ++ rest) 0 0) ≡ end_from k (read_off_fire ts)
  fire-is [·] rest k n = absurd (omega arith)
  fire-is (var x ▹ ts) rest k n =
      fire-same k (64 + x) ∙ ap (λ (b : Bool). end_from k (pick (leb 32 (64 + x) && b) (raised ((64 + x) - 32)) (stuck 0))) (leb-false (64 + x) 47 (omega arith))
      ∙ ap (λ (b : Bool). end_from k (pick (b && false) (raised ((64 + x) - 32)) (stuck 0))) (leb-true 32 (64 + x) (omega arith))
  fire-is (node s us ▹ ts) rest k n = fire-same k s

  shown-other : (s : ℕ) (p e : Ending) → s ≢ 1 → s ≢ 3 → s ≢ 4 → s ≢ 2 → s ≢ 6 → ending_at_root s p e ≡ stuck 0
  shown-other s p e a b c d f = rw (eqb-false s 1 a, eqb-false s 3 b, eqb-false s 4 c, eqb-false s 2 d, eqb-false s 6 f) refl

  -- a root that is no succ
  module _ (s : ℕ) (ts : Trees) (rest : List ℕ) (k : ℕ) (h : Shaped (arity_of ks) (node s ts)) (n2 : s ≢ 2) where
    abbrev x : ℕ
    x = get_or (all_words ts ++ rest) 0 0

    abbrev Goal : Type 0
    Goal = root_w s k x ≡ end_from k (ending_at_root s (read_off_part ts) (read_off_fire ts))

    like : (m : ℕ) → s ≡ m → root_w m k x ≡ end_from k (ending_at_root m (read_off_part ts) (read_off_fire ts)) → Goal
    like m e g = subst (λ (w : ℕ). root_w w k x ≡ end_from k (ending_at_root w (read_off_part ts) (read_off_fire ts))) (sym e) g

    fired : s ≡ 6 → root_w 6 k x ≡ end_from k (read_off_fire ts)
    fired e = sym (root-6 k x) ∙ fire-is ts rest k (h.1 ∙ ap (arity_of ks) e ∙ fire-parts)

    root_is : Goal
    root_is = by-1 (eqb s 1) refl
      where
        by-6 : s ≢ 1 → s ≢ 3 → s ≢ 4 → (b : Bool) → eqb s 6 ≡ b → Goal
        by-6 a c d true e = like 6 (eq-of-eqb s 6 e) (fired (eq-of-eqb s 6 e))
        by-6 a c d false e =
            sym (root-other k x s a c d (ne-of-eqb s 6 e)) ∙ ap Stuck (sym (add-zero k))
            ∙ ap (end_from k) (sym (shown-other s (read_off_part ts) (read_off_fire ts) a c d n2 (ne-of-eqb s 6 e)))

        by_4 : s ≢ 1 → s ≢ 3 → (b : Bool) → eqb s 4 ≡ b → Goal
        by_4 a c true e = like 4 (eq-of-eqb s 4 e) (sym (root-4 k x) ∙ ap (λ (n : ℕ). Value n (const_of (base false_b))) (sym (add-zero k)))
        by_4 a c false e = by-6 a c (ne-of-eqb s 4 e) (eqb s 6) refl

        by-3 : s ≢ 1 → (b : Bool) → eqb s 3 ≡ b → Goal
        by-3 a true e = like 3 (eq-of-eqb s 3 e) (sym (root-3 k x) ∙ ap (λ (n : ℕ). Value n (const_of (base true_b))) (sym (add-zero k)))
        by-3 a false e = by_4 a (ne-of-eqb s 3 e) (eqb s 4) refl

        by-1 : (b : Bool) → eqb s 1 ≡ b → Goal
        by-1 true e = like 1 (eq-of-eqb s 1 e) (sym (root-1 k x) ∙ ap (λ (n : ℕ). Value n (const_of (base zero_b))) (sym (add-zero k)))
        by-1 false e = by-3 (ne-of-eqb s 1 e) (eqb s 3) refl

  mutual
    read-tree : (t : Tree) (rest : List ℕ) (k : ℕ) → Shaped (arity_of ks) t → read_w (words t ++ rest) k ≡ end_from k (read_off t)
    read-tree (var x) rest k h =
        read_first (64 + x) rest k (λ e. omega arith)
        ∙ sym (root-other k (get_or rest 0 0) (64 + x) (λ e. omega arith) (λ e. omega arith) (λ e. omega arith) (λ e. omega arith)) ∙ ap Stuck (sym (add-zero k))
    read-tree (node s ts) rest k h = by_2 (eqb s 2) refl (λ n. read-parts ts rest (k + 1) n h.2)
      where
        by_2 : (b : Bool) → eqb s 2 ≡ b → (len ts ≡ 1 → read_w (all_words ts ++ rest) (k + 1) ≡ end_from (k + 1) (read_off_part ts))
            → read_w (s ∷ (all_words ts ++ rest)) k ≡ end_from k (ending_at_root s (read_off_part ts) (read_off_fire ts))
        by_2 true e part =
            let q = eq-of-eqb s 2 e in
            read_up s (all_words ts ++ rest) k q ∙ part (h.1 ∙ ap (arity_of ks) q ∙ succ-parts) ∙ end-up k (read_off_part ts)
            ∙ ap (λ (w : ℕ). end_from k (ending_at_root w (read_off_part ts) (read_off_fire ts))) (sym q)
        by_2 false e part = read_first s (all_words ts ++ rest) k (ne-of-eqb s 2 e) ∙ root_is s ts rest k h (ne-of-eqb s 2 e)

    read-parts : (ts : Trees) (rest : List ℕ) (k : ℕ) → len ts ≡ 1 → Shapeds (arity_of ks) ts → read_w (all_words ts ++ rest) k ≡ end_from k (read_off_part ts)
    read-parts [·] rest k n h = absurd (omega arith)
    read-parts (t ▹ ts) rest k n h = ap (λ (l : List ℕ). read_w l k) (append_assoc (words t) (all_words ts) rest) ∙ read-tree t (all_words ts ++ rest) k h.0

  pub read_is : (t : Tree) → Shaped (arity_of ks) t → read_w (words t) 0 ≡ end_of (read_off t)
  read_is t h = ap (λ (l : List ℕ). read_w l 0) (sym (append-nil (words t))) ∙ read-tree t [] 0 h ∙ end-zero (read_off t)

  -- what a run shows at its end is read off its last tree, which has its shape
  abbrev finish : Said → Tree → Said
  finish (is x) t = is (read_off t)
  finish out_of_steps t = out_of_steps
  finish too_big t = too_big

  record Ended (a : Answer) (t : Tree) : Type 0 where
    shaped : Shaped (arity_of ks) t
    said : a.said ≡ finish a.said t

  said-is : (s : Said) (t : Tree) → Shaped (arity_of ks) t → s ≡ finish s t → said_w (ending_of s) (words t) ≡ said_of s
  said-is (is x) t h e = read_is t h ∙ ap said_of (sym e)
  said-is out_of_steps t h e = refl
  said-is too_big t h e = refl

  module _ (st own : List ℕ) (si oi : List Span) (rs : List Rule) (proper : ProperRules rs) (hs : ShapedRules (arity_of ks) rs)
      (found : (t : Tree) → Shaped (arity_of ks) t → (rest : List ℕ) → let f = fitting_of ks st own si oi (words t ++ rest) in Picked ks t rs (rule_of st own f) (is_some f))
      (vars : (x : ℕ) → first_fit rs (var x) ≡ none) (room : ℕ) where
    abbrev root : Tree → Option Tree
    root = first_fit rs

    abbrev N : List ℕ → Option (List ℕ)
    N = next_w ks st own si oi

    end-out : (t : Tree) (o : Option Tree) → Shaped (arity_of ks) t → Ended (turn o t (λ u. says out_of_steps 0)) t
    end-out t none h = record { shaped = h; said = refl }
    end-out t (some u) h = record { shaped = h; said = refl }

    end_more : (n : ℕ) (t : Tree) (o : Option Tree) → Shaped (arity_of ks) t → ShapedO (arity_of ks) o
        → ((u : Tree) → Shaped (arity_of ks) u → Ended (run_in_room root room n u) (last_term root room n u))
        → Ended (turn o t (λ u. choose (leb (size u) room) (λ x. one_more (run_in_room root room n u)) (λ x. says too_big 1))) (last_at_turn o t room (last_term root room n))
    end_more n t none h k ih = record { shaped = h; said = refl }
    end_more n t (some u) h k ih = both (leb (size u) room)
      where
        both : (b : Bool) → Ended (choose b (λ x. one_more (run_in_room root room n u)) (λ x. says too_big 1)) (choose b (λ x. last_term root room n u) (λ x. t))
        both true = let e = ih u k in record { shaped = e.shaped; said = e.said }
        both false = record { shaped = h; said = refl }

    ended : (n : ℕ) (t : Tree) → Shaped (arity_of ks) t → Ended (run_in_room root room n t) (last_term root room n t)
    unfolding run_in_room last_term
    ended zero t h = end-out t (step root t) h
    ended (suc n) t h = end_more n t (step root t) h (keeps ks st own si oi rs proper hs found vars room t h) (ended n)

    answer-same : (a : Answer) (t : Tree) → Ended a t → answer_w (last_of 0 a t) ≡ answer_of a
    answer-same a t e = ap₂ (λ (s : CodeSaid) (n : ℕ). record { said = s; steps = n }) (said-is a.said t e.shaped e.said) (zero-add a.steps)

    pub from_is : (n : ℕ) (t : Tree) → Shaped (arity_of ks) t
        → (answer_w (run_from N room n (words t)) ≡ answer_of (choose (leb (size t) room) (λ x. run_in_room root room n t) (λ x. says too_big 0)))
        × ((run_from N room n (words t)).term ≡ choose (leb (size t) room) (λ x. words (last_term root room n t)) (λ x. []))
    from_is n t h = (
      ap (λ (k : ℕ). answer_w (start (leb k room))) (length-words t) ∙ said (leb (size t) room),
      ap (λ (k : ℕ). (start (leb k room)).term) (length-words t) ∙ term (leb (size t) room),
    )
      where
        start : Bool → Last
        start b = pick b (run N room n 0 (words t)) (record { ending = big-ending; steps = 0; term = [] })

        r : run N room n 0 (words t) ≡ last_of 0 (run_in_room root room n t) (last_term root room n t)
        r = run_is ks st own si oi rs proper hs found vars room n 0 t h

        said : (b : Bool) → answer_w (pick b (run N room n 0 (words t)) (record { ending = big-ending; steps = 0; term = [] })) ≡ answer_of (choose b (λ x. run_in_room root room n t) (λ x. says too_big 0))
        said true = ap answer_w r ∙ answer-same (run_in_room root room n t) (last_term root room n t) (ended n t h)
        said false = refl

        term : (b : Bool) → (pick b (run N room n 0 (words t)) (record { ending = big-ending; steps = 0; term = [] })).term ≡ choose b (λ x. words (last_term root room n t)) (λ x. [])
        term true = ap (λ (l : Last). l.term) r
        term false = refl
