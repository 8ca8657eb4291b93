-- THE RUN: on the words of a tree, the run of steps is the theory's, ending, count and last tree.
use mathlib.Core.Path.{◌≡◌, refl, sym, ap, ◌∙◌}
use mathlib.Core.Bool.{Bool, true, false}
use mathlib.Core.Option.{Option, none, some}
use mathlib.Core.List.{List, ◌++◌}
use Prim.Native.Nat.{ℕ, zero, suc, ◌+◌}
use native.Mathlib.Nat.{add-zero}
use native.Mathlib.Omega.{arith}
use lib.Dec.{leb}
use Rattle.std.specs.Prelude.{is_some}
use Rattle.theory.specs.Syntax.{pick, choose}
use Rattle.theory.specs.Endings.{Said, is, out_of_steps, too_big, Answer, says}
use Rattle.theory.specs.Tree.{Tree, var, Rule, first_fit, step, size}
use Rattle.theory.specs.Words.{words, Shaped, words_of}
use Rattle.theory.specs.Turns.{turn, one_more, run_in_room, last_at_turn, last_term}
use Rattle.theory.specs.Proper.{ProperRules}
use Rattle.theory.proofs.Readability.{length-words}
use Rattle.theory.proofs.Shape.{ShapedRules, ShapedO, step-shaped, fit-shaped}
use Rattle.words.specs.Terms.{arity_of}
use Rattle.step.specs.Next.{next_w}
use Rattle.turns.specs.Run.{Last, stop, go, run}
use Rattle.turns.specs.declared.run.Ending.{Ending}
use Rattle.turns.specs.declared.run.Ending.TheVariants.{Done, Out, Big}
use Rattle.rules.specs.Finding.{fitting_of, rule_of}
use Rattle.rules.specs.declared.index.Span.{Span}
use Rattle.rules.proofs.Found.{Picked}
use Rattle.step.proofs.TreeStep.{next-is}

-- how a run of the code says an answer of the theory
abbrev pub ending_of : Said → Ending
ending_of (is x) = Done
ending_of out_of_steps = Out
ending_of too_big = Big

abbrev pub last_of : ℕ → Answer → Tree → Last
last_of n a t = record { ending = ending_of a.said; steps = n + a.steps; term = words t }

zero-parts : (ks : List ℕ) → arity_of ks 1 ≡ 0
unfolding arity_of
zero-parts ks = refl

module _ (ks st own : List ℕ) (si oi : List Span) (rs : List Rule) (proper : ProperRules rs) (hs : ShapedRules (arity_of ks) rs)
    (found : (t : Tree) → Shaped (arity_of ks) t → (rest : List ℕ) → let f = fitting_of ks st own si oi (words t ++ rest) in Picked ks t rs (rule_of st own f) (is_some f))
    (vars : (x : ℕ) → first_fit rs (var x) ≡ none) (room : ℕ) where
  abbrev root : Tree → Option Tree
  root = first_fit rs

  abbrev N : List ℕ → Option (List ℕ)
  N = next_w ks st own si oi

  pub keeps : (t : Tree) → Shaped (arity_of ks) t → ShapedO (arity_of ks) (step root t)
  keeps = step-shaped (arity_of ks) root (fit-shaped (arity_of ks) (zero-parts ks) rs hs)

  steps-same : (e : Ending) (m n : ℕ) (t : List ℕ) → m ≡ n → ◌≡◌ {A = Last} (record { ending = e; steps = m; term = t }) (record { ending = e; steps = n; term = t })
  steps-same e m n t q = ap (λ (k : ℕ). record { ending = e; steps = k; term = t }) q

  stopped : (n : ℕ) (t : Tree) (o : Option Tree) → stop n (words t) (words_of o) ≡ last_of n (turn o t (λ u. says out_of_steps 0)) t
  stopped n t none = steps-same Done n (n + 0) (words t) (sym (add-zero n))
  stopped n t (some u) = steps-same Out n (n + 0) (words t) (sym (add-zero n))

  went : (left n : ℕ) (t : Tree) (o : Option Tree) → ShapedO (arity_of ks) o
      → ((u : Tree) → Shaped (arity_of ks) u → run N room left (n + 1) (words u) ≡ last_of (n + 1) (run_in_room root room left u) (last_term root room left u))
      → go room n (words t) (run N room left (n + 1)) (words_of o)
      ≡ last_of n (turn o t (λ u. choose (leb (size u) room) (λ x. one_more (run_in_room root room left u)) (λ x. says too_big 1))) (last_at_turn o t room (last_term root room left))
  went left n t none h ih = steps-same Done n (n + 0) (words t) (sym (add-zero n))
  went left n t (some u) h ih = ap (λ (k : ℕ). pick (leb k room) (run N room left (n + 1) (words u)) (record { ending = Big; steps = n + 1; term = words t })) (length-words u) ∙ on (leb (size u) room)
    where
      on : (b : Bool) → pick b (run N room left (n + 1) (words u)) (record { ending = Big; steps = n + 1; term = words t })
          ≡ last_of n (choose b (λ x. one_more (run_in_room root room left u)) (λ x. says too_big 1)) (choose b (λ x. last_term root room left u) (λ x. t))
      on true =
          let m : n + 1 + (run_in_room root room left u).steps ≡ n + suc (run_in_room root room left u).steps = omega arith in
          ih u h ∙ steps-same (ending_of (run_in_room root room left u).said) (n + 1 + (run_in_room root room left u).steps) (n + suc (run_in_room root room left u).steps) (words (last_term root room left u)) m
      on false = refl

  pub run_is : (left n : ℕ) (t : Tree) → Shaped (arity_of ks) t → run N room left n (words t) ≡ last_of n (run_in_room root room left t) (last_term root room left t)
  unfolding run_in_room last_term
  run_is zero n t h = ap (stop n (words t)) (next-is ks st own si oi rs proper found vars t h) ∙ stopped n t (step root t)
  run_is (suc left) n t h =
      ap (go room n (words t) (run N room left (n + 1))) (next-is ks st own si oi rs proper found vars t h) ∙ went left n t (step root t) (keeps t h) (λ u k. run_is left (n + 1) u k)
