-- The rewriter's answer as a report is the theory's answer as a report, and its numbers fit a report's words.
use Prim.Native.Nat.{ℕ, zero, suc, ◌-◌, ◌≤◌, ◌<◌}
use mathlib.Core.Path.{◌≡◌, refl, sym, ap, ap₂, ◌∙◌, subst}
use mathlib.Core.Bool.{Bool, true, false, ◌&&◌}
use mathlib.Core.List.{List}
use mathlib.Core.Option.{Option, none, some}
use native.Mathlib.Omega.{arith}
use lib.Dec.{eqb, leb}
use Rattle.theory.specs.Syntax.{zero_b, true_b, false_b, Val, base, up, height, Term, Program, pick, choose}
use Rattle.theory.specs.Endings.{Ending, value, raised, stuck, too_deep, Said, is, out_of_steps, too_big, Answer, says}
use Rattle.theory.specs.Tree.{Tree, Trees, var, node, [·], ◌▹◌, first_fit, step, size}
use Rattle.theory.specs.Translation.{tree, rules}
use Rattle.theory.specs.Turns.{under_succ, read_off_fire, ending_at_root, read_off, read_off_part, turn, one_more, run_in_room, rewriter}
use Rattle.theory.specs.Buffers.{over, padded}
use Rattle.theory.specs.Bytes.{good, Book, program_of, read_program}
use Rattle.theory.specs.Answers.{last_words}
use Rattle.theory.proofs.Bounds.{rewriter-steps, rewriter-height, rewriter-stuck}
use Rattle.theory.proofs.Exceptions.{rewriter-exception}
use Rattle.checker.specs.declared.Checked.{Checked}
use Rattle.rewriter.specs.declared.Answer as engine
use Rattle.rewriter.specs.Meaning.{const_of, answer_of, said_of}
use Rattle.rules.specs.declared.lists.Lists.{Lists}
use Rattle.rewriter.specs.Read.{answer_w, run_by}
use Rattle.rewriter.proofs.OnBytes.{rewriter-on-bytes}
use Rattle.bridge.specs.declared.report.Report.{Report}
use Rattle.bridge.specs.Report.{base_number, const_number, ending_report, answer_report}
use Rattle.bridge.specs.RewriterReport.{rewriting_report, said_amount, Fits}
use Rattle.bridge.specs.Accepted.{Accepts, question_words, standing_words, own_words, Lends}
use Rattle.bridge.proofs.Lending.{arities-are}

-- No tree shows `too_deep`, and so no run says it
abbrev NotDeep : Ending → Type 0
NotDeep (value v) = Unit {0}
NotDeep (raised e) = Unit {0}
NotDeep (stuck s) = Unit {0}
NotDeep too_deep = ⊥

abbrev SaysNotDeep : Said → Type 0
SaysNotDeep (is m) = NotDeep m
SaysNotDeep out_of_steps = Unit {0}
SaysNotDeep too_big = Unit {0}

pick-not-deep : (b : Bool) (x y : Ending) → NotDeep x → NotDeep y → NotDeep (pick b x y)
pick-not-deep true x y h k = h
pick-not-deep false x y h k = k

under-not-deep : (m : Ending) → NotDeep m → NotDeep (under_succ m)
under-not-deep (value v) h = tt
under-not-deep (raised e) h = tt
under-not-deep (stuck s) h = tt
under-not-deep too_deep h = h

fire-not-deep : (ts : Trees) → NotDeep (read_off_fire ts)
fire-not-deep [·] = tt
fire-not-deep (var x ▹ ts) = tt
fire-not-deep (node s us ▹ ts) = pick-not-deep (leb 32 s && leb s 47) (raised (s - 32)) (stuck 0) tt tt

root-not-deep : (s : ℕ) (m e : Ending) → NotDeep m → NotDeep e → NotDeep (ending_at_root s m e)
root-not-deep s m e h k =
    pick-not-deep (eqb s 1) _ _ tt (pick-not-deep (eqb s 3) _ _ tt (pick-not-deep (eqb s 4) _ _ tt
    (pick-not-deep (eqb s 2) _ _ (under-not-deep m h) (pick-not-deep (eqb s 6) e (stuck 0) k tt))))

mutual
  read-not-deep : (t : Tree) → NotDeep (read_off t)
  read-not-deep (var x) = tt
  read-not-deep (node s ts) = root-not-deep s (read_off_part ts) (read_off_fire ts) (part-not-deep ts) (fire-not-deep ts)

  part-not-deep : (ts : Trees) → NotDeep (read_off_part ts)
  part-not-deep [·] = tt
  part-not-deep (t ▹ ts) = read-not-deep t

run-not-deep : (root : Tree → Option Tree) (room n : ℕ) (t : Tree) → SaysNotDeep (run_in_room root room n t).said
unfolding run_in_room
run-not-deep root room zero t = by-step (step root t)
  where
    by-step : (o : Option Tree) → SaysNotDeep (turn o t (λ u. says out_of_steps 0)).said
    by-step none = read-not-deep t
    by-step (some u) = tt
run-not-deep root room (suc n) t = by-step (step root t) (run-not-deep root room n)
  where
    by_size : (b : Bool) (u : Tree) → SaysNotDeep (run_in_room root room n u).said → SaysNotDeep (choose b (λ x. one_more (run_in_room root room n u)) (λ x. says too_big 1)).said
    by_size true u h = h
    by_size false u h = tt

    by-step : (o : Option Tree) → ((u : Tree) → SaysNotDeep (run_in_room root room n u).said)
        → SaysNotDeep (turn o t (λ u. choose (leb (size u) room) (λ x. one_more (run_in_room root room n u)) (λ x. says too_big 1))).said
    by-step none h = read-not-deep t
    by-step (some u) h = by_size (leb (size u) room) u (h u)

rewriter-not-deep : (P : Program) (room n : ℕ) (t : Term) → SaysNotDeep (rewriter P room n t).said
unfolding rewriter
rewriter-not-deep P room n t = by_size (leb (size (tree t)) room)
  where
    by_size : (b : Bool) → SaysNotDeep (choose b (λ x. run_in_room (first_fit (rules P)) room n (tree t)) (λ x. says too_big 0)).said
    by_size true = run-not-deep (first_fit (rules P)) room n (tree t)
    by_size false = tt

value-const : (v : Val) → const_number (const_of v) ≡ base_number v
value-const (base zero_b) = refl
value-const (base true_b) = refl
value-const (base false_b) = refl
value-const (up v) = value-const v

rewriting-report : (a : Answer) → SaysNotDeep a.said → rewriting_report (answer_of a) ≡ answer_report a
unfolding rewriting_report answer_report
rewriting-report a h = by_said a.said h
  where
    by_said : (m : Said) → SaysNotDeep m → rewriting_report (answer_of (says m a.steps)) ≡ answer_report (says m a.steps)
    by_said (is (value v)) k = ap (λ (b : ℕ). ending_report 1 (height v) b a.steps) (value-const v)
    by_said (is (raised e)) k = refl
    by_said (is (stuck s)) k = refl
    by_said (is too_deep) k = absurd k
    by_said out_of_steps k = refl
    by_said too_big k = refl

-- its numbers fit a report
rewriter-fits : (p : List ℕ) (s : Book) → read_program p ≡ good s → (room n : ℕ) (t : Term) → room ≤ 4096 → n ≤ 1000000 → Fits (answer_of (rewriter (program_of s) room n t))
rewriter-fits p s read room n t hr hn =
    record { amount = by_said (rewriter (program_of s) room n t).said refl; steps = omega (arith, rewriter-steps (program_of s) room n t, hn) }
  where
    by_said : (m : Said) → (rewriter (program_of s) room n t).said ≡ m → said_amount (said_of m) < 4294967296
    by_said (is (value v)) e = omega (arith, rewriter-height (program_of s) room n t v e, hr)
    by_said (is (raised x)) e = omega (arith, rewriter-exception p s read room n t x e)
    by_said (is (stuck k)) e = omega (arith, rewriter-stuck (program_of s) room n t k e, hr)
    by_said (is too_deep) e = omega arith
    by_said out_of_steps e = omega arith
    by_said too_big e = omega arith

module _ {p q : List ℕ} {c : Checked} (a : Accepts p q c) (x : Lists) (h : Lends a.checks.book x) (asked : List ℕ) (ea : asked ≡ question_words a.term) (room room' n n' : ℕ) (er : room' ≡ room) (en : n' ≡ n)
    (f f' : List ℕ) (w : engine.Answer) (ew : w ≡ answer_w (run_by x asked room' n')) (ef : f' ≡ over (padded room' (run_by x asked room' n').term) f) where
  abbrev P : Program
  P = program_of a.checks.book

  both : (w ≡ answer_of (rewriter P room' n' a.term)) × (f' ≡ over (padded room' (last_words P room' n' a.term)) f)
  unfolding question_words standing_words own_words
  both =
      rewriter-on-bytes p q a.checks.book a.term a.checks.program_read a.question_read x.arities.now x.standing.list.now x.own.list.now x.standing.index.now x.own.index.now asked (arities-are a x h) h.standing_is h.own_is h.standing_indexed h.own_indexed ea
      room' n' f f' w ew ef

  answer-is : w ≡ answer_of (rewriter P room n a.term)
  answer-is = both.0 ∙ ap₂ (λ (i j : ℕ). answer_of (rewriter P i j a.term)) er en

  pub rewriter-answers : (r : Report) → r ≡ rewriting_report w → r ≡ answer_report (rewriter P room n a.term)
  rewriter-answers r e = e ∙ ap rewriting_report answer-is ∙ rewriting-report (rewriter P room n a.term) (rewriter-not-deep P room n a.term)

  pub rewriter-first : f' ≡ over (padded room (last_words P room n a.term)) f
  rewriter-first = both.1 ∙ ap₂ (λ (i j : ℕ). over (padded i (last_words P i j a.term)) f) er en

  pub answer-fits : room ≤ 4096 → n ≤ 1000000 → Fits w
  answer-fits hr hn = subst Fits (sym answer-is) (rewriter-fits p a.checks.book a.checks.program_read room n a.term hr hn)
