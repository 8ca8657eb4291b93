-- WHAT THE PAPER GIVES A QUESTION IS ALL THAT THE CALLS ANSWER IT: value, exception or stuck from either call is the paper's outcome, and with
-- levels and steps enough the evaluator does answer it, always after the same steps.
use Prim.Native.Nat.{ℕ, ◌≤◌}
use mathlib.Core.Path.{◌≡◌, sym, ap, ◌∙◌, subst}
use mathlib.Core.Logic.{◌≢◌}
use mathlib.Core.Bool.{Bool, true, false}
use mathlib.Core.List.{List}
use mathlib.Core.Option.{some, none-ne-some, some-injective}
use native.Mathlib.Omega.{arith}
use lib.Dec.{leb}
use Rattle.theory.specs.Syntax.{zero_b, base, Term, Program, nothing_bound, pick}
use Rattle.theory.specs.Evaluation.{Outcome, Ev, outcome_of}
use Rattle.theory.specs.Endings.{Ending, value, raised, stuck, too_deep, Said, is, out_of_steps, too_big, Answer, says, Final}
use Rattle.theory.specs.Cost.{Cost, eval, cut, evaluator}
use Rattle.theory.specs.Turns.{rewriter}
use Rattle.theory.specs.Bytes.{good, Book, read_program, program_of, read_question}
use Rattle.theory.specs.Demands.{said_outcome, OnlyAnswers}
use Rattle.theory.proofs.Tests.{leb-true}
use Rattle.theory.proofs.PaperEvaluation.{answered-is-paper, paper-is-answered, paper-unique}
use Rattle.theory.proofs.Accepted.{agree-on-bytes}
use Rattle.theory.proofs.AcceptedProper.{accepted-proper}
use Rattle.theory.proofs.Demand3.{evaluator-stays}
use Rattle.theory.proofs.PublicCalls.{same_read, evaluate-answers, rewrite-answers}
use Rattle.theory.proofs.Demand2.{cut-said}

-- an evaluation that has an outcome is not too deep
not-deep : (n : ℕ) (r : Cost) (m : Outcome) → outcome_of r.ending ≡ some m → (cut n r).said ≢ is too_deep
not-deep n r m h = go (leb r.paid n)
  where
    ending_in : Said → Ending
    ending_in (is e) = e
    ending_in out_of_steps = value (base zero_b)
    ending_in too_big = too_deep

    go : (b : Bool) → (pick b (says (is r.ending) r.paid) (says out_of_steps n)).said ≢ is too_deep
    go true e = none-ne-some m (sym (ap (λ (x : Said). outcome_of (ending_in x)) e) ∙ h)
    go false e = none-ne-some _ (sym (ap (λ (x : Said). outcome_of (ending_in x)) e))

final : (e : Ending) (m : Outcome) → outcome_of e ≡ some m → Final (is e)
final (value v) m h = tt
final (raised x) m h = tt
final (stuck s) m h = tt
final too_deep m h = none-ne-some m h

module _ (p : List ℕ) (s : Book) (t : Term) (m : Outcome) (ep : read_program p ≡ good s) (given : Ev (program_of s) nothing_bound t m) where
  abbrev P : Program
  P = program_of s

  -- at some number of levels the evaluation ends as the paper says
  enough : (L : ℕ) × (outcome_of (eval P L nothing_bound t).ending ≡ some m)
  enough = let a = paper-is-answered P (accepted-proper p s ep) given in (a.0, a.1 a.0 (omega arith))

  -- WITH LEVELS AND STEPS ENOUGH the evaluator answers it, and the steps are always the same
  pub evaluator-answers : (L c : ℕ) × ((L' n : ℕ) → L ≤ L' → c ≤ n → (said_outcome (evaluator P L' n t).said ≡ some m) × ((evaluator P L' n t).steps ≡ c))
  unfolding evaluator
  evaluator-answers =
      let L = enough.0 in
      let r = eval P L nothing_bound t in
      let c = r.paid in
      let here : evaluator P L c t ≡ says (is r.ending) c =
      ap (λ (b : Bool). pick b (says (is r.ending) c) (says out_of_steps c)) (leb-true c c (omega arith)) in
      let settled : Final (evaluator P L c t).said = subst (λ (a : Answer). Final a.said) (sym here) (final r.ending m enough.1) in (
        L,
        c,
        λ L' n hl hn.
            let e = evaluator-stays P t L L' c n hl hn settled ∙ here in
            (ap (λ (a : Answer). said_outcome a.said) e ∙ enough.1, ap (λ (a : Answer). a.steps) e),
      )

  -- WHATEVER THE ALLOWANCES, a value, an exception or stuck that an engine answers is it
  pub evaluator-gives : (steps levels : ℕ) (m' : Outcome) → said_outcome (evaluator P levels steps t).said ≡ some m' → m' ≡ m
  unfolding evaluator
  evaluator-gives steps levels m' h =
      let proper = accepted-proper p s ep in
      paper-unique P proper (answered-is-paper P proper levels nothing_bound t m' (cut-said steps (eval P levels nothing_bound t) m' h)) given

  module _ (q : List ℕ) (eq : read_question s.decls q ≡ good t) where
    pub rewriter-gives : (steps room : ℕ) (m' : Outcome) → said_outcome (rewriter P room steps t).said ≡ some m' → m' ≡ m
    unfolding evaluator
    rewriter-gives steps room m' h =
        let L = enough.0 in
        let r = eval P L nothing_bound t in
        let same = agree-on-bytes p q s t ep eq L room steps (not-deep steps r m enough.1) (λ e. none-ne-some m' (sym (ap said_outcome e) ∙ h)) in
        some-injective m' m (sym (cut-said steps r m' (sym (ap (λ (a : Answer). said_outcome a.said) same) ∙ h)) ∙ enough.1)

    -- the call has read this program and this question
    this-one : (engine : Program → Term → Answer) (a : Answer) (s' : Book) (t' : Term) → read_program p ≡ good s' → read_question s'.decls q ≡ good t'
        → a ≡ engine (program_of s') t' → engine P t ≡ a
    this-one engine a s' t' ep' eq' e =
        let es = same_read ep' ep in
        let et = same_read (ap (λ (r : Book). read_question r.decls q) (sym es) ∙ eq') eq in
        sym (e ∙ ap (λ (r : Book). engine (program_of r) t') es ∙ ap (engine P) et)

    -- THE CALLS
    pub only-answers : OnlyAnswers p q m
    only-answers =
        record {
          evaluated = λ steps levels a m' e h.
              let x = evaluate-answers p q steps levels a e in
              let same = this-one (λ P t. evaluator P levels steps t) a x.book x.term x.program_read x.question_read x.answered in
              evaluator-gives steps levels m' (ap (λ (b : Answer). said_outcome b.said) same ∙ h);
          rewritten = λ steps room own first second a m' e h.
              let x = rewrite-answers p q steps room own first second a e in
              let same = this-one (λ P t. rewriter P room steps t) a x.book x.term x.program_read x.question_read x.answered in
              rewriter-gives steps room m' (ap (λ (b : Answer). said_outcome b.said) same ∙ h);
        }
