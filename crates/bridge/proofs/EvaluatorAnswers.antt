-- The evaluator's answer as a report is the theory's answer as a report.
use Prim.Native.Nat.{ℕ}
use mathlib.Core.Path.{◌≡◌, refl, ap, ◌∙◌}
use mathlib.Core.Bool.{Bool, true, false}
use mathlib.Core.List.{List}
use lib.Dec.{leb}
use Rattle.theory.specs.Syntax.{zero_b, true_b, false_b, Val, base, up, height, base_of, Term, Program, nothing_bound, pick}
use Rattle.theory.specs.Endings.{Ending, value, raised, stuck, too_deep, is, out_of_steps, says}
use Rattle.theory.specs.Cost.{Cost, eval, evaluator}
use Rattle.theory.specs.Bytes.{program_of}
use Rattle.checker.specs.declared.Checked.{Checked}
use Rattle.evaluator.specs.declared.values.Outcome.{Outcome}
use Rattle.words.specs.Base.{named}
use Rattle.evaluator.specs.Outcomes.{outcome_of}
use Rattle.rules.specs.declared.lists.Lists.{Lists}
use Rattle.evaluator.specs.Evaluation.{evaluated_by}
use Rattle.evaluator.proofs.OnBytes.{evaluator-on-bytes}
use Rattle.bridge.specs.declared.report.Report.{Report}
use Rattle.bridge.specs.Report.{base_number, const_number, ending_report, answer_report}
use Rattle.bridge.specs.EvaluatorReport.{outcome_report}
use Rattle.bridge.specs.Accepted.{Accepts, question_words, standing_words, own_words, Lends}
use Rattle.bridge.proofs.Lending.{arities-are}

value-number : (v : Val) → const_number (named (base_of v)) ≡ base_number v
value-number (base zero_b) = refl
value-number (base true_b) = refl
value-number (base false_b) = refl
value-number (up v) = value-number v

evaluator-report : (P : Program) (levels steps : ℕ) (t : Term) → outcome_report (outcome_of (evaluator P levels steps t)) ≡ answer_report (evaluator P levels steps t)
unfolding evaluator outcome_report answer_report
evaluator-report P levels steps t = by-cut (leb r.paid steps)
  where
    r : Cost
    r = eval P levels nothing_bound t

    ended : (m : Ending) (c : ℕ) → outcome_report (outcome_of (says (is m) c)) ≡ answer_report (says (is m) c)
    ended (value v) c = ap (λ (b : ℕ). ending_report 1 (height v) b c) (value-number v)
    ended (raised e) c = refl
    ended (stuck s) c = refl
    ended too_deep c = refl

    by-cut : (b : Bool) → outcome_report (outcome_of (pick b (says (is r.ending) r.paid) (says out_of_steps steps))) ≡ answer_report (pick b (says (is r.ending) r.paid) (says out_of_steps steps))
    by-cut true = ended r.ending r.paid
    by-cut false = refl

module _ {p q : List ℕ} {c : Checked} (a : Accepts p q c) (x : Lists) (h : Lends a.checks.book x) (asked : List ℕ) (ea : asked ≡ question_words a.term) where
  abbrev P : Program
  P = program_of a.checks.book

  pub evaluator-answers : (levels levels' steps : ℕ) (o : Outcome) (r : Report) → levels' ≡ levels → o ≡ evaluated_by x asked levels' steps → r ≡ outcome_report o
      → r ≡ answer_report (evaluator P levels steps a.term)
  unfolding question_words standing_words own_words
  evaluator-answers levels levels' steps o r e eo w =
      w
      ∙ ap outcome_report
      (eo ∙ evaluator-on-bytes p q a.checks.book a.term a.checks.program_read a.question_read asked x.standing.list.now x.own.list.now x.arities.now x.standing.index.now x.own.index.now ea h.standing_is h.own_is (arities-are a x h) h.standing_indexed h.own_indexed levels' steps)
      ∙ evaluator-report P levels' steps a.term ∙ ap (λ (i : ℕ). answer_report (evaluator P i steps a.term)) e
