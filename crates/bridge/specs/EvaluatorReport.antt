-- The evaluator's own answer as a report.
use Rattle.std.specs.Prelude.{ℕ}
use Rattle.evaluator.specs.declared.values.Ending.{Ending}
use Rattle.evaluator.specs.declared.values.Ending.TheVariants.{Done, Raised, Stuck, Out, Deep}
use Rattle.evaluator.specs.declared.values.Outcome.{Outcome}
use Rattle.bridge.specs.declared.report.Report.{Report}
use Rattle.bridge.specs.Report.{const_number, ending_report}

abbrev pub end_report : Ending → ℕ → Report
end_report (Done v) c = ending_report 1 v.succs (const_number v.base) c
end_report (Raised e) c = ending_report 2 e 0 c
end_report (Stuck s) c = ending_report 3 s 0 c
end_report Out c = ending_report 4 0 0 c
end_report Deep c = ending_report 5 0 0 c

unfoldable pub outcome_report : Outcome → Report
outcome_report o = end_report o.end o.steps
