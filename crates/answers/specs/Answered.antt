-- What the answer to a line begins with.
use Rattle.std.specs.Prelude.{ℕ, ◌≡◌, ◌≢◌, ◌++◌, List, codes}
use Rattle.theory.specs.Answers.{evaluate}
use Rattle.bridge.specs.Report.{report_of}
use Rattle.bridge.specs.declared.report.Report.{Report}
use Rattle.wording.specs.Words.{refusal_of}
use Rattle.answers.specs.Held.{before_piece}
use Rattle.answers.specs.Fields.{Reads}
use Rattle.answers.specs.declared.cases.Case.{Case}

-- the evaluator's report on a case
abbrev pub evaluated : Case → Report
evaluated c = report_of (evaluate c.program.items c.question.items c.steps c.levels)

-- what is held behind a line that reads as no case, and behind one that the evaluator's call refuses
abbrev pub Unread : List ℕ → List ℕ → List ℕ → Type 0
Unread line held held' = ((c : Case) → Reads line c → ⊥) → held' ≡ before_piece held ++ codes "bad line\n"

abbrev pub Refused : Case → List ℕ → List ℕ → Type 0
Refused c held held' = (evaluated c).number ≢ 0 → held' ≡ before_piece held ++ refusal_of (evaluated c) ++ codes "\n"
