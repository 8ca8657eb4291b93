-- Refusals 1 to 11 and 17 as a report, or what the checker reads of the program; and refusals 12 and 13.
use Rattle.std.specs.Prelude.{ℕ, Bool, ◌&&◌, List, Result, Ok, Err, leb}
use Rattle.theory.specs.Syntax.{pick}
use Rattle.theory.specs.Answers.{Verdict, refuses, accepts, judged}
use Rattle.checker.specs.declared.Checked.{Checked}
use Rattle.checker.specs.Answer.{checked_as}
use Rattle.bridge.specs.declared.report.Report.{Report}
use Rattle.bridge.specs.Report.{about_number, refusal_report}

-- a refusal as its report; else what is read of the program
abbrev pub judged_of : Verdict → Result Checked Report
judged_of (refuses n a p) = Err (refusal_report n (about_number a) p)
judged_of (accepts s t) = Ok (checked_as s)

unfoldable pub judged_as : List ℕ → List ℕ → Result Checked Report
judged_as p q = judged_of (judged p q)

-- refusal 12 is kept off: the steps are within 1,000,000, and the other allowance is from 1 to its most
unfoldable pub allowances : ℕ → ℕ → ℕ → Bool
allowances steps other most = leb steps 1000000 && (leb 1 other && leb other most)

-- both buffers, of so many words, have the room's
unfoldable pub buffers_hold : ℕ → ℕ → ℕ → Bool
buffers_hold room first second = leb room first && leb room second

-- refusals 12 and 13 of the rewriter's call but for the own list: "12 an allowance out of range; 13 a lent slice shorter"
unfoldable pub limit_of : ℕ → ℕ → ℕ → ℕ → Result (Unit {0}) Report
limit_of steps room first second =
    pick (allowances steps room 4096) (pick (buffers_hold room first second) (Ok tt) (Err (refusal_report 13 1 0))) (Err (refusal_report 12 1 0))
