-- The rewriter's own answer as a report.
use Rattle.std.specs.Prelude.{ℕ, ◌<◌}
use Rattle.rewriter.specs.declared.ending.Said.{Said}
use Rattle.rewriter.specs.declared.ending.Said.TheVariants as said
use Rattle.rewriter.specs.declared.Answer.{Answer}
use Rattle.bridge.specs.declared.report.Report.{Report}
use Rattle.bridge.specs.Report.{const_number, ending_report}

abbrev pub said_as : Said → ℕ → Report
said_as (said.Value k x) c = ending_report 1 k (const_number x) c
said_as (said.Raised e) c = ending_report 2 e 0 c
said_as (said.Stuck s) c = ending_report 3 s 0 c
said_as said.Out c = ending_report 4 0 0 c
said_as said.Big c = ending_report 6 0 0 c

unfoldable pub rewriting_report : Answer → Report
rewriting_report a = said_as a.said a.steps

-- its numbers fit a report's words
abbrev pub said_amount : Said → ℕ
said_amount (said.Value k x) = k
said_amount (said.Raised e) = e
said_amount (said.Stuck s) = s
said_amount said.Out = 0
said_amount said.Big = 0

pub record Fits (a : Answer) : Type 0 where
  pub amount : said_amount a.said < 4294967296
  pub steps : a.steps < 4294967296
