-- What the calls leave in the slices that they are lent.
use Rattle.std.specs.Prelude.{ℕ, ◌≡◌, List, leb, length}
use Rattle.theory.specs.Syntax.{pick}
use Rattle.theory.specs.Buffers.{over}
use Rattle.theory.specs.Answers.{Reply, Rewritten}
use Rattle.bridge.specs.declared.report.Report.{Report}
use Rattle.bridge.specs.Report.{report_of, report_words}

-- the rewriter's call: its report r, and the three slices afterwards
pub record Leaves (w : Rewritten) (r : Report) (own first second : List ℕ) : Type 0 where
  pub report : r ≡ report_of w.reply
  pub own_is : own ≡ w.own
  pub first_buffer : first ≡ w.first
  pub second_buffer : second ≡ w.second

-- THE HOSTS' CALLS. Where the report has fewer than 7 words all is as it was. The report's words stand in the first seven of d
unfoldable pub told : Reply → List ℕ → List ℕ
told r d = pick (leb 7 (length d)) (over (report_words (report_of r)) d) d

-- a slice that was `before`, and is `after` where the report d has its seven words
unfoldable pub opened : List ℕ → List ℕ → List ℕ → List ℕ
opened d before after = pick (leb 7 (length d)) after before

-- the four slices before, and afterwards
pub record Opens (w : Rewritten) (own first second report own' first' second' report' : List ℕ) : Type 0 where
  pub told_report : report' ≡ told w.reply report
  pub own_is : own' ≡ opened report own w.own
  pub first_buffer : first' ≡ opened report first w.first
  pub second_buffer : second' ≡ opened report second w.second
