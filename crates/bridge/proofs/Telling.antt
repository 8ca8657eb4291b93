-- A report's words in a slice, and what is left of the slices through the door.
use Prim.Native.Nat.{ℕ, ◌≤◌, ◌<◌}
use mathlib.Core.Path.{◌≡◌, sym, ap, ◌∙◌}
use mathlib.Core.Bool.{Bool}
use mathlib.Core.List.{List, ◌++◌}
use lib.ListN.{length, drop}
use borrow.Author.Tests.{le-leb, lt-leb}
use Rattle.theory.specs.Syntax.{pick}
use Rattle.theory.specs.Buffers.{over}
use Rattle.theory.specs.Answers.{Reply, Rewritten}
use Rattle.words.proofs.Writes.{over-is}
use Rattle.bridge.specs.declared.report.Report.{Report}
use Rattle.bridge.specs.Report.{report_of, report_words}
use Rattle.bridge.specs.Calls.{told, opened, Leaves, Opens}

-- the seven words, before what stands behind them
pub words_told : (r : Report) (d ws : List ℕ) → 7 ≤ length d → ws ≡ report_words r → ws ++ drop 7 d ≡ over (report_words r) d
unfolding report_words
words_told r d ws h e = ap (λ (l : List ℕ). l ++ drop 7 d) e ∙ sym (over-is (report_words r) d h)

-- where the report is long enough, and where it is not
pub told_long : (w : Reply) (d d' : List ℕ) (r : Report) → 7 ≤ length d → r ≡ report_of w → d' ≡ over (report_words r) d → d' ≡ told w d
unfolding told
told_long w d d' r h e k =
    k ∙ ap (λ (x : Report). over (report_words x) d) e ∙ sym (ap (λ (b : Bool). pick b (over (report_words (report_of w)) d) d) (le-leb 7 (length d) h))

pub told_short : (w : Reply) (d : List ℕ) → length d < 7 → d ≡ told w d
unfolding told
told_short w d h = sym (ap (λ (b : Bool). pick b (over (report_words (report_of w)) d) d) (lt-leb 7 (length d) h))

pub opened-long : (d before after : List ℕ) → 7 ≤ length d → after ≡ opened d before after
unfolding opened
opened-long d before after h = sym (ap (λ (b : Bool). pick b after before) (le-leb 7 (length d) h))

pub opened-short : (d before after : List ℕ) → length d < 7 → before ≡ opened d before after
unfolding opened
opened-short d before after h = sym (ap (λ (b : Bool). pick b after before) (lt-leb 7 (length d) h))

module _ (w : Rewritten) (own first second d : List ℕ) where
  pub opens-long : (own' first' second' d' : List ℕ) (r : Report) → 7 ≤ length d → Leaves w r own' first' second' → d' ≡ over (report_words r) d
      → Opens w own first second d own' first' second' d'
  opens-long own' first' second' d' r h l k =
      record {
        told_report = told_long w.reply d d' r h l.report k;
        own_is = l.own_is ∙ opened-long d own w.own h;
        first_buffer = l.first_buffer ∙ opened-long d first w.first h;
        second_buffer = l.second_buffer ∙ opened-long d second w.second h;
      }

  pub opens-short : length d < 7 → Opens w own first second d own first second d
  opens-short h =
      record {
        told_report = told_short w.reply d h;
        own_is = opened-short d own w.own h;
        first_buffer = opened-short d first w.first h;
        second_buffer = opened-short d second w.second h;
      }
