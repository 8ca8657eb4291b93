-- The calls' answers, case by case: refusals 1 to 11 and 17, refusal 12, refusal 13, and the engines'.
use Prim.Native.Nat.{ℕ, ◌≤◌, ◌<◌}
use mathlib.Core.Path.{◌≡◌, refl, sym, ap, ap₂, ◌∙◌, subst}
use mathlib.Core.Bool.{Bool, true, false, ◌&&◌}
use mathlib.Core.List.{List}
use native.Mathlib.Omega.{arith}
use lib.Dec.{leb}
use lib.ListN.{length}
use borrow.Author.Tests.{leb-true, le-leb, lt-leb}
use Rattle.theory.specs.Syntax.{pick, choose}
use Rattle.theory.specs.Cost.{evaluator}
use Rattle.theory.specs.Buffers.{over}
use Rattle.theory.specs.Bytes.{program_of}
use Rattle.theory.specs.Answers.{the_program, refusal, answer, Verdict, refuses, accepts, judged, evaluated, evaluate, Rewritten, unchanged, slices_long_enough, performed, rewritten_by, rewrite}
use Rattle.checker.specs.declared.Checked.{Checked}
use Rattle.bridge.specs.declared.report.Report.{Report}
use Rattle.std.specs.Prelude.{Result, Ok, Err}
use Rattle.bridge.specs.Report.{refusal_report, answer_report, report_of}
use Rattle.bridge.specs.Judged.{judged_of, judged_as, allowances, buffers_hold, limit_of}
use Rattle.bridge.specs.Accepted.{Accepts, own_words, Runs}
use Rattle.bridge.specs.Calls.{Leaves}
use Rattle.bridge.proofs.Judging.{both-judged}

-- the allowances that are kept to
and-true : (a b : Bool) → a && b ≡ true → (a ≡ true) × (b ≡ true)
and-true true b e = (refl, e)
and-true false b e = let z : ◌≡◌ {A = ℕ} 0 1 = cc in absurd (omega arith)

never : (b : Bool) → b && false ≡ false
never true = refl
never false = refl

pub within-allowances : (steps other most : ℕ) → allowances steps other most ≡ true → (steps ≤ 1000000) × (1 ≤ other) × (other ≤ most)
unfolding allowances
within-allowances steps other most e =
    let a = and-true (leb steps 1000000) (leb 1 other && leb other most) e in
    let b = and-true (leb 1 other) (leb other most) a.1 in
    (leb-true steps 1000000 a.0, leb-true 1 other b.0, leb-true other most b.1)

pub by_most : (steps other most : ℕ) → steps ≤ 1000000 → 1 ≤ other → leb other most ≡ allowances steps other most
unfolding allowances
by_most steps other most h k =
    sym (ap (λ (b : Bool). b && (leb 1 other && leb other most)) (le-leb steps 1000000 h) ∙ ap (λ (b : Bool). b && leb other most) (le-leb 1 other k))

-- where neither refusal 12 nor 13 is due
pub within-limits : (steps room first second : ℕ) → Ok tt ≡ limit_of steps room first second → (steps ≤ 1000000) × (1 ≤ room) × (room ≤ 4096) × (room ≤ first) × (room ≤ second)
unfolding limit_of buffers_hold
within-limits steps room first second e = go (allowances steps room 4096) refl (buffers_hold room first second) refl e
  where
    go : (x : Bool) → allowances steps room 4096 ≡ x → (y : Bool) → buffers_hold room first second ≡ y → ◌≡◌ {A = Result (Unit {0}) Report} (Ok tt) (pick x (pick y (Ok tt) (Err (refusal_report 13 1 0))) (Err (refusal_report 12 1 0)))
        → (steps ≤ 1000000) × (1 ≤ room) × (room ≤ 4096) × (room ≤ first) × (room ≤ second)
    go true ex true ey z =
        let w = within-allowances steps room 4096 ex in
        let b = and-true (leb room first) (leb room second) ey in
        (w.0, w.1, w.2, leb-true room first b.0, leb-true room second b.1)
    go true ex false ey z = cc
    go false ex y ey z = cc

-- REFUSALS 1 TO 11 AND 17
module _ (p q : List ℕ) (r : Report) (e : Err r ≡ judged_as p q) where
  pub evaluate-refused : (steps levels : ℕ) → r ≡ report_of (evaluate p q steps levels)
  unfolding evaluate report_of judged_as
  evaluate-refused steps levels = by-verdict (judged p q) e
    where
      by-verdict : (v : Verdict) → Err r ≡ judged_of v → r ≡ report_of (evaluated steps levels v)
      by-verdict (refuses n a place) k = cc
      by-verdict (accepts s t) k = cc

  pub rewrite-refused : (steps room : ℕ) (own first second : List ℕ) → Leaves (rewrite p q steps room own first second) r own first second
  unfolding rewrite report_of judged_as
  rewrite-refused steps room own first second = by-verdict (judged p q) e
    where
      by-verdict : (v : Verdict) → Err r ≡ judged_of v → Leaves (rewritten_by steps room own first second v) r own first second
      by-verdict (refuses n a place) k = record { report = cc; own_is = refl; first_buffer = refl; second_buffer = refl }
      by-verdict (accepts s t) k = cc

module _ {p q : List ℕ} {c : Checked} (a : Accepts p q c) where
  is-judged : judged p q ≡ accepts a.checks.book a.term
  is-judged = both-judged p q a.checks.book a.term a.checks.program_read a.question_read

  -- THE EVALUATOR'S CALL
  pub evaluate-barred : (steps levels : ℕ) (r : Report) → allowances steps levels 1000 ≡ false → r ≡ refusal_report 12 1 0 → r ≡ report_of (evaluate p q steps levels)
  unfolding evaluate report_of allowances
  evaluate-barred steps levels r h e =
      e ∙ sym (ap (λ (v : Verdict). report_of (evaluated steps levels v)) is-judged
      ∙ ap (λ (b : Bool). report_of (choose b (λ u. answer (evaluator (program_of a.checks.book) levels steps a.term)) (λ u. refusal 12 the_program 0))) h)

  pub evaluate-runs : (steps levels : ℕ) (r : Report) → (steps ≤ 1000000) × (1 ≤ levels) × (levels ≤ 1000)
      → r ≡ answer_report (evaluator (program_of a.checks.book) levels steps a.term) → r ≡ report_of (evaluate p q steps levels)
  unfolding evaluate report_of allowances
  evaluate-runs steps levels r h e =
      let within : allowances steps levels 1000 ≡ true = sym (by_most steps levels 1000 h.0 h.1) ∙ le-leb levels 1000 h.2 in
      e ∙ sym (ap (λ (v : Verdict). report_of (evaluated steps levels v)) is-judged
      ∙ ap (λ (b : Bool). report_of (choose b (λ u. answer (evaluator (program_of a.checks.book) levels steps a.term)) (λ u. refusal 12 the_program 0))) within)

  -- THE REWRITER'S CALL
  module _ (steps room : ℕ) (own first second : List ℕ) where
    abbrev on_slices : Bool → Rewritten
    on_slices b =
        choose b (λ u. performed (program_of a.checks.book) a.term steps room own first second) (λ u. unchanged (refusal 13 the_program 0) own first second)

    abbrev long_enough : Bool
    long_enough = slices_long_enough (program_of a.checks.book) room own first second

    by-allowance : (b : Bool) → allowances steps room 4096 ≡ b
        → rewrite p q steps room own first second ≡ choose b (λ u. on_slices long_enough) (λ u. unchanged (refusal 12 the_program 0) own first second)
    unfolding rewrite allowances
    by-allowance b h =
        ap (rewritten_by steps room own first second) is-judged
        ∙ ap (λ (x : Bool). choose x (λ u. on_slices long_enough) (λ u. unchanged (refusal 12 the_program 0) own first second)) h

    leaves-unchanged : (n : ℕ) (r : Report) → rewrite p q steps room own first second ≡ unchanged (refusal n the_program 0) own first second → r ≡ refusal_report n 1 0
        → Leaves (rewrite p q steps room own first second) r own first second
    unfolding report_of
    leaves-unchanged n r w e =
        record {
          report = e ∙ sym (ap (λ (x : Rewritten). report_of x.reply) w);
          own_is = sym (ap (λ (x : Rewritten). x.own) w);
          first_buffer = sym (ap (λ (x : Rewritten). x.first) w);
          second_buffer = sym (ap (λ (x : Rewritten). x.second) w);
        }

    pub rewrite-barred : (r : Report) → allowances steps room 4096 ≡ false → r ≡ refusal_report 12 1 0 → Leaves (rewrite p q steps room own first second) r own first second
    rewrite-barred r h e = leaves-unchanged 12 r (by-allowance false h) e

    rewrite-short : (r : Report) → allowances steps room 4096 ≡ true → long_enough ≡ false → r ≡ refusal_report 13 1 0
        → Leaves (rewrite p q steps room own first second) r own first second
    rewrite-short r h k e = leaves-unchanged 13 r (by-allowance true h ∙ ap on_slices k) e

    rewrite-runs : (r : Report) (own' first' second' : List ℕ) → allowances steps room 4096 ≡ true → long_enough ≡ true
        → own' ≡ over (own_words a.checks.book) own → Runs a steps room first second r first' second' → Leaves (rewrite p q steps room own first second) r own' first' second'
    unfolding report_of own_words
    rewrite-runs r own' first' second' h k eo run =
        let w = by-allowance true h ∙ ap on_slices k in
        record {
          report = run.report ∙ sym (ap (λ (x : Rewritten). report_of x.reply) w);
          own_is = eo ∙ sym (ap (λ (x : Rewritten). x.own) w);
          first_buffer = run.first_buffer ∙ sym (ap (λ (x : Rewritten). x.first) w);
          second_buffer = run.second_buffer ∙ sym (ap (λ (x : Rewritten). x.second) w);
        }

    -- the three ways in which a lent slice is too short
    long_enough-is : (x y z : Bool) → leb (length (own_words a.checks.book)) (length own) ≡ x → leb room (length first) ≡ y → leb room (length second) ≡ z → long_enough ≡ x && (y && z)
    unfolding own_words
    long_enough-is x y z ex ey ez = ap₂ ◌&&◌ ex (ap₂ ◌&&◌ ey ez)

    -- within the allowances, and with two buffers that are long enough
    abbrev Held : Type 0
    Held = (steps ≤ 1000000) × (1 ≤ room) × (room ≤ 4096) × (room ≤ length first) × (room ≤ length second)

    held-allowed : Held → allowances steps room 4096 ≡ true
    held-allowed h = sym (by_most steps room 4096 h.0 h.1) ∙ le-leb room 4096 h.2

    -- refusals 12 and 13: the own list is not asked for where a buffer is too short
    pub rewrite-limited : (r : Report) → Err r ≡ limit_of steps room (length first) (length second) → Leaves (rewrite p q steps room own first second) r own first second
    unfolding limit_of buffers_hold
    rewrite-limited r w = go (allowances steps room 4096) refl (buffers_hold room (length first) (length second)) refl w
      where
        go : (x : Bool) → allowances steps room 4096 ≡ x → (y : Bool) → buffers_hold room (length first) (length second) ≡ y
            → ◌≡◌ {A = Result (Unit {0}) Report} (Err r) (pick x (pick y (Ok tt) (Err (refusal_report 13 1 0))) (Err (refusal_report 12 1 0))) → Leaves (rewrite p q steps room own first second) r own first second
        go false ex y ey k = rewrite-barred r ex cc
        go true ex false ey k =
            rewrite-short r ex (long_enough-is _ _ _ refl refl refl ∙ ap (λ (b : Bool). leb (length (own_words a.checks.book)) (length own) && b) ey ∙ never (leb (length (own_words a.checks.book)) (length own))) cc
        go true ex true ey k = cc

    pub rewrite-own-short : (r : Report) (own' : List ℕ) → Held → length own < length (own_words a.checks.book) → own' ≡ own → r ≡ refusal_report 13 1 0
        → Leaves (rewrite p q steps room own first second) r own' first second
    rewrite-own-short r own' h k eo e =
        subst (λ (x : List ℕ). Leaves (rewrite p q steps room own first second) r x first second) (sym eo)
        (rewrite-short r (held-allowed h) (long_enough-is false _ _ (lt-leb (length (own_words a.checks.book)) (length own) k) refl refl) e)

    pub rewrite-listed-runs : (r : Report) (own' first' second' : List ℕ) → Held → length (own_words a.checks.book) ≤ length own
        → own' ≡ over (own_words a.checks.book) own → Runs a steps room first second r first' second' → Leaves (rewrite p q steps room own first second) r own' first' second'
    rewrite-listed-runs r own' first' second' h k eo run =
        rewrite-runs r own' first' second' (held-allowed h)
        (long_enough-is true true true (le-leb (length (own_words a.checks.book)) (length own) k) (le-leb room (length first) h.3) (le-leb room (length second) h.4)) eo run
