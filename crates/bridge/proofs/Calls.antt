-- THE CALLS' OWN REPORTS: each call answers, and refuses, exactly when it should; a refusal changes no lent word; larger allowances change
-- nothing; both engines report the same; and each call's statement leaves one result.
use Prim.Native.Nat.{ℕ, ◌≤◌}
use mathlib.Core.Path.{◌≡◌, refl, sym, ap, ◌∙◌, subst}
use mathlib.Core.Logic.{◌↔◌, ◌≢◌, ◌⊎◌, inl, inr}
use mathlib.Core.List.{List}
use native.Mathlib.Omega.{arith}
use Rattle.theory.specs.Endings.{is, too_deep, too_big, Answer}
use Rattle.theory.specs.Answers.{About, the_program, Reply, refusal, answer, evaluate, Rewritten, rewrite}
use Rattle.theory.specs.Bytes.{good, Book, read_program}
use Rattle.theory.specs.Demands.{Accepted, RefusedByReading, OfReading, EvaluateInRange, RewriteInRange, LongEnough}
use Rattle.theory.proofs.AnsweredExactly.{reading-number, not-thirteen, evaluate-answers-exactly, evaluate-refuses-12-exactly, evaluate-refuses-as-read-exactly, evaluate-refuses, rewrite-answers-exactly, rewrite-refuses-12-exactly, rewrite-refuses-13-exactly, rewrite-refuses-as-read-exactly, rewrite-refuses, refusal-changes-nothing, larger-allowances-evaluate, larger-allowances-rewrite, both-answer-the-same}
use Rattle.bridge.specs.declared.report.Report.{Report}
use Rattle.bridge.specs.Report.{about_number, refusal_report, report_of}
use Rattle.bridge.specs.Calls.{Leaves}
use Rattle.bridge.specs.Demanded.{IsRefusal, IsAnswer, Refuses, Answers}
use Rattle.bridge.proofs.Reports.{same-reply, not-zero, answer-report, ending-final, ending-deep, ending-big, Why, is-either, refused-so, answered-so, reply-answers, reply-refuses}

-- THE EVALUATOR'S REPORT
module _ (p q : List ℕ) (steps levels : ℕ) (r : Report) (e : r ≡ report_of (evaluate p q steps levels)) where
  evaluate-why : (n : ℕ) (a : About) (place : ℕ) → evaluate p q steps levels ≡ refusal n a place → Why p q n a place
  evaluate-why n a place k = by (evaluate-refuses p q steps levels n a place k)
    where
      by : RefusedByReading p q n a place ⊎ ((n ≡ 12) × (a ≡ the_program) × (place ≡ 0)) → Why p q n a place
      by (inl h) = inl h
      by (inr h) = inr (inl h.0, h.1, h.2)

  pub evaluate-reports : IsRefusal r ⊎ IsAnswer r
  evaluate-reports = is-either p q (evaluate p q steps levels) evaluate-why r e

  pub evaluate-report-refuses : (r.number ≢ 0) ⊎ (r.ending ≡ 0) → Refuses p q r
  evaluate-report-refuses = refused-so p q (evaluate p q steps levels) evaluate-why r e

  pub evaluate-report-answers : (r.number ≡ 0) ⊎ (1 ≤ r.ending) → Answers r
  evaluate-report-answers = answered-so p q (evaluate p q steps levels) evaluate-why r e

  evaluate-replies : (r.number ≡ 0) ⊎ (1 ≤ r.ending) → (a : Answer) × (evaluate p q steps levels ≡ answer a)
  evaluate-replies = reply-answers p q (evaluate p q steps levels) evaluate-why r e

  -- number 0, and an ending, exactly when program and question are accepted and the allowances are in range
  pub evaluate-report-answers-exactly : ((r.number ≡ 0) ↔ (Accepted p q × EvaluateInRange steps levels)) × ((1 ≤ r.ending) ↔ (Accepted p q × EvaluateInRange steps levels))
  evaluate-report-answers-exactly =
      ((λ k. only (inl k), λ h. (back h).0), (λ k. only (inr k), λ h. (back h).1))
    where
      only : (r.number ≡ 0) ⊎ (1 ≤ r.ending) → Accepted p q × EvaluateInRange steps levels
      only k = (evaluate-answers-exactly p q steps levels).0 (evaluate-replies k)

      back : Accepted p q × EvaluateInRange steps levels → IsAnswer r
      back h =
          let a = (evaluate-answers-exactly p q steps levels).1 h in
          subst IsAnswer (sym (e ∙ ap report_of a.1)) (answer-report a.0).is_answer

  -- 12, about the program and at place 0, exactly when they are accepted and an allowance is out of range; never 13
  pub evaluate-report-12-exactly : ((r.number ≡ 12) ↔ (Accepted p q × (EvaluateInRange steps levels → ⊥)))
      × ((r ≡ refusal_report 12 1 0) ↔ (Accepted p q × (EvaluateInRange steps levels → ⊥)))
  unfolding report_of refusal_report
  evaluate-report-12-exactly =
      ((only, λ h. ap (λ (x : Report). x.number) (back h)), (λ k. only (ap (λ (x : Report). x.number) k), back))
    where
      only : r.number ≡ 12 → Accepted p q × (EvaluateInRange steps levels → ⊥)
      only k =
          let w = reply-refuses p q (evaluate p q steps levels) evaluate-why r e 12 (omega arith) k in
          let h = (evaluate-refuses-12-exactly p q steps levels w.0 w.1).0 w.2 in
          (h.2, h.3)

      back : Accepted p q × (EvaluateInRange steps levels → ⊥) → r ≡ report_of (refusal 12 the_program 0)
      back h = e ∙ ap report_of ((evaluate-refuses-12-exactly p q steps levels the_program 0).1 (refl, refl, h.0, h.1))

  pub evaluate-report-never-13 : r.number ≢ 13
  evaluate-report-never-13 k =
      let w = reply-refuses p q (evaluate p q steps levels) evaluate-why r e 13 (omega arith) k in
      by 13 w.0 w.1 refl (evaluate-refuses p q steps levels 13 w.0 w.1 w.2)
    where
      by : (n : ℕ) (a : About) (place : ℕ) → n ≡ 13 → RefusedByReading p q n a place ⊎ ((n ≡ 12) × (a ≡ the_program) × (place ≡ 0)) → ⊥
      by n a place i (inl h) = not-thirteen (subst OfReading i (reading-number p q n a place h))
      by n a place i (inr h) = let j = h.0 in omega (arith, i, j)

  -- any other refusal exactly where it is the reading's
  pub evaluate-report-as-read-exactly : (n : ℕ) (a : About) (place : ℕ) → n ≢ 12 → (r ≡ refusal_report n (about_number a) place) ↔ RefusedByReading p q n a place
  unfolding report_of
  evaluate-report-as-read-exactly n a place d =
      let h = evaluate-refuses-as-read-exactly p q steps levels n a place d in
      (λ k. h.0 (same-reply (evaluate p q steps levels) (refusal n a place) (sym e ∙ k)), λ k. e ∙ ap report_of (h.1 k))

-- THE REWRITER'S REPORT, and the three slices afterwards
pub rewrite-reports : (p q : List ℕ) (steps room : ℕ) (own first second : List ℕ) (r : Report) → r ≡ report_of (rewrite p q steps room own first second).reply → IsRefusal r ⊎ IsAnswer r
rewrite-reports p q steps room own first second r e = is-either p q (rewrite p q steps room own first second).reply (rewrite-refuses p q steps room own first second) r e

module _ (p q : List ℕ) (steps room : ℕ) (own first second : List ℕ) (r : Report) (own' first' second' : List ℕ)
    (l : Leaves (rewrite p q steps room own first second) r own' first' second') where
  abbrev reply : Reply
  reply = (rewrite p q steps room own first second).reply

  -- "and no lent word changes"
  pub rewrite-report-refuses : (r.number ≢ 0) ⊎ (r.ending ≡ 0) → Refuses p q r × (own' ≡ own) × (first' ≡ first) × (second' ≡ second)
  rewrite-report-refuses k =
      let f = refused-so p q reply (rewrite-refuses p q steps room own first second) r l.report k in
      let low = not-zero r.number f.is_refusal.0 in
      let w = reply-refuses p q reply (rewrite-refuses p q steps room own first second) r l.report r.number low refl in
      let h = refusal-changes-nothing p q steps room own first second r.number w.0 w.1 w.2 in
      (f, l.own_is ∙ ap (λ (x : Rewritten). x.own) h, l.first_buffer ∙ ap (λ (x : Rewritten). x.first) h, l.second_buffer ∙ ap (λ (x : Rewritten). x.second) h)

  pub rewrite-report-answers : (r.number ≡ 0) ⊎ (1 ≤ r.ending) → Answers r
  rewrite-report-answers = answered-so p q reply (rewrite-refuses p q steps room own first second) r l.report

  rewrite-replies : (r.number ≡ 0) ⊎ (1 ≤ r.ending) → (a : Answer) × (reply ≡ answer a)
  rewrite-replies = reply-answers p q reply (rewrite-refuses p q steps room own first second) r l.report

  -- number 0, and an ending, exactly when they are accepted, the allowances are in range and the slices long enough
  pub rewrite-report-answers-exactly : ((r.number ≡ 0) ↔ ((x : Accepted p q) × RewriteInRange steps room × LongEnough x.book room own first second))
      × ((1 ≤ r.ending) ↔ ((x : Accepted p q) × RewriteInRange steps room × LongEnough x.book room own first second))
  rewrite-report-answers-exactly =
      ((λ k. only (inl k), λ h. (back h).0), (λ k. only (inr k), λ h. (back h).1))
    where
      only : (r.number ≡ 0) ⊎ (1 ≤ r.ending) → (x : Accepted p q) × RewriteInRange steps room × LongEnough x.book room own first second
      only k = (rewrite-answers-exactly p q steps room own first second).0 (rewrite-replies k)

      back : (x : Accepted p q) × RewriteInRange steps room × LongEnough x.book room own first second → IsAnswer r
      back h =
          let a = (rewrite-answers-exactly p q steps room own first second).1 h in
          subst IsAnswer (sym (l.report ∙ ap report_of a.1)) (answer-report a.0).is_answer

  -- 12 exactly when an allowance is out of range; 13 exactly when they are in range and a slice is too short; each about the program, at place 0
  pub rewrite-report-12-exactly : ((r.number ≡ 12) ↔ (Accepted p q × (RewriteInRange steps room → ⊥)))
      × ((r ≡ refusal_report 12 1 0) ↔ (Accepted p q × (RewriteInRange steps room → ⊥)))
  unfolding report_of refusal_report
  rewrite-report-12-exactly =
      ((only, λ h. ap (λ (x : Report). x.number) (back h)), (λ k. only (ap (λ (x : Report). x.number) k), back))
    where
      only : r.number ≡ 12 → Accepted p q × (RewriteInRange steps room → ⊥)
      only k =
          let w = reply-refuses p q reply (rewrite-refuses p q steps room own first second) r l.report 12 (omega arith) k in
          let h = (rewrite-refuses-12-exactly p q steps room own first second w.0 w.1).0 w.2 in
          (h.2, h.3)

      back : Accepted p q × (RewriteInRange steps room → ⊥) → r ≡ report_of (refusal 12 the_program 0)
      back h = l.report ∙ ap report_of ((rewrite-refuses-12-exactly p q steps room own first second the_program 0).1 (refl, refl, h.0, h.1))

  pub rewrite-report-13-exactly : ((r.number ≡ 13) ↔ ((x : Accepted p q) × RewriteInRange steps room × (LongEnough x.book room own first second → ⊥)))
      × ((r ≡ refusal_report 13 1 0) ↔ ((x : Accepted p q) × RewriteInRange steps room × (LongEnough x.book room own first second → ⊥)))
  unfolding report_of refusal_report
  rewrite-report-13-exactly =
      ((only, λ h. ap (λ (x : Report). x.number) (back h)), (λ k. only (ap (λ (x : Report). x.number) k), back))
    where
      only : r.number ≡ 13 → (x : Accepted p q) × RewriteInRange steps room × (LongEnough x.book room own first second → ⊥)
      only k =
          let w = reply-refuses p q reply (rewrite-refuses p q steps room own first second) r l.report 13 (omega arith) k in
          ((rewrite-refuses-13-exactly p q steps room own first second w.0 w.1).0 w.2).2

      back : (x : Accepted p q) × RewriteInRange steps room × (LongEnough x.book room own first second → ⊥) → r ≡ report_of (refusal 13 the_program 0)
      back h = l.report ∙ ap report_of ((rewrite-refuses-13-exactly p q steps room own first second the_program 0).1 (refl, refl, h))

  pub rewrite-report-as-read-exactly : (n : ℕ) (a : About) (place : ℕ) → n ≢ 12 → n ≢ 13 → (r ≡ refusal_report n (about_number a) place) ↔ RefusedByReading p q n a place
  unfolding report_of
  rewrite-report-as-read-exactly n a place d f =
      let h = rewrite-refuses-as-read-exactly p q steps room own first second n a place d f in
      (λ k. h.0 (same-reply reply (refusal n a place) (sym l.report ∙ k)), λ k. l.report ∙ ap report_of (h.1 k))

-- LARGER ALLOWANCES: a first report of value, exception or stuck; no allowance of the second call is smaller, each is in range, its slices are
-- long enough; then its report is equal to the first.
pub larger-allowances-evaluate-report : (p q : List ℕ) (steps steps' levels levels' : ℕ) (x y : Report)
    → x ≡ report_of (evaluate p q steps levels) → y ≡ report_of (evaluate p q steps' levels') → 1 ≤ x.ending → x.ending ≤ 3
    → steps ≤ steps' → levels ≤ levels' → EvaluateInRange steps' levels' → y ≡ x
larger-allowances-evaluate-report p q steps steps' levels levels' x y ex ey low final hs hl range =
    let a = evaluate-replies p q steps levels x ex (inr low) in
    let f = ending-final a.0 (subst (λ (z : Report). z.ending ≤ 3) (ex ∙ ap report_of a.1) final) in
    ey ∙ ap report_of (larger-allowances-evaluate p q steps steps' levels levels' a.0 a.1 f hs range.0 hl range.2 ∙ sym a.1) ∙ sym ex

pub larger-allowances-rewrite-report : (p q : List ℕ) (steps steps' room room' : ℕ) (own first second own' first' second' : List ℕ) (x y : Report)
    (own₁ first₁ second₁ own₂ first₂ second₂ : List ℕ) (s : Book)
    → Leaves (rewrite p q steps room own first second) x own₁ first₁ second₁ → Leaves (rewrite p q steps' room' own' first' second') y own₂ first₂ second₂
    → 1 ≤ x.ending → x.ending ≤ 3 → steps ≤ steps' → room ≤ room' → RewriteInRange steps' room' → read_program p ≡ good s → LongEnough s room' own' first' second' → y ≡ x
larger-allowances-rewrite-report p q steps steps' room room' own first second own' first' second' x y own₁ first₁ second₁ own₂ first₂ second₂ s lx ly low final hs hr range ep long =
    let a = rewrite-replies p q steps room own first second x own₁ first₁ second₁ lx (inr low) in
    let f = ending-final a.0 (subst (λ (z : Report). z.ending ≤ 3) (lx.report ∙ ap report_of a.1) final) in
    ly.report
    ∙ ap report_of (larger-allowances-rewrite p q steps steps' room room' own first second own' first' second' a.0 s a.1 f hs range.0 hr range.2 ep long ∙ sym a.1)
    ∙ sym lx.report

-- DEMAND 3: accepted, in range and long enough; then both calls answer, and unless the evaluator is too deep or the rewriter too big the two
-- reports are equal.
pub reports-agree : (p q : List ℕ) (steps levels room : ℕ) (own first second : List ℕ) (x y : Report) (own' first' second' : List ℕ)
    → x ≡ report_of (evaluate p q steps levels) → Leaves (rewrite p q steps room own first second) y own' first' second'
    → (z : Accepted p q) → EvaluateInRange steps levels → RewriteInRange steps room → LongEnough z.book room own first second
    → IsAnswer x × IsAnswer y × (x.ending ≢ 5 → y.ending ≢ 6 → y ≡ x)
reports-agree p q steps levels room own first second x y own' first' second' ex ly z he hr long =
    let h = both-answer-the-same p q steps levels room own first second z he hr long in
    by h.0 h.1 (ex ∙ ap report_of h.2) (ly.report ∙ ap report_of h.3) h.4
  where
    by : (a b : Answer) → x ≡ report_of (answer a) → y ≡ report_of (answer b) → (a.said ≢ is too_deep → b.said ≢ too_big → b ≡ a)
        → IsAnswer x × IsAnswer y × (x.ending ≢ 5 → y.ending ≢ 6 → y ≡ x)
    by a b ea eb same = (
      subst IsAnswer (sym ea) (answer-report a).is_answer,
      subst IsAnswer (sym eb) (answer-report b).is_answer,
      λ deep big. eb ∙ ap (λ (c : Answer). report_of (answer c)) (same (λ k. deep (ap (λ (r : Report). r.ending) ea ∙ ending-deep a k)) (λ k. big (ap (λ (r : Report). r.ending) eb ∙ ending-big b k))) ∙ sym ea,
    )

-- ONE RESULT: two that satisfy a call's statement are equal.
pub evaluate-once : (p q : List ℕ) (steps levels : ℕ) (x y : Report) → x ≡ report_of (evaluate p q steps levels) → y ≡ report_of (evaluate p q steps levels) → x ≡ y
evaluate-once p q steps levels x y ex ey = ex ∙ sym ey

pub rewrite-once : (w : Rewritten) (x y : Report) (own first second own' first' second' : List ℕ) → Leaves w x own first second → Leaves w y own' first' second'
    → (x ≡ y) × (own ≡ own') × (first ≡ first') × (second ≡ second')
rewrite-once w x y own first second own' first' second' h k =
    (h.report ∙ sym k.report, h.own_is ∙ sym k.own_is, h.first_buffer ∙ sym k.first_buffer, h.second_buffer ∙ sym k.second_buffer)
