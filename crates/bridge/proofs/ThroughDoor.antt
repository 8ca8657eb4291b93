-- THE CALLS THROUGH THE DOOR: what stands in the report's words afterwards. Where the report has fewer than 7 words nothing at all changes; else
-- its first 7 words are the call's report, to which all that is shown of reports applies, and the words past them are as they were.
use Prim.Native.Nat.{ℕ, ◌≤◌, ◌<◌}
use mathlib.Core.Path.{◌≡◌, refl, sym, ap, ◌∙◌}
use mathlib.Core.Logic.{◌↔◌, ◌≢◌, ◌⊎◌, inl, inr}
use mathlib.Core.Bool.{Bool, true, false}
use mathlib.Core.List.{List}
use lib.Dec.{leb}
use lib.ListN.{length, get_or, take, drop}
use borrow.Author.Tests.{leb-true, leb-false, le-leb}
use Rattle.theory.specs.Syntax.{pick}
use Rattle.theory.specs.Buffers.{over}
use Rattle.theory.specs.Bytes.{good, Book, read_program}
use Rattle.theory.specs.Answers.{About, Reply, evaluate, Rewritten, rewrite}
use Rattle.theory.specs.Demands.{Accepted, RefusedByReading, EvaluateInRange, RewriteInRange, LongEnough}
use Rattle.bridge.specs.declared.report.Report.{Report}
use Rattle.bridge.specs.Report.{about_number, refusal_report, report_of, report_words}
use Rattle.bridge.specs.Calls.{told, Leaves, Opens}
use Rattle.bridge.specs.Demanded.{IsAnswer, Refuses, Answers, report_in, Told}
use Rattle.words.proofs.Writes.{over-is}
use Rattle.bridge.proofs.Telling.{told_short, opened-long, opened-short}
use Rattle.bridge.proofs.Calls.{evaluate-report-refuses, evaluate-report-answers, evaluate-report-answers-exactly, evaluate-report-12-exactly, evaluate-report-never-13, evaluate-report-as-read-exactly, rewrite-report-refuses, rewrite-report-answers, rewrite-report-answers-exactly, rewrite-report-12-exactly, rewrite-report-13-exactly, rewrite-report-as-read-exactly, larger-allowances-evaluate-report, larger-allowances-rewrite-report, reports-agree}

-- THE REPORT'S WORDS
seven-words : (r : Report) (d : List ℕ) → 7 ≤ length d
    → (take 7 (over (report_words r) d) ≡ report_words r) × (report_in (over (report_words r) d) ≡ r) × (drop 7 (over (report_words r) d) ≡ drop 7 d)
unfolding report_words
seven-words r d h = let e = over-is (report_words r) d h in (ap (take 7) e, ap report_in e, ap (drop 7) e)

pub seven-words-told : (w : Reply) (d d' : List ℕ) → 7 ≤ length d → d' ≡ told w d → Told w d d'
unfolding told
seven-words-told w d d' h e =
    let k : d' ≡ over (report_words (report_of w)) d = e ∙ ap (λ (b : Bool). pick b (over (report_words (report_of w)) d) d) (le-leb 7 (length d) h) in
    let s = seven-words (report_of w) d h in
    record { words_are = ap (take 7) k ∙ s.0; read_back = ap report_in k ∙ s.1; past_them = ap (drop 7) k ∙ s.2 }

pub short-report-untouched : (w : Reply) (d d' : List ℕ) → length d < 7 → d' ≡ told w d → d' ≡ d
short-report-untouched w d d' h e = e ∙ sym (told_short w d h)

-- THE FOUR SLICES of the rewriter's call
module _ (w : Rewritten) (own first second d own' first' second' d' : List ℕ) (o : Opens w own first second d own' first' second' d') where
  pub short-report-changes-nothing : length d < 7 → (own' ≡ own) × (first' ≡ first) × (second' ≡ second) × (d' ≡ d)
  short-report-changes-nothing h = (
    o.own_is ∙ sym (opened-short d own w.own h),
    o.first_buffer ∙ sym (opened-short d first w.first h),
    o.second_buffer ∙ sym (opened-short d second w.second h),
    short-report-untouched w.reply d d' h o.told_report,
  )

  -- else the words are the call's report, and the slices are what the call leaves
  pub door-leaves : 7 ≤ length d → Told w.reply d d' × Leaves w (report_in d') own' first' second'
  door-leaves h =
      let t = seven-words-told w.reply d d' h o.told_report in (
        t,
        record {
          report = t.read_back;
          own_is = o.own_is ∙ sym (opened-long d own w.own h);
          first_buffer = o.first_buffer ∙ sym (opened-long d first w.first h);
          second_buffer = o.second_buffer ∙ sym (opened-long d second w.second h);
        },
      )

-- THE EVALUATOR'S CALL
module _ (p q : List ℕ) (steps levels : ℕ) (d d' : List ℕ) (long : 7 ≤ length d) (e : d' ≡ told (evaluate p q steps levels) d) where
  evaluate-read-back : report_in d' ≡ report_of (evaluate p q steps levels)
  evaluate-read-back = (seven-words-told (evaluate p q steps levels) d d' long e).read_back

  pub puffinest-evaluate-refuses : ((report_in d').number ≢ 0) ⊎ ((report_in d').ending ≡ 0) → Refuses p q (report_in d')
  puffinest-evaluate-refuses = evaluate-report-refuses p q steps levels (report_in d') evaluate-read-back

  pub puffinest-evaluate-answers : ((report_in d').number ≡ 0) ⊎ (1 ≤ (report_in d').ending) → Answers (report_in d')
  puffinest-evaluate-answers = evaluate-report-answers p q steps levels (report_in d') evaluate-read-back

  pub puffinest-evaluate-answers-exactly : (((report_in d').number ≡ 0) ↔ (Accepted p q × EvaluateInRange steps levels))
      × ((1 ≤ (report_in d').ending) ↔ (Accepted p q × EvaluateInRange steps levels))
  puffinest-evaluate-answers-exactly = evaluate-report-answers-exactly p q steps levels (report_in d') evaluate-read-back

  pub puffinest-evaluate-12-exactly : (((report_in d').number ≡ 12) ↔ (Accepted p q × (EvaluateInRange steps levels → ⊥)))
      × ((report_in d' ≡ refusal_report 12 1 0) ↔ (Accepted p q × (EvaluateInRange steps levels → ⊥)))
  puffinest-evaluate-12-exactly = evaluate-report-12-exactly p q steps levels (report_in d') evaluate-read-back

  pub puffinest-evaluate-never-13 : (report_in d').number ≢ 13
  puffinest-evaluate-never-13 = evaluate-report-never-13 p q steps levels (report_in d') evaluate-read-back

  pub puffinest-evaluate-as-read-exactly : (n : ℕ) (a : About) (place : ℕ) → n ≢ 12
      → (report_in d' ≡ refusal_report n (about_number a) place) ↔ RefusedByReading p q n a place
  puffinest-evaluate-as-read-exactly = evaluate-report-as-read-exactly p q steps levels (report_in d') evaluate-read-back

-- THE REWRITER'S CALL
module _ (p q : List ℕ) (steps room : ℕ) (own first second d own' first' second' d' : List ℕ)
    (o : Opens (rewrite p q steps room own first second) own first second d own' first' second' d') where
  rewrite-leaves : 7 ≤ length d → Leaves (rewrite p q steps room own first second) (report_in d') own' first' second'
  rewrite-leaves long = (door-leaves (rewrite p q steps room own first second) own first second d own' first' second' d' o long).1

  -- A REFUSAL CHANGES NO LENT WORD: where word 0 of the report is not 0, and wherever the report has fewer than 7 words
  pub puffinest-rewrite-refusal-keeps : (get_or d' 0 0 ≢ 0) ⊎ (length d < 7) → (own' ≡ own) × (first' ≡ first) × (second' ≡ second)
  puffinest-rewrite-refusal-keeps k = by (leb 7 (length d)) refl k
    where
      short : length d < 7 → (own' ≡ own) × (first' ≡ first) × (second' ≡ second)
      short h = let s = short-report-changes-nothing (rewrite p q steps room own first second) own first second d own' first' second' d' o h in (s.0, s.1, s.2)

      by : (b : Bool) → leb 7 (length d) ≡ b → (get_or d' 0 0 ≢ 0) ⊎ (length d < 7) → (own' ≡ own) × (first' ≡ first) × (second' ≡ second)
      by b e (inr h) = short h
      by true e (inl h) =
          let s = rewrite-report-refuses p q steps room own first second (report_in d') own' first' second' (rewrite-leaves (leb-true 7 (length d) e)) (inl h) in
          (s.1, s.2, s.3)
      by false e (inl h) = short (leb-false 7 (length d) e)

  pub puffinest-rewrite-refuses : 7 ≤ length d → ((report_in d').number ≢ 0) ⊎ ((report_in d').ending ≡ 0)
      → Refuses p q (report_in d') × (own' ≡ own) × (first' ≡ first) × (second' ≡ second)
  puffinest-rewrite-refuses long = rewrite-report-refuses p q steps room own first second (report_in d') own' first' second' (rewrite-leaves long)

  pub puffinest-rewrite-answers : 7 ≤ length d → ((report_in d').number ≡ 0) ⊎ (1 ≤ (report_in d').ending) → Answers (report_in d')
  puffinest-rewrite-answers long = rewrite-report-answers p q steps room own first second (report_in d') own' first' second' (rewrite-leaves long)

  pub puffinest-rewrite-answers-exactly : 7 ≤ length d
      → (((report_in d').number ≡ 0) ↔ ((x : Accepted p q) × RewriteInRange steps room × LongEnough x.book room own first second))
      × ((1 ≤ (report_in d').ending) ↔ ((x : Accepted p q) × RewriteInRange steps room × LongEnough x.book room own first second))
  puffinest-rewrite-answers-exactly long = rewrite-report-answers-exactly p q steps room own first second (report_in d') own' first' second' (rewrite-leaves long)

  pub puffinest-rewrite-12-exactly : 7 ≤ length d
      → (((report_in d').number ≡ 12) ↔ (Accepted p q × (RewriteInRange steps room → ⊥)))
      × ((report_in d' ≡ refusal_report 12 1 0) ↔ (Accepted p q × (RewriteInRange steps room → ⊥)))
  puffinest-rewrite-12-exactly long = rewrite-report-12-exactly p q steps room own first second (report_in d') own' first' second' (rewrite-leaves long)

  pub puffinest-rewrite-13-exactly : 7 ≤ length d
      → (((report_in d').number ≡ 13) ↔ ((x : Accepted p q) × RewriteInRange steps room × (LongEnough x.book room own first second → ⊥)))
      × ((report_in d' ≡ refusal_report 13 1 0) ↔ ((x : Accepted p q) × RewriteInRange steps room × (LongEnough x.book room own first second → ⊥)))
  puffinest-rewrite-13-exactly long = rewrite-report-13-exactly p q steps room own first second (report_in d') own' first' second' (rewrite-leaves long)

  pub puffinest-rewrite-as-read-exactly : 7 ≤ length d → (n : ℕ) (a : About) (place : ℕ) → n ≢ 12 → n ≢ 13
      → (report_in d' ≡ refusal_report n (about_number a) place) ↔ RefusedByReading p q n a place
  puffinest-rewrite-as-read-exactly long = rewrite-report-as-read-exactly p q steps room own first second (report_in d') own' first' second' (rewrite-leaves long)

-- LARGER ALLOWANCES, and DEMAND 3: the first seven words are equal
same-words : (v w : Reply) (c c' d d' : List ℕ) → Told v c c' → Told w d d' → report_in d' ≡ report_in c' → take 7 d' ≡ take 7 c'
same-words v w c c' d d' hc hd e = hd.words_are ∙ ap report_words (sym hd.read_back ∙ e ∙ hc.read_back) ∙ sym hc.words_are

pub larger-allowances-puffinest-evaluate : (p q : List ℕ) (steps steps' levels levels' : ℕ) (c c' d d' : List ℕ) → 7 ≤ length c → 7 ≤ length d
    → c' ≡ told (evaluate p q steps levels) c → d' ≡ told (evaluate p q steps' levels') d → 1 ≤ get_or c' 3 0 → get_or c' 3 0 ≤ 3
    → steps ≤ steps' → levels ≤ levels' → EvaluateInRange steps' levels' → take 7 d' ≡ take 7 c'
larger-allowances-puffinest-evaluate p q steps steps' levels levels' c c' d d' lc ld ec ed low final hs hl range =
    let tc = seven-words-told (evaluate p q steps levels) c c' lc ec in
    let td = seven-words-told (evaluate p q steps' levels') d d' ld ed in
    same-words (evaluate p q steps levels) (evaluate p q steps' levels') c c' d d' tc td
    (larger-allowances-evaluate-report p q steps steps' levels levels' (report_in c') (report_in d') tc.read_back td.read_back low final hs hl range)

pub larger-allowances-puffinest-rewrite : (p q : List ℕ) (steps steps' room room' : ℕ) (own first second own' first' second' c c' d d' : List ℕ)
    (own₁ first₁ second₁ own₂ first₂ second₂ : List ℕ) (s : Book) → 7 ≤ length c → 7 ≤ length d
    → Opens (rewrite p q steps room own first second) own first second c own₁ first₁ second₁ c'
    → Opens (rewrite p q steps' room' own' first' second') own' first' second' d own₂ first₂ second₂ d' → 1 ≤ get_or c' 3 0 → get_or c' 3 0 ≤ 3
    → steps ≤ steps' → room ≤ room' → RewriteInRange steps' room' → read_program p ≡ good s → LongEnough s room' own' first' second' → take 7 d' ≡ take 7 c'
larger-allowances-puffinest-rewrite p q steps steps' room room' own first second own' first' second' c c' d d' own₁ first₁ second₁ own₂ first₂ second₂ s lc ld oc od low final hs hr range ep long =
    let tc = door-leaves (rewrite p q steps room own first second) own first second c own₁ first₁ second₁ c' oc lc in
    let td = door-leaves (rewrite p q steps' room' own' first' second') own' first' second' d own₂ first₂ second₂ d' od ld in
    same-words (rewrite p q steps room own first second).reply (rewrite p q steps' room' own' first' second').reply c c' d d' tc.0 td.0
    (larger-allowances-rewrite-report p q steps steps' room room' own first second own' first' second' (report_in c') (report_in d') own₁ first₁ second₁ own₂ first₂ second₂ s tc.1 td.1 low final hs hr range ep long)

pub puffinest-calls-agree : (p q : List ℕ) (steps levels room : ℕ) (own first second c c' d own' first' second' d' : List ℕ) → 7 ≤ length c → 7 ≤ length d
    → c' ≡ told (evaluate p q steps levels) c → Opens (rewrite p q steps room own first second) own first second d own' first' second' d'
    → (z : Accepted p q) → EvaluateInRange steps levels → RewriteInRange steps room → LongEnough z.book room own first second
    → IsAnswer (report_in c') × IsAnswer (report_in d') × (get_or c' 3 0 ≢ 5 → get_or d' 3 0 ≢ 6 → take 7 d' ≡ take 7 c')
puffinest-calls-agree p q steps levels room own first second c c' d own' first' second' d' lc ld ec od z he hr long =
    let tc = seven-words-told (evaluate p q steps levels) c c' lc ec in
    let td = door-leaves (rewrite p q steps room own first second) own first second d own' first' second' d' od ld in
    let h = reports-agree p q steps levels room own first second (report_in c') (report_in d') own' first' second' tc.read_back td.1 z he hr long in
    (h.0, h.1, λ deep big. same-words (evaluate p q steps levels) (rewrite p q steps room own first second).reply c c' d d' tc td.0 (h.2 deep big))

-- ONE RESULT: two that satisfy a call's statement are equal.
pub puffinest-evaluate-once : (w : Reply) (d x y : List ℕ) → x ≡ told w d → y ≡ told w d → x ≡ y
puffinest-evaluate-once w d x y ex ey = ex ∙ sym ey

pub puffinest-rewrite-once : (w : Rewritten) (o f s d o₁ f₁ s₁ d₁ o₂ f₂ s₂ d₂ : List ℕ) → Opens w o f s d o₁ f₁ s₁ d₁ → Opens w o f s d o₂ f₂ s₂ d₂
    → (d₁ ≡ d₂) × (o₁ ≡ o₂) × (f₁ ≡ f₂) × (s₁ ≡ s₂)
puffinest-rewrite-once w o f s d o₁ f₁ s₁ d₁ o₂ f₂ s₂ d₂ h k =
    (h.told_report ∙ sym k.told_report, h.own_is ∙ sym k.own_is, h.first_buffer ∙ sym k.first_buffer, h.second_buffer ∙ sym k.second_buffer)
