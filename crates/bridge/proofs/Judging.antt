-- The checker's answers give refusals 1 to 11 and 17; and where there is none, program and question are accepted.
use Prim.Native.Nat.{ℕ, ◌<◌}
use mathlib.Core.Path.{◌≡◌, refl, sym, ap, ap₂, ◌∙◌}
use mathlib.Core.List.{List}
use native.Mathlib.Omega.{arith}
use lib.ListN.{take, drop}
use Rattle.std.specs.Prelude.{Ok, Err}
use Rattle.theory.specs.Syntax.{Term}
use Rattle.theory.specs.Bytes.{Result, refused, good, Refusal, Declared, Book, read_program, read_question}
use Rattle.theory.specs.Answers.{the_program, the_question, Verdict, refuses, accepts, on_question, on_program, judged}
use Rattle.theory.proofs.Refused.{program-refusal-bounded}
use Rattle.theory.proofs.Refused as refusals
use Rattle.checker.specs.declared.Checked.{Checked}
use Rattle.checker.specs.declared.refusal.Refusal as checker
use Rattle.checker.specs.Refusal.{number_of}
use Rattle.checker.specs.Answer.{checked_as, checked_of, declared, verdict_of}
use Rattle.checker.proofs.Callers.{program_read, program_refused, question_read, question_refused, arities-lent}
use Rattle.bridge.specs.declared.report.Report.{Report}
use Rattle.bridge.specs.Report.{refusal_report}
use Rattle.bridge.specs.Judged.{judged_of, judged_as}
use Rattle.bridge.specs.Accepted.{Accepts}

-- what is judged, by what is read
module _ (p q : List ℕ) where
  program-judged : (r : Refusal) → read_program p ≡ refused r → judged p q ≡ refuses r.number the_program r.place
  unfolding judged
  program-judged r e = ap (λ (x : Result Book). on_program x q) e

  question-judged : (s : Book) (r : Refusal) → read_program p ≡ good s → read_question s.decls q ≡ refused r → judged p q ≡ refuses r.number the_question r.place
  unfolding judged
  question-judged s r e f = ap (λ (x : Result Book). on_program x q) e ∙ ap (on_question s) f

  pub both-judged : (s : Book) (t : Term) → read_program p ≡ good s → read_question s.decls q ≡ good t → judged p q ≡ accepts s t
  unfolding judged
  both-judged s t e f = ap (λ (x : Result Book). on_program x q) e ∙ ap (on_question s) f

-- THE PROGRAM'S REFUSAL
module _ (p : List ℕ) (x : checker.Refusal) (e : Err x ≡ checked_of (read_program p)) where
  pub program-place : x.place < 4294967296
  program-place = let b = program_refused p x e in omega (arith, program-refusal-bounded p b.0 b.1.0, b.1.1.place)

  pub program-refused : (q : List ℕ) (r : Report) → r ≡ refusal_report (number_of x.reason) 1 x.place → Err r ≡ judged_as p q
  unfolding judged_as
  program-refused q r er =
      let b = program_refused p x e in
      ap Err (er ∙ ap₂ (λ (i j : ℕ). refusal_report i 1 j) b.1.1.number b.1.1.place) ∙ sym (ap judged_of (program-judged p q b.0 b.1.0))

-- an accepted program's declarations are those that are lent
module _ (p : List ℕ) (c : Checked) (e : Ok c ≡ checked_of (read_program p)) (ns : List ℕ) (en : ns ≡ take c.functions (drop 16 c.arities)) where
  abbrev lent : Declared
  lent = declared c.exceptions ns

  read : (s : Book) × ((read_program p ≡ good s) × (c ≡ checked_as s))
  unfolding checked_of
  read = let b = program_read p c e in (b.0, (b.1.0, cc (b.1.1)))

  declared-is : lent ≡ read.0.decls
  declared-is =
      let s = read.0 in
      ap (declared c.exceptions) en ∙ ap (λ (x : Checked). declared x.exceptions (take x.functions (drop 16 x.arities))) read.1.1
      ∙ ap (λ (ns : List ℕ). declared s.decls.exceptions ns) (arities-lent p s read.1.0)

  -- THE QUESTION'S REFUSAL
  module _ (q : List ℕ) where
    module _ (x : checker.Refusal) (ex : Err x ≡ verdict_of (read_question lent q)) where
      refused-there : (r : Refusal) × (read_question read.0.decls q ≡ refused r)
      refused-there = let b = question_refused c.exceptions ns q x ex in (b.0, sym (ap (λ (D : Declared). read_question D q) declared-is) ∙ b.1.0)

      pub question-place : x.place < 4294967296
      question-place =
          let b = question_refused c.exceptions ns q x ex in
          omega (arith, (refusals.question-refused lent q b.0 b.1.0).in_words, b.1.1.place)

      pub question-refused : (r : Report) → r ≡ refusal_report (number_of x.reason) 2 x.place → Err r ≡ judged_as p q
      unfolding judged_as refused-there
      question-refused r er =
          let b = question_refused c.exceptions ns q x ex in
          ap Err (er ∙ ap₂ (λ (i j : ℕ). refusal_report i 2 j) b.1.1.number b.1.1.place)
          ∙ sym (ap judged_of (question-judged p q read.0 b.0 read.1.0 refused-there.1))

    -- WHERE THERE IS NONE
    pub both-accepted : Ok tt ≡ verdict_of (read_question lent q) → Ok c ≡ judged_as p q
    unfolding judged_as
    both-accepted h =
        let t = question_read c.exceptions ns q h in
        ap Ok read.1.1 ∙ sym (ap judged_of (both-judged p q read.0 t.0 read.1.0 (sym (ap (λ (D : Declared). read_question D q) declared-is) ∙ t.1)))

pub accepted : (p q : List ℕ) (c : Checked) → Ok c ≡ judged_as p q → Accepts p q c
unfolding judged_as
accepted p q c e = by-program (read_program p) refl
  where
    told : (v : Verdict) → judged p q ≡ v → Ok c ≡ judged_of v
    told v h = e ∙ ap judged_of h

    by-question : (s : Book) → read_program p ≡ good s → (x : Result Term) → read_question s.decls q ≡ x → Accepts p q c
    by-question s k (refused r) h = let z = told _ (question-judged p q s r k h) in cc
    by-question s k (good t) h =
        let z = told _ (both-judged p q s t k h) in
        record { checks = record { book = s; program_read = k; answer = cc }; term = t; question_read = h }

    by-program : (x : Result Book) → read_program p ≡ x → Accepts p q c
    by-program (refused r) h = let z = told _ (program-judged p q r h) in cc
    by-program (good s) h = by-question s h (read_question s.decls q) refl
