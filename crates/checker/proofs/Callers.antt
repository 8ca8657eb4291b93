-- What a caller learns of an accepted program and of an accepted question.
use Prim.Native.Nat.{ℕ, zero, suc, ◌≤◌}
use mathlib.Core.Path.{◌≡◌, refl, sym, ap, ◌∙◌, subst}
use mathlib.Core.Logic.{inl, inr}
use mathlib.Core.List.{List, [], ◌∷◌}
use native.Mathlib.Omega.{arith}
use lib.ListN.{length, take, drop}
use Rattle.theory.specs.Syntax.{Term}
use Rattle.std.specs.Prelude.{Ok, Err}
use Rattle.theory.specs.Bytes.{refused, good, Book, rule_count, read_program, read_question}
use Rattle.theory.specs.Bytes
use Rattle.checker.specs.declared.Checked.{Checked}
use Rattle.checker.specs.declared.declarations.Stage.TheVariants.{End}
use Rattle.checker.specs.declared.refusal.Refusal.{Refusal}
use Rattle.checker.specs.Refusal.{number_of, reason_of, refusal_of}
use Rattle.checker.specs.Answer.{padded, table, checked_of, declared, verdict_of, SameNumber}
use Rattle.theory.specs.Bytes.{opened_at}
use Rattle.checker.specs.Declarations.{own_arities}
use Rattle.checker.specs.Program.{top_at}
use Rattle.checker.proofs.program.Theory.{own-are}
use Rattle.theory.proofs.ProgramRead.{count-length}
use Rattle.theory.proofs.AcceptedExactly.{accepted-exactly}
use Rattle.theory.specs.Demands.{OfReading}
use Rattle.theory.proofs.Refused.{program-refusal-number, question-refused}

-- A program is accepted exactly where the answer is Ok, and the answer then has its declarations.
pub program_read : (ws : List ℕ) (c : Checked) → Ok c ≡ checked_of (read_program ws) → (s : Book) × ((read_program ws ≡ good s) × (Ok c ≡ checked_of (good s)))
unfolding checked_of
program_read ws c e = by_answer (read_program ws) refl
  where
    by_answer : (r : Bytes.Result Book) → read_program ws ≡ r → (s : Book) × ((read_program ws ≡ good s) × (Ok c ≡ checked_of (good s)))
    by_answer (refused r) h = let i = e ∙ ap checked_of h in cc
    by_answer (good s) h = (s, (h, e ∙ ap checked_of h))

-- The same of a question.
pub question_read : (n : ℕ) (ns ws : List ℕ) → Ok tt ≡ verdict_of (read_question (declared n ns) ws) → (t : Term) × (read_question (declared n ns) ws ≡ good t)
question_read n ns ws e = by_answer (read_question (declared n ns) ws) refl
  where
    by_answer : (r : Bytes.Result Term) → read_question (declared n ns) ws ≡ r → (t : Term) × (read_question (declared n ns) ws ≡ good t)
    by_answer (refused r) h = let i = e ∙ ap verdict_of h in cc
    by_answer (good t) h = (t, h)

-- A refusal's number and place are the theory's.
pub record SameRefusal (e : Refusal) (r : Bytes.Refusal) : Type 0 where
  pub number : number_of e.reason ≡ r.number
  pub place : e.place ≡ r.place

-- every number that a program or a question is refused by is that of its reason
pub reason-number : (n : ℕ) → OfReading n → number_of (reason_of n) ≡ n
reason-number zero (inl h) = let l = h.0 in absurd (omega (arith, l))
reason-number (suc zero) (inl h) = refl
reason-number (suc (suc zero)) (inl h) = refl
reason-number (suc (suc (suc zero))) (inl h) = refl
reason-number (suc (suc (suc (suc zero)))) (inl h) = refl
reason-number (suc (suc (suc (suc (suc zero))))) (inl h) = refl
reason-number (suc (suc (suc (suc (suc (suc zero)))))) (inl h) = refl
reason-number (suc (suc (suc (suc (suc (suc (suc zero))))))) (inl h) = refl
reason-number (suc (suc (suc (suc (suc (suc (suc (suc zero)))))))) (inl h) = refl
reason-number (suc (suc (suc (suc (suc (suc (suc (suc (suc zero))))))))) (inl h) = refl
reason-number (suc (suc (suc (suc (suc (suc (suc (suc (suc (suc zero)))))))))) (inl h) = refl
reason-number (suc (suc (suc (suc (suc (suc (suc (suc (suc (suc (suc zero))))))))))) (inl h) = refl
reason-number (suc (suc (suc (suc (suc (suc (suc (suc (suc (suc (suc (suc n)))))))))))) (inl h) = let l = h.1 in absurd (omega (arith, l))
reason-number n (inr h) = rw h

pub program-number : (ws : List ℕ) (r : Bytes.Refusal) → read_program ws ≡ refused r → number_of (reason_of r.number) ≡ r.number
program-number ws r h = reason-number r.number (program-refusal-number ws r h)

pub question-number : (n : ℕ) (ns ws : List ℕ) (r : Bytes.Refusal) → read_question (declared n ns) ws ≡ refused r → number_of (reason_of r.number) ≡ r.number
question-number n ns ws r h =
    let q = question-refused (declared n ns) ws r h in
    let low = q.from in
    let high = q.to in
    reason-number r.number (inl (omega (arith, low), high))

-- the reasons have theory's numbers
pub program_same : (ws : List ℕ) → SameNumber (read_program ws)
program_same ws = by_answer (read_program ws) refl
  where
    by_answer : (o : Bytes.Result Book) → read_program ws ≡ o → SameNumber o
    by_answer (refused r) h = program-number ws r h
    by_answer (good s) h = tt

pub question_same : (n : ℕ) (ns ws : List ℕ) → SameNumber (read_question (declared n ns) ws)
question_same n ns ws = by_answer (read_question (declared n ns) ws) refl
  where
    by_answer : (o : Bytes.Result Term) → read_question (declared n ns) ws ≡ o → SameNumber o
    by_answer (refused r) h = question-number n ns ws r h
    by_answer (good t) h = tt

-- A refused program is one that the theory refuses, by the number of the reason and at the place.
pub program_refused : (ws : List ℕ) (e : Refusal) → Err e ≡ checked_of (read_program ws) → (r : Bytes.Refusal) × ((read_program ws ≡ refused r) × SameRefusal e r)
unfolding checked_of
program_refused ws e i = by_answer (read_program ws) refl
  where
    by_answer : (r : Bytes.Result Book) → read_program ws ≡ r → (r : Bytes.Refusal) × ((read_program ws ≡ refused r) × SameRefusal e r)
    by_answer (refused r) h =
        let k = i ∙ ap checked_of h in
        let j : e ≡ refusal_of r = cc in
        (r, (h, subst (λ (x : Refusal). SameRefusal x r) (sym j) (record { number = program-number ws r h; place = refl })))
    by_answer (good s) h = let k = i ∙ ap checked_of h in cc

-- The same of a question.
pub question_refused : (n : ℕ) (ns ws : List ℕ) (e : Refusal) → Err e ≡ verdict_of (read_question (declared n ns) ws) → (r : Bytes.Refusal) × ((read_question (declared n ns) ws ≡ refused r) × SameRefusal e r)
question_refused n ns ws e i = by_answer (read_question (declared n ns) ws) refl
  where
    by_answer : (r : Bytes.Result Term) → read_question (declared n ns) ws ≡ r → (r : Bytes.Refusal) × ((read_question (declared n ns) ws ≡ refused r) × SameRefusal e r)
    by_answer (refused r) h =
        let k = i ∙ ap verdict_of h in
        let j : e ≡ refusal_of r = cc in
        (r, (h, subst (λ (x : Refusal). SameRefusal x r) (sym j) (record { number = question-number n ns ws r h; place = refl })))
    by_answer (good t) h = let k = i ∙ ap verdict_of h in cc

-- An accepted program has at most 32 functions and 64 rules, and its arities are the part of the answer's table that is lent.
module _ (ws : List ℕ) (s : Book) (read : read_program ws ≡ good s) where
  pub functions-most : length s.decls.arities ≤ 32
  functions-most = ((accepted-exactly ws s).0 read).1.readable.functions

  pub rules-most : rule_count s.rules_at ≤ 64
  rules-most = omega (arith, ((accepted-exactly ws s).0 read).1.readable.rules, count-length s.rules_at)

  pub arities-lent : take (length s.decls.arities) (drop 16 (table s.decls.arities)) ≡ s.decls.arities
  unfolding top_at own_arities
  arities-lent = own-are s End 0 functions-most

padded-many : (k : ℕ) (ns : List ℕ) → length (padded k ns) ≡ k
unfolding padded
padded-many zero ns = refl
padded-many (suc k) [] = ap suc (padded-many k [])
padded-many (suc k) (n ∷ ns) = ap suc (padded-many k ns)

table-many : (ns : List ℕ) → length (table ns) ≡ 48
unfolding table
table-many ns = omega (arith, padded-many 32 ns)

-- Whatever the program, the answer keeps within the ceilings, and its two arrays have their lengths.
abbrev pub Within : Checked → Type 0
Within c = (c.functions ≤ 32) × (length c.arities ≡ 48) × (c.rules ≤ 64) × (length c.openings ≡ 64)

pub within : (ws : List ℕ) (c : Checked) → Ok c ≡ checked_of (read_program ws) → Within c
unfolding checked_of
within ws c e =
    let r = program_read ws c e in
    let s = r.0 in
    let h = r.1.0 in
    let i = r.1.1 in
    let j : c ≡ record { exceptions = s.decls.exceptions; functions = length s.decls.arities; rules = rule_count s.rules_at; arities = table s.decls.arities; openings = padded 64 (opened_at s.rules_at) } = cc in
    rw j (functions-most ws s h, table-many s.decls.arities, rules-most ws s h, padded-many 64 (opened_at s.rules_at))
