-- WHAT A REPORT TELLS: it loses nothing of the reply; it is a refusal or an answer, and its number or its ending alone says which.
use Prim.Native.Nat.{ℕ, zero, suc, ◌≤◌}
use mathlib.Core.Path.{◌≡◌, refl, sym, ap, ◌∙◌, subst}
use mathlib.Core.Logic.{◌≢◌, ◌⊎◌, inl, inr}
use mathlib.Core.List.{List}
use native.Mathlib.Omega.{arith}
use lib.Dec.{eqb}
use lib.ListN.{length}
use Rattle.theory.specs.Syntax.{Base, zero_b, true_b, false_b, Val, base, up, height, pick}
use Rattle.theory.specs.Endings.{value, raised, stuck, too_deep, Said, is, out_of_steps, too_big, Answer, says, Final}
use Rattle.theory.specs.Answers.{About, the_program, the_question, Reply, refusal, answer}
use Rattle.theory.specs.Demands.{RefusedByReading, OfReading}
use Rattle.theory.proofs.AnsweredExactly.{reading-number}
use Rattle.theory.proofs.Refusals.{reading-place}
use Rattle.theory.proofs.Refused.{question-refused}
use Rattle.bridge.specs.declared.report.Report.{Report}
use Rattle.bridge.specs.Report.{about_number, base_number, refusal_report, ending_report, said_report, answer_report, report_of}
use Rattle.bridge.specs.Demanded.{OfACall, IsRefusal, IsAnswer, Refuses, Answers}

-- A REPORT LOSES NOTHING: the reply can be read from it
abbrev about_of : ℕ → About
about_of n = pick (eqb n 1) the_program the_question

abbrev base_of : ℕ → Base
base_of n = pick (eqb n 1) zero_b (pick (eqb n 2) true_b false_b)

abbrev value_of : ℕ → Base → Val
value_of zero b = base b
value_of (suc k) b = up (value_of k b)

abbrev said_of : ℕ → ℕ → ℕ → Said
said_of e k b =
    pick (eqb e 1) (is (value (value_of k (base_of b)))) (pick (eqb e 2) (is (raised k)) (pick (eqb e 3) (is (stuck k)) (pick (eqb e 4) out_of_steps (pick (eqb e 5) (is too_deep) too_big))))

abbrev reply_of : Report → Reply
reply_of r = pick (eqb r.ending 0) (refusal r.number (about_of r.about) r.place) (answer (says (said_of r.ending r.amount r.base) r.steps))

value_read : (v : Val) → value_of (height v) (base_of (base_number v)) ≡ v
value_read (base zero_b) = refl
value_read (base true_b) = refl
value_read (base false_b) = refl
value_read (up v) = ap up (value_read v)

reply-read : (w : Reply) → reply_of (report_of w) ≡ w
unfolding report_of refusal_report answer_report ending_report
reply-read (refusal n the_program p) = refl
reply-read (refusal n the_question p) = refl
reply-read (answer a) = by_said a.said a.steps
  where
    by_said : (m : Said) (c : ℕ) → reply_of (said_report m c) ≡ answer (says m c)
    by_said (is (value v)) c = ap (λ (x : Val). answer (says (is (value x)) c)) (value_read v)
    by_said (is (raised e)) c = refl
    by_said (is (stuck s)) c = refl
    by_said (is too_deep) c = refl
    by_said out_of_steps c = refl
    by_said too_big c = refl

pub same-reply : (v w : Reply) → report_of v ≡ report_of w → v ≡ w
same-reply v w e = sym (reply-read v) ∙ ap reply_of e ∙ reply-read w

pub answer-report : (a : Answer) → Answers (report_of (answer a))
unfolding report_of answer_report ending_report
answer-report a = by_said a.said a.steps
  where
    by_said : (m : Said) (c : ℕ) → Answers (said_report m c)
    by_said (is (value v)) c = record { is_answer = (refl, omega arith, omega arith); no_string = (refl, refl) }
    by_said (is (raised e)) c = record { is_answer = (refl, omega arith, omega arith); no_string = (refl, refl) }
    by_said (is (stuck s)) c = record { is_answer = (refl, omega arith, omega arith); no_string = (refl, refl) }
    by_said (is too_deep) c = record { is_answer = (refl, omega arith, omega arith); no_string = (refl, refl) }
    by_said out_of_steps c = record { is_answer = (refl, omega arith, omega arith); no_string = (refl, refl) }
    by_said too_big c = record { is_answer = (refl, omega arith, omega arith); no_string = (refl, refl) }

-- what an answer was, by its ending
pub ending-final : (a : Answer) → (report_of (answer a)).ending ≤ 3 → Final a.said
unfolding report_of answer_report ending_report
ending-final a h = by_said a.said a.steps h
  where
    by_said : (m : Said) (c : ℕ) → (said_report m c).ending ≤ 3 → Final m
    by_said (is (value v)) c k = tt
    by_said (is (raised x)) c k = tt
    by_said (is (stuck s)) c k = tt
    by_said (is too_deep) c k = absurd (omega (arith, k))
    by_said out_of_steps c k = absurd (omega (arith, k))
    by_said too_big c k = absurd (omega (arith, k))

pub ending-deep : (a : Answer) → a.said ≡ is too_deep → (report_of (answer a)).ending ≡ 5
unfolding report_of answer_report ending_report
ending-deep a h = ap (λ (m : Said). (said_report m a.steps).ending) h

pub ending-big : (a : Answer) → a.said ≡ too_big → (report_of (answer a)).ending ≡ 6
unfolding report_of answer_report ending_report
ending-big a h = ap (λ (m : Said). (said_report m a.steps).ending) h

-- why a call refuses: the reading does, or it is 12 or 13
abbrev pub Why : List ℕ → List ℕ → ℕ → About → ℕ → Type 0
Why p q n a place = RefusedByReading p q n a place ⊎ (((n ≡ 12) ⊎ (n ≡ 13)) × (a ≡ the_program) × (place ≡ 0))

why-number : (p q : List ℕ) (n : ℕ) (a : About) (place : ℕ) → Why p q n a place → OfACall n
why-number p q n a place (inl h) = by (reading-number p q n a place h)
  where
    by : OfReading n → OfACall n
    by (inl (low, high)) = inl (low, omega (arith, high))
    by (inr k) = inr k
why-number p q n a place (inr (inl k, b, z)) = inl (omega (arith, k), omega (arith, k))
why-number p q n a place (inr (inr k, b, z)) = inl (omega (arith, k), omega (arith, k))

pub not-zero : (n : ℕ) → OfACall n → 1 ≤ n
not-zero n (inl h) = h.0
not-zero n (inr h) = omega (arith, h)

refusal-report : (p q : List ℕ) (n : ℕ) (a : About) (place : ℕ) → Why p q n a place → Refuses p q (report_of (refusal n a place))
unfolding report_of refusal_report
refusal-report p q n the_program place h =
    record { is_refusal = (why-number p q n the_program place h, refl); string_and_place = inl (refl, inside h); other_fields = (refl, refl, refl); of_a_question = λ i. absurd (omega (arith, i)) }
  where
    inside : Why p q n the_program place → place ≤ length p
    inside (inl g) = reading-place p q n the_program place g
    inside (inr (k, b, z)) = omega (arith, z)
refusal-report p q n the_question place (inl h) =
    let k = question-refused h.0.decls q (record { number = n; place = place }) h.2 in
    let high = k.to in
    record {
      is_refusal = (why-number p q n the_question place (inl h), refl);
      string_and_place = inr (refl, reading-place p q n the_question place h);
      other_fields = (refl, refl, refl);
      of_a_question = λ i. (k.not, (λ j. omega (arith, high, j)), λ j. omega (arith, high, j));
    }
refusal-report p q n the_question place (inr (k, b, z)) = absurd (let i = ap about_number b in omega (arith, i))

-- the same from a report r of a reply w: what its number and its ending tell
module _ (p q : List ℕ) (w : Reply) (why : (n : ℕ) (a : About) (place : ℕ) → w ≡ refusal n a place → Why p q n a place) (r : Report) (e : r ≡ report_of w) where
  either : Refuses p q r ⊎ Answers r
  either = subst (λ (x : Report). Refuses p q x ⊎ Answers x) (sym e) (by w refl)
    where
      by : (v : Reply) → w ≡ v → Refuses p q (report_of v) ⊎ Answers (report_of v)
      by (refusal n a place) k = inl (refusal-report p q n a place (why n a place k))
      by (answer a) k = inr (answer-report a)

  pub is-either : IsRefusal r ⊎ IsAnswer r
  is-either = by either
    where
      by : Refuses p q r ⊎ Answers r → IsRefusal r ⊎ IsAnswer r
      by (inl h) = inl h.is_refusal
      by (inr h) = inr h.is_answer

  pub refused-so : (r.number ≢ 0) ⊎ (r.ending ≡ 0) → Refuses p q r
  refused-so = by either
    where
      by : Refuses p q r ⊎ Answers r → (r.number ≢ 0) ⊎ (r.ending ≡ 0) → Refuses p q r
      by (inl h) k = h
      by (inr h) (inl k) = absurd (k h.is_answer.0)
      by (inr h) (inr k) = absurd (let low = h.is_answer.1 in omega (arith, low, k))

  pub answered-so : (r.number ≡ 0) ⊎ (1 ≤ r.ending) → Answers r
  answered-so = by either
    where
      by : Refuses p q r ⊎ Answers r → (r.number ≡ 0) ⊎ (1 ≤ r.ending) → Answers r
      by (inr h) k = h
      by (inl h) (inl k) = absurd (let low = not-zero r.number h.is_refusal.0 in omega (arith, low, k))
      by (inl h) (inr k) = absurd (let none = h.is_refusal.1 in omega (arith, none, k))

  -- the reply itself
  pub reply-answers : (r.number ≡ 0) ⊎ (1 ≤ r.ending) → (a : Answer) × (w ≡ answer a)
  unfolding report_of refusal_report
  reply-answers k = by w refl
    where
      by : (v : Reply) → w ≡ v → (a : Answer) × (w ≡ answer a)
      by (refusal n a place) g =
          absurd (let low = not-zero n (why-number p q n a place (why n a place g)) in let z = (answered-so k).is_answer.0 in let i = ap (λ (x : Report). x.number) (e ∙ ap report_of g) in omega (arith, low, z, i))
      by (answer a) g = (a, g)

  pub reply-refuses : (n : ℕ) → 1 ≤ n → r.number ≡ n → (a : About) × (place : ℕ) × (w ≡ refusal n a place)
  unfolding report_of refusal_report
  reply-refuses n low k = by w refl
    where
      by : (v : Reply) → w ≡ v → (a : About) × (place : ℕ) × (w ≡ refusal n a place)
      by (refusal m a place) g = (a, place, g ∙ ap (λ (i : ℕ). refusal i a place) (sym (ap (λ (x : Report). x.number) (e ∙ ap report_of g)) ∙ k))
      by (answer a) g =
          absurd (let z = (answer-report a).is_answer.0 in let i = ap (λ (x : Report). x.number) (e ∙ ap report_of g) in omega (arith, low, k, z, i))
