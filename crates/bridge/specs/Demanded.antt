-- The words in which the demands speak of a call's report.
use Rattle.std.specs.Prelude.{ℕ, ◌≤◌, ◌≡◌, ◌≢◌, ◌⊎◌, List, length, get_or, take, drop}
use Rattle.theory.specs.Answers.{Reply}
use Rattle.theory.specs.Demands.{NotOfAQuestion}
use Rattle.bridge.specs.declared.report.Report.{Report}
use Rattle.bridge.specs.Report.{report_of, report_words}

-- the numbers by which a call refuses: 1 to 13, and 17 (document 02, Q-9)
abbrev pub OfACall : ℕ → Type 0
OfACall n = ((1 ≤ n) × (n ≤ 13)) ⊎ (n ≡ 17)

-- A REPORT IS A REFUSAL OR AN ANSWER: its number is 1 to 13 or 17 and its ending 0, or its number 0 and its ending from 1 to 6.
abbrev pub IsRefusal : Report → Type 0
IsRefusal r = OfACall r.number × (r.ending ≡ 0)

abbrev pub IsAnswer : Report → Type 0
IsAnswer r = (r.number ≡ 0) × (1 ≤ r.ending) × (r.ending ≤ 6)

-- "Each refusal gives its number, which string it is about (program or question; program for 12 and 13) and the byte place in that string, zero
-- for every other field"; "A question is never refused by 1, 9, 5, 6 or 10", nor by 17.
pub record Refuses (p q : List ℕ) (r : Report) : Type 0 where
  pub is_refusal : IsRefusal r
  pub string_and_place : ((r.about ≡ 1) × (r.place ≤ length p)) ⊎ ((r.about ≡ 2) × (r.place ≤ length q))
  pub other_fields : (r.amount ≡ 0) × (r.base ≡ 0) × (r.steps ≡ 0)
  pub of_a_question : r.about ≡ 2 → NotOfAQuestion r.number × (r.number ≢ 12) × (r.number ≢ 13)

-- an answer is about no string and at no place
pub record Answers (r : Report) : Type 0 where
  pub is_answer : IsAnswer r
  pub no_string : (r.about ≡ 0) × (r.place ≡ 0)

-- THROUGH THE DOOR: the report in words 0 to 6 of a slice
abbrev pub report_in : List ℕ → Report
report_in d =
    record { number = get_or d 0 0; about = get_or d 1 0; place = get_or d 2 0; ending = get_or d 3 0; amount = get_or d 4 0; base = get_or d 5 0; steps = get_or d 6 0 }

-- the first 7 words of d' are the report, and the words past them are as they were in d
pub record Told (w : Reply) (d d' : List ℕ) : Type 0 where
  pub words_are : take 7 d' ≡ report_words (report_of w)
  pub read_back : report_in d' ≡ report_of w
  pub past_them : drop 7 d' ≡ drop 7 d
