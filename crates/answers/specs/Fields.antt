-- The fields of a line, and the case that they are.
use Rattle.std.specs.Prelude.{ℕ, zero, suc, ◌+◌, ◌*◌, ◌≡◌, min, Option, Some, None, unwrap_or, option_and_then, List, [], ◌∷◌, eqb, ltb, length, take, drop}
use Rattle.std.specs.Char.{digit_value}
use Rattle.std.specs.List.{position}
use Rattle.theory.specs.Syntax.{pick}
use Rattle.lines.specs.Fields.{decoded_of}
use Rattle.answers.specs.declared.cases.Case.{Case}

-- where the first space of a line stands, if it has one
abbrev pub space_in : List ℕ → Option ℕ
space_in line = position (λ b. eqb b 32) line

-- the field number n of a line, with one space between fields; none where it has fewer
unfoldable pub field_of : ℕ → List ℕ → Option (List ℕ)
field_of zero line = Some (take (unwrap_or (space_in line) (length line)) line)
field_of (suc n) line = option_and_then (λ k. field_of n (drop (k + 1) line)) (space_in line)

-- the same of what is left of a line, if anything is
abbrev pub field_in : ℕ → Option (List ℕ) → Option (List ℕ)
field_in n rest = option_and_then (field_of n) rest

-- decimal digits, read on from n: past 32 bits the largest number of 32; none where a byte is no digit
unfoldable pub digits_from : ℕ → List ℕ → Option ℕ
digits_from n [] = Some n
digits_from n (c ∷ cs) = pick (ltb (digit_value c) 10) (digits_from (min (min (n * 10) 4294967295 + digit_value c) 4294967295) cs) None

-- the number that a field stands for, which has a digit at least
unfoldable pub number_in : List ℕ → Option ℕ
number_in [] = None
number_in (c ∷ cs) = digits_from 0 (c ∷ cs)

-- the line reads as the case: a program and a question in hexadecimal digits, then six numbers, and nothing behind them
pub record Reads (line : List ℕ) (c : Case) : Type 0 where
  pub program : option_and_then (decoded_of 30000) (field_of 0 line) ≡ Some c.program.items
  pub question : option_and_then (decoded_of 30000) (field_of 1 line) ≡ Some c.question.items
  pub steps : option_and_then number_in (field_of 2 line) ≡ Some c.steps
  pub levels : option_and_then number_in (field_of 3 line) ≡ Some c.levels
  pub room : option_and_then number_in (field_of 4 line) ≡ Some c.room
  pub own : option_and_then number_in (field_of 5 line) ≡ Some c.own
  pub first : option_and_then number_in (field_of 6 line) ≡ Some c.first
  pub second : option_and_then number_in (field_of 7 line) ≡ Some c.second
  pub no_more : field_of 8 line ≡ None
