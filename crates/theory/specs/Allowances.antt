-- What the built-in functions give on numbers, and the levels and steps that they take (document 02, Q-4), so that an author can choose allowances.
-- proofs/Allowances holds the rules against it; docs/FORMAT.md shows it as a table.
use Rattle.std.specs.Prelude.{ℕ, zero, suc, ◌+◌, ◌*◌, ◌-◌, ◌/◌, ◌%◌, min, max, ◌≤◌, ◌<◌, ◌≡◌, not, List, [], ◌∷◌, eqb, leb, ltb}
use Rattle.theory.specs.Syntax.{Val, Term, Program, Bindings, pick}
use Rattle.theory.specs.Builtins.{call2, last_called}
use Rattle.theory.specs.Evaluation.{Outcome, normal, exception, other}
use Rattle.theory.specs.Endings.{Ending, value, raised, stuck, too_deep, is, out_of_steps, Answer, says, Final}
use Rattle.theory.specs.Cost.{paying, eval, evaluator}
use Rattle.theory.specs.Encoding.{encode}
use Rattle.theory.specs.Answers.{answer, evaluate}
use Rattle.theory.specs.Demands.{EvaluateInRange, OnlyAnswers}
use Rattle.theory.specs.Arithmetic.{num, flag, Gives, asked, difference, quotient, remainder}

-- t takes just these levels, its own among them, and these steps, and ends as m: with as many levels it does, with fewer it is too deep.
pub record Costs (P : Program) (θ : Bindings) (t : Term) (levels : ℕ) (m : Ending) (c : ℕ) : Type 0 where
  pub ends : (L : ℕ) → levels ≤ L → eval P L θ t ≡ paying m c
  pub deep : (L : ℕ) → L < levels → (eval P L θ t).ending ≡ too_deep

-- Built-in k takes so much on the values v and w: a call of it takes one level, and below it the most that its arguments and the built-in take;
-- the built-in's steps come to those of its arguments.
pub record Takes (P : Program) (k : ℕ) (v w : Val) (levels : ℕ) (m : Ending) (c : ℕ) : Type 0 where
  pub called : {θ : Bindings} {a b : Term} {la lb ca cb : ℕ} → Costs P θ a la (value v) ca → Costs P θ b lb (value w) cb
      → Costs P θ (call2 k a b) (1 + max (max la lb) levels) m (ca + cb + c)

-- STEPS. "call: 1, then per argument value c+k+3; a fit: 1": of two numbers, besides the right side's
abbrev pub call_steps : ℕ → ℕ → ℕ
call_steps m n = m + n + 8

-- 1 + 2 + … + n
abbrev pub triangle : ℕ → ℕ
triangle n = n * (n + 1) / 2

abbrev pub plus_steps : ℕ → ℕ → ℕ
plus_steps m n = (m + 1) * (n + 8) + triangle m

-- m + 1 calls as of +, and + of n and 0, n, 2n and so on, m times
abbrev pub times_steps : ℕ → ℕ → ℕ
times_steps m n = plus_steps m n + 8 * (m * (n + 1)) + m * m * triangle n

-- <=, < and =
abbrev pub compare_steps : ℕ → ℕ → ℕ
compare_steps m n = (min m n + 1) * (max m n + 8)

-- -: as many, and one less where it is stuck, since in the end no rule fits
abbrev pub minus_steps : ℕ → ℕ → ℕ
minus_steps m n = pick (leb n m) (compare_steps m n) (compare_steps m n - 1)

-- >= and >: a call, and <= or <. <>: a call, = and not
abbrev pub turned_steps : ℕ → ℕ → ℕ
turned_steps m n = call_steps m n + compare_steps m n

abbrev pub differ_steps : ℕ → ℕ → ℕ
differ_steps m n = turned_steps m n + 5

-- div and mod by d. A turn on m has a call, <, the step of if, and -: (m + d + 8) + (d+1)(m+8) + 1 + (d+1)(m+8), which is (2d+3)m + 17d + 25. The q
-- turns are on r + d, r + 2d, …, r + qd; the last, on r, has no -. By 0: the charges of the call
abbrev pub turns_steps : ℕ → ℕ → ℕ → ℕ
turns_steps q r d = (2 * d + 3) * (q * r + d * triangle q) + q * (17 * d + 25) + (turned_steps r d + 1)

abbrev pub divide_steps : ℕ → ℕ → ℕ
divide_steps m zero = m + 7
divide_steps m (suc n) = turns_steps (m / suc n) (m % suc n) (suc n)

-- LEVELS, below the call
abbrev pub plus_levels : ℕ → ℕ → ℕ
plus_levels m n = 2 * m + 1

abbrev pub times_levels : ℕ → ℕ → ℕ
times_levels zero n = 1
times_levels (suc m) n = 2 * suc m + max 1 (2 * n)

-- <=, <, = and -; one more are those of >= and >, two more those of <>
abbrev pub compare_levels : ℕ → ℕ → ℕ
compare_levels m n = min m n + 1

-- div and mod, of which a turn takes k levels: 3 with the succ of div, 2 without
abbrev pub turns_levels : ℕ → ℕ → ℕ → ℕ → ℕ
turns_levels k zero m d = max 1 m + 3
turns_levels k (suc q) m d = k * suc q + max 2 d + 2

abbrev pub divide_levels : ℕ → ℕ → ℕ → ℕ
divide_levels k m zero = 1
divide_levels k m (suc n) = turns_levels k (m / suc n) m (suc n)

-- THE TABLE: a built-in by its number, what it gives on the numbers m and n, and what it takes
pub record Row : Type 0 where
  pub number : ℕ
  pub gives : ℕ → ℕ → Outcome
  pub levels : ℕ → ℕ → ℕ
  pub steps : ℕ → ℕ → ℕ

abbrev row : ℕ → (ℕ → ℕ → Outcome) → (ℕ → ℕ → ℕ) → (ℕ → ℕ → ℕ) → Row
row k g l s = record { number = k; gives = g; levels = l; steps = s }

abbrev pub on_numbers : List Row
on_numbers =
    -- +, *
    row 0 (λ m n. normal (num (m + n))) plus_levels plus_steps
    ∷ row 1 (λ m n. normal (num (m * n))) times_levels times_steps
    -- <=, <, =
    ∷ row 3 (λ m n. normal (flag (leb m n))) compare_levels compare_steps
    ∷ row 4 (λ m n. normal (flag (ltb m n))) compare_levels compare_steps
    ∷ row 5 (λ m n. normal (flag (eqb m n))) compare_levels compare_steps
    -- >=, >, <>
    ∷ row 6 (λ m n. normal (flag (leb n m))) (λ m n. compare_levels m n + 1) turned_steps
    ∷ row 7 (λ m n. normal (flag (ltb n m))) (λ m n. compare_levels m n + 1) turned_steps
    ∷ row 8 (λ m n. normal (flag (not (eqb m n)))) (λ m n. compare_levels m n + 2) differ_steps
    -- div, mod, -
    ∷ row 9 quotient (divide_levels 3) divide_steps
    ∷ row 10 remainder (divide_levels 2) divide_steps
    ∷ row 11 difference compare_levels minus_steps
    ∷ []

-- the evaluator's ending for an outcome
abbrev pub ending_of : Outcome → Ending
ending_of (normal v) = value v
ending_of (exception e) = raised e
ending_of other = stuck 0

-- A QUESTION about two numbers written down takes a level, and below it the most that the built-in and they take: a level more than each has succ.
abbrev pub asked_levels : ℕ → ℕ → ℕ → ℕ
asked_levels m n levels = 1 + max (max (suc m) (suc n)) levels

-- THE CALLS, to a question q in the program p whose outcome is m: neither ever answers another; the evaluator's answers it, after these steps, where
-- it has these levels and steps, and with fewer of either it answers no outcome.
pub record AnsweredWithin (p q : List ℕ) (m : Outcome) (l c : ℕ) : Type 0 where
  pub nothing_else : OnlyAnswers p q m
  pub enough : (steps levels : ℕ) → EvaluateInRange steps levels → c ≤ steps → l ≤ levels → evaluate p q steps levels ≡ answer (says (is (ending_of m)) c)
  pub fewer_steps : (steps levels : ℕ) → EvaluateInRange steps levels → steps < c → l ≤ levels → evaluate p q steps levels ≡ answer (says out_of_steps steps)
  pub fewer_levels : (steps levels : ℕ) → EvaluateInRange steps levels → levels < l
      → (a : Answer) × (evaluate p q steps levels ≡ answer a) × (Final a.said → ⊥)

-- WHAT A ROW SAYS, for all numbers m and n: what the built-in takes in the program P; what it gives by the paper's relation; that the evaluator
-- answers so with levels and steps enough; and what the calls answer to the bytes of the question, where it may be asked and has at most 512 words.
abbrev pub RowTakes : Program → Row → Type 0
RowTakes P r = (m n : ℕ) → Takes P r.number (num m) (num n) (r.levels m n) (ending_of (r.gives m n)) (r.steps m n)

abbrev pub RowGives : Program → Row → Type 0
RowGives P r = (m n : ℕ) → Gives P r.number (num m) (num n) (r.gives m n)

abbrev pub RowReached : Program → Row → Type 0
RowReached P r =
    (m n L steps : ℕ) → asked_levels m n (r.levels m n) ≤ L → r.steps m n ≤ steps
    → evaluator P L steps (asked r.number (num m) (num n)) ≡ says (is (ending_of (r.gives m n))) (r.steps m n)

abbrev pub RowAnswered : List ℕ → Row → Type 0
RowAnswered p r =
    (m n : ℕ) → r.number ≤ last_called → m + n + 3 ≤ 512
    → AnsweredWithin p (encode (asked r.number (num m) (num n))) (r.gives m n) (asked_levels m n (r.levels m n)) (r.steps m n)
