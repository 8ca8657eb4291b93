-- THE BUILT-IN FUNCTIONS, ANSWERED, in every accepted program: = and <> about every pair of values (document 02, Q-2 and Q-4), and each row of the
-- table about all numbers (Q-4). With levels and steps enough the evaluator answers so, and neither call ever answers otherwise.
use Prim.Native.Nat.{ℕ, zero, suc, ◌+◌, max, ◌≤◌}
use mathlib.Core.Path.{◌≡◌, refl, sym, ap, ap₂, ◌∙◌, subst}
use mathlib.Core.Logic.{◌↔◌, inl}
use mathlib.Core.Bool.{Bool, true, false, false≢true}
use mathlib.Core.List.{List, [], ◌∷◌, ◌++◌}
use mathlib.Core.Option.{Option, none, some}
use native.Mathlib.Omega.{arith}
use Rattle.theory.specs.Syntax.{Val, base, up, Term, Terms, call, Fun, Program, Bindings, nothing_bound}
use Rattle.theory.specs.Builtins.{builtin_funs, last_called, nth_fun}
use Rattle.theory.specs.Evaluation.{Outcome, normal, exception, other, normals, Ev, EvArgs, succ_normal, constant, no_arguments, rest_normal, outcome_of}
use Rattle.theory.specs.Endings.{Ending, value, raised, stuck, too_deep}
use Rattle.theory.specs.Cost.{Cost, paying, eval}
use Rattle.theory.specs.Proper.{term_vars}
use Rattle.theory.specs.Bytes.{good, Declared, Book, funs_of, read_program, program_of, read_question}
use Rattle.theory.specs.Answers.{answer}
use Rattle.theory.specs.Demands.{Accepted, OnlyAnswers}
use Rattle.theory.specs.Encoding.{encode, term_words, OverDeclared, Each}
use Rattle.theory.specs.Arithmetic.{num, Gives, written, asked, Reached, equality, opposite}
use Rattle.theory.specs.Allowances.{Costs, Takes, Row, on_numbers, ending_of, asked_levels, RowTakes, RowGives, RowReached, RowAnswered}
use Rattle.theory.proofs.PaperEvaluation.{answered-is-paper, paper-is-answered, paper-unique}
use Rattle.theory.proofs.AcceptedProper.{accepted-proper}
use Rattle.theory.proofs.AcceptedExactly.{question-accepted-exactly}
use Rattle.theory.proofs.AnsweredExactly.{evaluate-in-range}
use Rattle.theory.proofs.PaperAnswered.{only-answers}
use Rattle.theory.proofs.Equality.{equal-gives, differs-gives}
use Rattle.theory.proofs.Lists.{each_map, each_both}
use Rattle.theory.proofs.ExactCost.{costs-so, asked-costs, value-costs, costs-enough, costs-out, costs-deep}
use Rattle.theory.proofs.Allowances.{height-num, table-takes}

-- a value written as a term has this value; so a built-in gives to values written down what it gives to values
pub written-gives : (P : Program) (θ : Bindings) (v : Val) → Ev P θ (written v) (normal v)
written-gives P θ (base b) = constant
written-gives P θ (up v) = succ_normal (written-gives P θ v)

pub asked-gives : (P : Program) (θ : Bindings) (k : ℕ) (v w : Val) (m : Outcome) → Gives P k v w m → Ev P θ (asked k v w) m
asked-gives P θ k v w m g = g θ _ (rest_normal (written-gives P θ v) (rest_normal (written-gives P θ w) no_arguments))

-- the bytes of a question about two numbers are accepted
module _ (D : Declared) where
  number-declared : (n : ℕ) → OverDeclared D (written (num n))
  number-declared zero = tt
  number-declared (suc n) = number-declared n

  no-variable : (n : ℕ) → term_vars (written (num n)) ≡ []
  no-variable zero = refl
  no-variable (suc n) = no-variable n

  number-words : (n : ℕ) → term_words (written (num n)) ≡ n + 1
  number-words zero = refl
  number-words (suc n) = let e = number-words n in omega (arith, e)

  asked-read : (k m n : ℕ) → k ≤ last_called → (nth_fun builtin_funs k).arity ≡ 2 → m + n + 3 ≤ 512
      → read_question D (encode (asked k (num m) (num n))) ≡ good (asked k (num m) (num n))
  asked-read k m n h a l =
      let em = number-words m in
      let en = number-words n in
      (question-accepted-exactly D _ (asked k (num m) (num n))).1 (
        refl,
        record {
          over = (inl (h, sym a), (number-declared m, (number-declared n, tt)));
          no_variables = ap₂ (λ (xs ys : List ℕ). xs ++ (ys ++ [])) (no-variable m) (no-variable n);
          words = omega (arith, em, en, l);
        },
      )

-- an ending and its outcome, both ways
ended : (m : Outcome) → outcome_of (ending_of m) ≡ some m
ended (normal v) = refl
ended (exception e) = refl
ended other = refl

abbrev is_normal : Option Outcome → Bool
is_normal none = false
is_normal (some (normal v)) = true
is_normal (some (exception e)) = false
is_normal (some other) = false

is-value : (m : Ending) (v : Val) → outcome_of m ≡ some (normal v) → m ≡ value v
is-value (value u) v e = ap value (ap (λ (o : Option Outcome). value_in o u) e)
  where
    value_in : Option Outcome → Val → Val
    value_in none u = u
    value_in (some (normal v)) u = v
    value_in (some (exception e)) u = u
    value_in (some other) u = u
is-value (raised x) v e = absurd (false≢true (ap is_normal e))
is-value (stuck n) v e = absurd (false≢true (ap is_normal e))
is-value too_deep v e = absurd (false≢true (ap is_normal e))

module _ (p : List ℕ) (s : Book) (ep : read_program p ≡ good s) where
  given-is-reached : (k : ℕ) (v w : Val) (m : Outcome) → Gives (program_of s) k v w m → Reached (program_of s) k v w m
  given-is-reached k v w m g = paper-is-answered (program_of s) (accepted-proper p s ep) (asked-gives (program_of s) nothing_bound k v w m g)

  -- and where q is the question's bytes, that is all that the calls may answer
  given-is-answered : (k : ℕ) (v w : Val) (m : Outcome) → Gives (program_of s) k v w m → (q : List ℕ) → read_question s.decls q ≡ good (asked k v w) → OnlyAnswers p q m
  given-is-answered k v w m g q eq = only-answers p s (asked k v w) m ep (asked-gives (program_of s) nothing_bound k v w m g) q eq

  abbrev fs : List Fun
  fs = funs_of 0 s.decls.arities s.rules_at

  abbrev e : ℕ
  e = s.decls.exceptions

  -- Q-2: = on two values has just this outcome;
  pub equal-exactly : (θ : Bindings) (ts : Terms) (v w : Val) → EvArgs (program_of s) θ ts (normals (v ∷ w ∷ [])) → (m : Outcome)
      → Ev (program_of s) θ (call 5 ts) m ↔ (m ≡ equality v w)
  equal-exactly θ ts v w h m =
      let given = equal-gives e fs v w θ ts h in
      (λ x. paper-unique (program_of s) (accepted-proper p s ep) x given, λ k. subst (Ev (program_of s) θ (call 5 ts)) (sym k) given)

  -- with levels enough the evaluation of the question reaches it, and the calls answer nothing else
  pub equal-reached : (v w : Val) → Reached (program_of s) 5 v w (equality v w)
  equal-reached v w = given-is-reached 5 v w (equality v w) (equal-gives e fs v w)

  pub equal-answered : (v w : Val) (q : List ℕ) → read_question s.decls q ≡ good (asked 5 v w) → OnlyAnswers p q (equality v w)
  equal-answered v w = given-is-answered 5 v w (equality v w) (equal-gives e fs v w)

  -- Q-4: <> likewise
  pub differs-answered : (v w : Val) (q : List ℕ) → read_question s.decls q ≡ good (asked 8 v w) → OnlyAnswers p q (opposite (equality v w))
  differs-answered v w = given-is-answered 8 v w (opposite (equality v w)) (differs-gives e fs v w)

  -- An argument that the paper gives a value takes levels and steps; so what a built-in takes tells what it gives
  argument-costs : (θ : Bindings) {t : Term} {v : Val} → Ev (program_of s) θ t (normal v) → (l c : ℕ) × Costs (program_of s) θ t l (value v) c
  argument-costs θ {t} {v} h =
      let a = paper-is-answered (program_of s) (accepted-proper p s ep) h in
      let L = a.0 in
      let r = eval (program_of s) L θ t in
      let e : r ≡ paying (value v) r.paid = ap (λ (m : Ending). paying m r.paid) (is-value r.ending v (a.1 L (omega arith))) in
      let costs = value-costs (program_of s) θ t L e in
      (costs.0, r.paid, costs.1)

  takes_gives : (k : ℕ) (v w : Val) {l c : ℕ} (m : Outcome) → Takes (program_of s) k v w l (ending_of m) c → Gives (program_of s) k v w m
  takes_gives k v w {l} m t θ _ (rest_normal h (rest_normal g no_arguments)) =
      let a = argument-costs θ h in
      let b = argument-costs θ g in
      let L = 1 + max (max a.0 b.0) l in
      answered-is-paper (program_of s) (accepted-proper p s ep) L θ _ m (ap (λ (r : Cost). outcome_of r.ending) ((t.called a.2 b.2).ends L (omega arith)) ∙ ended m)

  pub table-gives : Each (RowGives (program_of s)) on_numbers
  table-gives =
      each_map (RowTakes (program_of s)) (RowGives (program_of s)) on_numbers (λ r h m n. takes_gives r.number (num m) (num n) (r.gives m n) (h m n)) (table-takes e fs)

  -- a question about two numbers, asked with the levels and steps that it takes
  row-costs : (r : Row) → RowTakes (program_of s) r → (m n : ℕ)
      → Costs (program_of s) nothing_bound (asked r.number (num m) (num n)) (asked_levels m n (r.levels m n)) (ending_of (r.gives m n)) (r.steps m n)
  row-costs r h m n =
      costs-so (program_of s) (ap₂ (λ (a b : ℕ). asked_levels a b (r.levels m n)) (height-num m) (height-num n)) refl refl (asked-costs (program_of s) (h m n))

  pub table-reached : Each (RowReached (program_of s)) on_numbers
  table-reached =
      each_map (RowTakes (program_of s)) (RowReached (program_of s)) on_numbers
      (λ r h m n L steps hl hs. costs-enough (program_of s) (row-costs r h m n) L steps hl hs) (table-takes e fs)

  row-answered : (r : Row) → RowTakes (program_of s) r → (nth_fun builtin_funs r.number).arity ≡ 2 → RowAnswered p r
  row-answered r h two m n may short =
      let q = encode (asked r.number (num m) (num n)) in
      let read = asked-read s.decls r.number m n may two short in
      let costs = row-costs r h m n in
      let x : Accepted p q = record { book = s; term = asked r.number (num m) (num n); program_read = ep; question_read = read } in
      record {
        nothing_else = given-is-answered r.number (num m) (num n) (r.gives m n) (takes_gives r.number (num m) (num n) (r.gives m n) (h m n)) q read;
        enough = λ steps levels i hs hl. evaluate-in-range p q steps levels x i ∙ ap answer (costs-enough (program_of s) costs levels steps hl hs);
        fewer_steps = λ steps levels i hs hl. evaluate-in-range p q steps levels x i ∙ ap answer (costs-out (program_of s) costs levels steps hl hs);
        fewer_levels = λ steps levels i hl. (_, evaluate-in-range p q steps levels x i, costs-deep (program_of s) costs levels steps hl);
      }

  pub table-answered : Each (RowAnswered p) on_numbers
  table-answered =
      each_both (RowTakes (program_of s)) (λ (r : Row). (nth_fun builtin_funs r.number).arity ≡ 2) (RowAnswered p) on_numbers row-answered (table-takes e fs)
      (refl, (refl, (refl, (refl, (refl, (refl, (refl, (refl, (refl, (refl, (refl, tt)))))))))))
