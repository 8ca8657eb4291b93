-- Evaluation over words: what is evaluated, for any words, bindings, levels and steps.
use Rattle.std.specs.Prelude.{ℕ, zero, suc, ◌+◌, ◌-◌, ◌≤◌, List, get_or, set, take, Option, Some, None, Result, Ok, Err}
use Rattle.std.specs.Result.{MatchResult}
use Rattle.rules.specs.declared.index.Span.{Span}
use Rattle.rules.specs.declared.lists.Lists.{Lists}
use Rattle.evaluator.specs.declared.values.Value.{Value}
use Rattle.evaluator.specs.declared.values.Ending.TheVariants.{Done, Raised, Stuck, Deep}
use Rattle.evaluator.specs.declared.values.Answer.{Answer}
use Rattle.evaluator.specs.declared.values.Outcome.{Outcome}
use Rattle.evaluator.specs.declared.rows.Then.{Then}
use Rattle.evaluator.specs.declared.fitting.Found.{Found}
use Rattle.evaluator.specs.declared.places.Kind.{Kind}
use Rattle.evaluator.specs.declared.places.Kind.TheVariants.{Data, Var, Raise, Part, Call, Other}
use Rattle.evaluator.specs.Values.{none, nones, answer, most, size, Small}
use Rattle.evaluator.specs.Places.{kind_of, arguments_of, place_past}
use Rattle.evaluator.specs.Rows.{answer_then, result_then, left_of, pay_of, go_of, turn_of, took_of}
use Rattle.evaluator.specs.Fitting.{rules_of, found_from}

-- what l levels and p steps allow an answer
pub record Fine (l p : ℕ) (r : Answer) : Type 0 where
  pub few : size r.end ≤ most + l
  pub steps : r.left ≤ p

-- the same of what may go on: P of what follows
abbrev pub FineThen : {A : Type 0} → (A → Type 0) → ℕ → ℕ → Result (Then A) Answer → Type 0
FineThen P l p t = MatchResult t (λ x. (x.left ≤ p) × P x.next) (Fine l p)

abbrev pub FineList : ℕ → ℕ → Result (Then (List Value)) Answer → Type 0
FineList = FineThen Small

-- an evaluator of whatever stands at a place: words, bindings, place, steps left
abbrev pub Evaluator : Type 0
Evaluator = List ℕ → List Value → ℕ → ℕ → Answer

-- n arguments from a on, of which the first is number i, after the values vs
unfoldable pub list_of : List ℕ → Evaluator → List ℕ → List Value → ℕ → ℕ → ℕ → List Value → ℕ → Result (Then (List Value)) Answer
list_of ks E ws b zero a i vs p = Ok (record { next = vs; left = p })
list_of ks E ws b (suc n) a i vs p =
    result_then (took_of (E ws b a p)) (λ t. list_of ks E ws b n (place_past ks ws a 1) (i + 1) (set vs i t.next) t.left)

abbrev pub found_then : Option Found → ℕ → Result (Then Found) Answer
found_then None p = Err (answer (Stuck 0) p)
found_then (Some f) p = go_of 1 p f

-- from the arguments to the right side of the first of the rules that fits: its place, its bindings and the steps left
unfoldable pub entered_of : List ℕ → ℕ → Result (Then (List Value)) Answer → Result (Then Found) Answer
entered_of rs n l = result_then l (λ x. found_then (found_from rs (take n x.next) 0) x.left)

-- the right side, among the rules
unfoldable pub body_of : List ℕ → Evaluator → Result (Then Found) Answer → Answer
body_of rs E e = answer_then e (λ x. E rs x.next.b x.next.at x.left)

module _ (standing own ks : List ℕ) (standingIndex ownIndex : List Span) where
  -- a call of function k with n arguments, where E evaluates what is one level below
  unfoldable pub call_of : Evaluator → List ℕ → List Value → ℕ → ℕ → ℕ → ℕ → Answer
  call_of E ws b a p k n =
      let rs = rules_of standing own standingIndex ownIndex k n in
      answer_then (left_of 1 p) (λ q. body_of rs E (entered_of rs n (list_of ks E ws b n (a + 1) 0 nones q)))

  -- a term by its root's kind
  unfoldable pub node : Evaluator → List ℕ → List Value → ℕ → ℕ → Kind → Answer
  node E ws b a p (Data x) = answer (Done (record { succs = 0; base = x })) p
  node E ws b a p (Var v) = answer (Done (get_or b v none)) p
  node E ws b a p Raise = pay_of 1 p (Raised (get_or ws (a + 1) 0 - 32))
  node E ws b a p (Part o) =
      answer_then (turn_of o (get_or ws (place_past ks ws (a + 1) 1) 0 - 32) (E ws b (a + 1) p)) (λ t. E ws b (place_past ks ws (a + 1) t.next) t.left)
  node E ws b a p (Call k) = call_of E ws b a p k (arguments_of ks (get_or ws a 0))
  node E ws b a p Other = answer (Stuck 0) p

  -- the term at a place, with so many levels
  unfoldable pub ev : ℕ → Evaluator
  ev zero ws b a p = answer Deep p
  ev (suc l) ws b a p = node (ev l) ws b a p (kind_of (get_or ws a 0))

-- the answer, with the steps paid in place of the steps left
abbrev pub paid_of : ℕ → Answer → Outcome
paid_of steps a = record { end = a.end; steps = steps - a.left }

-- the question in ws, by the lists, arities and indexes that are lent
unfoldable pub evaluated : (ws standing own ks : List ℕ) (standingIndex ownIndex : List Span) → ℕ → ℕ → Outcome
evaluated ws standing own ks standingIndex ownIndex levels steps = paid_of steps (ev standing own ks standingIndex ownIndex levels ws nones 0 steps)

-- the same by the lists as the code passes them: what `eval` and `evaluate` answer
abbrev pub ev_by : Lists → ℕ → Evaluator
ev_by l = ev l.standing.list.now l.own.list.now l.arities.now l.standing.index.now l.own.index.now

abbrev pub evaluated_by : Lists → List ℕ → ℕ → ℕ → Outcome
evaluated_by l ws = evaluated ws l.standing.list.now l.own.list.now l.arities.now l.standing.index.now l.own.index.now
