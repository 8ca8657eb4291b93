-- A program's records, one turn a record: its rules, its end, and what is answered then. `Bytes` of the theory says what is right; proofs/ shows that the turns come to the same.
use Rattle.std.specs.Prelude.{ℕ, zero, suc, ◌+◌, Bool, true, List, [], ◌∷◌, length, take, get_or, set, eqb, ltb, Option, Some, None, option_map, Result, Ok, Err}
use Rattle.theory.specs.Bytes
use Rattle.theory.specs.Bytes.{refused, good, RuleAt, Book, has_rule, declared_at}
use Rattle.theory.specs.Syntax.{choose}
use Rattle.checker.specs.declared.side.Stand.TheVariants.{Left, Right}
use Rattle.checker.specs.declared.side.Side.{Side}
use Rattle.checker.specs.declared.Checked.{Checked}
use Rattle.checker.specs.declared.declarations.Stage.{Stage}
use Rattle.checker.specs.declared.declarations.Stage.TheVariants.{Rules, End}
use Rattle.checker.specs.declared.declarations.Top.{Top}
use Rattle.checker.specs.declared.refusal.Reason.TheVariants.{BytesEnd, KindNotAllowed, PastCeiling, WrongNumber, FunctionWithoutRule, BytesLeftOver, RulesOverlap}
use Rattle.checker.specs.declared.refusal.Refusal.{Refusal}
use Rattle.checker.specs.Refusal.{refuse, refusal_of}
use Rattle.record.specs.declared.Record.{Record}
use Rattle.checker.specs.Answer.{declared, checked_as}
use Rattle.record.specs.Record.{record_at}
use Rattle.checker.specs.Side.{no_vars, scan_from}
use Rattle.checker.specs.Declarations.{at_end, start_top, own_arities, own_ruled, exception_turn, function_turn}

-- one rule more, of the function f, opened where the turn began, and on from the place q
abbrev pub with_rule : Top → ℕ → ℕ → Top
with_rule t f q =
    record { place = q; stage = Rules; read = record { exceptions = t.read.exceptions; functions = t.read.functions; rules = t.read.rules + 1; arities = t.read.arities; openings = set t.read.openings t.read.rules t.place }; ruled = set t.ruled f true }

-- what the right side of a rule of the function f makes of a turn
unfoldable pub right_turn : Top → ℕ → Result Side Refusal → Result Top Refusal
right_turn t f (Err e) = Err e
right_turn t f (Ok r) = Ok (with_rule t f r.at)

-- what its left side makes of a turn: `right` reads the other with the variables seen
unfoldable pub left_turn : Top → ℕ → Result Side Refusal → (List Bool → ℕ → Result Side Refusal) → Result Top Refusal
left_turn t f (Err e) right = Err e
left_turn t f (Ok l) right = right_turn t f (right l.seen l.at)

module _ (ws : List ℕ) where
  -- the two sides of a rule of the function f, from q on
  unfoldable pub sides_turn : Top → ℕ → ℕ → Result Top Refusal
  sides_turn t f q =
      left_turn t f (scan_from t.read.exceptions (own_arities t) ws Left no_vars (get_or (own_arities t) f 0) 1 q)
      (λ s p. scan_from t.read.exceptions (own_arities t) ws Right s 1 0 p)

  -- the record that opens a rule of the function b: 9 past sixty-four, 4 if it is not declared
  unfoldable pub rule_turn : Top → ℕ → ℕ → Result Top Refusal
  rule_turn t b q =
      choose (ltb t.read.rules 64) (λ u. choose (ltb b t.read.functions) (λ u. sides_turn t b q) (λ u. refuse WrongNumber t.place)) (λ u. refuse PastCeiling t.place)

-- read to the end
abbrev pub ended : Top → Top
ended t = record { place = 0; stage = End; read = t.read; ruled = t.ruled }

-- what comes after a turn, if it is not refused
abbrev pub on_turn : (Top → Result Top Refusal) → Result Top Refusal → Result Top Refusal
on_turn go (Err e) = Err e
on_turn go (Ok t) = go t

-- the first of these that is false
unfoldable pub lost_from : List Bool → Option ℕ
lost_from [] = None
lost_from (b ∷ bs) = choose b (λ u. option_map suc (lost_from bs)) (λ u. Some 0)

-- 17 if a function has no rule
abbrev pub or_lost : Top → Option ℕ → (Unit {0} → Result Top Refusal) → Result Top Refusal
or_lost t (Some f) go = refuse FunctionWithoutRule (declared_at (declared t.read.exceptions (own_arities t)) f)
or_lost t None go = go tt

-- the end record, of which the place q is the first behind it: 17 first, then 11 if there is a byte
unfoldable pub end_turn : Top → ℕ → ℕ → Result Top Refusal
end_turn t q len = or_lost t (lost_from (own_ruled t)) (λ u. choose (ltb q len) (λ u. refuse BytesLeftOver q) (λ u. Ok (ended t)))

module _ (ws : List ℕ) where
  -- a turn by its record: 2 where there is none, 3 where its kind is none of a program's
  unfoldable pub record_turn : Top → Option Record → Result Top Refusal
  record_turn t None = refuse BytesEnd t.place
  record_turn t (Some r) =
      choose (eqb r.kind 1) (λ u. exception_turn t r.body (t.place + r.len))
      (λ u. choose (eqb r.kind 2) (λ u. function_turn t r.body r.second (t.place + r.len))
      (λ u. choose (eqb r.kind 3) (λ u. rule_turn ws t r.body (t.place + r.len))
      (λ u. choose (eqb r.kind 4) (λ u. end_turn t (t.place + r.len) (length ws))
      (λ u. refuse KindNotAllowed t.place))))

  -- one turn
  unfoldable pub turn_of : Top → Result Top Refusal
  turn_of t = record_turn t (record_at ws t.place)

  -- turns until the end, as many as the fuel has
  unfoldable pub turns : ℕ → Top → Result Top Refusal
  turns zero t = choose (at_end t.stage) (λ u. Ok t) (λ u. refuse BytesEnd t.place)
  turns (suc f) t = choose (at_end t.stage) (λ u. Ok t) (λ u. on_turn (turns f) (turn_of t))

  -- every record from the first on: no program has more than it has bytes
  unfoldable pub parse_of : Result Top Refusal
  parse_of = turns (suc (length ws)) start_top

-- which of n functions, from f on, have a rule
unfoldable pub marks : ℕ → ℕ → List RuleAt → List Bool
marks zero f rs = []
marks (suc n) f rs = has_rule f rs ∷ marks n (suc f) rs

-- what the code keeps of the theory's book, at the place p and the stage g
unfoldable pub top_at : Book → Stage → ℕ → Top
top_at s g p = record { place = p; stage = g; read = checked_as s; ruled = marks 32 0 s.rules_at }

-- what the code keeps of what the theory read to the end
unfoldable pub top_of : Bytes.Result Book → Result Top Refusal
top_of (refused r) = Err (refusal_of r)
top_of (good s) = Ok (top_at s End 0)

-- the openings that are in use
unfoldable pub own_openings : Top → List ℕ
own_openings t = take t.read.rules t.read.openings

-- what was read, unless two of its rules clash
unfoldable pub settled : Top → Option ℕ → Result Checked Refusal
settled t (Some q) = refuse RulesOverlap q
settled t None = Ok t.read
