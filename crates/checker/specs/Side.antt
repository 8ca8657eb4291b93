-- A term's records one after another, on a left side, on a right side or in a question: the variables seen stand as eight booleans, and no list of records is kept. `Bytes` of the theory says what is right; proofs/ shows that the scan is the same.
use Rattle.std.specs.Prelude.{ℕ, zero, suc, ◌+◌, ◌-◌, Bool, true, false, List, [], ◌∷◌, length, get_or, set, leb, Option, Some, None, Result, Ok, Err}
use Rattle.theory.specs.Bytes.{Where, on_left, on_right, in_question, refused, good, TermRecord, constant_record, succ_record, if_record, variable_record, raise_record, handle_record, call_record, record_parts, record_words}
use Rattle.theory.specs.Bytes
use Rattle.theory.specs.Syntax.{elem, choose, pick}
use Rattle.checker.specs.declared.side.Stand.{Stand}
use Rattle.checker.specs.declared.side.Stand.TheVariants.{Left, Right, Asked}
use Rattle.checker.specs.declared.side.Side.{Side}
use Rattle.record.specs.declared.Record.{Record}
use Rattle.checker.specs.declared.side.Step.{Step}
use Rattle.checker.specs.declared.refusal.Reason.{Reason}
use Rattle.checker.specs.declared.refusal.Reason.TheVariants.{BytesEnd, NotOnLeft, VariableTwice, VariableUnknown, TooManyWords}
use Rattle.checker.specs.declared.refusal.Refusal.{Refusal}
use Rattle.checker.specs.Refusal.{reason_of, refuse, refusal_of}
use Rattle.record.specs.Record.{record_at}
use Rattle.checker.specs.Node.{tok_at}

-- a record that is let in, with p parts and w words
abbrev pub passed : ℕ → ℕ → List Bool → Step
passed p w s = record { parts = p; words = w; seen = s }

-- the same of the theory's record
abbrev pub taken : TermRecord → List Bool → Result Step Reason
taken t s = Ok (passed (record_parts t) (record_words t) s)

-- refusals 5, 6 and 7, with the variables seen as booleans
unfoldable pub admitted : Stand → List Bool → TermRecord → Result Step Reason
admitted Left s (constant_record b) = taken (constant_record b) s
admitted Left s succ_record = taken succ_record s
admitted Left s if_record = Err NotOnLeft
admitted Left s (variable_record x) = pick (get_or s x false) (Err VariableTwice) (taken (variable_record x) (set s x true))
admitted Left s (raise_record e) = Err NotOnLeft
admitted Left s (handle_record e) = Err NotOnLeft
admitted Left s (call_record k n) = Err NotOnLeft
admitted Right s (constant_record b) = taken (constant_record b) s
admitted Right s succ_record = taken succ_record s
admitted Right s if_record = taken if_record s
admitted Right s (variable_record x) = pick (get_or s x false) (taken (variable_record x) s) (Err VariableUnknown)
admitted Right s (raise_record e) = taken (raise_record e) s
admitted Right s (handle_record e) = taken (handle_record e) s
admitted Right s (call_record k n) = taken (call_record k n) s
admitted Asked s (constant_record b) = taken (constant_record b) s
admitted Asked s succ_record = taken succ_record s
admitted Asked s if_record = taken if_record s
admitted Asked s (variable_record x) = Err VariableUnknown
admitted Asked s (raise_record e) = taken (raise_record e) s
admitted Asked s (handle_record e) = taken (handle_record e) s
admitted Asked s (call_record k n) = taken (call_record k n) s

-- a record of a term where it stands: refused before, or let in there
unfoldable pub step_of : Stand → List Bool → Bytes.Result TermRecord → Result Step Reason
step_of m s (refused r) = Err (reason_of r.number)
step_of m s (good t) = admitted m s t

-- the words that a side or a question may have
unfoldable pub most_of : Stand → ℕ
most_of Left = 32
most_of Right = 128
most_of Asked = 512

-- the words that count before any is read: on a left side that of the function
abbrev pub base_of : Stand → ℕ
base_of Left = 1
base_of Right = 0
base_of Asked = 0

-- no variable seen
abbrev pub no_vars : List Bool
no_vars = false ∷ false ∷ false ∷ false ∷ false ∷ false ∷ false ∷ false ∷ []

-- what one record makes of a side: it ends there, or `go` goes on behind it
unfoldable pub on_step : (List Bool → ℕ → ℕ → ℕ → Result Side Refusal) → ℕ → ℕ → ℕ → ℕ → ℕ → Result Step Reason → Result Side Refusal
on_step go most due count p n (Err r) = refuse r p
on_step go most due count p n (Ok t) =
    choose (leb (count + t.words) most) (λ u. go t.seen (t.parts + due) (count + t.words) (p + n)) (λ u. refuse TooManyWords p)

module _ (n : ℕ) (ns ws : List ℕ) where
  -- the same from the record itself: refusal 2 where there is none
  unfoldable pub on_record : (List Bool → ℕ → ℕ → ℕ → Result Side Refusal) → Stand → List Bool → ℕ → ℕ → ℕ → Option Record → Result Side Refusal
  on_record go m s due count p None = refuse BytesEnd p
  on_record go m s due count p (Some r) = on_step go (most_of m) due count p r.len (step_of m s (tok_at n ns p r.kind r.body))

  -- the side that has `due` terms still to come and `count` words already, from the place p on: as `read_side` of the theory, by places
  unfoldable pub scan : ℕ → Stand → List Bool → ℕ → ℕ → ℕ → Result Side Refusal
  scan zero m s zero count p = Ok (record { at = p; seen = s })
  scan zero m s (suc due) count p = refuse BytesEnd p
  scan (suc f) m s zero count p = Ok (record { at = p; seen = s })
  scan (suc f) m s (suc due) count p = on_record (scan f m) m s due count p (record_at ws p)

  -- with as much fuel as there can be records
  unfoldable pub scan_from : Stand → List Bool → ℕ → ℕ → ℕ → Result Side Refusal
  scan_from m s due count p = scan (suc (length ws - p)) m s due count p

-- where a term stands, from the theory's `Where`
abbrev pub stand_of : Where → Stand
stand_of (on_left xs) = Left
stand_of (on_right xs) = Right
stand_of in_question = Asked

-- a list of variables as eight booleans
abbrev pub bits : List ℕ → List Bool
bits xs = elem 0 xs ∷ elem 1 xs ∷ elem 2 xs ∷ elem 3 xs ∷ elem 4 xs ∷ elem 5 xs ∷ elem 6 xs ∷ elem 7 xs ∷ []

-- the variables seen, from the theory's `Where`
abbrev pub seen_in : Where → List Bool
seen_in (on_left xs) = bits xs
seen_in (on_right xs) = bits xs
seen_in in_question = no_vars

-- what the code keeps of a side that was read
abbrev pub side_of : Bytes.Result Bytes.Side → Result Side Refusal
side_of (refused r) = Err (refusal_of r)
side_of (good s) = Ok (record { at = s.from; seen = seen_in s.seen })
