-- Runs of a step, any function `next` from a term to the next one, if there is one, within a room; and what two buffers that take
-- turns hold.
use Rattle.std.specs.Prelude.{ℕ, zero, suc, ◌+◌, ◌-◌, ◌≤◌, ◌≡◌, List, [], length, drop, replicate, leb}
use Rattle.std.proofs.Math.Option.{Option, none, some}
use Rattle.theory.specs.Syntax.{pick}
use Rattle.theory.specs.Buffers.{over, padded}
use Rattle.std.specs.declared.ops.ControlFlow.{ControlFlow}
use Rattle.std.specs.declared.ops.ControlFlow.TheVariants.{Continue, Break}
use Rattle.place.specs.declared.Trail.{Trail}
use Rattle.step.specs.declared.Next.{Next}
use Rattle.step.specs.declared.Next.TheVariants.{Made, Over, Nothing}
use Rattle.turns.specs.declared.round.Stop.{Stop}
use Rattle.turns.specs.declared.round.Outcome.{Outcome}
use Rattle.turns.specs.declared.run.Ending.{Ending}
use Rattle.turns.specs.declared.run.Ending.TheVariants.{Done, Out, Big}
use Rattle.turns.specs.declared.run.Ran.{Ran}
use Rattle.turns.specs.declared.buffers.Buffers.{Buffers}
use Rattle.turns.specs.Buffers.{first_of, second_of, term_of}
use Rattle.step.specs.Next.{next_in, placed_next, OnNext}
use Rattle.in_place.specs.InPlace.{Leads}

-- what follows a turn's answer after so many steps
abbrev pub stop_at : Ending → ℕ → ControlFlow Stop ℕ
stop_at ending steps = Break (record { ending = ending; steps = steps })

unfoldable pub decided : Next → ℕ → ℕ → ControlFlow Stop ℕ
decided Nothing steps allowance = stop_at Done steps
decided Over steps allowance = pick (leb allowance steps) (stop_at Out steps) (stop_at Big (steps + 1))
decided (Made n) steps allowance = pick (leb allowance steps) (stop_at Out steps) (Continue n)

-- a round: steps in place lead from the term t to t', and the turn makes the next one from it in the other buffer o; the trail is noted up to
-- the place of the turn
pub record Rounded (ks : List ℕ) (next : List ℕ → Option (List ℕ)) (room steps allowance : ℕ) (t o t' o' : List ℕ) (trail : Trail) (r : Outcome) : Type 0 where
  pub more : steps ≤ r.steps
  pub within : r.steps ≤ allowance
  pub leads : Leads next room (r.steps - steps) t t'
  pub other : o' ≡ placed_next room (next t') o
  pub move : r.next ≡ decided (next_in room (next t')) r.steps allowance
  pub on : OnNext ks (next t') trail.places.now trail.last

-- how a run ends, after how many steps, and its last term
pub record Last : Type 0 where
  pub ending : Ending
  pub steps : ℕ
  pub term : List ℕ

-- with no step left: done where nothing fits, else out of steps
abbrev pub stop : ℕ → List ℕ → Option (List ℕ) → Last
stop n t none = record { ending = Done; steps = n; term = t }
stop n t (some u) = record { ending = Out; steps = n; term = t }

-- with a step left: done where nothing fits; too big, the step counted, where the next term does not fit; else on from it
abbrev pub go : ℕ → ℕ → List ℕ → (List ℕ → Last) → Option (List ℕ) → Last
go room n t on none = record { ending = Done; steps = n; term = t }
go room n t on (some u) = pick (leb (length u) room) (on u) (record { ending = Big; steps = n + 1; term = t })

-- a run from the term t, n steps made and so many left
abbrev pub run : (List ℕ → Option (List ℕ)) → ℕ → ℕ → ℕ → List ℕ → Last
run next room zero n t = stop n t (next t)
run next room (suc left) n t = go room n t (run next room left (n + 1)) (next t)

-- a run from the start: too big, no step counted and no term, where t itself does not fit the room
abbrev pub run_from : (List ℕ → Option (List ℕ)) → ℕ → ℕ → List ℕ → Last
run_from next room allowance t = pick (leb (length t) room) (run next room allowance 0 t) (record { ending = Big; steps = 0; term = [] })

-- the answer of a run
abbrev pub ran_of : Last → Ran
ran_of l = record { ending = l.ending; steps = l.steps; len = length l.term }

-- what a run in two buffers leaves: the answer, which is said of it; its last term in the first, then zeros up to the room; zeros up to the
-- room in the second
pub record Leaves {A : Type 0} (said : Last → A) (l : Last) (room : ℕ) (answer : A) (first first' second second' : List ℕ) : Type 0 where
  pub value : answer ≡ said l
  pub first_after : first' ≡ over (padded room l.term) first
  pub second_after : second' ≡ over (replicate room 0) second

-- a run's turns, before the buffers are set in order
pub record Drove (l : Last) (at : Stop) (b b' : Buffers) : Type 0 where
  pub ending : at.ending ≡ l.ending
  pub steps : at.steps ≡ l.steps
  pub len : b'.size ≡ length l.term
  pub term : term_of b' ≡ l.term
  pub first_rest : drop b.room (first_of b') ≡ drop b.room (first_of b)
  pub second_rest : drop b.room (second_of b') ≡ drop b.room (second_of b)
