-- The last term of a run fits the room, and stands at the front of the first buffer.
use mathlib.Core.Path.{◌≡◌, refl, ap, ap₂, ◌∙◌}
use mathlib.Core.Bool.{Bool, true, false}
use mathlib.Core.Option.{Option, none, some}
use mathlib.Core.List.{List, []}
use Prim.Native.Nat.{ℕ, zero, suc, ◌+◌, ◌≤◌}
use native.Mathlib.Omega.{arith}
use lib.Dec.{leb}
use lib.ListN.{length, take}
use Rattle.theory.specs.Syntax.{pick}
use Rattle.theory.proofs.Tests.{le-of-leb}
use Rattle.theory.proofs.CountedSteps.{over-begins}
use Rattle.turns.specs.Run.{Last, stop, go, run, run_from, ran_of, Leaves}
use Rattle.turns.specs.declared.run.Ran.{Ran}
use Rattle.turns.specs.declared.run.Ending.TheVariants.{Big}
use Rattle.rewriter.specs.Read.{said_w, answer_w}
use Rattle.rewriter.specs.declared.ending.Said.{Said}
use Rattle.rewriter.specs.declared.Answer.{Answer}

module _ (next : List ℕ → Option (List ℕ)) (room : ℕ) where
  abbrev Fits : Last → Type 0
  Fits l = length l.term ≤ room

  stop-fits : (n : ℕ) (t : List ℕ) (o : Option (List ℕ)) → length t ≤ room → Fits (stop n t o)
  stop-fits n t none h = h
  stop-fits n t (some u) h = h

  go-fits : (n : ℕ) (t : List ℕ) (on : List ℕ → Last) (o : Option (List ℕ)) → length t ≤ room → ((u : List ℕ) → length u ≤ room → Fits (on u)) → Fits (go room n t on o)
  go-fits n t on none h ih = h
  go-fits n t on (some u) h ih = both (leb (length u) room) refl
    where
      both : (b : Bool) → leb (length u) room ≡ b → Fits (pick b (on u) (record { ending = Big; steps = n + 1; term = t }))
      both true e = ih u (le-of-leb (length u) room e)
      both false e = h

  run_fits : (left n : ℕ) (t : List ℕ) → length t ≤ room → Fits (run next room left n t)
  run_fits zero n t h = stop-fits n t (next t) h
  run_fits (suc left) n t h = go-fits n t (run next room left (n + 1)) (next t) h (λ u k. run_fits left (n + 1) u k)

  pub from-fits : (allowance : ℕ) (t : List ℕ) → length (run_from next room allowance t).term ≤ room
  from-fits allowance t = both (leb (length t) room) refl
    where
      both : (b : Bool) → leb (length t) room ≡ b → Fits (pick b (run next room allowance 0 t) (record { ending = Big; steps = 0; term = [] }))
      both true e = run_fits allowance 0 t (le-of-leb (length t) room e)
      both false e = omega arith

-- the answer that the code puts together, from what the run leaves
pub settled : (l : Last) (room : ℕ) (r : Ran) (f f' s s' : List ℕ) (said : Said) → Leaves ran_of l room r f f' s s' → length l.term ≤ room → room ≤ length f → said ≡ said_w r.ending (take r.len f')
    → Leaves answer_w l room (record { said = said; steps = r.steps }) f f' s s'
settled l room r f f' s s' said ran h k es =
    let p : take r.len f' ≡ l.term = ap₂ (λ (x : Ran) (g : List ℕ). take x.len g) ran.value ran.first_after ∙ over-begins l.term _ f (omega arith) in
    record {
      value = ap₂ {C = Answer} (λ (s : Said) (n : ℕ). record { said = s; steps = n }) (es ∙ ap₂ (λ (x : Ran) (t : List ℕ). said_w x.ending t) ran.value p) (ap (λ (x : Ran). x.steps) ran.value);
      first_after = ran.first_after;
      second_after = ran.second_after;
    }
