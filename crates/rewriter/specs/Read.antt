-- The ending that a term's words show, and the answer of a run.
use Rattle.std.specs.Prelude.{ℕ, zero, suc, ◌+◌, ◌-◌, List, [], ◌∷◌, ◌&&◌, eqb, leb, get_or, Option, Some, None}
use Rattle.theory.specs.Syntax.{pick}
use Rattle.rules.specs.declared.index.Span.{Span}
use Rattle.rules.specs.declared.lists.Lists.{Lists}
use Rattle.step.specs.Next.{next_w}
use Rattle.turns.specs.Run.{Last, run_from}
use Rattle.turns.specs.declared.run.Ending.{Ending}
use Rattle.turns.specs.declared.run.Ending.TheVariants.{Done}
use Rattle.turns.specs.declared.run.Ending.TheVariants as ending
use Rattle.words.specs.declared.base.Base.{Base}
use Rattle.words.specs.Base.{base_of}
use Rattle.rewriter.specs.declared.ending.Said.{Said}
use Rattle.rewriter.specs.declared.ending.Said.TheVariants.{Value, Raised, Stuck, Out, Big}
use Rattle.rewriter.specs.declared.Answer.{Answer}

-- fire over the word x: an exception's word is one of 32 to 47; over anything else it is stuck
unfoldable pub fire_w : ℕ → Said
fire_w x = pick (leb 32 x && leb x 47) (Raised (x - 32)) (Stuck 0)

-- fire under k succ signs
abbrev pub fired_w : ℕ → ℕ → Said
fired_w zero x = fire_w x
fired_w (suc k) x = Stuck (suc k)

-- the ending of a term under k succ signs whose root is w, no succ, and whose next word is x: a value, where w is a constant
abbrev pub based : ℕ → Option Base → Said → Said
based k (Some c) d = Value k c
based k None d = d

unfoldable pub root_w : ℕ → ℕ → ℕ → Said
root_w w k x = based k (base_of w) (pick (eqb w 6) (fired_w k x) (Stuck k))

unfoldable pub read_w : List ℕ → ℕ → Said
read_w [] k = Stuck k
read_w (w ∷ ws) k = pick (eqb w 2) (read_w ws (k + 1)) (root_w w k (get_or ws 0 0))

-- what a run says that ends so, with this term
abbrev pub said_w : Ending → List ℕ → Said
said_w Done t = read_w t 0
said_w ending.Out t = Out
said_w ending.Big t = Big

abbrev pub answer_w : Last → Answer
answer_w l = record { said = said_w l.ending l.term; steps = l.steps }

-- THE RUN from a question's words, within the room and the allowance
unfoldable pub run_on : (ks standing own : List ℕ) (standingIndex ownIndex : List Span) (question : List ℕ) (room allowance : ℕ) → Last
run_on ks standing own standingIndex ownIndex question room allowance = run_from (next_w ks standing own standingIndex ownIndex) room allowance question

-- the same by the lists that are lent
abbrev pub run_by : Lists → (question : List ℕ) (room allowance : ℕ) → Last
run_by l = run_on l.arities.now l.standing.list.now l.own.list.now l.standing.index.now l.own.index.now
