-- `terms::are_succs` meets its contract. The loop's invariant: where the words so far are succ's, the run ends where it ends behind them.
use mathlib.Core.Path.{◌≡◌}
use mathlib.Core.Bool.{true}
use Prim.Native.Nat.{◌+◌}
use lib.ListN.{drop}
use Rattle.words.specs.Terms.{succs_end}
use Rattle.words.proofs.terms.are_succs.Given as goal

abbrev pub invariant-loop-w : goal.invariant-loop-w
invariant-loop-w l =
    l.all ≡ true → succs_end (drop l.at l.words) l.at ≡ succs_end (drop (l.at + l.w-index) l.words) (l.at + l.w-index)
