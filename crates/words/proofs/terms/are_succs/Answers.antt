-- `terms::are_succs` meets its contract. The loop's invariant: where the words so far are succ's, the run ends where it ends behind them.
use mathlib.Core.Path.{sym, ap, ◌∙◌}
use mathlib.Core.Bool.{◌&&◌}
use Prim.Native.Nat.{ℕ, ◌+◌, ◌-◌, ◌<◌}
use lib.Dec.{eqb}
use native.Mathlib.Omega.{arith}
use lib.ListN.{drop}
use lib.Seq.{get_or-drop}
use Rattle.std.proofs.lemmas.List.{get_or-take}
use Rattle.words.proofs.Skips.{succs-more}
use Rattle.words.proofs.terms.are_succs.Goals as goal

pub loop-w-preserved : goal.loop-w-preserved
loop-w-preserved c =
    let a = c.args in
    let l = c.loop-w in
    let in-block : l.w-index < a.at + 16 - a.at = omega arith in
    let word = get_or-take (a.at + 16 - a.at) (drop a.at a.words.now) l.w-index 0 in-block ∙ get_or-drop a.at a.words.now l.w-index 0 in
    λ t. succs-more a.words.now a.at l.w-index l.all (omega arith) l.invariant (sym (ap (λ (w : ℕ). l.all && eqb w 2) word) ∙ t)
