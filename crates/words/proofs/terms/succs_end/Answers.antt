-- `terms::succs_end` meets its contract: behind the blocks, the run is the succs at the front of the rest.
use mathlib.Core.Path.{◌≡◌, sym, ap, ◌∙◌}
use Rattle.std.proofs.Common.{rules, tests}
use mathlib.Core.Bool.{Bool}
use Prim.Native.Nat.{ℕ, ◌+◌}
use lib.ListN.{drop, drop_of_length-le}
use lib.Dec.{eqb}
use Rattle.std.proofs.lemmas.Iterator.{YieldsList-from_slice}
use Rattle.std.proofs.lemmas.Iterator.Consumers.{count_from_yields_List}
use Rattle.std.proofs.lemmas.Iterator.Search.{YieldsList-from_take_while}
use Rattle.std.proofs.lemmas.List.Folds.{length-prefix_len}
use Rattle.std.specs.List.{prefix_len}
use native.Mathlib.Omega.{arith}
use Rattle.std.proofs.lemmas.Grind.{common_steps}
use Rattle.std.proofs.lemmas.Option.{gets}
use Rattle.words.proofs.Skips.{succs_prefix}
use Rattle.words.proofs.terms.succs_end.Goals as goal

pub returns : goal.returns
returns c =
    let is_succ : ℕ → Bool = λ w. eqb w 2 in
    let i = c.blocks_end-i.result in
    let n = count_from_yields_List c.take_while.result _ c.count.ensures.ran (YieldsList-from_take_while _ is_succ (YieldsList-from_slice c.unwrap_or-rest.result.now (cc)) c.take_while.ensures.closure c.take_while.ensures.done (λ x b q k. search (rules, tests))) ∙ length-prefix_len is_succ c.unwrap_or-rest.result.now in
    let rest : c.unwrap_or-rest.result.now ≡ drop i c.args.words.now = grind (arith, common_steps, gets, drop_of_length-le) in
    ap (λ (k : ℕ). i + k) (n ∙ ap (prefix_len is_succ) rest) ∙ sym (succs_prefix (drop i c.args.words.now) i) ∙ sym c.blocks_end-i.ensures
