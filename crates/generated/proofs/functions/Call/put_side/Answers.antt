-- `Call::put_side` meets its contract: the words are the first n + 1 of five.
use mathlib.Core.Path.{◌≡◌, sym, ap, ◌∙◌}
use mathlib.Core.List.{[], ◌∷◌}
use Prim.Native.Nat.{ℕ, ◌+◌}
use lib.ListN.{take}
use Rattle.theory.specs.Tree.{node}
use Rattle.theory.specs.Words.{words}
use Rattle.theory.specs.Translation.{aux, variables}
use Rattle.generated.proofs.Writes.{wrote_as, room_as}
use Rattle.generated.proofs.RuleWords.{call-words}
use Rattle.generated.proofs.functions.Call.put_side.Goals as goal
use Rattle.generated.proofs.functions.Call.put_side.Goals.{After-from}

first : (c : After-from) → let f = c.args.self in take (c.from.result + 1) (c.symbol.result ∷ 64 ∷ 65 ∷ 66 ∷ 67 ∷ []) ≡ words (node (aux f.k c.args.j) (variables 0 f.n))
first c =
    let f = c.args.self in
    ap (λ (k : ℕ). take (k + 1) (c.symbol.result ∷ 64 ∷ 65 ∷ 66 ∷ 67 ∷ [])) c.from.ensures
    ∙ call-words c.symbol.result f.n f.n_bound
    ∙ ap (λ (w : ℕ). words (node w (variables 0 f.n))) c.symbol.ensures

pub put-requires : goal.put-requires
put-requires c =
    room_as c.args.out.now (sym (first (goal.at.put-requires c).After-from)) c.requires.room

pub returns : goal.returns
returns c =
    wrote_as (first (goal.at.returns c).After-from) c.put.ensures
