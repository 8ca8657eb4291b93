-- `shapes::are_vars` meets its contract.
use mathlib.Core.Path.{◌≡◌, sym, ◌∙◌}
use Rattle.std.specs.Bool.{Decides}
use Rattle.std.proofs.lemmas.Bool.Decides.{Decides-eqb}
use Rattle.std.proofs.lemmas.Slice.Eq.{slice_eq-Decides}
use lib.ListN.{take}
use Rattle.in_place.specs.InPlace.{vars}
use Rattle.in_place.proofs.Variables.{take-vars}
use Rattle.in_place.proofs.shapes.are_vars.Goals as goal

pub returns : goal.returns
returns c =
    let a = c.args in
    let first = take-vars a.n 8 64 c.requires in
    let equal : Decides c.eq.result (a.words.now ≡ take a.n (vars 64 8)) = slice_eq-Decides Decides-eqb a.words.now (take a.n (vars 64 8)) c.eq.result c.eq.ensures in
    (λ e. equal.0 e ∙ first, λ h. equal.1 (h ∙ sym first))
