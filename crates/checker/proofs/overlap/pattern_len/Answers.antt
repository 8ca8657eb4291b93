-- `checker::overlap::pattern_len` meets its contract.
use mathlib.Core.Path.{◌∙◌, sym}
use mathlib.Core.Bool.{not}
use lib.Dec.{eqb}
use Rattle.std.proofs.Common.{rules, tests}
use Rattle.std.proofs.lemmas.Iterator.{YieldsList-from_slice}
use Rattle.std.proofs.lemmas.Iterator.Search.{position_from_yields_List}
use Rattle.checker.proofs.overlap.Laws.{pat-none, pat-var, pat-other}
use Rattle.checker.proofs.overlap.pattern_len.Goals as goal

pub returns-in-None : goal.returns-in-None
returns-in-None c =
    let bs = c.args.bytes.now in
    let found = position_from_yields_List (λ b. not (eqb b 0x11)) _ _ _ c.position.ensures.ran (YieldsList-from_slice bs cc) (λ x b q k. search (rules, tests)) in
    pat-none bs (sym found ∙ c.in-None.is)

pub returns-in-Some : goal.returns-in-Some
returns-in-Some c =
    let bs = c.args.bytes.now in
    let found = position_from_yields_List (λ b. not (eqb b 0x11)) _ _ _ c.position.ensures.ran (YieldsList-from_slice bs cc) (λ x b q k. search (rules, tests)) in
    pat-var bs _ (sym found ∙ c.in-Some.is) c.if-bytes-succs-eq-VARIABLE.true

pub returns-in-Some-2 : goal.returns-in-Some-2
returns-in-Some-2 c =
    let bs = c.args.bytes.now in
    let found = position_from_yields_List (λ b. not (eqb b 0x11)) _ _ _ c.position.ensures.ran (YieldsList-from_slice bs cc) (λ x b q k. search (rules, tests)) in
    pat-other bs _ (sym found ∙ c.in-Some.is) c.if-bytes-succs-eq-VARIABLE.false
