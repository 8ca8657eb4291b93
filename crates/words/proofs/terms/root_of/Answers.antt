-- `terms::root_of` meets its contract.
use mathlib.Core.Path.{sym}
use Rattle.words.proofs.Skips.{succs-other}
use Rattle.words.proofs.terms.root_of.Goals as goal

pub returns-then-words-at-ne-SUCC : goal.returns-then-words-at-ne-SUCC
returns-then-words-at-ne-SUCC c = sym (succs-other _ _ c.if-at-words.true c.if-words-at-ne-SUCC.true)
