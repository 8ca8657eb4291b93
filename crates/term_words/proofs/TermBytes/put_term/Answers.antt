-- `TermBytes::put_term` meets its contract: one term.
use native.Mathlib.Omega.{arith}
use Rattle.generated.proofs.Writes.{wrote_as}
use Rattle.term_words.proofs.Laws.{record-inside, term-alone}
use Rattle.term_words.proofs.TermBytes.put_term.Goals as goal

pub put_terms-requires-clause-p_in_bounds : goal.put_terms-requires-clause-p_in_bounds
put_terms-requires-clause-p_in_bounds c =
    let a = c.args.self in
    let b = record-inside a.arities.now a.bytes.now c.args.p c.requires.whole in
    (omega (arith, b), c.requires.whole)

pub returns-clause-wrote : goal.returns-clause-wrote
returns-clause-wrote c = wrote_as (term-alone c.args.self.arities.now c.args.self.bytes.now c.args.p c.requires.whole) c.put_terms.ensures.wrote
