-- `TermBytes::put_terms` meets its contract: the slots are empty, and as many as the terms can need.
use native.Mathlib.Omega.{arith}
use Rattle.term_words.proofs.Late.{empty-clear}
use Rattle.term_words.proofs.TermBytes.put_terms.Goals as goal

pub put_with-requires-clause-n_in_bounds : goal.put_with-requires-clause-n_in_bounds
put_with-requires-clause-n_in_bounds c = (omega arith, empty-clear 513)
