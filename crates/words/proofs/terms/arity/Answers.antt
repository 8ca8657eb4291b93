-- `terms::arity` meets its contract: each return is the case of `arity_of` that the test before it picks.
use native.Mathlib.Omega.{arith}
use borrow.Author.Tests.{lt-ltb, le-ltb}
use Rattle.std.proofs.lemmas.Grind.{common_steps}
use Rattle.std.proofs.lemmas.Option.{gets}
use Rattle.words.specs.Terms.{arity_of}
use Rattle.words.proofs.terms.arity.Goals as goal

pub returns-then-w-lt-FUNCTION : goal.returns-then-w-lt-FUNCTION
unfolding arity_of
returns-then-w-lt-FUNCTION c = simp (lt-ltb _ _ c.if-w-lt-FUNCTION.true) (grind (arith, common_steps, gets))

pub returns : goal.returns
unfolding arity_of
returns c = simp (le-ltb _ _ c.if-w-lt-FUNCTION.false) (grind (arith, common_steps, gets))
