-- `terms::skip` meets its contract: one term.
use Rattle.words.specs.Terms.{skip_at}
use Rattle.words.proofs.terms.skip.Goals as goal

pub returns : goal.returns
unfolding skip_at
returns c = c.skip_many.ensures
