-- `program::Ready::of` meets its contract.
use Rattle.translator.proofs.Accepted.{accepted-ready}
use Rattle.translator.proofs.program.Ready.of.Goals as goal

pub invariant_of-result-clause-listed : goal.invariant_of-result-clause-listed
invariant_of-result-clause-listed c = ∣ (accepted-ready c.args.source.now c.requires).listed ∣₁

pub invariant_of-result-clause-small : goal.invariant_of-result-clause-small
invariant_of-result-clause-small c = (accepted-ready c.args.source.now c.requires).small
