-- `checker::node::Declared::node_of` meets its contract.
use mathlib.Core.Path.{sym, ap, ◌∙◌}
use Prim.Native.Nat.{ℕ}
use Rattle.record.specs.Kind.{byte_of}
use Rattle.checker.specs.Node.{tok_at, node_of}
use Rattle.checker.proofs.node.Laws.{call_read}
use Rattle.checker.proofs.node.Declared.node_of.Goals as goal

pub returns-in-Call : goal.returns-in-Call
returns-in-Call c = λ p.
    let a = c.args in
    c.of_function.ensures ∙ call_read a.self.exceptions a.self.arities.now p a.body
    ∙ ap (λ (k : ℕ). node_of (tok_at a.self.exceptions a.self.arities.now p k a.body)) (ap byte_of (sym c.in-Call.is) ∙ c.in_ok-try_from.ensures)
