-- `Function::put_rules` meets its contract: the entry and the arguments, then the program's own rules.
use mathlib.Core.Path.{sym, ap, ◌∙◌}
use mathlib.Core.List.{◌++◌}
use Prim.Native.Nat.{ℕ, ◌+◌}
use native.Mathlib.Omega.{arith}
use lib.ListN.{length}
use Rattle.theory.specs.Words.{stored_rules}
use Rattle.generated.specs.CallRules.{call_rules}
use Rattle.generated.proofs.Writes.{wrote_as, wrote_then}
use Rattle.translator.specs.Listed.{rules_in, rules_words}
use Rattle.translator.proofs.Laws.{fun-words}
use Rattle.translator.proofs.Counts.{fun_length}
use Rattle.translator.proofs.program.Function.put_rules.Goals as goal

pub call_rules-requires-clause-room : goal.call_rules-requires-clause-room
call_rules-requires-clause-room c =
    let f = c.args.self.now in
    omega (arith, fun_length f.source f.number f.arity f.arity_value, ap (λ (n : ℕ). length (stored_rules (call_rules (16 + f.number) n))) c.from.ensures)

pub returns : goal.returns
returns c =
    let f = c.args.self.now in
    let own = rules_words f.number f.arity (rules_in f.source) in
    wrote_as (sym (fun-words f.source f.number f.arity f.arity_value ∙ ap (λ (n : ℕ). stored_rules (call_rules (16 + f.number) n) ++ own) (sym c.from.ensures)))
    (wrote_then c.call_rules.ensures c.put_own_rules.ensures)
