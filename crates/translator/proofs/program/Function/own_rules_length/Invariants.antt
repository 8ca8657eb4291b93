-- `Function::own_rules_length` meets its contract. The invariant: of the rules before the opening those of f are counted.
use mathlib.Core.Path.{◌≡◌}
use Prim.Native.Nat.{◌*◌, ◌≤◌}
use lib.ListN.{length, take}
use Rattle.translator.specs.Listed.{rules_in, rules_words}
use Rattle.translator.proofs.program.Function.own_rules_length.Given as goal

abbrev pub invariant-loop-p : goal.invariant-loop-p
invariant-loop-p l = (l.count ≡ length (rules_words l.self.number l.self.arity (take l.p-index (rules_in l.self.source)))) × (l.count ≤ 2002 * l.p-index)
