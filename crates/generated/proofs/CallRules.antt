-- A function's entry rule and the rules of its arguments, one after the other: how many words they are.
use mathlib.Core.Path.{◌≡◌}
use Prim.Native.Nat.{ℕ, ◌+◌}
use lib.ListN.{length, length-append}
use Rattle.theory.specs.Words.{stored_rule, stored_rules}
use Rattle.theory.specs.Translation.{entry_rule, arg_rule}
use Rattle.words.proofs.Writes.{length-put}
use Rattle.std.proofs.iter.Serving.{serving}
use Rattle.generated.specs.CallRules.{call_rules}
use Rattle.generated.proofs.Writes.{below}

pub call_length : (k n : ℕ) → length (stored_rules (call_rules k n)) ≡ length (stored_rule (entry_rule k n)) + length (below (arg_rule k n) n)
call_length k n = length-append (stored_rule (entry_rule k n)) (below (arg_rule k n) n)

-- there is room for the arguments' behind the entry: a slice keeps its length, and `serving` is for the closure that writes
pub ruleset rooms = (call_length, length-put, serving)
