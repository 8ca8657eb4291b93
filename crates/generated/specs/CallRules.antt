-- The rules that function k with n arguments has besides the program's: its entry, and its arguments from the first.
use Rattle.std.specs.Prelude.{ℕ, List, ◌∷◌}
use Rattle.theory.specs.Tree.{Rule}
use Rattle.theory.specs.Translation.{entry_rule, arg_rule, gather, numbers}

abbrev pub call_rules : ℕ → ℕ → List Rule
call_rules k n = entry_rule k n ∷ gather (arg_rule k n) (numbers 0 n)
