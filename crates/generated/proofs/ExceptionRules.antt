-- An exception's four kinds of rules, one after the other, and how many words they are.
use mathlib.Core.Path.{◌≡◌, ap, ◌∙◌}
use mathlib.Core.List.{List, ◌++◌}
use Prim.Native.Nat.{ℕ}
use Rattle.theory.specs.Tree.{Rule}
use Rattle.theory.specs.Words.{stored_rules}
use Rattle.theory.specs.Translation.{raise_rule, handle_rule, same_rule, other_rule, exn_rules, gather, numbers}
use Rattle.theory.proofs.Readability.{list-append}
use Rattle.words.proofs.Writes.{length-put}
use Rattle.std.proofs.iter.Serving.{serving}
use Rattle.generated.proofs.Writes.{below, length_both}

-- the rules of the fired exceptions with the others
abbrev others : ℕ → ℕ → List Rule
others n = λ d. gather (other_rule d) (numbers 0 n)

-- four lists of rules, one after the other
list-four : (a b c d : List Rule) → stored_rules (a ++ (b ++ (c ++ d))) ≡ stored_rules a ++ (stored_rules b ++ (stored_rules c ++ stored_rules d))
list-four a b c d =
    list-append a (b ++ (c ++ d)) ∙ ap (stored_rules a ++◌) (list-append b (c ++ d) ∙ ap (stored_rules b ++◌) (list-append c d))

pub four_kinds : (n : ℕ) → stored_rules (exn_rules n) ≡ below raise_rule n ++ (below handle_rule n ++ (below same_rule n ++ below (others n) n))
four_kinds n = list-four (gather raise_rule (numbers 0 n)) (gather handle_rule (numbers 0 n)) (gather same_rule (numbers 0 n)) (gather (others n) (numbers 0 n))

-- there is room for each kind behind those before it: a slice keeps its length, and `serving` is for the closures that write
pub ruleset rooms = (length_both, length-put, serving)
