-- A program's own list, from its bytes: the arities, how many exceptions and functions it has, and its rules.
use Rattle.std.specs.Prelude.{ℕ, ◌+◌, List, ◌++◌, get_or}
use Rattle.theory.specs.Syntax.{Fun}
use Rattle.theory.specs.Tree.{Rule}
use Rattle.theory.specs.Translation.{exn_rules, fun_rules, gather, numbers}
use Rattle.theory.specs.Bytes.{defs_of}
use Rattle.translator.specs.declared.Source.{Source}
use Rattle.translator.specs.Listed.{rules_in}

-- the declared function f
abbrev pub fun_at : Source → ℕ → Fun
fun_at s f = record { arity = get_or s.arities.now (16 + f) 0; defs = defs_of f (rules_in s) }

abbrev pub rules_for : Source → ℕ → List Rule
rules_for s f = fun_rules (λ k. fun_at s f) (16 + f)

-- all rules: those of its exceptions, and of its functions
abbrev pub own_in : Source → List Rule
own_in s = exn_rules s.exceptions ++ gather (rules_for s) (numbers 0 s.functions)
