-- A rule's records as they stand in a program: its opening and its function at p, then the left arguments, then the right side.
use Rattle.std.specs.Prelude.{◌≡◌, ℕ, suc, ◌+◌, ◌≤◌, List, [], eqb, length, get_or}
use Rattle.theory.specs.Syntax.{pick}
use Rattle.theory.specs.Tree.{node, Rule}
use Rattle.theory.specs.Words.{stored_rule}
use Rattle.theory.specs.Translation.{aux, tree, trees, ◌⇒◌}
use Rattle.theory.specs.Bytes.{first_terms}
use Rattle.term_words.specs.Records.{Whole, span_of, count_of, from, terms_at, term_at}
use Rattle.translator.specs.declared.Source.{Source}

-- where the right side begins, if the function has n arguments
abbrev pub right_at : Source → ℕ → ℕ → ℕ
right_at s p n = p + 2 + span_of (from s.arities.now s.program.now (p + 2)) n

-- the rewrite rule of function k that stands there: the last auxiliary at the root
abbrev pub rule_at : Source → ℕ → ℕ → ℕ → Rule
rule_at s p k n =
    node (aux k (suc n)) (trees (first_terms n (terms_at s.arities.now s.program.now (p + 2)))) ⇒ tree (term_at s.arities.now s.program.now (right_at s p n))

-- both sides are whole, and not larger than a right side may be
pub record Opened (s : Source) (p n : ℕ) : Type 0 where
  pub inside : p + 2 ≤ length s.program.now
  pub left : Whole (from s.arities.now s.program.now (p + 2)) n
  pub right : Whole (from s.arities.now s.program.now (right_at s p n)) 1
  pub small_left : count_of (from s.arities.now s.program.now (p + 2)) n ≤ 128
  pub small_right : count_of (from s.arities.now s.program.now (right_at s p n)) 1 ≤ 128

-- the same of the rule at p, if it is one of function f
pub record OpenedFor (s : Source) (p f n : ℕ) : Type 0 where
  pub inside : p + 2 ≤ length s.program.now
  pub opened : get_or s.program.now (p + 1) 0 ≡ f → Opened s p n

-- the rule's words where it is one of function f, and none where it is not
abbrev pub rule_if : Source → ℕ → ℕ → ℕ → List ℕ
rule_if s p f n = pick (eqb (get_or s.program.now (p + 1) 0) f) (stored_rule (rule_at s p (16 + f) n)) []
