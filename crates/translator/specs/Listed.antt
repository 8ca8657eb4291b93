-- The rules of an accepted program, where they stand in its bytes.
use Rattle.std.specs.Prelude.{◌≡◌, ℕ, ◌+◌, ◌≤◌, ◌<◌, List, [], ◌∷◌, length, get_or}
use Rattle.theory.specs.Words.{stored_rules}
use Rattle.theory.specs.Translation.{trees, pat_ts, own_rules}
use Rattle.theory.specs.Bytes.{Result, refused, good, Book, RuleAt, first_terms, defs_of, read_program}
use Rattle.term_words.specs.Records.{terms_at, term_at}
use Rattle.translator.specs.declared.Source.{Source}
use Rattle.translator.specs.Opened.{Opened, right_at}

abbrev pub arity_of : Source → RuleAt → ℕ
arity_of s r = get_or s.arities.now (16 + r.owner) 0

-- the rule r stands at p
pub record Here (s : Source) (p : ℕ) (r : RuleAt) : Type 0 where
  pub owner : get_or s.program.now (p + 1) 0 ≡ r.owner
  pub opened : Opened s p (arity_of s r)
  pub left : pat_ts r.sides.left ≡ trees (first_terms (arity_of s r) (terms_at s.arities.now s.program.now (p + 2)))
  pub right : r.sides.right ≡ term_at s.arities.now s.program.now (right_at s p (arity_of s r))

-- each rule stands at its opening
abbrev pub Stand : Source → List ℕ → List RuleAt → Type 0
Stand s [] [] = Unit {0}
Stand s [] (r ∷ rs) = ⊥
Stand s (p ∷ ps) [] = ⊥
Stand s (p ∷ ps) (r ∷ rs) = Here s p r × Stand s ps rs

-- the rules that are read from a program
abbrev pub rules_of : Result Book → List RuleAt
rules_of (refused r) = []
rules_of (good b) = b.rules_at

unfoldable pub rules_in : Source → List RuleAt
rules_in s = rules_of (read_program s.program.now)

-- the words of the rules of function f among rs, where it has n arguments
abbrev pub rules_words : ℕ → ℕ → List RuleAt → List ℕ
rules_words f n rs = stored_rules (own_rules (16 + f) n (defs_of f rs))

-- the rules of a program stand at its openings
pub record Listed (s : Source) : Type 0 where
  pub stand : Stand s s.openings.now (rules_in s)
  pub few : length s.openings.now ≤ 64

-- there are few exceptions and functions, and the functions have at most four arguments
pub record Small (s : Source) : Type 0 where
  pub exceptions : s.exceptions ≤ 16
  pub functions : s.functions ≤ 32
  pub arities : (f : ℕ) → f < s.functions → get_or s.arities.now (16 + f) 0 ≤ 4
