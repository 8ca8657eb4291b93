-- The exceptions of handles, which stand behind the guarded parts: each is kept for the number of terms that are owed when its guarded part is passed.
use Rattle.std.specs.Prelude.{ℕ, ◌≤◌, ◌≡◌, List, get_or, Option, None}
use Rattle.theory.specs.Bytes.{ceiling, in_question}

-- the most words that are written at once: a question's ceiling, which is the highest. Each term that is owed has a word at least, so no more are owed
abbrev pub most_owed : ℕ
most_owed = ceiling in_question

-- nothing is kept for n or more terms
pub record Clear (late : List (Option ℕ)) (n : ℕ) : Type 0 where
  pub none : (j : ℕ) → n ≤ j → get_or late j None ≡ None
