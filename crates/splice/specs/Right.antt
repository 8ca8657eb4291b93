-- A rule's right side with its variables replaced. Variable v is the word 64+v, for v below 8, and is bound to a part of the subject.
use Rattle.std.specs.Prelude.{ℕ, ◌+◌, ◌-◌, ◌≤◌, List, [], ◌∷◌, ◌++◌, Option, Some, None, length, take, drop, leb}
use Rattle.theory.specs.Syntax.{pick}
use Rattle.theory.specs.Words.{is_var}
use Rattle.theory.specs.Buffers.{over, part}
use Rattle.rules.specs.Matching.{taken_by}
use Rattle.rules.specs.declared.index.Span.{Span}
use Rattle.splice.specs.declared.Shown.{Shown}
use Rattle.splice.specs.declared.Shown.TheVariants.{Word, Part}

-- each variable's part ends within the n words of the subject
pub record Within (bound : List Span) (n : ℕ) : Type 0 where
  pub inside : (v : ℕ) → (taken_by bound v).to ≤ n

-- and ends no earlier than it starts
pub record Parts (bound : List Span) (n : ℕ) : Type 0 where
  pub within : Within bound n
  pub ordered : (v : ℕ) → (taken_by bound v).from ≤ (taken_by bound v).to

-- what the right side's word w stands for: of a variable's word its part; else itself
abbrev pub shown_by : List Span → ℕ → Shown
shown_by bound w = pick (is_var w) (Part (taken_by bound (w - 64))) (Word w)

-- the words that it stands for, and how many there are
abbrev pub words_of : List ℕ → Shown → List ℕ
words_of subject (Word w) = w ∷ []
words_of subject (Part s) = part s.from s.to subject

abbrev pub len_of : Shown → ℕ
len_of (Word w) = 1
len_of (Part s) = s.to - s.from

unfoldable pub word_for : List ℕ → List Span → ℕ → List ℕ
word_for subject bound w = words_of subject (shown_by bound w)

unfoldable pub word_len : List Span → ℕ → ℕ
word_len bound w = len_of (shown_by bound w)

-- the right side with its variables replaced, and how many words that is
abbrev pub new : List ℕ → List Span → List ℕ → List ℕ
new subject bound [] = []
new subject bound (w ∷ right) = word_for subject bound w ++ new subject bound right

abbrev pub new_len : List Span → List ℕ → ℕ
new_len bound [] = 0
new_len bound (w ∷ right) = word_len bound w + new_len bound right

-- the term t with the words from index at up to end, which a rule's left side fits, replaced by what its right side comes to; the
-- subject is all of t from there on
abbrev pub step_of : List ℕ → ℕ → ℕ → List ℕ → List Span → List ℕ
step_of t at end right bound = take at t ++ (new (part at (length t) t) bound right ++ drop end t)

-- the answer of a write of s into a room of so many words, and the buffer d after it: where s does not fit, none, and d is as it was
abbrev pub written_of : ℕ → List ℕ → Option ℕ
written_of room s = pick (leb (length s) room) (Some (length s)) None

abbrev pub placed : ℕ → List ℕ → List ℕ → List ℕ
placed room s d = pick (leb (length s) room) (over s d) d
