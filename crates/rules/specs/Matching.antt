-- A rule's left side against the words of a subject, from left to right.
use Rattle.std.specs.Prelude.{ℕ, ◌+◌, ◌-◌, Bool, true, false, List, [], ◌∷◌, Option, Some, None, eqb, ltb, length, get_or, set}
use Rattle.theory.specs.Syntax.{pick}
use Rattle.theory.specs.Words.{is_var}
use Rattle.theory.specs.Buffers.{part}
use Rattle.words.specs.Terms.{skip_at}
use Rattle.rules.specs.declared.index.Span.{Span}

-- the place past what the word p of a left side takes of the subject ss from the place j on: a variable takes a whole term, any other word must be the word there
unfoldable pub takes : List ℕ → List ℕ → ℕ → ℕ → Option ℕ
takes ks ss p j = pick (is_var p) (skip_at ks ss j) (pick (ltb j (length ss)) (pick (eqb p (get_or ss j 0)) (Some (j + 1)) None) None)

abbrev pub reached : {A : Type 0} → Option ℕ → (ℕ → A) → A → A
reached (Some e) f d = f e
reached None f d = d

-- each word of the left side takes its words, from the place j on
unfoldable pub fits : List ℕ → List ℕ → List ℕ → ℕ → Bool
fits ks ss [] j = true
fits ks ss (p ∷ ps) j = reached (takes ks ss p j) (fits ks ss ps) false

-- no words; where those stand that a variable takes
abbrev pub no_words : Span
no_words = record { from = 0; to = 0 }

abbrev pub taken_by : List Span → ℕ → Span
taken_by bound x = get_or bound x no_words

-- the slots with x in that of the word p, where p is a variable
unfoldable pub noted : List Span → ℕ → Span → List Span
noted slots p x = pick (is_var p) (set slots (p - 64) x) slots

-- where the words start and end that each variable takes
unfoldable pub binds : List ℕ → List ℕ → List ℕ → ℕ → List Span → List Span
binds ks ss [] j slots = slots
binds ks ss (p ∷ ps) j slots = reached (takes ks ss p j) (λ e. binds ks ss ps e (noted slots p (record { from = j; to = e }))) slots

-- the words that a variable takes
abbrev pub bound_to : List ℕ → List Span → ℕ → List ℕ
bound_to ss bound x = part (taken_by bound x).from (taken_by bound x).to ss
