-- Two lent buffers that take turns. They change over, so the one that came first is the term's or the other.
use Rattle.std.specs.Prelude.{ℕ, ◌≡◌, Bool, true, false, List, length, take}
use Rattle.turns.specs.declared.buffers.Buffers.{Buffers}

-- of two, the second where the flag says so, else the first
abbrev pub source : {A : Type 0} → Bool → A → A → A
source false x y = x
source true x y = y

-- what the buffer holds that came first, and what the other one does
abbrev pub first_of : Buffers → List ℕ
first_of b = source b.flip b.term.now b.other.now

abbrev pub second_of : Buffers → List ℕ
second_of b = source b.flip b.other.now b.term.now

abbrev pub term_of : Buffers → List ℕ
term_of b = take b.size b.term.now

-- the same two lent buffers, with the same room, whatever they hold
pub record Lent (b b' : Buffers) : Type 0 where
  pub first : source b'.flip b'.term.ghost_name b'.other.ghost_name ≡ source b.flip b.term.ghost_name b.other.ghost_name
  pub second : source b'.flip b'.other.ghost_name b'.term.ghost_name ≡ source b.flip b.other.ghost_name b.term.ghost_name
  pub first_length : length (first_of b') ≡ length (first_of b)
  pub second_length : length (second_of b') ≡ length (second_of b)
  pub room : b'.room ≡ b.room
