-- What of the output is held, and not written out yet, once a piece of text is put there. A piece has 128 bytes at most.
use Rattle.std.specs.Prelude.{ℕ, List, [], ◌∷◌, ◌++◌, ◌-◌, length, ltb, codes}
use Rattle.theory.specs.Syntax.{pick}
use Rattle.wording.specs.Text.{number_of}

-- what is still held where a piece comes: nothing where less than its room is left of the 65,536, as all is written out then
abbrev pub before_piece : List ℕ → List ℕ
before_piece held = pick (ltb (65536 - length held) 128) [] held

-- a word, behind the sign that parts it from what stands before
abbrev pub with_word : List ℕ → List ℕ → ℕ → List ℕ
with_word held sign w = before_piece held ++ sign ++ number_of w

-- more words, a comma before each
unfoldable pub with_more : List ℕ → List ℕ → List ℕ
with_more held [] = held
with_more held (w ∷ ws) = with_more (with_word held (codes ",") w) ws

-- a list of words, with commas between them; "-" for none
unfoldable pub with_words : List ℕ → List ℕ → List ℕ
with_words held [] = before_piece held ++ codes " ; -"
with_words held (w ∷ ws) = with_more (with_word held (codes " ; ") w) ws
