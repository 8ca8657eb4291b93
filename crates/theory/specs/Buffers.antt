-- What a lent slice holds after words are written into it. A slice keeps its length: what would pass its end is dropped.
use Rattle.std.specs.Prelude.{ℕ, zero, suc, ◌-◌, List, [], ◌∷◌, ◌++◌, length, take, drop, replicate}

-- d with the words s in the place of its first ones
abbrev pub over : List ℕ → List ℕ → List ℕ
over [] d = d
over (w ∷ s) [] = []
over (w ∷ s) (x ∷ d) = w ∷ over s d

-- d with the words s in the place of those from index n on
abbrev pub put : ℕ → List ℕ → List ℕ → List ℕ
put zero s d = over s d
put (suc n) s [] = []
put (suc n) s (x ∷ d) = x ∷ put n s d

-- the words of l from index a up to, not including, index e
abbrev pub part : ℕ → ℕ → List ℕ → List ℕ
part a e l = take (e - a) (drop a l)

-- the words of a term, then zeros up to the room
abbrev pub padded : ℕ → List ℕ → List ℕ
padded room t = t ++ replicate (room - length t) 0
