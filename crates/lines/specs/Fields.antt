-- What a field stands for.
use Rattle.std.specs.Prelude.{ℕ, Option, Some, None, option_and_then, List, [], ◌∷◌, eqb, leb, length}
use Rattle.theory.specs.Syntax.{pick}
use Rattle.lines.specs.Hex.{pairs_of}

-- the bytes, where there are at most m
abbrev pub at_most : ℕ → List ℕ → Option (List ℕ)
at_most m bs = pick (leb (length bs) m) (Some bs) None

-- the bytes that a field stands for, at most m: "-" for none, or digits, two to a byte, and some
unfoldable pub decoded_of : ℕ → List ℕ → Option (List ℕ)
decoded_of m [] = None
decoded_of m (c ∷ []) = pick (eqb c 45) (Some []) None
decoded_of m (h ∷ l ∷ cs) = option_and_then (at_most m) (pairs_of (h ∷ l ∷ cs))
