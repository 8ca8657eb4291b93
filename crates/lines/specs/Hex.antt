-- Bytes as hexadecimal digits, lower case.
use Rattle.std.specs.Prelude.{ℕ, ◌+◌, ◌-◌, ◌*◌, Option, Some, None, option_map, option_and_then, List, [], ◌∷◌, leb, ltb, Bool, true, ◌&&◌, is_some}
use Rattle.theory.specs.Syntax.{pick}

-- the value of a digit, 0 to 9 or a to f; none for a byte that is no digit
unfoldable pub digit_of : ℕ → Option ℕ
digit_of c = pick (ltb c 48) None (pick (leb c 57) (Some (c - 48)) (pick (ltb c 97) None (pick (leb c 102) (Some (c - 87)) None)))

-- the byte that two digits stand for, the high one first; none where either byte is no digit
unfoldable pub byte_of : ℕ → ℕ → Option ℕ
byte_of high low = option_and_then (λ h. option_map (λ l. h * 16 + l) (digit_of low)) (digit_of high)

-- the bytes that digits stand for, two to a byte; none where a byte is no digit, or one is left over
unfoldable pub pairs_of : List ℕ → Option (List ℕ)
pairs_of [] = Some []
pairs_of (h ∷ []) = None
pairs_of (h ∷ l ∷ cs) = option_and_then (λ b. option_map (λ bs. b ∷ bs) (pairs_of cs)) (byte_of h l)

-- whether each byte is a digit
unfoldable pub all_digits : List ℕ → Bool
all_digits [] = true
all_digits (c ∷ cs) = is_some (digit_of c) && all_digits cs
