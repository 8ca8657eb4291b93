-- Numbers as text.
use Rattle.std.specs.Prelude.{ℕ, zero, suc, ◌/◌, List, ltb}
use Rattle.theory.specs.Syntax.{choose}
use Rattle.io.specs.Digits.{last_digits}

-- how many decimal digits a number has that has at most f + 1
unfoldable pub places_of : ℕ → ℕ → ℕ
places_of zero n = 1
places_of (suc f) n = choose (ltb n 10) (λ u. 1) (λ u. suc (places_of f (n / 10)))

-- a number of 32 bits in decimal digits, the fewest that hold it
unfoldable pub number_of : ℕ → List ℕ
number_of n = last_digits 10 (places_of 9 n) n
