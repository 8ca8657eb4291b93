-- What is told of a list of words.
use Rattle.std.specs.Prelude.{ℕ, ◌+◌, ◌*◌, ◌%◌, List, eqb, fold, count_by}

-- how many words are as they were before: 65535
abbrev pub unchanged_in : List ℕ → ℕ
unchanged_in ws = count_by (λ w. eqb w 65535) ws

-- the sum with one word more
abbrev pub mixed_of : ℕ → ℕ → ℕ
mixed_of sum w = (sum % 1000003 * 31 + w % 65536) % 1000003

-- the words, mixed into the sum one by one from the first on
abbrev pub sum_from : ℕ → List ℕ → ℕ
sum_from sum ws = fold mixed_of sum ws
