-- What a call answers that writes a list where it fits, and what it leaves in the slice.
use Rattle.std.specs.Prelude.{ℕ, List, leb, length, Option, Some, None}
use Rattle.theory.specs.Syntax.{pick}
use Rattle.theory.specs.Buffers.{over}

-- so many words; none where the slice d is shorter than they are
abbrev pub answered : List ℕ → List ℕ → Option ℕ
answered ws d = pick (leb (length ws) (length d)) (Some (length ws)) None

-- the words from the start and the rest as it was; or all as it was
abbrev pub filled : List ℕ → List ℕ → List ℕ
filled ws d = pick (leb (length ws) (length d)) (over ws d) d
