-- The path noted place by place, the root's first, so that the search goes on from a place of it instead of the root.
use Rattle.std.specs.Prelude.{ℕ, ◌+◌, ◌≤◌, ◌<◌, List, Option, Some, None, ◌≡◌, length, get_or}
use Rattle.place.specs.Path.{below_at}
use Rattle.place.specs.declared.Site.{Site}

-- the path through the term ws is noted up to its place number n: each place is the part of the one before that may be rewritten
pub record OnPath (ks ws path : List ℕ) (n : ℕ) : Type 0 where
  pub root : get_or path 0 0 ≡ 0
  pub ends : get_or path n 0 ≤ length ws
  pub steps : (i : ℕ) → i < n → below_at ks ws (get_or path i 0) ≡ Some (get_or path (i + 1) 0)

-- a place that was found is the noted one of that number
abbrev pub Numbered : List ℕ → List ℕ → List ℕ → Option Site → ℕ → Type 0
Numbered ks ws path (Some s) n = (get_or path n 0 ≡ s.place) × OnPath ks ws path n
Numbered ks ws path None n = Unit {0}
