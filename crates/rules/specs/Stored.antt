-- A rule as it stands in a stored list: two counts, and so many words of its left side and its right.
use Rattle.std.specs.Prelude.{ℕ, ◌+◌, ◌≤◌, ◌<◌, ◌≡◌, List, length, get_or}
use Rattle.rules.specs.declared.stored_rule.Stored.{Stored}

-- there is none at the place: the list ends before the rule does that the counts there tell of
abbrev pub NoneStored : List ℕ → ℕ → Type 0
NoneStored list at = length list < at + 2 + (get_or list at 0 + get_or list (at + 1) 0)

-- r is the rule at the place
pub record StoredAt (list : List ℕ) (at : ℕ) (r : Stored) : Type 0 where
  pub from : r.left.from ≡ at + 2
  pub to : r.left.to ≡ at + 2 + get_or list at 0
  pub past : r.past ≡ at + 2 + (get_or list at 0 + get_or list (at + 1) 0)
  pub within : r.past ≤ length list
