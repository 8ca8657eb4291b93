-- An index of a stored rule list by root symbol: for each slot, from the place of the first rule whose root has that slot to the place past
-- the last such rule; an empty part, which ends at 0, where there is none.
use Rattle.std.specs.Prelude.{ℕ, zero, suc, ◌+◌, ◌-◌, List, [], ◌∷◌, Option, Some, None, ltb, leb, length, get_or, set, take, drop, replicate}
use Rattle.theory.specs.Syntax.{pick, choose}
use Rattle.rules.specs.declared.index.Span.{Span}

-- the slot of a root symbol: small symbols 0 to 15, the functions' symbols 16 to 399, all else 400
unfoldable pub slot_of : ℕ → ℕ
slot_of w = pick (ltb w 16) w (pick (ltb w 256) 400 (pick (ltb w 640) (w - 240) 400))

-- no words
abbrev pub empty : Span
empty = record { from = 0; to = 0 }

-- the part that is held for a slot: none where it is empty
abbrev pub held : Span → Option Span
held s = pick (ltb 0 s.to) (Some s) None

-- where an index has the rules of a slot; nowhere past its end
abbrev pub at_slot : List Span → ℕ → Option Span
at_slot index s = held (get_or index s empty)

-- the first place of a slot after one more rule at the place at
abbrev pub start_of : Option Span → ℕ → ℕ
start_of None at = at
start_of (Some s) at = s.from

-- a slot's places after one more rule, from the place at to the place past
abbrev pub extended : Option Span → ℕ → ℕ → Span
extended part at past = record { from = start_of part at; to = past }

-- one more rule of slot s
unfoldable pub noted : List Span → ℕ → ℕ → ℕ → List Span
noted index s at past = set index s (extended (at_slot index s) at past)

-- The pass over a list from its word number at; n words of a rule that is noted are passed first. It ends where counts lead past the end.
-- A rule with no left word stands under the word behind its counts.
unfoldable pub index_from : ℕ → ℕ → List ℕ → List Span → List Span
index_from n at [] index = index
index_from (suc n) at (w ∷ ws) index = index_from n (suc at) ws index
index_from zero at (l ∷ []) index = index
index_from zero at (l ∷ r ∷ ws) index =
    choose (leb (l + r) (length ws)) (λ x. index_from (l + r) (2 + at) ws (noted index (slot_of (get_or ws 0 0)) at (at + 2 + (l + r)))) (λ x. index)

unfoldable pub index_of : List ℕ → List Span
index_of list = index_from 0 0 list (replicate 401 empty)

unfoldable pub least_of : ℕ → ℕ → ℕ
least_of a b = pick (ltb a b) a b

-- the same places, those past the end of a list of len words moved to its end
abbrev pub clipped : ℕ → Span → Span
clipped len s = let to = least_of s.to len in record { from = least_of s.from to; to = to }

abbrev pub clip : ℕ → Option Span → Option Span
clip len None = None
clip len (Some s) = Some (clipped len s)

-- where the rules with the root w stand in a list of len words, clipped to the list
unfoldable pub span_of : List Span → ℕ → ℕ → Option Span
span_of index len w = clip len (at_slot index (slot_of w))

-- the words there
abbrev pub part_in : List ℕ → Span → List ℕ
part_in list s = take (s.to - s.from) (drop s.from list)

abbrev pub part_at : List ℕ → Option Span → List ℕ
part_at list None = []
part_at list (Some s) = part_in list s

-- the rules with the root w
unfoldable pub rules_with : List ℕ → List Span → ℕ → List ℕ
rules_with list index w = part_at list (span_of index (length list) w)
