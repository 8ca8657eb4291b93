-- The rule that is handed back, by cases on where it stands.
use mathlib.Core.Path.{◌≡◌}
use mathlib.Core.List.{List}
use Prim.Native.Nat.{ℕ, ◌-◌}
use denote.Ref.{Bor}
use Rattle.std.specs.Prelude.{Option, Some, None}
use Rattle.words.proofs.Parts.{part-once}
use Rattle.rules.specs.Finding.{Handed, rule_of}
use Rattle.rules.specs.declared.finding.Fitting.{Fitting}
use Rattle.rules.specs.declared.finding.Fitting.TheVariants.{Standing, Own}

-- two results that satisfy the statement are one part: the same place, and the same words
pub handed-once : (s o r r' : Bor (List ℕ)) (f : Option Fitting) → Handed s o r f → Handed s o r' f → (r.ref_ptr ≡ r'.ref_ptr) × (r.now ≡ r'.now)
unfolding Handed
handed-once s o r r' (Some (Standing p)) h h' = part-once s r r' p.from (p.to - p.from) h h'
handed-once s o r r' (Some (Own p)) h h' = part-once o r r' p.from (p.to - p.from) h h'
handed-once s o r r' None h h' = part-once o r r' 0 0 h h'

-- what the part holds
pub handed-words : (s o r : Bor (List ℕ)) (f : Option Fitting) → Handed s o r f → r.now ≡ rule_of s.now o.now f
unfolding Handed
handed-words s o r (Some (Standing p)) h = h.holds
handed-words s o r (Some (Own p)) h = h.holds
handed-words s o r None h = h.holds
