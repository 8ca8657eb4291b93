-- What stays of the slices that are lent for reading.
use Rattle.std.specs.Prelude.{ℕ, ◌≡◌, List, length}
use Rattle.std.specs.Borrow.{MutBor}
use Rattle.input.specs.declared.Lines.{Lines}

-- the same lent slice, and as long, whatever it holds
abbrev pub Same : MutBor (List ℕ) → MutBor (List ℕ) → Type 0
Same s s' = (s'.ghost_name ≡ s.ghost_name) × (length s'.now ≡ length s.now)

-- both slices are the same
pub record Lent (lines lines' : Lines) : Type 0 where
  pub chunk : Same lines.chunk lines'.chunk
  pub line : Same lines.line lines'.line
