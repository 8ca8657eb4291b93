-- Words written into a lent slice: from the place of its writer on, and nothing else changes.
use Rattle.std.specs.Prelude.{◌≡◌, ℕ, ◌+◌, ◌≤◌, ◌<◌, List, length}
use Rattle.std.specs.Borrow.{MutBor}
use Rattle.std.specs.Fn.{Shared}
use Rattle.theory.specs.Buffers.{put}
use Rattle.theory.specs.Tree.{Rule}
use Rattle.theory.specs.Words.{stored_rules}
use Rattle.generated.specs.declared.writing.Writer.{Writer}

-- there is room for the words ws where the writer is
abbrev pub Room : List ℕ → Writer → Type 0
Room ws w = w.at + length ws ≤ length w.dst.now

-- the words ws stand from the place of w on in the slice, which is otherwise as it was, and w' is past them, in the same slice
pub record Wrote (ws : List ℕ) (w w' : Writer) : Type 0 where
  pub place : w'.at ≡ w.at + length ws
  pub words : w'.dst.now ≡ put w.at ws w.dst.now
  pub same_slice : w'.dst.ghost_name ≡ w.dst.ghost_name

-- at each number i below n: f may be called where there is room for the rules `rule i`, and writes them
pub record WritesEach {F : Type 0} (g : Shared F (MutBor Writer × (ℕ × Unit {0})) (Unit {0} × (MutBor Writer × Unit {0}))) (f : F) (n : ℕ) (rule : ℕ → List Rule) : Type 0 where
  pub may : (w : MutBor Writer) (i : ℕ) → i < n → Room (stored_rules (rule i)) w.now → g.pre f (w, (i, tt))
  pub does : (w w' : MutBor Writer) (i : ℕ) → i < n → Room (stored_rules (rule i)) w.now → g.post f (w, (i, tt)) (tt, (w', tt)) → Wrote (stored_rules (rule i)) w.now w'.now
