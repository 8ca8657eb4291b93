-- The fields of a line, one after the other.
use mathlib.Core.Path.{◌≡◌, ap, ◌∙◌}
use mathlib.Core.List.{List}
use Prim.Native.Nat.{ℕ, suc, ◌+◌}
use native.Mathlib.Omega.{arith}
use lib.ListN.{length, take, drop}
use Rattle.std.proofs.Common.{take_all}
use Rattle.std.specs.Prelude.{Option, Some, None, unwrap_or, option_and_then}
use Rattle.answers.specs.Fields.{space_in, field_of}

module _ (n : ℕ) (line : List ℕ) where
  -- where there is no space, there is no further field; behind one the line goes on
  pub no_field : space_in line ≡ None → field_of (suc n) line ≡ None
  unfolding field_of
  no_field e = ap (option_and_then (λ k. field_of n (drop (k + 1) line))) e

  pub field_on : (k : ℕ) → space_in line ≡ Some k → field_of (suc n) line ≡ field_of n (drop (k + 1) line)
  unfolding field_of
  field_on k e = ap (option_and_then (λ k. field_of n (drop (k + 1) line))) e

module _ (line : List ℕ) where
  -- the first field: all of the line, or what stands before the first space
  pub last_field : space_in line ≡ None → field_of 0 line ≡ Some line
  unfolding field_of
  last_field e = ap (λ (o : Option ℕ). Some (take (unwrap_or o (length line)) line)) e ∙ ap Some (take_all (length line) line (omega arith))

  pub field_here : (k : ℕ) → space_in line ≡ Some k → field_of 0 line ≡ Some (take k line)
  unfolding field_of
  field_here k e = ap (λ (o : Option ℕ). Some (take (unwrap_or o (length line)) line)) e
