-- A step's three writes together, as plain lists: t is the term, N what the right side comes to, d the second buffer, and k the
-- words that are lent to the write of N, from index at on. What the part's write says of the part is carried to the whole.
--
use mathlib.Core.Path.{◌≡◌, sym, ap, ◌∙◌}
use mathlib.Core.List.{List, ◌++◌}
use Prim.Native.Nat.{ℕ, ◌+◌, ◌-◌, ◌≤◌}
use native.Mathlib.Omega.{arith}
use lib.ListN.{length, take, drop, length-append, length-take, length-drop}
use lib.Seq.{length-take-le}
use borrow.Rule.Slice.PartMut.{put_mid}
use Rattle.std.specs.Prelude.{Some}
use Rattle.theory.specs.Buffers.{over, put}
use Rattle.words.proofs.Writes.{put-lent}
use Rattle.splice.specs.Right.{placed, written_of}
use Rattle.splice.proofs.Laws.{written-fits, count-says, three-parts}

module _ (t N d : List ℕ) (at end room : ℕ) (ae : at ≤ end) (et : end ≤ length t) (tr : length t ≤ room) (rd : room ≤ length d) where
  lent_length : length (take (room - (length t - end) - at) (drop at d)) ≡ room - (length t - end) - at
  lent_length = simp (length-take, length-drop) (omega arith)

  step-length : length (take at t ++ (N ++ drop end t)) ≡ at + length N + (length t - end)
  step-length = simp (length-append, length-take, length-drop) (omega arith)

  module _ (y : List ℕ) (lent : y ≡ placed (length (take (room - (length t - end) - at) (drop at d))) N (take (room - (length t - end) - at) (drop at d))) where
    step_room : (n : ℕ) → written_of (length (take (room - (length t - end) - at) (drop at d))) N ≡ Some n
        → (length N ≡ n) × (at + n + (length t - end) ≤ room)
    step_room n q =
        let says = count-says (length (take (room - (length t - end) - at) (drop at d))) n N q in
        (says.0, omega (arith, lent_length))

    pub step_fits : (n : ℕ) (x : List ℕ) → written_of (length (take (room - (length t - end) - at) (drop at d))) N ≡ Some n
        → x ≡ put (at + n) (drop end t) (over (take at t) (put_mid at (room - (length t - end) - at) d y))
        → (Some (at + n + (length t - end)) ≡ written_of room (take at t ++ (N ++ drop end t))) × (x ≡ placed room (take at t ++ (N ++ drop end t)) d)
    step_fits n x q e =
        let k = room - (length t - end) - at in
        let says = step_room n q in
        let whole = written-fits room (at + n + (length t - end)) (take at t ++ (N ++ drop end t)) d (step-length ∙ ap (λ (m : ℕ). at + m + (length t - end)) says.0) says.1 in
        let part = written-fits (length (take k (drop at d))) n N (take k (drop at d)) says.0 (omega (arith, lent_length)) in
        let head : length (take at t) ≡ at = length-take-le at t (omega arith) in (
          sym whole.0,
          e
              ∙ ap (λ (l : List ℕ). put (at + n) (drop end t) (over (take at t) l)) (put-lent at k N d y (omega (arith, lent_length)) (lent ∙ part.1))
              ∙ cc (head, says.0, three-parts (take at t) N (drop end t) d)
              ∙ sym whole.1,
        )
