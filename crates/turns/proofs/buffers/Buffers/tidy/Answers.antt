-- `buffers::Buffers`' `tidy` meets its contract.
use mathlib.Core.Path.{sym, ap, ap₂, ◌∙◌}
use mathlib.Core.Bool.{Bool}
use Prim.Native.Nat.{ℕ, ◌-◌}
use native.Mathlib.Nat.{sub-zero}
use native.Mathlib.Omega.{arith}
use lib.ListN.{length, replicate}
use lib.Seq.{length-take-le}
use Rattle.theory.specs.Buffers.{over, put}
use Rattle.turns.specs.Buffers.{source, first_of, second_of, term_of}
use Rattle.turns.proofs.Runs.{padded-over, zeros-same}
use Rattle.turns.proofs.buffers.Buffers.tidy.Goals as goal

pub returns-clause-first_after : goal.returns-clause-first_after
returns-clause-first_after c =
    let b = c.args.self.now in
    let back = c.bring_back.new.self in
    let zeros = c.zero_from.ensures ∙ ap₂ (λ (n m : ℕ). put n (replicate (m - n) 0) back.term.now) c.bring_back.ensures.same.0 c.bring_back.ensures.same.1 in
    padded-over b.room b.size (term_of b) (first_of b) back.term.now c.zero_from.new.dst (length-take-le b.size b.term.now (omega (arith, b.size_le_room, b.room_le_term))) c.bring_back.ensures.first_after zeros

pub returns-clause-second_after : goal.returns-clause-second_after
returns-clause-second_after c =
    let b = c.args.self.now in
    let back = c.bring_back.new.self in
    let lengths = sym (ap (λ (f : Bool). length (source f back.other.now back.term.now)) c.bring_back.ensures.flip_value) ∙ c.bring_back.ensures.lent.second_length in
    c.zero_from-2.ensures ∙ ap (λ (n : ℕ). over (replicate n 0) back.other.now) (sub-zero back.room ∙ c.bring_back.ensures.same.1)
    ∙ zeros-same b.room back.other.now (second_of b) lengths c.bring_back.ensures.second_rest
