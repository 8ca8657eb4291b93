-- `TermBytes::size_of` meets its contract. The invariant: `owed` terms are still to come at `next`, and the words before it are counted.
use mathlib.Core.Path.{◌≡◌, sym, subst}
use Prim.Native.Nat.{ℕ, ◌+◌, ◌-◌, ◌≤◌, ◌<◌}
use native.Mathlib.Omega.{arith}
use lib.ListN.{length}
use Rattle.term_words.specs.Records.{Whole, from}
use Rattle.term_words.specs.Roots.{words_of}
use Rattle.term_words.proofs.Laws.{root-inside, whole-first}
use Rattle.term_words.proofs.Count.{Going, going_start, going-turn, going_end}
use Rattle.term_words.proofs.TermBytes.size_of.Goals as goal
use Rattle.term_words.proofs.TermBytes.size_of.Goals.{After-root_at-root, In-loop-owed}

-- at a turn a whole term stands at `next`
here : (c : In-loop-owed) → let a = c.args in Whole (from a.self.arities.now a.self.bytes.now c.loop-owed.next) 1
here c =
    let a = c.args in
    whole-first a.self.arities.now a.self.bytes.now c.loop-owed.next c.loop-owed.owed c.loop-owed-test.true c.loop-owed.invariant.whole

-- the root is inside the bytes
bounds : (c : After-root_at-root) (here : let a = c.args in Whole (from a.self.arities.now a.self.bytes.now c.loop-owed.next) 1) → let a = c.args in (c.loop-owed.next < c.root_at-root.result.next) × (c.root_at-root.result.next ≤ length a.self.bytes.now)
bounds c here =
    let a = c.args in
    root-inside a.self.arities.now a.self.bytes.now c.loop-owed.next c.root_at-root.result c.root_at-root.ensures here

turned : (c : After-root_at-root) → let a = c.args in Going a.self.arities.now a.self.bytes.now a.p a.n (c.loop-owed.owed - 1 + c.root_at-root.result.parts) c.root_at-root.result.next (c.loop-owed.words + words_of c.root_at-root.result)
turned c =
    let a = c.args in
    going-turn a.self.arities.now a.self.bytes.now a.p a.n c.loop-owed.owed c.loop-owed.next c.loop-owed.words c.root_at-root.result c.loop-owed.invariant c.loop-owed-test.true c.root_at-root.ensures

pub loop-owed-init : goal.loop-owed-init
loop-owed-init c =
    let a = c.args in
    subst (λ (i : ℕ). Going a.self.arities.now a.self.bytes.now a.p a.n i a.p 0) (sym c.from-owed.ensures) (going_start a.self.arities.now a.self.bytes.now a.p a.n c.requires.p_in_bounds.0 c.requires.p_in_bounds.1)

pub root_at-root-requires : goal.root_at-root-requires
root_at-root-requires c =
    (here (goal.at.root_at-root-requires c).In-loop-owed)

pub loop-owed-smaller : goal.loop-owed-smaller
loop-owed-smaller c =
    omega (arith, (bounds (goal.at.loop-owed-smaller c).After-root_at-root (here (goal.at.loop-owed-smaller c).In-loop-owed)))

pub loop-owed-preserved : goal.loop-owed-preserved
loop-owed-preserved c =
    let a = c.args in
    subst (λ (i : ℕ). Going a.self.arities.now a.self.bytes.now a.p a.n (c.loop-owed.owed - 1 + i) c.root_at-root.result.next (c.loop-owed.words + c.words-words.result)) (sym c.from.ensures)
    (subst (λ (i : ℕ). Going a.self.arities.now a.self.bytes.now a.p a.n (c.loop-owed.owed - 1 + c.root_at-root.result.parts) c.root_at-root.result.next (c.loop-owed.words + i)) (sym c.words-words.ensures) (turned (goal.at.loop-owed-preserved c).After-root_at-root))

pub returns : goal.returns
returns c =
    let a = c.args in
    let z : c.loop-owed.owed ≡ 0 = (let h = c.loop-owed-test.false in omega (arith, h)) in let both = going_end a.self.arities.now a.self.bytes.now a.p a.n c.loop-owed.next c.loop-owed.words
    (subst (λ (i : ℕ). Going a.self.arities.now a.self.bytes.now a.p a.n i c.loop-owed.next c.loop-owed.words) z c.loop-owed.invariant) in
    record {
      passed = both.0;
      words = both.1;
    }
