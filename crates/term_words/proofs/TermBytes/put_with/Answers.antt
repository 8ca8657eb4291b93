-- `TermBytes::put_with` meets its contract. The loop's invariant is `Putting`; the measure is the bytes that remain.
use mathlib.Core.Path.{◌≡◌, refl, sym, ap, subst, ◌∙◌}
use Prim.Native.Nat.{ℕ, ◌+◌, ◌-◌, ◌<◌}
use native.Mathlib.Omega.{arith}
use borrow.Author.Rules.{rules}
use lib.ListN.{length, get_or, set}
use Rattle.std.proofs.Common.{Option, None}
use Rattle.generated.proofs.Writes.{room_as, wrote_as}
use Rattle.term_words.specs.Records.{Whole, from}
use Rattle.term_words.specs.Roots.{exception_words}
use Rattle.term_words.proofs.Laws.{root-inside, whole-first}
use Rattle.term_words.proofs.Putting.{Putting, putting-start, putting-turn, putting-end, owed-inside, keeps-inside, room-root, room-late}
use Rattle.term_words.proofs.TermBytes.put_with.Goals as goal
use Rattle.term_words.proofs.TermBytes.put_with.Goals.{After-from, After-take, After-root_at-root, In-loop-owed}

-- at a turn a whole term stands at `next`
here : (c : In-loop-owed) → let a = c.args.self in Whole (from a.arities.now a.bytes.now c.loop-owed.next) 1
here c =
    let a = c.args.self in
    whole-first a.arities.now a.bytes.now c.loop-owed.next c.loop-owed.owed c.loop-owed-test.true c.loop-owed.invariant.0.going.whole

-- the numbers of terms that are owed, before the root and then, have their slots
before : (c : After-root_at-root) → c.loop-owed.owed < length c.loop-owed.late
before c = owed-inside c.loop-owed.invariant.0 c.loop-owed-test.true c.root_at-root.result c.root_at-root.ensures

inside : (c : After-from) → c.loop-owed.owed - 1 + c.from.result < length (set c.loop-owed.late c.loop-owed.owed c.root_at-root.result.handled)
inside c =
    subst (λ (i : ℕ). c.loop-owed.owed - 1 + i < length (set c.loop-owed.late c.loop-owed.owed c.root_at-root.result.handled)) (sym c.from.ensures)
    (keeps-inside c.loop-owed.invariant.0 c.loop-owed-test.true c.root_at-root.result c.root_at-root.ensures)

pub loop-owed-init : goal.loop-owed-init
loop-owed-init c =
    let a = c.args in
    let s = a.self in
    subst (λ (i : ℕ). Putting s.arities.now s.bytes.now a.p a.n a.out.now i a.p a.late.now a.out.now × (length a.late.now ≡ length a.late.now)) (sym c.from-owed.ensures)
    (putting-start s.arities.now s.bytes.now a.p a.n a.out.now a.late.now c.requires.p_in_bounds.0 c.requires.p_in_bounds.1 c.requires.n_in_bounds.0 c.requires.n_in_bounds.1, refl)

pub root_at-root-requires : goal.root_at-root-requires
root_at-root-requires c = here (goal.at.root_at-root-requires c).In-loop-owed

pub put-requires : goal.put-requires
put-requires c =
    room-root c.loop-owed.invariant.0 c.loop-owed-test.true c.root_at-root.result c.root_at-root.ensures c.requires.room

pub offset_bounds-late-owed : goal.offset_bounds-late-owed
offset_bounds-late-owed c =
    let h = before (goal.at.offset_bounds-late-owed c).After-root_at-root in search rules

pub bounds-late-owed : goal.bounds-late-owed
bounds-late-owed c = before (goal.at.bounds-late-owed c).After-root_at-root

pub offset_bounds-late-owed-in-loop-owed : goal.offset_bounds-late-owed-in-loop-owed
offset_bounds-late-owed-in-loop-owed c =
    let h = inside (goal.at.offset_bounds-late-owed-in-loop-owed c).After-from in search rules

pub bounds-late-owed-in-loop-owed : goal.bounds-late-owed-in-loop-owed
bounds-late-owed-in-loop-owed c = inside (goal.at.bounds-late-owed-in-loop-owed c).After-from

-- what is taken out of that slot
taken : (c : After-take) → exception_words c.take.result ≡ exception_words (get_or (set c.loop-owed.late c.loop-owed.owed c.root_at-root.result.handled) (c.loop-owed.owed - 1 + c.root_at-root.result.parts) None)
taken c = ap exception_words (c.take.ensures.value ∙ ap (λ (i : ℕ). get_or (set c.loop-owed.late c.loop-owed.owed c.root_at-root.result.handled) (c.loop-owed.owed - 1 + i) None) c.from.ensures)

pub put_exception-requires : goal.put_exception-requires
put_exception-requires c =
    room_as c.put.new.out (sym (taken (goal.at.put_exception-requires c).After-take))
    (room-late c.loop-owed.invariant.0 c.loop-owed-test.true c.root_at-root.result c.root_at-root.ensures c.put.ensures c.requires.room)

pub loop-owed-smaller : goal.loop-owed-smaller
loop-owed-smaller c =
    let a = c.args.self in
    omega (arith, root-inside a.arities.now a.bytes.now c.loop-owed.next c.root_at-root.result c.root_at-root.ensures (here (goal.at.loop-owed-smaller c).In-loop-owed))

pub loop-owed-preserved : goal.loop-owed-preserved
loop-owed-preserved c =
    let a = c.args in
    let s = a.self in
    let late = set c.loop-owed.late c.loop-owed.owed c.root_at-root.result.handled in
    let owes : ℕ → ℕ = λ i. c.loop-owed.owed - 1 + i in
    let next : ℕ → Option ℕ → Type 0 = λ i x. Putting s.arities.now s.bytes.now a.p a.n a.out.now (owes i) c.root_at-root.result.next (set late (owes i) x) c.put_exception.new.out × (length (set late (owes i) x) ≡ length a.late.now) in
    let t = putting-turn c.loop-owed.invariant.0 c.loop-owed-test.true c.root_at-root.result c.root_at-root.ensures c.put.ensures (wrote_as (taken (goal.at.loop-owed-preserved c).After-take) c.put_exception.ensures) in
    subst (next c.from.result) (sym c.take.ensures.after) (subst (λ (i : ℕ). next i None) (sym c.from.ensures) (t.0, t.1 ∙ c.loop-owed.invariant.1))

pub returns : goal.returns
returns c =
    let a = c.args in
    let s = a.self in
    let z : c.loop-owed.owed ≡ 0 = (let h = c.loop-owed-test.false in omega (arith, h)) in
    let end : Putting s.arities.now s.bytes.now a.p a.n a.out.now 0 c.loop-owed.next c.loop-owed.late c.loop-owed.out = subst (λ (i : ℕ). Putting s.arities.now s.bytes.now a.p a.n a.out.now i c.loop-owed.next c.loop-owed.late c.loop-owed.out) z c.loop-owed.invariant.0 in
    let both = putting-end end in
    record {
      passed = both.0;
      wrote = both.1;
      late_after = (end.clear, c.loop-owed.invariant.1);
    }
