-- `terms::skip_many` meets its contract. The loop's invariant: the n terms end where the parts still owed end. The measure is the words that remain.
use mathlib.Core.Path.{◌≡◌, sym, ◌∙◌}
use Prim.Native.Nat.{◌<◌}
use native.Mathlib.Omega.{arith}
use lib.ListN.{length, drop, length-drop}
use Rattle.words.specs.Terms.{arity_of, past}
use Rattle.words.proofs.Skips.{past-none, past-few, past-step, past-run, succs-from}
use Rattle.words.proofs.terms.skip_many.Goals as goal
use Rattle.words.proofs.terms.skip_many.Goals.{After-root_of-root}

-- they end where the parts owed do that are counted from the root under the succs
under : (c : After-root_of-root) → let a = c.args in past (arity_of a.arities.now) (drop a.at a.words.now) a.n a.at ≡ past (arity_of a.arities.now) (drop c.root_of-root.result a.words.now) c.loop-owed.owed c.root_of-root.result
under c =
    let a = c.args in
    c.loop-owed.invariant ∙ past-run a.arities.now a.words.now c.loop-owed.next c.root_of-root.result c.loop-owed.owed (omega arith) c.root_of-root.ensures

pub returns-then-words-root : goal.returns-then-words-root
returns-then-words-root c =
    sym ((under (goal.at.returns-then-words-root c).After-root_of-root) ∙ past-few _ _ _ _ (simp length-drop (omega arith)))

pub returns-then-words-root-2 : goal.returns-then-words-root-2
returns-then-words-root-2 c =
    sym ((under (goal.at.returns-then-words-root-2 c).After-root_of-root) ∙ past-few _ _ _ _ (simp length-drop (omega arith)))

pub loop-owed-smaller : goal.loop-owed-smaller
loop-owed-smaller c =
    let ws = c.args.words.now in
    omega (arith, succs-from ws c.loop-owed.next c.root_of-root.result c.root_of-root.ensures)

pub loop-owed-preserved : goal.loop-owed-preserved
loop-owed-preserved c =
    let some : 0 < c.loop-owed.owed = omega arith in
    let inside : c.root_of-root.result < length c.args.words.now = omega arith in
    (under (goal.at.loop-owed-preserved c).After-root_of-root) ∙ rw (c.from.ensures, c.arity.ensures) (past-step _ _ _ _ some inside)

pub returns : goal.returns
returns c =
    let z : c.loop-owed.owed ≡ 0 = omega arith in
    sym (rw z at c.loop-owed.invariant ∙ past-none _ _ _)
