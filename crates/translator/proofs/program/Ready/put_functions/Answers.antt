-- `Ready::put_functions` meets its contract. The invariant: the rules of the functions below the number are written.
use mathlib.Core.Path.{◌≡◌, sym, ap₂}
use Prim.Native.Nat.{ℕ}
use Rattle.theory.specs.Words.{stored_rules}
use Rattle.generated.proofs.Writes.{wrote_none, wrote_as, room_as, turn-room, turn_more}
use Rattle.translator.specs.declared.Source.{Source}
use Rattle.translator.specs.List.{rules_for}
use Rattle.translator.proofs.program.Ready.put_functions.Goals as goal
use Rattle.translator.proofs.program.Ready.put_functions.Goals.{After-of-f}

-- the rules of the function at hand
same : (c : After-of-f) → let f = c.of-f.result in stored_rules (rules_for f.source f.number) ≡ stored_rules (rules_for c.args.self.now.source c.loop-number.number)
same c = ap₂ (λ (x : Source) (k : ℕ). stored_rules (rules_for x k)) c.of-f.ensures.source c.of-f.ensures.number

pub loop-number-init : goal.loop-number-init
loop-number-init c = wrote_none c.args.out.now

pub put_rules-requires : goal.put_rules-requires
put_rules-requires c =
    let s = c.args.self.now.source in
    room_as c.loop-number.out (sym (same (goal.at.put_rules-requires c).After-of-f))
    (turn-room (rules_for s) s.functions c.loop-number.number c.loop-number-test.true c.requires c.loop-number.invariant)

pub loop-number-preserved : goal.loop-number-preserved
loop-number-preserved c =
    turn_more (rules_for c.args.self.now.source) c.loop-number.number c.loop-number.invariant
    (wrote_as (same (goal.at.loop-number-preserved c).After-of-f) c.put_rules.ensures)
