-- `splice::step_into` meets its contract.
use mathlib.Core.Path.{sym, ◌∙◌}
use lib.ListN.{length}
use Rattle.theory.specs.Buffers.{part}
use Rattle.splice.specs.Right.{new}
use Rattle.splice.proofs.Step.{step_fits}
use Rattle.splice.proofs.step_into.Goals as goal

pub returns-clause-second_after : goal.returns-clause-second_after
returns-clause-second_after c =
    let a = c.args in
    let t = a.term.words.now in
    let le = c.requires.at_le_end in
    (step_fits t (new (part a.part.from (length t) t) a.bound.now a.right.now) a.second.now a.part.from a.part.to a.term.room
    le.0 le.1.0 a.term.fits le.1.1 c.write_right.new.dst c.write_right.ensures.dst_after
    c.in_ok-n.n c.put_around.new.second (sym c.write_right.ensures.value ∙ c.in_ok-n.was) c.put_around.ensures).1
