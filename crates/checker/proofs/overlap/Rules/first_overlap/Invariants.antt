-- `checker::overlap::Rules::first_overlap` meets its contract. The loop's invariant: no rule before `j` clashes with an earlier one.
use mathlib.Core.Path.{◌≡◌}
use mathlib.Core.List.{[]}
use lib.ListN.{take, drop}
use Rattle.checker.specs.Overlap.{first_clash}
use Rattle.checker.proofs.overlap.Rules.first_overlap.Given as goal

abbrev pub invariant-loop-j : goal.invariant-loop-j
invariant-loop-j l = first_clash l.self.program.now l.self.arities.now [] l.openings ≡ first_clash l.self.program.now l.self.arities.now (take l.j l.openings) (drop l.j l.openings)
