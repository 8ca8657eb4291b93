-- `checker::overlap::patterns_meet` meets its contract. The loop's invariant: the two patterns meet where what is left of them does.
use mathlib.Core.Path.{◌≡◌}
use Rattle.std.specs.Iterator.Adapters.{zip_first, zip_second}
use Rattle.std.specs.Slice.Iter.{iter_rest}
use Rattle.checker.specs.Overlap.{heads_meet}
use Rattle.checker.proofs.overlap.patterns_meet.Given as goal

abbrev pub invariant-loop-a : goal.invariant-loop-a
invariant-loop-a l = heads_meet l.first l.second ≡ heads_meet (iter_rest (zip_first l.a-iterator)) (iter_rest (zip_second l.a-iterator))
