-- `answers::cases::number` meets its contract. The loop's invariant: the field stands for what its digits to come stand for, read on from the value so far.
use Rattle.std.proofs.Common.{◌≡◌, drop}
use Rattle.answers.specs.Fields.{digits_from, number_in}
use Rattle.answers.proofs.cases.number.Given as goal

abbrev pub invariant-loop-c : goal.invariant-loop-c
invariant-loop-c l = number_in l.field ≡ digits_from l.value (drop l.c-index l.field)
