-- The lists that are lent for one program, as the code passes them.
use Rattle.std.specs.Prelude.{ℕ, List, Option}
use Rattle.rules.specs.Finding.{fitting_of}
use Rattle.rules.specs.declared.finding.Fitting.{Fitting}
use Rattle.rules.specs.declared.lists.Lists.{Lists}

-- the rule that fits, by these lists
abbrev pub fitting_by : Lists → List ℕ → Option Fitting
fitting_by l = fitting_of l.arities.now l.standing.list.now l.own.list.now l.standing.index.now l.own.index.now
