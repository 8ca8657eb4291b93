-- The sizes of a rule's sides.
use Rattle.std.specs.Prelude.{ℕ, ◌+◌}
use Rattle.term_words.specs.Records.{count_of, from}
use Rattle.translator.specs.declared.Source.{Source}
use Rattle.translator.specs.declared.rules.Sizes.{Sizes}
use Rattle.translator.specs.Opened.{right_at}

abbrev pub sizes_at : Source → ℕ → ℕ → Sizes
sizes_at s p n =
    record {
      left = count_of (from s.arities.now s.program.now (p + 2)) n + 1;
      right = count_of (from s.arities.now s.program.now (right_at s p n)) 1;
    }
