-- `Output::put_words` meets its contract. The loop's invariant: what the whole list leaves is what the words to come leave.
use mathlib.Core.Path.{◌≡◌}
use Rattle.std.specs.Prelude.{drop}
use Rattle.answers.specs.Held.{with_words, with_more}
use Rattle.answers.proofs.output.Output.put_words.Given as goal

abbrev pub invariant-loop-word : goal.invariant-loop-word
invariant-loop-word g l = with_words l.fn.self.held.items l.words ≡ with_more l.self.held.items (drop l.word-index l.rest)
