-- The theory's answers as the code gives them: for each ending, its case, and k and base of a value, the exception, or s.
use Rattle.theory.specs.Syntax.{Val, height, base_of}
use Rattle.theory.specs.Endings.{Ending as TheoryEnding, value, raised, stuck, too_deep, Said, is, out_of_steps, too_big, Answer as TheoryAnswer}
use Rattle.words.specs.Base.{named}
use Rattle.evaluator.specs.declared.values.Value.{Value}
use Rattle.evaluator.specs.declared.values.Ending.{Ending}
use Rattle.evaluator.specs.declared.values.Ending.TheVariants.{Done, Raised, Stuck, Out, Deep}
use Rattle.evaluator.specs.declared.values.Outcome.{Outcome}

-- a value
abbrev pub value_of : Val → Value
value_of v = record { succs = height v; base = named (base_of v) }

abbrev pub ending_of : TheoryEnding → Ending
ending_of (value v) = Done (value_of v)
ending_of (raised e) = Raised e
ending_of (stuck s) = Stuck s
ending_of too_deep = Deep

-- the evaluator never says `too_big`
abbrev pub said_of : Said → Ending
said_of (is m) = ending_of m
said_of out_of_steps = Out
said_of too_big = Out

abbrev pub outcome_of : TheoryAnswer → Outcome
outcome_of a = record { end = said_of a.said; steps = a.steps }
