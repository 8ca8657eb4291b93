-- The answer that the code gives for each answer of the theory.
use Rattle.theory.specs.Syntax.{zero_b, true_b, false_b, Val, base, up, height}
use Rattle.theory.specs.Endings.{Ending, value, raised, stuck, too_deep, is, out_of_steps, too_big, Said as TheorySaid, Answer as TheoryAnswer}
use Rattle.words.specs.declared.base.Base.{Base as Const}
use Rattle.words.specs.declared.base.Base.TheVariants as b
use Rattle.rewriter.specs.declared.ending.Said.{Said}
use Rattle.rewriter.specs.declared.ending.Said.TheVariants.{Value, Raised, Stuck, Out, Big}
use Rattle.rewriter.specs.declared.Answer.{Answer}

-- the code's name of a value's constant, and of each ending
abbrev pub const_of : Val → Const
const_of (base zero_b) = b.Zero
const_of (base true_b) = b.True
const_of (base false_b) = b.False
const_of (up v) = const_of v

-- (a rewriter's tree shows no `too_deep`)
abbrev pub end_of : Ending → Said
end_of (value v) = Value (height v) (const_of v)
end_of (raised e) = Raised e
end_of (stuck s) = Stuck s
end_of too_deep = Stuck 0

abbrev pub said_of : TheorySaid → Said
said_of (is x) = end_of x
said_of out_of_steps = Out
said_of too_big = Big

abbrev pub answer_of : TheoryAnswer → Answer
answer_of a = record { said = said_of a.said; steps = a.steps }
