-- Eight values that variables stand for, and bounds on values.
use Rattle.std.specs.Prelude.{ℕ, ◌≤◌, List, get_or, replicate}
use Rattle.words.specs.declared.base.Base.TheVariants.{Zero}
use Rattle.evaluator.specs.declared.values.Value.{Value}
use Rattle.evaluator.specs.declared.values.Ending.{Ending}
use Rattle.evaluator.specs.declared.values.Ending.TheVariants.{Done, Raised, Stuck, Out, Deep}
use Rattle.evaluator.specs.declared.values.Answer.{Answer}

-- what a variable stands for before it is bound: 0
abbrev pub none : Value
none = record { succs = 0; base = Zero }

abbrev pub nones : List Value
nones = replicate 8 none

abbrev pub answer : Ending → ℕ → Answer
answer e p = record { end = e; left = p }

-- the largest step allowance
abbrev pub most : ℕ
most = 1000000

-- how many succ signs an ending has
abbrev pub size : Ending → ℕ
size (Done v) = v.succs
size (Raised x) = 0
size (Stuck s) = s
size Out = 0
size Deep = 0

-- every value bound is one that was paid for
abbrev pub Small : List Value → Type 0
Small b = (i : ℕ) → (get_or b i none).succs ≤ most
