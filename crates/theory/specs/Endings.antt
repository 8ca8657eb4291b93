-- What an engine may answer: value, uncaught exception or stuck; too deep, out of steps or too big; and the steps counted.
use Rattle.std.specs.Prelude.{ℕ}
use Rattle.theory.specs.Syntax.{Val}

pub data Ending : Type 0 where
  value : Val → Ending
  raised : ℕ → Ending
  stuck : ℕ → Ending
  too_deep : Ending

pub data Said : Type 0 where
  is : Ending → Said
  out_of_steps too_big : Said

pub record Answer : Type 0 where
  pub said : Said
  pub steps : ℕ

abbrev pub says : Said → ℕ → Answer
says m c = record { said = m; steps = c }

-- value, exception or stuck: an ending, and no allowance used up
abbrev pub Final : Said → Type 0
Final (is (value v)) = Unit {0}
Final (is (raised e)) = Unit {0}
Final (is (stuck s)) = Unit {0}
Final (is too_deep) = ⊥
Final out_of_steps = ⊥
Final too_big = ⊥
