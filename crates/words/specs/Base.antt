-- The constants' words.
use Rattle.std.specs.Prelude.{ℕ, eqb, Option, Some, None}
use Rattle.theory.specs.Syntax.{pick}
use Rattle.theory.specs.Syntax as theory
use Rattle.words.specs.declared.base.Base.{Base}
use Rattle.words.specs.declared.base.Base.TheVariants.{Zero, True, False}

abbrev pub word_of : Base → ℕ
word_of Zero = 1
word_of True = 3
word_of False = 4

-- the constant that a word is, if it is one's
abbrev pub base_of : ℕ → Option Base
base_of w = pick (eqb w 1) (Some Zero) (pick (eqb w 3) (Some True) (pick (eqb w 4) (Some False) None))

-- a constant of the theory, as the code names it
abbrev pub named : theory.Base → Base
named theory.zero_b = Zero
named theory.true_b = True
named theory.false_b = False
