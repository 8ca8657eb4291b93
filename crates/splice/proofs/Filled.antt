-- The right side with its variables replaced is the theory's filling in of what the left side's variables take.
use mathlib.Core.Path.{◌≡◌, refl, ap₂}
use mathlib.Core.Bool.{Bool, true, false}
use mathlib.Core.List.{List, [], ◌∷◌, ◌++◌}
use Prim.Native.Nat.{ℕ, ◌-◌}
use Rattle.theory.specs.Syntax.{pick}
use Rattle.theory.specs.Words.{is_var}
use Rattle.theory.specs.Buffers.{part}
use Rattle.theory.proofs.Filling.{fill}
use Rattle.rules.specs.Matching.{bound_to, taken_by}
use Rattle.rules.specs.declared.index.Span.{Span}
use Rattle.splice.specs.declared.Shown.TheVariants.{Word, Part}
use Rattle.splice.specs.Right.{words_of, word_for, new}

word-filled : (v : Bool) (ss : List ℕ) (s : Span) (w : ℕ) → words_of ss (pick v (Part s) (Word w)) ≡ pick v (part s.from s.to ss) (w ∷ [])
word-filled true ss s w = refl
word-filled false ss s w = refl

pub new-filled : (ss : List ℕ) (bound : List Span) (ws : List ℕ) → new ss bound ws ≡ fill (bound_to ss bound) ws
unfolding word_for
new-filled ss bound [] = refl
new-filled ss bound (w ∷ ws) = ap₂ ◌++◌ (word-filled (is_var w) ss (taken_by bound (w - 64)) w) (new-filled ss bound ws)
