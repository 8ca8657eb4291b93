-- Rules that overlap at the root: left sides with a common instance, and patterns that some list of values fits both.
use Rattle.std.specs.Prelude.{◌≡◌, Bool, true, false, ◌&&◌, List, [], ◌∷◌, eqb}
use Rattle.std.proofs.Math.Option.{Option, none, some}
use Rattle.theory.specs.Syntax.{Pat, pbase, psucc, pvar, same_base}
use Rattle.theory.specs.Tree.{Tree, Trees, var, node, [·], ◌▹◌, Rule, apply, first_fit}

-- there is one
abbrev pub IsSome : {A : Type 0} → Option A → Type 0
IsSome none = ⊥
IsSome (some a) = Unit {0}

-- Two left sides, neither with a variable twice, have a common instance.
abbrev mutual
  pub clash : Tree → Tree → Bool
  clash (var x) r = true
  clash (node s ps) (var y) = true
  clash (node s ps) (node r qs) = eqb s r && clashes ps qs

  pub clashes : Trees → Trees → Bool
  clashes [·] [·] = true
  clashes [·] (q ▹ qs) = false
  clashes (p ▹ ps) [·] = false
  clashes (p ▹ ps) (q ▹ qs) = clash p q && clashes ps qs

-- where a rule of a list fits a tree, no later rule fits it
abbrev pub OnlyOne : List Rule → Tree → Type 0
OnlyOne [] t = Unit {0}
OnlyOne (r ∷ rs) t = (IsSome (apply r t) → first_fit rs t ≡ none) × OnlyOne rs t

-- Two rules of a function: some list of values fits both exactly where the test says so.
abbrev pub overlap : Pat → Pat → Bool
overlap (pbase b) (pbase c) = same_base b c
overlap (pbase b) (psucc q) = false
overlap (pbase b) (pvar y) = true
overlap (psucc p) (pbase c) = false
overlap (psucc p) (psucc q) = overlap p q
overlap (psucc p) (pvar y) = true
overlap (pvar x) q = true

abbrev pub overlaps : List Pat → List Pat → Bool
overlaps [] [] = true
overlaps [] (q ∷ qs) = false
overlaps (p ∷ ps) [] = false
overlaps (p ∷ ps) (q ∷ qs) = overlap p q && overlaps ps qs
