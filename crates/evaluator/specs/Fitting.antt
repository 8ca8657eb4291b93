-- A function's rules, and the first of them that fits the values of a call.
use Rattle.std.specs.Prelude.{ℕ, zero, suc, ◌+◌, ◌-◌, List, [], ◌∷◌, eqb, ltb, length, get_or, set, Option, Some, None}
use Rattle.std.specs.Option.{option_map, option_or}
use Rattle.theory.specs.Syntax.{pick}
use Rattle.theory.specs.Translation.{aux}
use Rattle.words.specs.Base.{word_of}
use Rattle.words.specs.declared.base.Base.{Base}
use Rattle.rules.specs.declared.index.Span.{Span}
use Rattle.rules.specs.Index.{rules_with}
use Rattle.evaluator.specs.declared.values.Value.{Value}
use Rattle.evaluator.specs.declared.fitting.Found.{Found}
use Rattle.evaluator.specs.declared.fitting.Binding.{Binding}
use Rattle.evaluator.specs.declared.fitting.Fitted.{Fitted}
use Rattle.evaluator.specs.Values.{nones}

-- the rules of function k, which has n arguments: those in its list whose root is its last auxiliary. There are 48 functions
unfoldable pub rules_of : List ℕ → List ℕ → List Span → List Span → ℕ → ℕ → List ℕ
rules_of standing own standingIndex ownIndex k n =
    pick (ltb k 48) (pick (ltb k 16) (rules_with standing standingIndex (aux k (suc n))) (rules_with own ownIndex (aux k (suc n)))) []

-- a pattern that fits without binding, and one that binds a variable
abbrev pub fits_plainly : ℕ → Option Fitted
fits_plainly a = Some (record { at = a; binding = None })

abbrev pub fits_binding : ℕ → ℕ → Value → Option Fitted
fits_binding a x v = Some (record { at = a; binding = Some (record { slot = x; value = v }) })

-- the word w, which is no succ, against k times succ over x: a variable's number and what it stands for; a is the place after it
unfoldable pub fit_word : ℕ → Base → ℕ → ℕ → Option Fitted
fit_word k x a w =
    pick (ltb w 64) (pick (eqb k 0) (pick (eqb (word_of x) w) (fits_plainly a) None) None)
    (fits_binding a (w - 64) (record { succs = k; base = x }))

abbrev pub fit_node : ℕ → Base → ℕ → Option Fitted → ℕ → Option Fitted
fit_node k x a up w = pick (eqb w 2) up (fit_word k x (a + 1) w)

-- the pattern at a against k times succ over x: a pattern binds one variable at most
unfoldable pub fit_in : List ℕ → Base → ℕ → ℕ → Option Fitted
fit_in rs x zero a = fit_node 0 x a None (get_or rs a 0)
fit_in rs x (suc k) a = fit_node (suc k) x a (fit_in rs x k (a + 1)) (get_or rs a 0)

-- the bindings b, and one more if there is one
abbrev pub bind : List Value → Option Binding → List Value
bind b None = b
bind b (Some x) = set b x.slot x.value

abbrev pub fit_then : {A : Type 0} → Option Fitted → (Fitted → Option A) → Option A
fit_then None k = None
fit_then (Some f) k = k f

-- the patterns from a on against the values, one each: the bindings b and theirs
unfoldable pub fits_of : List ℕ → ℕ → List Value → List Value → Option (List Value)
fits_of rs a [] b = Some b
fits_of rs a (v ∷ vs) b = fit_then (fit_in rs v.base v.succs a) (λ f. fits_of rs f.at vs (bind b f.binding))

abbrev pub found_at : ℕ → List Value → Found
found_at a b = record { at = a; b = b }

-- the rule at a: left count, right count, the root, the patterns, the right side
unfoldable pub rule_of : List ℕ → List Value → ℕ → Option Found
rule_of rs vs a = option_map (found_at (a + 2 + get_or rs a 0)) (fits_of rs (a + 3) vs nones)

-- the place behind the rule at a
abbrev pub next_rule : List ℕ → ℕ → ℕ
next_rule rs a = a + 2 + get_or rs a 0 + get_or rs (a + 1) 0

-- the first of at most c rules from a on that fits: its right side's place, and the bindings
unfoldable pub found_in : List ℕ → List Value → ℕ → ℕ → Option Found
found_in rs vs zero a = None
found_in rs vs (suc c) a = pick (ltb a (length rs)) (option_or (rule_of rs vs a) (found_in rs vs c (next_rule rs a))) None

-- the first of the rules from a on: there are no more of them than words
unfoldable pub found_from : List ℕ → List Value → ℕ → Option Found
found_from rs vs a = found_in rs vs (length rs - a) a
