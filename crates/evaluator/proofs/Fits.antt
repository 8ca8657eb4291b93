-- One step of fitting patterns and of finding a rule.
use mathlib.Core.Path.{◌≡◌, refl, ap, ◌∙◌}
use mathlib.Core.List.{List}
use mathlib.Core.Bool.{false}
use Prim.Native.Nat.{ℕ, zero, suc, ◌+◌, ◌-◌, ◌<◌, ◌≤◌}
use borrow.Author.Tests.{lt-ltb, le-ltb, eq-eqb, ne_eqb}
use native.Mathlib.Numerals.{sub-one}
use native.Mathlib.Omega.{arith}
use Rattle.std.specs.List.{slice_range}
use Rattle.std.proofs.lemmas.List.{drop_more, get_or-take, get_or-drop}
use lib.Dec.{eqb, ltb, eqb-suc-zero}
use lib.ListN.{get_or, length, drop, get_or-eq_default, drop_of_length-le}
use Rattle.std.specs.Prelude.{Option, Some, None}
use Rattle.std.specs.Option.{option_or}
use Rattle.words.specs.Base.{word_of}
use Rattle.words.specs.declared.base.Base.{Base}
use Rattle.words.specs.declared.base.Base.TheVariants.{Zero, True, False}
use Rattle.evaluator.specs.declared.values.Value.{Value}
use Rattle.evaluator.specs.declared.fitting.Found.{Found}
use Rattle.evaluator.specs.declared.fitting.Fitted.{Fitted}
use Rattle.theory.specs.Syntax.{pick}
use Rattle.theory.proofs.Tests.{pick-any}
use Rattle.evaluator.specs.Values.{none, nones}
use Rattle.evaluator.specs.Fitting.{fit_word, fit_node, fit_in, bind, fit_then, fits_of, rule_of, next_rule, found_in, found_from}

pub fit-in-step : (rs : List ℕ) (x : Base) (k a : ℕ) → fit_in rs x k a ≡ fit_node k x a (pick (eqb k 0) None (fit_in rs x (k - 1) (a + 1))) (get_or rs a 0)
unfolding fit_in
fit-in-step rs x zero a = refl
fit-in-step rs x (suc k) a = rw (eqb-suc-zero k, sub-one (suc k))

-- word 0, which is read where none is left, is no constant's
no-constant : (x : Base) → eqb (word_of x) 0 ≡ false
no-constant Zero = refl
no-constant True = refl
no-constant False = refl

-- a word of the part of a list from the place a on
pub word-behind : (rs ws : List ℕ) (a i : ℕ) → ws ≡ slice_range rs a (length rs) → length ws + a ≡ length rs → i < length ws → get_or ws i 0 ≡ get_or rs (a + i) 0
word-behind rs ws a i e l h = ap (λ (xs : List ℕ). get_or xs i 0) e ∙ get_or-take (length rs - a) (drop a rs) i 0 (omega (arith, l, h)) ∙ get_or-drop a rs i 0

-- one step of a pattern's fit: no word is left, the last word, a succ where the value has none, a succ
module _ (rs : List ℕ) (x : Base) (k a : ℕ) where
  pub fit-in-past : length rs ≤ a → fit_in rs x k a ≡ None
  unfolding fit_word
  fit-in-past h = rw (fit-in-step rs x k a, get-past, no-constant x) (pick-any (λ o. o ≡ None) (eqb k 0) _ _ refl refl)
    where
      get-past : get_or rs a 0 ≡ 0
      get-past = get_or-eq_default rs 0 h

  pub fit-in-word : (get_or rs a 0 ≡ 2 → ⊥) → fit_in rs x k a ≡ fit_word k x (a + 1) (get_or rs a 0)
  fit-in-word h = rw (fit-in-step rs x k a, ne_eqb (get_or rs a 0) 2 h)

  pub fit-in-stop : get_or rs a 0 ≡ 2 → k ≡ 0 → fit_in rs x k a ≡ None
  fit-in-stop h z = rw (fit-in-step rs x k a, eq-eqb (get_or rs a 0) 2 h, eq-eqb k 0 z)

  pub fit-in-succ : {c : ℕ} → get_or rs a 0 ≡ 2 → (k ≡ 0 → ⊥) → c ≡ a + 1 → fit_in rs x k a ≡ fit_in rs x (k - 1) c
  fit-in-succ h z e = rw (fit-in-step rs x k a, eq-eqb (get_or rs a 0) 2 h, ne_eqb k 0 z, e)

-- as many rounds as there are words, or more, find the same
found-enough : (rs : List ℕ) (vs : List Value) (c d a : ℕ) → length rs ≤ c + a → length rs ≤ d + a → found_in rs vs c a ≡ found_in rs vs d a
unfolding found_in
found-enough rs vs zero zero a h g = refl
found-enough rs vs zero (suc d) a h g = rw (le-ltb a (length rs) (omega arith))
found-enough rs vs (suc c) zero a h g = rw (le-ltb a (length rs) (omega arith))
found-enough rs vs (suc c) (suc d) a h g =
    ap (λ (f : Option Found). pick (ltb a (length rs)) (option_or (rule_of rs vs a) f) None) (found-enough rs vs c d (next_rule rs a) (omega arith) (omega arith))

module _ (rs : List ℕ) (vs : List Value) (a : ℕ) where
  -- no rule is left
  pub found-past : length rs ≤ a → None ≡ found_from rs vs a
  unfolding found_from found_in
  found-past h = let e : length rs - a ≡ 0 = omega arith in rw e

  -- the rule at a, or the first behind it
  pub found-step : a < length rs → found_from rs vs a ≡ option_or (rule_of rs vs a) (found_from rs vs (next_rule rs a))
  unfolding found_from found_in
  found-step h =
      let e : length rs - a ≡ suc (length rs - a - 1) = omega arith in
      rw (e, lt-ltb a (length rs) h)
      (ap (option_or (rule_of rs vs a)) (found-enough rs vs (length rs - a - 1) (length rs - next_rule rs a) (next_rule rs a) (omega arith) (omega arith)))

  -- the rule at a fits, or does not
  module _ {o : Option (List Value)} (h : a < length rs) (ho : o ≡ fits_of rs (a + 3) vs nones) where
    pub found_here : {m : ℕ} {b : List Value} → o ≡ Some b → m ≡ get_or rs a 0 → found_from rs vs a ≡ Some (record { at = a + 2 + m; b = b })
    unfolding rule_of
    found_here e hm = rw (found-step h, ← ho, e, hm)

    pub found-later : {m k : ℕ} → o ≡ None → m ≡ get_or rs a 0 → k ≡ get_or rs (a + 1) 0 → found_from rs vs a ≡ found_from rs vs (a + 2 + m + k)
    unfolding rule_of
    found-later e hm hk = rw (found-step h, ← ho, e, hm, hk)

-- the pattern for the value at place i, by its fit: the patterns behind it are left, or nothing fits
module _ (rs : List ℕ) (a i : ℕ) (vs b : List Value) (h : i < length vs) {v : Value} {o : Option Fitted} (hv : v ≡ get_or vs i none) (ho : o ≡ fit_in rs v.base v.succs a) where
  this : fits_of rs a (drop i vs) b ≡ fit_then o (λ f. fits_of rs f.at (drop (i + 1) vs) (bind b f.binding))
  unfolding fits_of
  this = rw (ho, hv, drop_more vs i none h)

  pub fits_more : {f : Fitted} → o ≡ Some f → fits_of rs a (drop i vs) b ≡ fits_of rs f.at (drop (i + 1) vs) (bind b f.binding)
  fits_more e = this ∙ rw e

  pub fits-stop : o ≡ None → fits_of rs a (drop i vs) b ≡ None
  fits-stop e = this ∙ rw e

pub fits-end : (rs : List ℕ) (a i : ℕ) (vs b : List Value) → length vs ≤ i → fits_of rs a (drop i vs) b ≡ Some b
unfolding fits_of
fits-end rs a i vs b h = rw (drop_of_length-le vs h)

-- the steps of `fit`, of `fit_all` and of `find`, for the check to look for
pub ruleset fit_steps = (word-behind, fit-in-past, fit-in-word, fit-in-stop, fit-in-succ)

pub ruleset fits_steps = (fits_more, fits-stop, fits-end)

pub ruleset find_steps = (found-past, found_here, found-later)
