-- What a refusal that `?` hands on is, and what an answer of `map_err` tells of the answer that it was made of.
use mathlib.Core.Path.{◌≡◌, refl, ap}
use Rattle.std.specs.Prelude.{Result, Ok, Err, MatchResult}
use Rattle.std.specs.Result.{IsErrAnd}

pub handed_on : {T E : Type 0} (r : Result T E) (e : E) → IsErrAnd r (λ x. x ≡ e) → r ≡ Err e
handed_on (Ok x) e h = absurd h
handed_on (Err x) e h = ap Err h

module _ {T E : Type 0} {P : T → Type 0} {Q : E → Type 0} (s : Result T E) (cases : MatchResult s P Q) where
  pub map_err-taken : (y : T) → ((x : T) → P x → y ≡ x) → ((e : E) → Q e → ⊥) → s ≡ Ok y
  map_err-taken y same never = by s cases
    where
      by : (s : Result T E) → MatchResult s P Q → s ≡ Ok y
      by (Ok x) h = let e = same x h in cc
      by (Err e) h = absurd (never e h)

  pub map_err-refused : {D : Type 0} (f : E → D) (d : D) → ((x : T) → P x → ⊥) → ((e : E) → Q e → d ≡ f e) → (e : E) × (s ≡ Err e) × (d ≡ f e)
  map_err-refused f d never same = by s cases
    where
      by : (s : Result T E) → MatchResult s P Q → (e : E) × (s ≡ Err e) × (d ≡ f e)
      by (Ok x) h = absurd (never x h)
      by (Err e) h = (e, refl, same e h)
