-- Steps in place: what each change keeps, and what is known where no further one is made.
use mathlib.Core.Path.{◌≡◌, refl, sym, ap, subst, ◌∙◌}
use Rattle.std.proofs.lemmas.Option.{none-some}
use mathlib.Core.Option.{Option}
use mathlib.Core.List.{List}
use Prim.Native.Nat.{ℕ, ◌+◌, ◌-◌, ◌≤◌, ◌<◌}
use native.Mathlib.Omega.{arith}
use lib.ListN.{length, get_or, take, set, length-set}
use lib.Seq.{take-set-le}
use Rattle.std.specs.Prelude.{Option as Maybe, Some, None}
use Rattle.rules.specs.Finding.{fitting_of}
use Rattle.rules.specs.declared.index.Span.{Span}
use Rattle.rules.specs.declared.finding.Fitting.{Fitting}
use Rattle.place.specs.Path.{site_at}
use Rattle.place.specs.Noted.{OnPath, Numbered}
use Rattle.place.specs.declared.Site.{Site}
use Rattle.place.proofs.Path.{site-inside}
use Rattle.place.proofs.Noted.{number-within, path-kept}
use Rattle.step.specs.Next.{next_w}
use Rattle.in_place.specs.InPlace.{Leads, Changes}
use Rattle.in_place.specs.declared.Change.{Change}
use Rattle.in_place.proofs.Changes.{leads-more}

module _ (ks standing own : List ℕ) (si oi : List Span) (room left : ℕ) (t₀ path₀ : List ℕ) where
  abbrev N : List ℕ → Option (List ℕ)
  N = next_w ks standing own si oi

  abbrev F : List ℕ → Maybe Fitting
  F = fitting_of ks standing own si oi

  -- so many steps lead from the words t₀ to t, and the path is noted up to number n; the lengths are as they came
  pub record Going (t path : List ℕ) (steps n : ℕ) : Type 0 where
    pub within : steps ≤ left
    pub leads : Leads N room steps t₀ t
    pub on : OnPath ks t path n
    pub same : length t ≡ length t₀
    pub path-same : length path ≡ length path₀

  module _ (t path : List ℕ) (steps n : ℕ) (g : Going t path steps n) (s : Maybe Site) (number : ℕ) (new : List ℕ) (e : s ≡ site_at ks F t 0) (numbered : Numbered ks t new s number) where
    -- a further change, of some steps
    module _ (c : Change) (changes : Changes N room s t (Some c)) where
      found : (r : Maybe Site) → s ≡ r → (z : Site) × (s ≡ Some z)
      found (Some z) q = (z, q)
      found None q = absurd (none-some c (sym (subst (λ (x : Maybe Site). Changes N room x t (Some c)) q changes)))

      abbrev z : Site
      z = (found s refl).0

      abbrev p : ℕ
      p = z.place

      there : s ≡ Some z
      there = (found s refl).1

      noted : (get_or new number 0 ≡ p) × OnPath ks t new number
      noted = subst (λ (x : Maybe Site). Numbered ks t new x number) there numbered

      inside : p < length t
      inside = site-inside ks F t z (sym e ∙ there)

      leads-on : (0 < c.steps) × Leads N room c.steps t (set t p c.word)
      leads-on = subst (λ (x : Maybe Site). Changes N room x t (Some c)) there changes

      -- its place and its number lie within the term
      place-low : get_or new number 0 < length t
      place-low = omega (arith, noted.0, inside)

      number-low : number ≤ length t
      number-low = number-within ks t new number noted.1

      abbrev u : List ℕ
      u = set t (get_or new number 0) c.word

      u-is : u ≡ set t p c.word
      u-is = ap (λ (i : ℕ). set t i c.word) noted.0

      kept : OnPath ks u new number
      kept =
          path-kept ks t u p (ap (take p) u-is ∙ take-set-le p t p c.word (omega arith)) new number noted.1 noted.0
          (omega (arith, inside, length-set t (get_or new number 0) c.word))

      pub goes_on : c.steps ≤ left - steps → length new ≡ length path → (get_or new number 0 < length t) × (number ≤ length t) × (0 < c.steps) × Going u new (steps + c.steps) number
      goes_on few l = (place-low, number-low, leads-on.0, going)
        where
          going : Going u new (steps + c.steps) number
          going =
              record {
                within = omega (arith, few, g.within);
                leads = leads-more N room steps c.steps t₀ t u g.leads (subst (Leads N room c.steps t) (sym u-is) leads-on.1);
                on = kept;
                same = length-set t (get_or new number 0) c.word ∙ g.same;
                path-same = l ∙ g.path-same;
              }
