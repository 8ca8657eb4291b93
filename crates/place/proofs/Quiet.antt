-- In a value, succs over 0, True or False, no rule fits where the lists are usual: the search need not go through it.
use mathlib.Core.Path.{◌≡◌, refl, sym, ap, ap₂, subst, ◌∙◌}
use mathlib.Core.Logic.{◌≢◌, inl, inr}
use mathlib.Core.List.{List, [], ◌∷◌, ◌++◌}
use Prim.Native.Nat.{ℕ, zero, suc, ◌+◌, ◌-◌, ◌<◌}
use native.Mathlib.Omega.{arith}
use lib.ListN.{length, get_or, take, drop, replicate, take-append-drop}
use lib.Seq.{drop-drop}
use Rattle.theory.proofs.Lists.{drop-next}
use Rattle.std.specs.Prelude.{Option, Some, None}
use Rattle.theory.specs.Tree.{active}
use Rattle.words.specs.Terms.{arity_of, succs_end}
use Rattle.words.proofs.Skips.{past-none, succs-from, succs-run}
use Rattle.rules.specs.Matching.{reached}
use Rattle.rules.specs.Finding.{first_fit, moved, first_at, fitting_of}
use Rattle.rules.specs.Usual.{Base, Valued, opening, Usual}
use Rattle.rules.specs.declared.finding.Fitting.{Fitting}
use Rattle.rules.specs.declared.index.Span.{Span}
use Rattle.rules.proofs.Takes.{fits-other}
use Rattle.rules.proofs.Walk.{at_next, at-end}
use Rattle.rules.proofs.Placed.{first-none, found-in-own}
use Rattle.rules.proofs.Roots.{searched, unruled, usual-begins}
use Rattle.place.specs.Path.{below, here_at, here_in, or_here, path, site_at}
use Rattle.place.specs.declared.Site.{Site}
use Rattle.place.proofs.Path.{below_none, below-past, here-is}
use Rattle.place.proofs.Noted.{here-inside, site-deepest}

-- no part of 0, True or False may be rewritten
base-inactive : (c : ℕ) → Base c → active c < 1
base-inactive c h =
    elim h [
      | inl e ↦ subst (λ (n : ℕ). active n < 1) (sym e) (omega arith)
      | inr k ↦ elim k [ inl e ↦ subst (λ (n : ℕ). active n < 1) (sym e) (omega arith) | inr e ↦ subst (λ (n : ℕ). active n < 1) (sym e) (omega arith) ]
    ]

base-not-fire : (c : ℕ) → Base c → 6 ≢ c
base-not-fire c h e = elim h [ inl d ↦ absurd (omega arith) | inr k ↦ elim k [ inl d ↦ absurd (omega arith) | inr d ↦ absurd (omega arith) ] ]

-- the one part of a succ may be rewritten
below-succ : (ks ws : List ℕ) (p : ℕ) → below ks 2 ws p ≡ Some p
unfolding arity_of
below-succ ks ws p = below-past ks 2 ws p (omega arith) (omega arith) ∙ past-none (arity_of ks) ws p

-- the words from a place on whose run of succs ends at q
succs-then : (ws : List ℕ) (at q : ℕ) → q ≡ succs_end (drop at ws) at → q < length ws → drop at ws ≡ replicate (q - at) 2 ++ get_or ws q 0 ∷ drop (q + 1) ws
succs-then ws at q e h =
    let z : at + (q - at) ≡ q = omega (arith, succs-from ws at q e) in
    sym (take-append-drop (q - at) (drop at ws))
    ∙ ap₂ (λ (a b : List ℕ). a ++ b) (succs-run ws at q e) (drop-drop (q - at) at ws ∙ ap (λ (n : ℕ). drop n ws) z ∙ drop-next ws q h)

module _ (ks standing own : List ℕ) (si oi : List Span) (usual : Usual standing si oi) where
  abbrev find : List ℕ → Option Fitting
  find = fitting_of ks standing own si oi

  -- 0, True and False have no rules
  base-unruled : (c : ℕ) (ws : List ℕ) → Base c → find (c ∷ ws) ≡ None
  base-unruled c ws b = unruled ks standing own si oi c ws (usual.base_standing c b) (usual.base_own c b)

  -- and the one rule of succ is succ(fire(x)) -> fire(x)
  abbrev rule : List ℕ
  rule = drop 43 opening

  rule-there : take 7 (drop 43 standing) ≡ rule
  rule-there = ap (λ (l : List ℕ). take 7 (drop 43 l)) (usual-begins standing si oi usual)

  succ-unruled : (w : ℕ) (ws : List ℕ) → 6 ≢ w → find (2 ∷ w ∷ ws) ≡ None
  succ-unruled w ws n =
      let ss : List ℕ = 2 ∷ w ∷ ws in
      let s : first_at ks standing si ss ≡ None =
      searched ks standing si ss 43 50 usual.succs ∙ ap (λ (l : List ℕ). moved 43 (first_fit ks l ss)) rule-there
      ∙ ap (moved 43) (at_next ks ss rule 0 3 2 (omega arith) refl refl (omega arith) (fits-other ks 2 w 6 ws (64 ∷ []) refl refl n) ∙ at-end ks ss rule 7 (omega arith)) in
      let o = first-none ks own oi ss {w = 2} refl usual.succ_own in
      sym (found-in-own ks standing own si oi ss (sym s) refl o refl)

  -- no rule fits a value
  value-unruled : (k c : ℕ) (ws : List ℕ) → Base c → find (replicate k 2 ++ c ∷ ws) ≡ None
  value-unruled zero c ws b = base-unruled c ws b
  value-unruled (suc zero) c ws b = succ-unruled c ws (base-not-fire c b)
  value-unruled (suc (suc k)) c ws b = succ-unruled 2 (replicate k 2 ++ c ∷ ws) (λ e. absurd (omega arith))

  nothing-here : (k c : ℕ) (ws : List ℕ) (at : ℕ) → Base c → here_at find (replicate k 2 ++ c ∷ ws) at ≡ None
  nothing-here k c ws at b = sym (here-is ks find (replicate k 2 ++ c ∷ ws) at (sym (value-unruled k c ws b)))

  -- nor anything on the path through it
  nothing-through : (k c : ℕ) (ws : List ℕ) (at : ℕ) → Base c → path ks find (replicate k 2 ++ c ∷ ws) 0 at ≡ None
  unfolding path
  nothing-through zero c ws at b =
      ap₂ (λ (r : Option ℕ) (s : Option Site). or_here (reached r (λ p. path ks find ws (p - (at + 1)) (at + 1)) None) s) (below_none ks c ws (at + 1) (base-inactive c b)) (nothing-here 0 c ws at b)
  nothing-through (suc k) c ws at b =
      let v : List ℕ = replicate k 2 ++ c ∷ ws in
      let z : at + 1 - (at + 1) ≡ 0 = omega arith in
      ap₂ (λ (r : Option ℕ) (s : Option Site). or_here (reached r (λ p. path ks find v (p - (at + 1)) (at + 1)) None) s) (below-succ ks v (at + 1)) (nothing-here (suc k) c ws at b)
      ∙ ap (λ (g : ℕ). or_here (path ks find v g (at + 1)) None) z
      ∙ ap (λ (s : Option Site). or_here s None) (nothing-through k c ws (at + 1) b)

  -- A VALUE IS QUIET: nothing is rewritten at its place or below
  pub value-quiet : (ws : List ℕ) (at : ℕ) → Valued ws at → (site_at ks find ws at ≡ None) × (here_in find ws at ≡ None)
  value-quiet ws at v =
      let h = v.inside in
      let b = v.base in
      let q : ℕ = succs_end (drop at ws) at in
      let shape = succs-then ws at q refl h in
      let inside : at < length ws = omega (arith, succs-from ws at q refl, h) in
      let c : ℕ = get_or ws q 0 in (
        ap (λ (l : List ℕ). path ks find l 0 at) shape ∙ nothing-through (q - at) c (drop (q + 1) ws) at b,
        sym (here-inside ks find ws at inside) ∙ ap (λ (l : List ℕ). here_at find l at) shape ∙ nothing-here (q - at) c (drop (q + 1) ws) at b,
      )

-- why nothing fits below where the way down ends
pub ruleset way_ends = (site-deepest, value-quiet)
