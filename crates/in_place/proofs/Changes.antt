-- A rule of either shape, where it is found: the steps that it begins, and that they change one word.
use mathlib.Core.Path.{◌≡◌, refl, sym, ap, ap₂, subst, ◌∙◌}
use mathlib.Core.Bool.{Bool, true, false}
use mathlib.Core.Option.{Option, some}
use mathlib.Core.List.{List, ◌∷◌, ◌++◌}
use Prim.Native.Nat.{ℕ, zero, suc, ◌+◌, ◌-◌, ◌≤◌, ◌<◌}
use native.Mathlib.Numerals.{add-one}
use native.Mathlib.Omega.{arith}
use lib.ListN.{length, get_or, take, drop, set, replicate, length-append, length-drop, length-set, length-replicate}
use lib.Seq.{length-take-le, take_at, set_split, append_snoc}
use Rattle.std.specs.Prelude.{Option as Maybe, Some}
use Rattle.theory.specs.Syntax.{pick}
use Rattle.theory.specs.Words.{is_var}
use Rattle.theory.proofs.Tests.{leb-true, leb-false}
use Rattle.theory.proofs.Lists.{drop-next}
use Rattle.words.specs.Terms.{arity_of, past, skip_at, succs_end}
use Rattle.words.proofs.Skips.{skip-root, value-skips}
use Rattle.rules.specs.Matching.{fits}
use Rattle.rules.specs.Finding.{fitting_of, rule_of}
use Rattle.rules.specs.declared.index.Span.{Span}
use Rattle.rules.specs.Usual.{Usual}
use Rattle.rules.proofs.Fitted.{Fitted, found-fits}
use Rattle.place.specs.Path.{site_at}
use Rattle.place.specs.Noted.{OnPath, Numbered}
use Rattle.place.specs.declared.Site.{Site}
use Rattle.place.proofs.Path.{site-found, site-inside}
use Rattle.place.proofs.Noted.{path-kept}
use Rattle.step.specs.Next.{left, right, next_w}
use Rattle.step.proofs.Ruled.{next-ruled}
use Rattle.in_place.specs.InPlace.{Leads, Changes, vars, Calls, Renames, Tests, Passes}
use Rattle.in_place.specs.declared.Change.{Change}
use Rattle.in_place.specs.declared.shapes.Test.{Test}
use Rattle.in_place.proofs.Variables.{taken, renamed, tested}
use Rattle.in_place.proofs.Values.{value_passes}

-- ---- steps after steps
module _ (next : List ℕ → Option (List ℕ)) (room : ℕ) where
  pub leads-more : (m k : ℕ) (t u v : List ℕ) → Leads next room m t u → Leads next room k u v → Leads next room (m + k) t v
  leads-more zero k t u v h g = let z : k ≡ 0 + k = omega arith in subst (λ (n : ℕ). Leads next room n t v) z (subst (λ (x : List ℕ). Leads next room k x v) (sym h) g)
  leads-more (suc m) k t u v h g =
      let z : suc (m + k) ≡ suc m + k = omega arith in
      subst (λ (n : ℕ). Leads next room n t v) z (h.0, (h.1.0, (h.1.1.0, leads-more m k h.0 u v h.1.1.1 g)))

-- ---- a rule's two sides, from the words that were compared
high-plain : (a : ℕ) → 256 ≤ a → is_var a ≡ false
high-plain a h = ap₂ (λ (x y : Bool). pick x y false) (leb-true 64 a (omega (arith, h))) (leb-false a 71 (omega (arith, h)))

-- four words of a list, and those behind them
four : (r : List ℕ) (i : ℕ) → i + 4 ≤ length r → drop i r ≡ get_or r i 0 ∷ get_or r (i + 1) 0 ∷ get_or r (i + 2) 0 ∷ get_or r (i + 3) 0 ∷ drop (i + 4) r
four r i h =
    let two : i + 1 + 1 ≡ i + 2 = omega arith in
    let three : i + 2 + 1 ≡ i + 3 = omega arith in
    let last : i + 3 + 1 ≡ i + 4 = omega arith in
    let from : (j k : ℕ) → j + 1 ≡ k → j < length r → drop j r ≡ get_or r j 0 ∷ drop k r = λ j k e l. drop-next r j l ∙ ap (λ (x : ℕ). get_or r j 0 ∷ drop x r) e in
    from i (i + 1) refl (omega (arith, h))
    ∙ ap (λ (x : List ℕ). get_or r i 0 ∷ x) (from (i + 1) (i + 2) two (omega (arith, h)))
    ∙ ap (λ (x : List ℕ). get_or r i 0 ∷ get_or r (i + 1) 0 ∷ x) (from (i + 2) (i + 3) three (omega (arith, h)))
    ∙ ap (λ (x : List ℕ). get_or r i 0 ∷ get_or r (i + 1) 0 ∷ get_or r (i + 2) 0 ∷ x) (from (i + 3) (i + 4) last (omega (arith, h)))

module _ (rule : List ℕ) (a n : ℕ) (c : Calls rule a n) where
  left_is : left rule ≡ a ∷ vars 64 n
  left_is =
      ap (λ (k : ℕ). take k (drop 2 rule)) (c.count ∙ add-one n) ∙ ap (take (suc n)) (drop-next rule 2 (omega (arith, c.long)))
      ∙ ap₂ ◌∷◌ c.root c.all

  module _ (whole : length rule ≡ 2 + (get_or rule 0 0 + get_or rule 1 0)) where
    renaming-right : (r : Renames rule n) → right rule ≡ get_or rule (n + 3) 0 ∷ vars 64 n
    renaming-right r =
        let k : get_or rule 1 0 ≡ suc n = omega (arith, whole, c.count, r.long) in
        let i : 2 + get_or rule 0 0 ≡ n + 3 = omega (arith, c.count) in
        let j : n + 3 + 1 ≡ n + 4 = omega arith in
        ap₂ (λ (x y : ℕ). take x (drop y rule)) k i ∙ ap (take (suc n)) (drop-next rule (n + 3) (omega (arith, r.long)))
        ∙ ap (λ (x : ℕ). get_or rule (n + 3) 0 ∷ take n (drop x rule)) j ∙ ap (λ (x : List ℕ). get_or rule (n + 3) 0 ∷ x) r.all

    testing-right : (ks : List ℕ) (r : Tests ks rule n) → right rule ≡ 7 ∷ 9 ∷ (64 + (get_or rule (n + 5) 0 - 64)) ∷ get_or rule (n + 6) 0 ∷ vars 64 n
    testing-right ks r =
        let k : get_or rule 1 0 ≡ suc (suc (suc (suc n))) = omega (arith, whole, c.count, r.long) in
        let i : 2 + get_or rule 0 0 ≡ n + 3 = omega (arith, c.count) in
        let four-on : n + 3 + 1 ≡ n + 4 = omega arith in
        let five-on : n + 3 + 2 ≡ n + 5 = omega arith in
        let six-on : n + 3 + 3 ≡ n + 6 = omega arith in
        let behind : n + 3 + 4 ≡ n + 7 = omega arith in
        let x : get_or rule (n + 5) 0 ≡ 64 + (get_or rule (n + 5) 0 - 64) = omega (arith, r.variable) in
        let word : (j m w : ℕ) → j ≡ m → get_or rule m 0 ≡ w → get_or rule j 0 ≡ w = λ j m w e g. ap (λ (y : ℕ). get_or rule y 0) e ∙ g in
        ap₂ (λ (x y : ℕ). take x (drop y rule)) k i ∙ ap (take (suc (suc (suc (suc n))))) (four rule (n + 3) (omega (arith, r.long)))
        ∙ ap₂ {C = List ℕ} ◌∷◌ r.guard (ap₂ {C = List ℕ} ◌∷◌ (word (n + 3 + 1) (n + 4) 9 four-on r.test)
        (ap₂ {C = List ℕ} ◌∷◌ (word (n + 3 + 2) (n + 5) (64 + (get_or rule (n + 5) 0 - 64)) five-on x)
        (ap₂ {C = List ℕ} ◌∷◌ (word (n + 3 + 3) (n + 6) (get_or rule (n + 6) 0) six-on refl) (ap (λ (y : ℕ). take n (drop y rule)) behind ∙ r.all))))

-- ---- the rule is found at the place p of the term t, on the noted path
module _ (ks standing own : List ℕ) (si oi : List Span) (t path : List ℕ) (room m n : ℕ) (z : Site) (site : site_at ks (fitting_of ks standing own si oi) t 0 ≡ Some z)
    (on : (get_or path m 0 ≡ z.place) × OnPath ks t path m) (fits-room : length t ≤ room) (c : Calls (rule_of standing own (Some z.rule)) (get_or t z.place 0) n) where
  abbrev p : ℕ
  p = z.place

  abbrev N : List ℕ → Option (List ℕ)
  N = next_w ks standing own si oi

  abbrev rule : List ℕ
  rule = rule_of standing own (Some z.rule)

  within : p < length t
  within = site-inside ks (fitting_of ks standing own si oi) t z site

  fitted : Fitted ks rule (drop p t)
  fitted = found-fits ks standing own si oi (drop p t) (Some z.rule) (site-found ks (fitting_of ks standing own si oi) t 0 z site) refl

  is-left : left rule ≡ get_or t p 0 ∷ vars 64 n
  is-left = left_is rule (get_or t p 0) n c

  fit : fits ks (drop p t) (get_or t p 0 ∷ vars 64 n) 0 ≡ true
  fit = sym (ap (λ (l : List ℕ). fits ks (drop p t) l 0) is-left) ∙ fitted.fit

  plain : is_var (get_or t p 0) ≡ false
  plain = high-plain (get_or t p 0) c.high

  whole : 2 + get_or rule 0 0 + get_or rule 1 0 ≤ length rule
  whole = omega (arith, fitted.whole)

  -- A CALL'S FIRST STEP changes one word
  pub rename-leads : Renames rule n → Leads N room 1 t (set t p (get_or rule (n + 3) 0))
  rename-leads r =
      let b : ℕ = get_or rule (n + 3) 0 in (
        set t p b,
        (
          next-ruled ks standing own si oi t z site
              ∙ renamed ks t p n (get_or t p 0) within refl plain c.few fit rule whole is-left b (high-plain b r.high) (renaming-right rule (get_or t p 0) n c fitted.whole r),
          (omega (arith, fits-room, length-set t p b), refl),
        ),
      )

  -- what stands before the place stays
  front : length (take p t) ≡ p
  front = length-take-le p t (omega (arith, within))

  kept : (us : List ℕ) → OnPath ks (take p t ++ us) path m
  kept us = path-kept ks t (take p t ++ us) p (take_at (take p t) us p front) path m on.1 on.0 (omega (arith, front, length-append (take p t) us))

  -- THE STEPS OF A TEST that passes change one word
  module _ (usual : Usual standing si oi) (r : Tests ks rule n) (q steps : ℕ) (there : past (arity_of ks) (drop (p + 1) t) (get_or rule (n + 5) 0 - 64) (p + 1) ≡ Some q)
      (value : Passes t q room steps) where
    abbrev b : ℕ
    b = get_or rule (n + 6) 0

    -- what is left after the test: b for the root
    abbrev ws : List ℕ
    ws = b ∷ drop (p + 1) t

    -- the value's last word, behind its succs
    abbrev e : ℕ
    e = succs_end (drop q t) q

    abbrev under : List ℕ
    under = replicate (e - q) 2 ++ get_or t e 0 ∷ ws

    first : N t ≡ some (take p t ++ 7 ∷ 9 ∷ under)
    first =
        let v = value-skips ks t q e (get_or t e 0) refl value.value.inside refl value.value.base in
        next-ruled ks standing own si oi t z site
        ∙ tested ks t p n (get_or t p 0) within refl plain c.few fit rule whole is-left (get_or rule (n + 5) 0 - 64) b q (e + 1) r.bound (high-plain b r.high)
        (testing-right rule (get_or t p 0) n c fitted.whole ks r) there v.0
        ∙ ap (λ (l : List ℕ). some (take p t ++ 7 ∷ 9 ∷ (l ++ ws))) v.1
        ∙ ap (λ (l : List ℕ). some (take p t ++ 7 ∷ 9 ∷ l)) (append_snoc (replicate (e - q) 2) (get_or t e 0) ws)

    term-left : (j : ℕ) × (past (arity_of ks) ws 1 0 ≡ Some j)
    unfolding skip_at
    term-left =
        let k = taken ks t p n (get_or t p 0) within refl plain c.few fit in
        (k.0, skip-root ks ws 0 (omega arith) ∙ ap (λ (i : ℕ). past (arity_of ks) (drop (p + 1) t) i 1) r.parts ∙ k.1)

    size : length (take p t) + (e - q + 3 + length ws) ≤ room
    size = omega (arith, front, within, length-drop (p + 1) t, value.count, value.fits)

    first-size : length (take p t ++ 7 ∷ 9 ∷ under) ≤ room
    first-size = omega (arith, size, length-append (take p t) (7 ∷ 9 ∷ under), length-append (replicate (e - q) 2) (get_or t e 0 ∷ ws), length-replicate {A = ℕ} (e - q) 2)

    pub test-leads : Leads N room steps t (set t p b)
    test-leads =
        let z : suc (e - q + 2) ≡ steps = omega (arith, value.count) in
        let end : take p t ++ ws ≡ set t p b = sym (rw add-one (set_split t p b within)) in
        subst (λ (k : ℕ). Leads N room k t (set t p b)) z (
          take p t ++ 7 ∷ 9 ∷ under,
          (
            first,
            (
              first-size,
              subst (Leads N room (e - q + 2) (take p t ++ 7 ∷ 9 ∷ under)) end
                  (value_passes ks standing own si oi usual (take p t) path m kept (on.0 ∙ sym front) room (e - q) (get_or t e 0) ws term-left.0 value.value.base term-left.1 size),
            ),
          ),
        )

-- ---- a change at a site
-- the site s of the term t is z, and r are the words of the rule that fits there
module _ (ks standing own : List ℕ) (si oi : List Span) (t path : List ℕ) (room m n : ℕ) (s : Maybe Site) (sited : s ≡ site_at ks (fitting_of ks standing own si oi) t 0) (numbered : Numbered ks t path s m) (z : Site)
    (there : s ≡ Some z) (fits-room : length t ≤ room) (r : List ℕ) (words : r ≡ rule_of standing own (Some z.rule)) (c : Calls r (get_or t z.place 0) n) where
  abbrev next : List ℕ → Option (List ℕ)
  next = next_w ks standing own si oi

  site : site_at ks (fitting_of ks standing own si oi) t 0 ≡ Some z
  site = sym sited ∙ there

  noted : (get_or path m 0 ≡ z.place) × OnPath ks t path m
  noted = subst (λ (x : Maybe Site). Numbered ks t path x m) there numbered

  -- what is so of the rule that the site has is so of r
  said : (Said : List ℕ → Type 0) → (Calls (rule_of standing own (Some z.rule)) (get_or t z.place 0) n → Said (rule_of standing own (Some z.rule))) → Said r
  said Said h = subst Said (sym words) (h (subst (λ (l : List ℕ). Calls l (get_or t z.place 0) n) words c))

  changes : (k : Change) → 0 < k.steps → Leads next room k.steps t (set t z.place k.word) → Changes next room s t (Some k)
  changes k h l = subst (λ (x : Maybe Site). Changes next room x t (Some k)) (sym there) (h, l)

  pub renaming-changes : (b : ℕ) → Renames r n × (b ≡ get_or r (n + 3) 0) → Changes next room s t (Some (record { steps = 1; word = b }))
  renaming-changes b e =
      subst (λ (w : ℕ). Changes next room s t (Some (record { steps = 1; word = w }))) (sym e.1)
      (changes (record { steps = 1; word = get_or r (n + 3) 0 }) (omega arith)
      (said (λ (l : List ℕ). Renames l n → Leads next room 1 t (set t z.place (get_or l (n + 3) 0))) (rename-leads ks standing own si oi t path room m n z site noted fits-room) e.0))

  pub test-changes : Usual standing si oi → (x : Test) → Tests ks r n × ((x.before ≡ get_or r (n + 5) 0 - 64) × (x.word ≡ get_or r (n + 6) 0)) → (o : Maybe ℕ)
      → o ≡ past (arity_of ks) (drop (z.place + 1) t) x.before (z.place + 1) → (q steps : ℕ) → o ≡ Some q → Passes t q room steps
      → Changes next room s t (Some (record { steps = steps; word = x.word }))
  test-changes usual x e o reached q steps ends value =
      subst (λ (w : ℕ). Changes next room s t (Some (record { steps = steps; word = w }))) (sym e.1.1)
      (changes (record { steps = steps; word = get_or r (n + 6) 0 }) (omega (arith, value.count))
      (said (λ (l : List ℕ). Tests ks l n → past (arity_of ks) (drop (z.place + 1) t) (get_or l (n + 5) 0 - 64) (z.place + 1) ≡ Some q → Leads next room steps t (set t z.place (get_or l (n + 6) 0)))
      (λ k e there. test-leads ks standing own si oi t path room m n z site noted fits-room k usual e q steps there value) e.0
      (ap (λ (i : ℕ). past (arity_of ks) (drop (z.place + 1) t) i (z.place + 1)) (sym e.1.0) ∙ sym reached ∙ ends)))
