-- A value is passed: where v is a value, guard(isData(v), y) leads to y, in a step for each succ of v and two more.
use mathlib.Core.Path.{◌≡◌, refl, sym, ap, ap₂, subst, ◌∙◌}
use mathlib.Core.Logic.{◌≢◌, inl, inr}
use mathlib.Core.Bool.{true, false}
use mathlib.Core.Option.{Option, some}
use mathlib.Core.List.{List, [], ◌∷◌, ◌++◌, append-nil}
use Prim.Native.Nat.{ℕ, zero, suc, ◌+◌, ◌-◌, ◌≤◌, ◌<◌}
use native.Mathlib.Omega.{arith}
use lib.ListN.{length, get_or, take, drop, replicate, length-append, take-append-drop, length-replicate}
use lib.Seq.{take-append_seam, drop-append_seam, drop-append-add, append_snoc}
use Rattle.std.specs.Prelude.{Option as Maybe, Some, None}
use Rattle.theory.specs.Tree.{active}
use Rattle.theory.specs.Words.{is_var}
use Rattle.theory.specs.Buffers.{part}
use Rattle.words.proofs.Skips.{succs-from}
use Rattle.words.specs.Terms.{arity_of, past, skip_at}
use Rattle.words.proofs.Skips.{past-reach, past-later}
use Rattle.words.proofs.Parts.{tail-part}
use Rattle.rules.specs.Matching.{takes, reached, fits, binds, no_words}
use Rattle.rules.specs.declared.index.Span.{Span}
use Rattle.rules.specs.Usual.{Base, opening, Spans, Usual}
use Rattle.rules.specs.Finding.{stored, first_fit, moved, first_at, fitting_of}
use Rattle.rules.specs.declared.finding.Fitting.{Fitting}
use Rattle.rules.specs.declared.finding.Fitting.TheVariants.{Standing}
use Rattle.rules.proofs.Takes.{takes-var, takes_same, fits-end, fits_next, fits-other, binds-end, binds-var, binds-plain}
use Rattle.rules.proofs.Walk.{at-found, at_next}
use Rattle.rules.proofs.Placed.{found-in-standing}
use Rattle.rules.proofs.Roots.{searched, unruled, usual-begins}
use Rattle.place.specs.Path.{below, here_at, or_here, path, site_at}
use Rattle.place.specs.Noted.{OnPath}
use Rattle.place.proofs.Path.{below_none, here-is}
use Rattle.place.proofs.Noted.{site-top}
use Rattle.place.specs.declared.Site.{Site}
use Rattle.splice.specs.Right.{new, word_for}
use Rattle.step.specs.Next.{left, right, past_by, end_by, ruled, next_w}
use Rattle.in_place.specs.InPlace.{Leads}
use Rattle.step.proofs.Ruled.{past-plain, ruled-is, next-ruled}

-- ---- where terms end
-- 0, True and False are terms alone
base-alone : (ks : List ℕ) (c : ℕ) → Base c → arity_of ks c ≡ 0
unfolding arity_of
base-alone ks c h = elim h [ inl e ↦ ap (arity_of ks) e | inr k ↦ elim k [ inl e ↦ ap (arity_of ks) e | inr e ↦ ap (arity_of ks) e ] ]

-- a value of k succs has a word more
past_value : (ks : List ℕ) (k c : ℕ) (ws : List ℕ) (p : ℕ) → Base c → past (arity_of ks) (replicate k 2 ++ c ∷ ws) 1 p ≡ Some (p + (k + 1))
unfolding past arity_of
past_value ks zero c ws p h = ap (λ (n : ℕ). past (arity_of ks) ws (n + 0) (p + 1)) (base-alone ks c h) ∙ first ws
  where
    first : (ws : List ℕ) → past (arity_of ks) ws 0 (p + 1) ≡ Some (p + 1)
    first [] = refl
    first (w ∷ ws) = refl
past_value ks (suc k) c ws p h = let z : p + 1 + (k + 1) ≡ p + (suc k + 1) = omega arith in past_value ks k c ws (p + 1) h ∙ ap Some z

-- ---- a left side of two words, or of two words and a variable, and a subject that begins with the two
abbrev zeros : List Span
zeros = replicate 8 no_words

-- the first variable takes the words from 2 up to n
abbrev slots : ℕ → List Span
slots n = record { from = 2; to = n } ∷ no_words ∷ no_words ∷ no_words ∷ no_words ∷ no_words ∷ no_words ∷ no_words ∷ []

module _ (ks : List ℕ) (a b : ℕ) (va : is_var a ≡ false) (vb : is_var b ≡ false) (ws : List ℕ) where
  abbrev S : List ℕ
  S = a ∷ b ∷ ws

  takes_first : takes ks S a 0 ≡ Some 1
  takes_first = takes_same ks S a 0 va (omega arith) refl

  takes-second : takes ks S b 1 ≡ Some 2
  takes-second = takes_same ks S b 1 vb (omega arith) refl

  fits-two : fits ks S (a ∷ b ∷ []) 0 ≡ true
  fits-two =
      fits_next ks S (a ∷ b ∷ []) 0 0 (omega arith) 1 takes_first
      ∙ fits_next ks S (a ∷ b ∷ []) 1 1 (omega arith) 2 takes-second
      ∙ fits-end ks S (a ∷ b ∷ []) 2 2 (omega arith)

  binds-two : binds ks S (a ∷ b ∷ []) 0 zeros ≡ zeros
  binds-two =
      binds-plain ks S (a ∷ b ∷ []) 0 0 (omega arith) zeros 1 va takes_first
      ∙ binds-plain ks S (a ∷ b ∷ []) 1 1 (omega arith) zeros 2 vb takes-second
      ∙ binds-end ks S (a ∷ b ∷ []) 2 2 zeros (omega arith)

  module _ (e : ℕ) (h : past (arity_of ks) ws 1 0 ≡ Some e) where
    takes-third : takes ks S 64 2 ≡ Some (2 + e)
    unfolding skip_at
    takes-third = takes-var ks S 64 2 refl ∙ past-later (arity_of ks) ws 1 0 2 e h

    fits-three : fits ks S (a ∷ b ∷ 64 ∷ []) 0 ≡ true
    fits-three =
        fits_next ks S (a ∷ b ∷ 64 ∷ []) 0 0 (omega arith) 1 takes_first
        ∙ fits_next ks S (a ∷ b ∷ 64 ∷ []) 1 1 (omega arith) 2 takes-second
        ∙ fits_next ks S (a ∷ b ∷ 64 ∷ []) 2 2 (omega arith) (2 + e) takes-third
        ∙ fits-end ks S (a ∷ b ∷ 64 ∷ []) 3 (2 + e) (omega arith)

    binds-three : binds ks S (a ∷ b ∷ 64 ∷ []) 0 zeros ≡ slots (2 + e)
    binds-three =
        binds-plain ks S (a ∷ b ∷ 64 ∷ []) 0 0 (omega arith) zeros 1 va takes_first
        ∙ binds-plain ks S (a ∷ b ∷ 64 ∷ []) 1 1 (omega arith) zeros 2 vb takes-second
        ∙ binds-var ks S (a ∷ b ∷ 64 ∷ []) 2 2 (omega arith) zeros (2 + e) refl takes-third
        ∙ binds-end ks S (a ∷ b ∷ 64 ∷ []) 3 (2 + e) (slots (2 + e)) (omega arith)

-- ---- a rule used on the words ss, which stand behind some others
module _ (ks front ss rule : List ℕ) where
  abbrev t : List ℕ
  t = front ++ ss

  abbrev p : ℕ
  p = length front

  subject : part p (length t) t ≡ ss
  subject = tail-part t p ∙ drop-append_seam front ss

  ruled-behind : 2 + get_or rule 0 0 + get_or rule 1 0 ≤ length rule → (b : List Span) → b ≡ binds ks ss (left rule) 0 zeros → (n : ℕ) → n ≡ end_by b (left rule) 0 → n ≤ length ss
      → ruled ks rule t p ≡ some (front ++ (new ss b (right rule) ++ drop n ss))
  ruled-behind k b q n qn g =
      ruled-is ks rule t p k b (q ∙ ap (λ (s : List ℕ). binds ks s (left rule) 0 zeros) (sym subject)) n qn (omega (arith, g, length-append front ss))
      ∙ ap₂ (λ (f s : List ℕ). some (f ++ (new s b (right rule) ++ drop (p + n) t))) (take-append_seam front ss) subject
      ∙ ap (λ (d : List ℕ). some (front ++ (new ss b (right rule) ++ d))) (drop-append-add front ss n)

module _ (ks front ws : List ℕ) where
  -- what a variable behind two words takes, and what stands behind that
  third : (a b e : ℕ) → (part 2 (2 + e) (a ∷ b ∷ ws) ++ []) ++ drop (2 + e) (a ∷ b ∷ ws) ≡ ws
  third a b e =
      let n : 2 + e - 2 ≡ e = omega arith in
      let k : 2 + e ≡ suc (suc e) = omega arith in
      ap₂ (λ (n k : ℕ). (take n ws ++ []) ++ drop k (a ∷ b ∷ ws)) n k ∙ ap (λ (l : List ℕ). l ++ drop e ws) (append-nil (take e ws)) ∙ take-append-drop e ws

  module _ (e : ℕ) (h : past (arity_of ks) ws 1 0 ≡ Some e) where
    -- isData(succ(x)) -> isData(x)
    ruled-succ : ruled ks (3 ∷ 2 ∷ 9 ∷ 2 ∷ 64 ∷ 9 ∷ 64 ∷ []) (front ++ 9 ∷ 2 ∷ ws) (length front) ≡ some (front ++ 9 ∷ ws)
    unfolding end_by past_by word_for
    ruled-succ =
        ruled-behind ks front (9 ∷ 2 ∷ ws) (3 ∷ 2 ∷ 9 ∷ 2 ∷ 64 ∷ 9 ∷ 64 ∷ []) (omega arith) (slots (2 + e)) (sym (binds-three ks 9 2 refl refl ws e h)) (2 + e) refl
        (omega (arith, past-reach (arity_of ks) ws 1 0 e h))
        ∙ ap (λ (l : List ℕ). some (front ++ 9 ∷ l)) (third 9 2 e)

    -- guard(tt, y) -> y
    ruled-guard : ruled ks (3 ∷ 1 ∷ 7 ∷ 5 ∷ 64 ∷ 64 ∷ []) (front ++ 7 ∷ 5 ∷ ws) (length front) ≡ some (front ++ ws)
    unfolding end_by past_by word_for
    ruled-guard =
        ruled-behind ks front (7 ∷ 5 ∷ ws) (3 ∷ 1 ∷ 7 ∷ 5 ∷ 64 ∷ 64 ∷ []) (omega arith) (slots (2 + e)) (sym (binds-three ks 7 5 refl refl ws e h)) (2 + e) refl
        (omega (arith, past-reach (arity_of ks) ws 1 0 e h))
        ∙ ap (λ (l : List ℕ). some (front ++ l)) (third 7 5 e)

  -- isData(c) -> tt
  ruled-base : (c : ℕ) → is_var c ≡ false → ruled ks (2 ∷ 1 ∷ 9 ∷ c ∷ 5 ∷ []) (front ++ 9 ∷ c ∷ ws) (length front) ≡ some (front ++ 5 ∷ ws)
  unfolding end_by word_for
  ruled-base c v =
      ruled-behind ks front (9 ∷ c ∷ ws) (2 ∷ 1 ∷ 9 ∷ c ∷ 5 ∷ []) (omega arith) zeros (sym (binds-two ks 9 c refl v ws)) 2
      (ap (λ (n : ℕ). n + 1) (past-plain zeros 9 0 refl) ∙ past-plain zeros c (past_by zeros 9 0) v) (omega arith)

-- ---- what fits, where the lists are usual
-- the rule of n words from word number at of the standing list on
abbrev standing_rule : ℕ → ℕ → Fitting
standing_rule at n = Standing (record { from = at; to = at + n })

module _ (ks standing own : List ℕ) (si oi : List Span) (usual : Usual standing si oi) where
  abbrev find : List ℕ → Maybe Fitting
  find = fitting_of ks standing own si oi

  begins : standing ≡ opening ++ drop 50 standing
  begins = usual-begins standing si oi usual

  -- in the part of the list where the rules of the root stand
  finds : (a b : ℕ) (rules ss : List ℕ) (at n : ℕ) → Spans si (length standing) (get_or ss 0 0) a b
      → take (b - a) (drop a standing) ≡ rules → first_fit ks rules ss ≡ stored at n → find ss ≡ Some (standing_rule (a + at) n)
  finds a b rules ss at n h e f =
      let end : a + (at + n) ≡ a + at + n = omega arith in
      let place : first_at ks standing si ss ≡ stored (a + at) n =
      searched ks standing si ss a b h ∙ ap (λ (l : List ℕ). moved a (first_fit ks l ss)) e ∙ ap (moved a) f
      ∙ ap (λ (m : ℕ). Some (record { from = a + at; to = m })) end in
      sym (found-in-standing ks standing own si oi ss refl place)

  abbrev guards : List ℕ
  guards = take 14 opening

  abbrev tests : List ℕ
  tests = take 29 (drop 14 opening)

  guards-there : take 14 (drop 0 standing) ≡ guards
  guards-there = ap (take 14) begins

  tests-there : take 29 (drop 14 standing) ≡ tests
  tests-there = ap (λ (l : List ℕ). take 29 (drop 14 l)) begins

  -- tt has no rules
  finds-none : (ws : List ℕ) → find (5 ∷ ws) ≡ None
  finds-none ws = unruled ks standing own si oi 5 ws usual.no_standing usual.no_own

  module _ (ws : List ℕ) (e : ℕ) (h : past (arity_of ks) ws 1 0 ≡ Some e) where
    finds-guard : find (7 ∷ 5 ∷ ws) ≡ Some (standing_rule 0 6)
    finds-guard =
        finds 0 14 guards (7 ∷ 5 ∷ ws) 0 6 usual.guards guards-there
        (at-found ks (7 ∷ 5 ∷ ws) guards 0 3 1 (omega arith) refl refl (omega arith) (fits-three ks 7 5 refl refl ws e h))

    finds-succ : find (9 ∷ 2 ∷ ws) ≡ Some (standing_rule 14 7)
    finds-succ =
        finds 14 43 tests (9 ∷ 2 ∷ ws) 0 7 usual.tests tests-there
        (at-found ks (9 ∷ 2 ∷ ws) tests 0 3 2 (omega arith) refl refl (omega arith) (fits-three ks 9 2 refl refl ws e h))

  -- isData has a rule for each of 0, True and False
  record Tested (c : ℕ) (ws : List ℕ) : Type 0 where
    there : ℕ
    fitting : find (9 ∷ c ∷ ws) ≡ Some (standing_rule there 5)
    rule : take 5 (drop there standing) ≡ 2 ∷ 1 ∷ 9 ∷ c ∷ 5 ∷ []
    plain : is_var c ≡ false

  module _ (ws : List ℕ) where
    -- the words 9 and c are not those of the rule for d
    other : (c d : ℕ) (ps : List ℕ) → is_var d ≡ false → d ≢ c → fits ks (9 ∷ c ∷ ws) (9 ∷ d ∷ ps) 0 ≡ false
    other c d ps v n = fits-other ks 9 c d ws ps refl v n

    zero-tested : Tested 1 ws
    zero-tested =
        record {
          there = 21;
          fitting = finds 14 43 tests (9 ∷ 1 ∷ ws) 7 5 usual.tests tests-there
              (at_next ks (9 ∷ 1 ∷ ws) tests 0 3 2 (omega arith) refl refl (omega arith) (other 1 2 (64 ∷ []) refl (λ e. absurd (omega arith)))
              ∙ at-found ks (9 ∷ 1 ∷ ws) tests 7 2 1 (omega arith) refl refl (omega arith) (fits-two ks 9 1 refl refl ws));
          rule = ap (λ (l : List ℕ). take 5 (drop 21 l)) begins;
          plain = refl;
        }

    true-tested : Tested 3 ws
    true-tested =
        record {
          there = 26;
          fitting = finds 14 43 tests (9 ∷ 3 ∷ ws) 12 5 usual.tests tests-there
              (at_next ks (9 ∷ 3 ∷ ws) tests 0 3 2 (omega arith) refl refl (omega arith) (other 3 2 (64 ∷ []) refl (λ e. absurd (omega arith)))
              ∙ at_next ks (9 ∷ 3 ∷ ws) tests 7 2 1 (omega arith) refl refl (omega arith) (other 3 1 [] refl (λ e. absurd (omega arith)))
              ∙ at-found ks (9 ∷ 3 ∷ ws) tests 12 2 1 (omega arith) refl refl (omega arith) (fits-two ks 9 3 refl refl ws));
          rule = ap (λ (l : List ℕ). take 5 (drop 26 l)) begins;
          plain = refl;
        }

    false-tested : Tested 4 ws
    false-tested =
        record {
          there = 31;
          fitting = finds 14 43 tests (9 ∷ 4 ∷ ws) 17 5 usual.tests tests-there
              (at_next ks (9 ∷ 4 ∷ ws) tests 0 3 2 (omega arith) refl refl (omega arith) (other 4 2 (64 ∷ []) refl (λ e. absurd (omega arith)))
              ∙ at_next ks (9 ∷ 4 ∷ ws) tests 7 2 1 (omega arith) refl refl (omega arith) (other 4 1 [] refl (λ e. absurd (omega arith)))
              ∙ at_next ks (9 ∷ 4 ∷ ws) tests 12 2 1 (omega arith) refl refl (omega arith) (other 4 3 [] refl (λ e. absurd (omega arith)))
              ∙ at-found ks (9 ∷ 4 ∷ ws) tests 17 2 1 (omega arith) refl refl (omega arith) (fits-two ks 9 4 refl refl ws));
          rule = ap (λ (l : List ℕ). take 5 (drop 31 l)) begins;
          plain = refl;
        }

    base-tested : (c : ℕ) → Base c → Tested c ws
    base-tested c h =
        elim h [
          | inl e ↦ subst (λ (d : ℕ). Tested d ws) (sym e) zero-tested
          | inr k ↦ elim k [ inl e ↦ subst (λ (d : ℕ). Tested d ws) (sym e) true-tested | inr e ↦ subst (λ (d : ℕ). Tested d ws) (sym e) false-tested ]
        ]

-- ---- the place below a guard, and the guard's own
module _ (ks : List ℕ) (find : List ℕ → Maybe Fitting) (pre : List ℕ) where
  abbrev below-it : ℕ → List ℕ → Maybe Site
  below-it w ws = here_at find (w ∷ ws) (length pre + 1)

  site-guard : (w : ℕ) (ws : List ℕ) → active w < 1 → site_at ks find (pre ++ 7 ∷ w ∷ ws) (length pre) ≡ or_here (below-it w ws) (here_at find (7 ∷ w ∷ ws) (length pre))
  unfolding path below arity_of past
  site-guard w ws h =
      let z : length pre + 1 - (length pre + 1) ≡ 0 = omega arith in
      ap (λ (l : List ℕ). path ks find l 0 (length pre)) (drop-append_seam pre (7 ∷ w ∷ ws))
      ∙ ap (λ (g : ℕ). or_here (path ks find (w ∷ ws) g (length pre + 1)) (here_at find (7 ∷ w ∷ ws) (length pre))) z
      ∙ ap (λ (r : Maybe ℕ). or_here (or_here (reached r (λ q. path ks find ws (q - (length pre + 1 + 1)) (length pre + 1 + 1)) None) (below-it w ws)) (here_at find (7 ∷ w ∷ ws) (length pre)))
      (below_none ks w ws (length pre + 1 + 1) h)

  site-tested : (w : ℕ) (ws : List ℕ) (f : Fitting) → active w < 1 → find (w ∷ ws) ≡ Some f → site_at ks find (pre ++ 7 ∷ w ∷ ws) (length pre) ≡ Some (record { place = length pre + 1; rule = f })
  site-tested w ws f h e = site-guard w ws h ∙ ap (λ (s : Maybe Site). or_here s (here_at find (7 ∷ w ∷ ws) (length pre))) (sym (here-is ks find (w ∷ ws) (length pre + 1) (sym e)))

  site-passed : (w : ℕ) (ws : List ℕ) (g : Fitting) → active w < 1 → find (w ∷ ws) ≡ None → find (7 ∷ w ∷ ws) ≡ Some g
      → site_at ks find (pre ++ 7 ∷ w ∷ ws) (length pre) ≡ Some (record { place = length pre; rule = g })
  site-passed w ws g h e d =
      site-guard w ws h ∙ ap (λ (s : Maybe Site). or_here s (here_at find (7 ∷ w ∷ ws) (length pre))) (sym (here-is ks find (w ∷ ws) (length pre + 1) (sym e)))
      ∙ sym (here-is ks find (7 ∷ w ∷ ws) (length pre) (sym d))

-- a rule used below a guard
ruled-below : (ks pre rule us vs : List ℕ) → ((front : List ℕ) → ruled ks rule (front ++ us) (length front) ≡ some (front ++ vs)) → ruled ks rule (pre ++ 7 ∷ us) (length pre + 1) ≡ some (pre ++ 7 ∷ vs)
ruled-below ks pre rule us vs h =
    let l : length pre + 1 ≡ length (pre ++ (7 ∷ [])) = sym (length-append pre (7 ∷ [])) in
    ap₂ (ruled ks rule) (sym (append_snoc pre 7 us)) l ∙ h (pre ++ (7 ∷ [])) ∙ ap some (append_snoc pre 7 vs)

-- ---- the steps
module _ (ks standing own : List ℕ) (si oi : List Span) (usual : Usual standing si oi) (pre path : List ℕ) (m : ℕ) (on : (us : List ℕ) → OnPath ks (pre ++ us) path m) (at : get_or path m 0 ≡ length pre) where
  abbrev N : List ℕ → Option (List ℕ)
  N = next_w ks standing own si oi

  abbrev F : List ℕ → Maybe Fitting
  F = fitting_of ks standing own si oi

  next-at : (us : List ℕ) (q n i : ℕ) (rule : List ℕ) → site_at ks F (pre ++ us) (length pre) ≡ Some (record { place = q; rule = standing_rule n i }) → take i (drop n standing) ≡ rule → N (pre ++ us) ≡ ruled ks rule (pre ++ us) q
  next-at us q n i rule e r =
      let z : Site = record { place = q; rule = standing_rule n i } in
      let top = site-top ks F (pre ++ us) path m (on us) z m (omega arith) (ap (site_at ks F (pre ++ us)) at ∙ e) in
      let count : n + i - n ≡ i = omega arith in
      next-ruled ks standing own si oi (pre ++ us) z top ∙ ap (λ (l : List ℕ). ruled ks l (pre ++ us) q) (ap (λ (k : ℕ). take k (drop n standing)) count ∙ r)

  -- guard(isData(succ(x)), y) -> guard(isData(x), y)
  pub data-succ : (ws : List ℕ) (e : ℕ) → past (arity_of ks) ws 1 0 ≡ Some e → N (pre ++ 7 ∷ 9 ∷ 2 ∷ ws) ≡ some (pre ++ 7 ∷ 9 ∷ ws)
  data-succ ws e h =
      let rule : List ℕ = 3 ∷ 2 ∷ 9 ∷ 2 ∷ 64 ∷ 9 ∷ 64 ∷ [] in
      let site = site-tested ks F pre 9 (2 ∷ ws) (standing_rule 14 7) (omega arith) (finds-succ ks standing own si oi usual ws e h) in
      next-at (7 ∷ 9 ∷ 2 ∷ ws) (length pre + 1) 14 7 rule site (ap (λ (l : List ℕ). take 7 (drop 14 l)) (begins ks standing own si oi usual))
      ∙ ruled-below ks pre rule (9 ∷ 2 ∷ ws) (9 ∷ ws) (λ front. ruled-succ ks front ws e h)

  -- guard(isData(c), y) -> guard(tt, y)
  pub data-base : (c : ℕ) (ws : List ℕ) → Base c → N (pre ++ 7 ∷ 9 ∷ c ∷ ws) ≡ some (pre ++ 7 ∷ 5 ∷ ws)
  data-base c ws b =
      let t = base-tested ks standing own si oi usual ws c b in
      let site = site-tested ks F pre 9 (c ∷ ws) (standing_rule t.there 5) (omega arith) t.fitting in
      next-at (7 ∷ 9 ∷ c ∷ ws) (length pre + 1) t.there 5 (2 ∷ 1 ∷ 9 ∷ c ∷ 5 ∷ []) site t.rule
      ∙ ruled-below ks pre (2 ∷ 1 ∷ 9 ∷ c ∷ 5 ∷ []) (9 ∷ c ∷ ws) (5 ∷ ws) (λ front. ruled-base ks front ws c t.plain)

  -- guard(tt, y) -> y
  pub guard_tt : (ws : List ℕ) (e : ℕ) → past (arity_of ks) ws 1 0 ≡ Some e → N (pre ++ 7 ∷ 5 ∷ ws) ≡ some (pre ++ ws)
  guard_tt ws e h =
      let rule : List ℕ = 3 ∷ 1 ∷ 7 ∷ 5 ∷ 64 ∷ 64 ∷ [] in
      let site = site-passed ks F pre 5 ws (standing_rule 0 6) (omega arith) (finds-none ks standing own si oi usual ws) (finds-guard ks standing own si oi usual ws e h) in
      next-at (7 ∷ 5 ∷ ws) (length pre) 0 6 rule site (ap (λ (l : List ℕ). take 6 (drop 0 l)) (begins ks standing own si oi usual)) ∙ ruled-guard ks pre ws e h

  -- THE VALUE IS PASSED: k succs and c under isData under guard, before the words ws
  pub value_passes : (room k c : ℕ) (ws : List ℕ) (e : ℕ) → Base c → past (arity_of ks) ws 1 0 ≡ Some e → length pre + (k + 3 + length ws) ≤ room
      → Leads N room (k + 2) (pre ++ 7 ∷ 9 ∷ (replicate k 2 ++ c ∷ ws)) (pre ++ ws)
  value_passes room zero c ws e b h r =
      (pre ++ 7 ∷ 5 ∷ ws, (data-base c ws b, (omega (arith, r, length-append pre (7 ∷ 5 ∷ ws)), (pre ++ ws, (guard_tt ws e h, (omega (arith, r, length-append pre ws), refl))))))
  value_passes room (suc k) c ws e b h r =
      let v : List ℕ = replicate k 2 ++ c ∷ ws in
      let l : length v ≡ k + suc (length ws) = length-append (replicate k 2) (c ∷ ws) ∙ ap (λ (n : ℕ). n + suc (length ws)) (length-replicate k 2) in
      let n : suc (k + 2) ≡ suc k + 2 = omega arith in
      subst (λ (n : ℕ). Leads N room n (pre ++ 7 ∷ 9 ∷ 2 ∷ v) (pre ++ ws)) n
      (pre ++ 7 ∷ 9 ∷ v, (data-succ v (0 + (k + 1)) (past_value ks k c ws 0 b), (omega (arith, r, l, length-append pre (7 ∷ 9 ∷ v)), value_passes room k c ws e b h (omega arith))))

-- a value's last word is no earlier than its first
pub ruleset test_laws = (succs-from)
