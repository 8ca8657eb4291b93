-- The laws of a rule's use and of the next term.
use mathlib.Core.Path.{◌≡◌, refl, sym, ap, ap₂, subst, ◌∙◌}
use mathlib.Core.Bool.{Bool, true, false}
use mathlib.Core.Option.{Option, none, some, none-ne-some}
use mathlib.Core.List.{List, [], ◌∷◌, ◌++◌}
use Prim.Native.Nat.{ℕ, zero, suc, ◌+◌, ◌-◌, ◌≤◌, ◌<◌}
use native.Mathlib.Omega.{arith}
use lib.Dec.{eqb, ltb}
use lib.ListN.{length, get_or, take, drop, set, replicate, drop_of_length-le, length-append, length-take, length-drop}
use lib.Seq.{length-take-le, take_at}
use borrow.Author.Tests.{lt-ltb, le-ltb, ltb-true}
use Rattle.theory.proofs.Lists.{copies-same, drop-next}
use Rattle.std.specs.Prelude.{Option as Maybe, Some, None}
use Rattle.theory.specs.Syntax.{pick}
use Rattle.theory.specs.Words.{is_var}
use Rattle.words.specs.Terms.{skip_at}
use Rattle.words.proofs.Skips.{skip-reach}
use Rattle.rules.specs.Matching.{takes, reached, noted, binds, no_words, taken_by}
use Rattle.rules.specs.declared.index.Span.{Span}
use Rattle.rules.specs.declared.stored_rule.Stored.{Stored}
use Rattle.rules.specs.Stored.{NoneStored, StoredAt}
use Rattle.rules.proofs.Ordered.{bound-ordered}
use Rattle.place.specs.Path.{site_at}
use Rattle.place.specs.Noted.{OnPath, Numbered}
use Rattle.place.proofs.Noted.{path-kept}
use Rattle.place.proofs.Path.{site-inside}
use Rattle.rules.proofs.Handed.{handed-words}
use Rattle.place.specs.declared.Site.{Site}
use Rattle.theory.specs.Buffers.{part}
use Rattle.splice.specs.Right.{Within, Parts, new, step_of, placed, written_of}
use Rattle.step.specs.declared.Next.{Next}
use Rattle.step.specs.Next.{left, right, bound_by, past_by, end_by, end_of, ruled, sited, next_w, made, next_in, placed_next, OnNext}
use Rattle.rules.specs.Finding.{fitting_of, rule_of}

-- what the answers come to: of a next term the written words, or that it is too big, and what stands in the second buffer
pub answered : (room : ℕ) (o : Option (List ℕ)) (u d x : List ℕ) (w : Maybe ℕ) (r : Next) → o ≡ some u → r ≡ made w → w ≡ written_of room u → x ≡ placed room u d
    → (r ≡ next_in room o) × (x ≡ placed_next room o d)
answered room o u d x w r e p q l = (p ∙ ap made q ∙ sym (ap (next_in room) e), l ∙ sym (ap (λ (o : Option (List ℕ)). placed_next room o d) e))

-- ---- the slots end within the subject
abbrev Inside : List Span → ℕ → Type 0
Inside slots n = (v : ℕ) → (taken_by slots v).to ≤ n

none-inside : (n : ℕ) → Inside (replicate 8 no_words) n
none-inside n v = omega (arith, ap (λ (s : Span). s.to) (copies-same 8 v no_words))

set-inside : (slots : List Span) (i : ℕ) (x : Span) (n : ℕ) → Inside slots n → x.to ≤ n → Inside (set slots i x) n
set-inside [] i x n h k v = h v
set-inside (s ∷ slots) zero x n h k zero = k
set-inside (s ∷ slots) zero x n h k (suc v) = h (suc v)
set-inside (s ∷ slots) (suc i) x n h k zero = h zero
set-inside (s ∷ slots) (suc i) x n h k (suc v) = set-inside slots i x n (λ u. h (suc u)) k v

noted-inside : (slots : List Span) (p : ℕ) (x : Span) (n : ℕ) → Inside slots n → x.to ≤ n → Inside (noted slots p x) n
unfolding noted
noted-inside slots p x n h k = go (is_var p)
  where
    go : (b : Bool) → Inside (pick b (set slots (p - 64) x) slots) n
    go true = set-inside slots (p - 64) x n h k
    go false = h

takes-inside : (ks ss : List ℕ) (p j e : ℕ) → takes ks ss p j ≡ Some e → e ≤ length ss
unfolding takes
takes-inside ks ss p j e q = go (is_var p) (ltb j (length ss)) refl (eqb p (get_or ss j 0)) q
  where
    go : (a b : Bool) → ltb j (length ss) ≡ b → (c : Bool) → pick a (skip_at ks ss j) (pick b (pick c (Some (j + 1)) None) None) ≡ Some e → e ≤ length ss
    go true b t c k = (skip-reach ks ss j e k).1
    go false true t true k = let l : j < length ss = ltb-true j (length ss) t in let m : j + 1 ≡ e = cc in omega arith
    go false true t false k = cc
    go false false t c k = cc

binds-inside : (ks ss left : List ℕ) (j : ℕ) (slots : List Span) → Inside slots (length ss) → Inside (binds ks ss left j slots) (length ss)
unfolding binds
binds-inside ks ss [] j slots h = h
binds-inside ks ss (p ∷ ps) j slots h = go (takes ks ss p j) refl (λ e k. binds-inside ks ss ps e (noted slots p (record { from = j; to = e })) k)
  where
    go : (r : Maybe ℕ) → takes ks ss p j ≡ r
        → ((e : ℕ) → Inside (noted slots p (record { from = j; to = e })) (length ss) → Inside (binds ks ss ps e (noted slots p (record { from = j; to = e }))) (length ss))
        → Inside (reached r (λ e. binds ks ss ps e (noted slots p (record { from = j; to = e }))) slots) (length ss)
    go (Some e) q on = on e (noted-inside slots p (record { from = j; to = e }) (length ss) h (takes-inside ks ss p j e q))
    go None q on = h

bound-inside : (ks ss left : List ℕ) (b : List Span) (n : ℕ) → b ≡ binds ks ss left 0 (replicate 8 no_words) → length ss ≡ n → Within b n
bound-inside ks ss left b n e l =
    record { inside = λ v. subst (λ (m : ℕ). (taken_by b v).to ≤ m) l (subst (λ (x : List Span). (taken_by x v).to ≤ length ss) (sym e) (binds-inside ks ss left 0 (replicate 8 no_words) (none-inside (length ss)) v)) }

pub within_more : (bound : List Span) (n m : ℕ) → Within bound n → n ≤ m → Within bound m
within_more bound n m h k = record { inside = λ v. let l = h.inside v in omega (arith, l, k) }

-- ---- the end of what a left side takes
pub past-var : (ends : List Span) (w j : ℕ) → is_var w ≡ true → (taken_by ends (w - 64)).to ≡ past_by ends w j
unfolding past_by
past-var ends w j e = sym (ap (λ (b : Bool). pick b (taken_by ends (w - 64)).to (j + 1)) e)

pub past-plain : (ends : List Span) (w j : ℕ) → is_var w ≡ false → j + 1 ≡ past_by ends w j
unfolding past_by
past-plain ends w j e = sym (ap (λ (b : Bool). pick b (taken_by ends (w - 64)).to (j + 1)) e)

past-small : (ends : List Span) (w j i most : ℕ) → Within ends most → j ≤ most + i → past_by ends w j ≤ most + (i + 1)
unfolding past_by
past-small ends w j i most h k = go (is_var w)
  where
    go : (b : Bool) → pick b (taken_by ends (w - 64)).to (j + 1) ≤ most + (i + 1)
    go true = let l = h.inside (w - 64) in omega arith
    go false = omega arith

pub end-done : (ends : List Span) (left : List ℕ) (i j : ℕ) → length left ≤ i → end_by ends (drop i left) j ≡ j
unfolding end_by
end-done ends left i j h = ap (λ (l : List ℕ). end_by ends l j) (drop_of_length-le left h)

end-next : (ends : List Span) (left : List ℕ) (i j : ℕ) → i < length left → end_by ends (drop i left) j ≡ end_by ends (drop (i + 1) left) (past_by ends (get_or left i 0) j)
unfolding end_by
end-next ends left i j h = ap (λ (l : List ℕ). end_by ends l j) (drop-next left i h)

-- a turn of the loop over the left side
pub end-turn : (ends : List Span) (left : List ℕ) (i j k most : ℕ) → i < length left → Within ends most → end_by ends left 0 ≡ end_by ends (drop i left) j → j ≤ most + i
    → k ≡ past_by ends (get_or left i 0) j → (end_by ends left 0 ≡ end_by ends (drop (i + 1) left) k) × (k ≤ most + (i + 1))
end-turn ends left i j k most h w e l q = (
  e ∙ end-next ends left i j h ∙ ap (end_by ends (drop (i + 1) left)) (sym q),
  subst (λ (x : ℕ). x ≤ most + (i + 1)) (sym q) (past-small ends (get_or left i 0) j i most w l),
)

-- ---- a rule's use
module _ (ks rule ws : List ℕ) (p : ℕ) where
  abbrev after : List Span → ℕ → Option (List ℕ)
  after b e = pick (ltb (length ws) e) none (some (step_of ws p e (right rule) b))

  abbrev whole : Bool → Bool → Option (List ℕ)
  whole x y = pick x none (pick y none (after (bound_by ks rule (part p (length ws) ws)) (end_of ks rule ws p)))

  cut : (x : Bool) → whole x true ≡ none
  cut true = refl
  cut false = refl

  -- none of a rule that is not whole
  pub ruled-cut : NoneStored rule 0 → ruled ks rule ws p ≡ none
  unfolding ruled
  ruled-cut h = ap (whole (ltb (length rule) 2)) (lt-ltb (length rule) (2 + get_or rule 0 0 + get_or rule 1 0) (omega (arith, h))) ∙ cut (ltb (length rule) 2)

  -- of a whole one, where b is what the left side takes, and n the place past that
  module _ (h : 2 + get_or rule 0 0 + get_or rule 1 0 ≤ length rule) (b : List Span) (q : b ≡ bound_by ks rule (part p (length ws) ws)) (n : ℕ) (qn : n ≡ end_by b (left rule) 0) where
    known : ruled ks rule ws p ≡ after b (p + n)
    unfolding ruled
    known =
        ap₂ whole (le-ltb (length rule) 2 (omega (arith, h))) (le-ltb (length rule) (2 + get_or rule 0 0 + get_or rule 1 0) h)
        ∙ ap₂ after (sym q) (ap (λ (x : List Span). p + end_by x (left rule) 0) (sym q) ∙ ap (λ (i : ℕ). p + i) (sym qn))

    pub ruled-over : length ws < p + n → ruled ks rule ws p ≡ none
    ruled-over g = known ∙ ap (λ (x : Bool). pick x none (some (step_of ws p (p + n) (right rule) b))) (lt-ltb (length ws) (p + n) g)

    pub ruled-is : p + n ≤ length ws → ruled ks rule ws p ≡ some (step_of ws p (p + n) (right rule) b)
    ruled-is g = known ∙ ap (λ (x : Bool). pick x none (some (step_of ws p (p + n) (right rule) b))) (le-ltb (length ws) (p + n) g)

-- the use of a whole rule, by the places where its sides stand: b is what the left side takes of the term from the place p on
module _ (ks rule ws : List ℕ) (p : ℕ) (s : Stored) (h : StoredAt rule 0 s) (side : List ℕ) (stands : side ≡ take (s.left.to - s.left.from) (drop s.left.from rule)) (b : List Span)
    (q : b ≡ binds ks (part p (length ws) ws) side 0 (replicate 8 no_words)) where
  left-same : side ≡ left rule
  left-same = let n : s.left.to - s.left.from ≡ get_or rule 0 0 = omega (arith, h.from, h.to) in stands ∙ ap₂ (λ (i j : ℕ). take i (drop j rule)) n h.from

  right-same : right rule ≡ take (s.past - s.left.to) (drop s.left.to rule)
  right-same = let n : s.past - s.left.to ≡ get_or rule 1 0 = omega (arith, h.to, h.past) in sym (ap₂ (λ (i j : ℕ). take i (drop j rule)) n h.to)

  whole-same : 2 + get_or rule 0 0 + get_or rule 1 0 ≤ length rule
  whole-same = omega (arith, h.past, h.within)

  bound-same : b ≡ bound_by ks rule (part p (length ws) ws)
  bound-same = q ∙ ap (λ (l : List ℕ). binds ks (part p (length ws) ws) l 0 (replicate 8 no_words)) left-same

  pub parts-bound : p ≤ length ws → Parts b (length ws - p)
  parts-bound k =
      record {
        within = bound-inside ks (part p (length ws) ws) side b (length ws - p) q (simp (length-take, length-drop) (omega arith));
        ordered = bound-ordered ks (part p (length ws) ws) side b q;
      }

  -- n is the place past what it takes
  module _ (n : ℕ) (qn : n ≡ end_by b side 0) where
    pub used-over : length ws < p + n → ruled ks rule ws p ≡ none
    used-over = ruled-over ks rule ws p whole-same b bound-same n (qn ∙ ap (λ (l : List ℕ). end_by b l 0) left-same)

    pub used-is : p + n ≤ length ws → ruled ks rule ws p ≡ some (step_of ws p (p + n) (take (s.past - s.left.to) (drop s.left.to rule)) b)
    used-is g =
        ruled-is ks rule ws p whole-same b bound-same n (qn ∙ ap (λ (l : List ℕ). end_by b l 0) left-same) g
        ∙ ap (λ (r : List ℕ). some (step_of ws p (p + n) r b)) right-same

-- ---- the next term
module _ (ks standing own : List ℕ) (si oi : List Span) (ws : List ℕ) where
  abbrev S : Maybe Site
  S = site_at ks (fitting_of ks standing own si oi) ws 0

  abbrev N : Option (List ℕ)
  N = next_w ks standing own si oi ws

  pub next-none : S ≡ None → N ≡ none
  unfolding next_w
  next-none e = ap (λ (s : Maybe Site). sited s (λ z. ruled ks (rule_of standing own (Some z.rule)) ws z.place) none) e

  pub next-ruled : (z : Site) → S ≡ Some z → N ≡ ruled ks (rule_of standing own (Some z.rule)) ws z.place
  unfolding next_w
  next-ruled z e = ap (λ (s : Maybe Site). sited s (λ z. ruled ks (rule_of standing own (Some z.rule)) ws z.place) none) e

-- ---- a rule's use leaves what stands before the place
ruled-front : (ks rule ws : List ℕ) (p : ℕ) (u : List ℕ) → ruled ks rule ws p ≡ some u → p ≤ length ws → (take p u ≡ take p ws) × (p ≤ length u)
unfolding ruled
ruled-front ks rule ws p u e h = go (ltb (length rule) 2) (ltb (length rule) (2 + get_or rule 0 0 + get_or rule 1 0)) (ltb (length ws) (end_of ks rule ws p)) e
  where
    tail : List ℕ
    tail = new (part p (length ws) ws) (bound_by ks rule (part p (length ws) ws)) (right rule) ++ drop (end_of ks rule ws p) ws

    go : (a b c : Bool) → pick a none (pick b none (pick c none (some (take p ws ++ tail)))) ≡ some u → (take p u ≡ take p ws) × (p ≤ length u)
    go true b c e = absurd (none-ne-some u e)
    go false true c e = absurd (none-ne-some u e)
    go false false true e = absurd (none-ne-some u e)
    go false false false e =
        let same : u ≡ take p ws ++ tail = cc in
        let l : length (take p ws) ≡ p = length-take-le p ws h in
        (ap (take p) same ∙ take_at (take p ws) tail p l, subst (λ (x : List ℕ). p ≤ length x) (sym same) (omega (arith, length-append (take p ws) tail, l)))

-- so the path that was noted to it is the next term's
on-next : (ks rule ws : List ℕ) (p : ℕ) (path : List ℕ) (n : ℕ) → get_or path n 0 ≡ p → OnPath ks ws path n → (o : Option (List ℕ)) → o ≡ ruled ks rule ws p → OnNext ks o path n
on-next ks rule ws p path n e h none q = tt
on-next ks rule ws p path n e h (some u) q =
    let f = ruled-front ks rule ws p u (sym q) (subst (λ (x : ℕ). x ≤ length ws) e h.ends) in
    path-kept ks ws u p f.0 path n h e f.1

on_none : (ks : List ℕ) (o : Option (List ℕ)) (path : List ℕ) (n : ℕ) → o ≡ none → OnNext ks o path n
on_none ks o path n e = subst (λ (o : Option (List ℕ)). OnNext ks o path n) (sym e) tt

-- THE PATH to the site is the next term's: a step leaves what stands before it
pub next-on : (ks standing own : List ℕ) (si oi : List Span) (ws path : List ℕ) (s : Maybe Site) (n : ℕ) → s ≡ site_at ks (fitting_of ks standing own si oi) ws 0 → Numbered ks ws path s n → OnNext ks (next_w ks standing own si oi ws) path n
next-on ks standing own si oi ws path None n e h = on_none ks (next_w ks standing own si oi ws) path n (next-none ks standing own si oi ws (sym e))
next-on ks standing own si oi ws path (Some z) n e h =
    on-next ks (rule_of standing own (Some z.rule)) ws z.place path n h.0 h.1 (next_w ks standing own si oi ws) (next-ruled ks standing own si oi ws z (sym e))

-- the steps of the code: to the end of what a left side takes, of a rule's use, and to the next term
pub ruleset end_steps = (end-done)

pub ruleset use_steps = (ruled-cut, used-over, used-is, answered)

pub ruleset next_steps = (next-none, next-ruled, handed-words, site-inside)
