-- The laws of overlap on bytes, by place.
use Prim.Native.Nat.{ℕ, zero, suc, ◌+◌, ◌-◌, ◌≤◌, ◌<◌}
use mathlib.Core.Path.{◌≡◌, refl, sym, ap, ◌∙◌}
use mathlib.Core.Bool.{Bool, true, false, not, cond, ◌||◌}
use mathlib.Core.Logic.{◌⊎◌, inl, inr}
use Rattle.std.specs.List.{list_any, position}
use mathlib.Core.List.{List, [], ◌∷◌, ◌++◌}
use native.Mathlib.Numerals.{add-one}
use native.Mathlib.Omega.{arith}
use lib.Dec.{eqb}
use lib.ListN.{length, get_or, take, drop, drop_of_length-le}
use lib.Seq.{take-suc}
use borrow.Author.Tests.{eqb-true, eq-eqb, ne_eqb, lt-leb}
use Rattle.theory.proofs.Lists.{drop-next}
use Rattle.std.specs.Prelude.{Option, Some, None, option_map}
use Rattle.theory.specs.Syntax.{pick, choose}
use Rattle.checker.proofs.Position.{position-next}
use Rattle.checker.specs.Overlap.{pat_len, heads_meet, args_meet, clash_at, any_clash, first_clash}

-- a pattern ends at the first byte that is no succ, or behind the variable that begins there
pat_from : List ℕ → Option ℕ → ℕ
pat_from bs None = length bs
pat_from bs (Some n) = pick (eqb (get_or bs n 0) 0x14) (n + 2) (n + 1)

pat_next : (b : ℕ) (bs : List ℕ) (o : Option ℕ) → pat_from (b ∷ bs) (option_map suc o) ≡ suc (pat_from bs o)
unfolding pat_from
pat_next b bs None = refl
pat_next b bs (Some n) = by (eqb (get_or bs n 0) 0x14)
  where
    by : (t : Bool) → pick t (suc n + 2) (suc n + 1) ≡ suc (pick t (n + 2) (n + 1))
    by true = omega arith
    by false = omega arith

last : (t : Bool) → pick {A = ℕ} t 2 1 ≡ choose t (λ u. 2) (λ u. 1)
last true = refl
last false = refl

pat-position : (bs : List ℕ) → pat_from bs (position (λ b. not (eqb b 0x11)) bs) ≡ pat_len bs
unfolding pat_len pat_from
pat-position [] = refl
pat-position (b ∷ bs) = ap (pat_from (b ∷ bs)) (position-next (λ b. not (eqb b 0x11)) b bs) ∙ by (eqb b 0x11) (pat-position bs) refl
  where
    by : (t : Bool) → pat_from bs (position (λ b. not (eqb b 0x11)) bs) ≡ pat_len bs → eqb b 0x11 ≡ t → pat_from (b ∷ bs) (cond (not t) (Some 0) (option_map suc (position (λ b. not (eqb b 0x11)) bs))) ≡ choose (eqb b 0x14) (λ u. 2) (λ u. choose t (λ u. suc (pat_len bs)) (λ u. 1))
    by true h e =
        let z : eqb b 0x14 ≡ false = rw (eqb-true b 0x11 e) refl in
        rw z (pat_next b bs (position (λ b. not (eqb b 0x11)) bs) ∙ ap suc h)
    by false h e = last (eqb b 0x14)

module _ (bs : List ℕ) where
  pub pat-none : position (λ b. not (eqb b 0x11)) bs ≡ None → length bs ≡ pat_len bs
  unfolding pat_from
  pat-none e = ap (pat_from bs) (sym e) ∙ pat-position bs

  module _ (n : ℕ) (e : position (λ b. not (eqb b 0x11)) bs ≡ Some n) where
    pub pat-var : get_or bs n 0 ≡ 0x14 → n + 2 ≡ pat_len bs
    unfolding pat_from
    pat-var v = rw (eq-eqb (get_or bs n 0) 0x14 v) at (ap (pat_from bs) (sym e) ∙ pat-position bs)

    pub pat-other : (get_or bs n 0 ≡ 0x14 → ⊥) → n + 1 ≡ pat_len bs
    unfolding pat_from
    pat-other v = rw (ne_eqb (get_or bs n 0) 0x14 v) at (ap (pat_from bs) (sym e) ∙ pat-position bs)

-- two patterns, byte by byte
pub heads-out : (xs ys : List ℕ) → (xs ≡ []) ⊎ (ys ≡ []) → heads_meet xs ys ≡ true
unfolding heads_meet
heads-out xs ys (inl e) = rw e
heads-out [] ys (inr e) = refl
heads-out (x ∷ xs) ys (inr e) = rw e

module _ (xs ys : List ℕ) (a b : ℕ) (as' bs : List ℕ) (first : xs ≡ a ∷ as') (second : ys ≡ b ∷ bs) where
  pub heads-var : a ≡ 0x14 → heads_meet xs ys ≡ true
  unfolding heads_meet
  heads-var e = rw (first, second, eq-eqb a 0x14 e)

  module _ (n1 : a ≡ 0x14 → ⊥) where
    pub heads-var2 : b ≡ 0x14 → heads_meet xs ys ≡ true
    unfolding heads_meet
    heads-var2 e = rw (first, second, ne_eqb a 0x14 n1, eq-eqb b 0x14 e)

    module _ (n2 : b ≡ 0x14 → ⊥) where
      pub heads-differ : (a ≡ b → ⊥) → heads_meet xs ys ≡ false
      unfolding heads_meet
      heads-differ e = rw (first, second, ne_eqb a 0x14 n1, ne_eqb b 0x14 n2, ne_eqb a b e)

      pub heads-base : a ≡ b → (a ≡ 0x11 → ⊥) → heads_meet xs ys ≡ true
      unfolding heads_meet
      heads-base e c = rw (first, second, ne_eqb a 0x14 n1, ne_eqb b 0x14 n2, eq-eqb a b e, ne_eqb a 0x11 c)

      pub heads-succ : a ≡ b → a ≡ 0x11 → heads_meet xs ys ≡ heads_meet as' bs
      unfolding heads_meet
      heads-succ e c = rw (first, second, ne_eqb a 0x14 n1, ne_eqb b 0x14 n2, eq-eqb a b e, eq-eqb a 0x11 c)

pub args_none : (n : ℕ) (xs ys : List ℕ) → n ≡ 0 → args_meet n xs ys ≡ true
unfolding args_meet
args_none n xs ys e = rw e

pub args_no : (n : ℕ) (xs ys : List ℕ) (b : Bool) → 0 < n → b ≡ heads_meet xs ys → b ≡ false → args_meet n xs ys ≡ false
unfolding args_meet
args_no zero xs ys b h e k = absurd (omega arith)
args_no (suc n) xs ys b h e k = rw (← e, k)

pub args_yes : (n : ℕ) (xs ys xs' ys' : List ℕ) (b : Bool) → 0 < n → b ≡ heads_meet xs ys → b ≡ true → xs' ≡ drop (pat_len xs) xs → ys' ≡ drop (pat_len ys) ys → args_meet n xs ys ≡ args_meet (n - 1) xs' ys'
unfolding args_meet
args_yes zero xs ys xs' ys' b h e k x y = absurd (omega arith)
args_yes (suc n) xs ys xs' ys' b h e k x y =
    let z : suc n - 1 ≡ n = omega arith in
    rw (z, ← e, k, x, y)

module _ (ws : List ℕ) where
  module _ (ns : List ℕ) (o q : ℕ) where
    pub clash-other : o < length ws → q < length ws → (get_or ws (o + 1) 0 ≡ get_or ws (q + 1) 0 → ⊥) → clash_at ws ns o q ≡ false
    unfolding clash_at
    clash-other h k e = rw (lt-leb (length ws) o h, lt-leb (length ws) q k, ne_eqb (get_or ws (o + 1) 0) (get_or ws (q + 1) 0) e)

    pub clash-same : o < length ws → q < length ws → get_or ws (o + 1) 0 ≡ get_or ws (q + 1) 0 → clash_at ws ns o q ≡ args_meet (get_or ns (get_or ws (q + 1) 0) 0) (drop (o + 2) ws) (drop (q + 2) ws)
    unfolding clash_at
    clash-same h k e = rw (lt-leb (length ws) o h, lt-leb (length ws) q k, eq-eqb (get_or ws (o + 1) 0) (get_or ws (q + 1) 0) e)

  -- `any` asks the same
  pub any-as : (ns : List ℕ) (q : ℕ) (os : List ℕ) → list_any (λ o. clash_at ws ns o q) os ≡ any_clash ws ns os q
  unfolding any_clash
  any-as ns q [] = refl
  any-as ns q (o ∷ os) = ap (λ (b : Bool). clash_at ws ns o q || b) (any-as ns q os)

  module _ (ns : List ℕ) (os : List ℕ) (j : ℕ) where
    pub first_out : length os ≤ j → first_clash ws ns (take j os) (drop j os) ≡ None
    unfolding first_clash
    first_out h = rw (drop_of_length-le os h)

    pub first_yes : j < length os → (b : Bool) → b ≡ any_clash ws ns (take j os) (get_or os j 0) → b ≡ true → first_clash ws ns (take j os) (drop j os) ≡ Some (get_or os j 0)
    unfolding first_clash
    first_yes h b e k = rw (drop-next os j h, ← e, k)

    pub first_no : j < length os → (b : Bool) → b ≡ any_clash ws ns (take j os) (get_or os j 0) → b ≡ false → first_clash ws ns (take j os) (drop j os) ≡ first_clash ws ns (take (j + 1) os) (drop (j + 1) os)
    unfolding first_clash
    first_no h b e k =
        let a : any_clash ws ns (take j os) (get_or os j 0) ≡ false = sym e ∙ k in
        let s : take (j + 1) os ≡ take j os ++ (get_or os j 0 ∷ []) = rw add-one (take-suc os j 0 h) in
        ap (first_clash ws ns (take j os)) (drop-next os j h) ∙ rw (a, s)
