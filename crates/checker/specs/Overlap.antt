-- Overlap on the bytes of left sides. `Overlap` and `Bytes` of the theory say what is right; proofs/ shows that it is the same on what was read.
use Rattle.std.specs.Prelude.{ℕ, zero, suc, ◌+◌, Bool, true, false, ◌||◌, List, [], ◌∷◌, ◌++◌, length, get_or, drop, eqb, leb, Option, Some, None}
use Rattle.theory.specs.Syntax.{choose}

-- the bytes that the pattern at the head takes: some succ, then a constant or a variable
unfoldable pub pat_len : List ℕ → ℕ
pat_len [] = 0
pat_len (b ∷ bs) = choose (eqb b 0x14) (λ u. 2) (λ u. choose (eqb b 0x11) (λ u. suc (pat_len bs)) (λ u. 1))

-- whether the patterns at the two heads have a common instance
unfoldable pub heads_meet : List ℕ → List ℕ → Bool
heads_meet [] bs = true
heads_meet (a ∷ as') [] = true
heads_meet (a ∷ as') (b ∷ bs) =
    choose (eqb a 0x14) (λ u. true)
    (λ u. choose (eqb b 0x14) (λ u. true) (λ u. choose (eqb a b) (λ u. choose (eqb a 0x11) (λ u. heads_meet as' bs) (λ u. true)) (λ u. false)))

-- whether the n patterns at the two heads meet one by one
unfoldable pub args_meet : ℕ → List ℕ → List ℕ → Bool
args_meet zero xs ys = true
args_meet (suc n) xs ys = choose (heads_meet xs ys) (λ u. args_meet n (drop (pat_len xs) xs) (drop (pat_len ys) ys)) (λ u. false)

module _ (ws : List ℕ) where
  -- whether the rules opened at o and at q are of one function and have left sides that meet; ns are the functions' arities
  unfoldable pub clash_at : List ℕ → ℕ → ℕ → Bool
  clash_at ns o q =
      choose (leb (length ws) o) (λ u. false)
      (λ u. choose (leb (length ws) q) (λ u. false)
      (λ u. choose (eqb (get_or ws (o + 1) 0) (get_or ws (q + 1) 0)) (λ u. args_meet (get_or ns (get_or ws (q + 1) 0) 0) (drop (o + 2) ws) (drop (q + 2) ws)) (λ u. false)))

  -- whether the rule opened at q clashes with one of those opened at os
  unfoldable pub any_clash : List ℕ → List ℕ → ℕ → Bool
  any_clash ns [] q = false
  any_clash ns (o ∷ os) q = clash_at ns o q || any_clash ns os q

  -- the first rule that clashes with an earlier one, of those that open at the places left; `before` has passed
  unfoldable pub first_clash : List ℕ → List ℕ → List ℕ → Option ℕ
  first_clash ns before [] = None
  first_clash ns before (q ∷ qs) = choose (any_clash ns before q) (λ u. Some q) (λ u. first_clash ns (before ++ (q ∷ [])) qs)
