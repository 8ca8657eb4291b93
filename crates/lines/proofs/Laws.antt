-- The laws of digits, two to a byte.
use Prim.Native.Nat.{ℕ, zero, suc, ◌+◌, ◌*◌, ◌/◌, ◌%◌, ◌≤◌}
use mathlib.Core.Path.{◌≡◌, refl, sym, ap, ◌∙◌}
use mathlib.Core.List.{List, [], ◌∷◌, ◌++◌}
use native.Mathlib.Omega.{arith}
use lib.ListN.{length, get_or, length-append}
use borrow.Author.Tests.{le-leb, lt-leb}
use Rattle.std.proofs.Common.{◌<◌, Bool, false, ◌&&◌, is_some, Option, Some, None, option_map, option_and_then, unwrap_or, true, append_assoc, append-nil}
use Rattle.std.proofs.lemmas.Bool.{false≢true}
use Rattle.std.specs.Simd.{first_chunks}
use Rattle.lines.specs.Hex.{digit_of, byte_of, all_digits, pairs_of}
use Rattle.lines.specs.Fields.{at_most}

-- what is not there is None
pub none_of : {A : Type 0} (o : Option A) → is_some o ≡ false → o ≡ None
none_of None e = refl
none_of (Some x) e = cc

-- the bytes that pairs of digits stand for
abbrev pub bytes_of : List (List ℕ) → Option (List ℕ)
bytes_of [] = Some []
bytes_of (x ∷ xs) = option_and_then (λ b. option_map (λ bs. b ∷ bs) (bytes_of xs)) (byte_of (get_or x 0 0) (get_or x 1 0))

-- where none is left over, digits stand for bytes, and only digits do
digits-decide : (k : ℕ) (w : List ℕ) → length w ≡ k * 2 → is_some (pairs_of w) ≡ all_digits w
unfolding pairs_of all_digits byte_of
digits-decide zero [] h = refl
digits-decide zero (x ∷ w) h = absurd (omega (arith, h))
digits-decide (suc k) [] h = absurd (omega (arith, h))
digits-decide (suc k) (x ∷ []) h = absurd (omega (arith, h))
digits-decide (suc k) (x ∷ y ∷ w) h = by-digits (digit_of x) (digit_of y) (pairs_of w) (all_digits w) (digits-decide k w (omega (arith, h)))
  where
    by-digits : (o p : Option ℕ) (r : Option (List ℕ)) (t : Bool) → is_some r ≡ t
        → is_some (option_and_then (λ b. option_map (λ bs. b ∷ bs) r) (option_and_then (λ u. option_map (λ v. u * 16 + v) p) o)) ≡ is_some o && (is_some p && t)
    by-digits None p r t e = refl
    by-digits (Some u) None r t e = refl
    by-digits (Some u) (Some v) None t e = e
    by-digits (Some u) (Some v) (Some bs) t e = e

pub digits-stand : (w : List ℕ) → length w % 2 ≡ 0 → is_some (pairs_of w) ≡ all_digits w
digits-stand w h = digits-decide (length w / 2) w (omega (arith, h))

pairs-even : (k : ℕ) (w : List ℕ) → length w ≡ k * 2 → bytes_of (first_chunks 2 k w) ≡ pairs_of w
unfolding pairs_of
pairs-even zero [] h = refl
pairs-even zero (x ∷ w) h = absurd (omega (arith, h))
pairs-even (suc k) [] h = absurd (omega (arith, h))
pairs-even (suc k) (x ∷ []) h = absurd (omega (arith, h))
pairs-even (suc k) (x ∷ y ∷ w) h = ap (λ o. option_and_then (λ b. option_map (λ bs. b ∷ bs) o) (byte_of x y)) (pairs-even k w (omega (arith, h)))

-- all pairs stand for what the digits do, where none is left over
pub pairs-whole : (w : List ℕ) (ps : List (List ℕ)) → ps ≡ first_chunks 2 (length w / 2) w → length w % 2 ≡ 0 → bytes_of ps ≡ pairs_of w
pairs-whole w ps e h = ap bytes_of e ∙ pairs-even (length w / 2) w (omega (arith, h))

pub pairs-odd : (k : ℕ) (w : List ℕ) → length w ≡ k * 2 + 1 → pairs_of w ≡ None
unfolding pairs_of
pairs-odd k [] h = absurd (omega (arith, h))
pairs-odd k (x ∷ []) h = refl
pairs-odd zero (x ∷ y ∷ w) h = absurd (omega (arith, h))
pairs-odd (suc k) (x ∷ y ∷ w) h = ap (λ o. option_and_then (λ b. option_map (λ bs. b ∷ bs) o) (byte_of x y)) (pairs-odd k w (omega (arith, h))) ∙ by-byte (byte_of x y)
  where
    by-byte : (o : Option ℕ) → option_and_then (λ (b : ℕ). option_map (λ (bs : List ℕ). b ∷ bs) None) o ≡ None
    by-byte None = refl
    by-byte (Some b) = refl

-- as many bytes as pairs
counted : (w : List (List ℕ)) (bs : List ℕ) → bytes_of w ≡ Some bs → length bs ≡ length w
counted [] bs e = cc
counted (x ∷ w) bs e = by-byte (byte_of (get_or x 0 0) (get_or x 1 0)) (bytes_of w) (counted w) e
  where
    by-byte : (o : Option ℕ) (r : Option (List ℕ)) → ((cs : List ℕ) → r ≡ Some cs → length cs ≡ length w)
        → option_and_then (λ b. option_map (λ cs. b ∷ cs) r) o ≡ Some bs → length bs ≡ suc (length w)
    by-byte None r h e = cc
    by-byte (Some b) None h e = cc
    by-byte (Some b) (Some cs) h e = let k = h cs refl in let q : Some (b ∷ cs) ≡ Some bs = e in let p : b ∷ cs ≡ bs = cc in sym (ap length p) ∙ ap suc k

-- so those that fit are as many pairs at most, and only the digits decide then
pub too-many : (w : List (List ℕ)) (m : ℕ) → m < length w → option_and_then (at_most m) (bytes_of w) ≡ None
too-many w m h = by-bytes (bytes_of w) (counted w)
  where
    by-bytes : (o : Option (List ℕ)) → ((bs : List ℕ) → o ≡ Some bs → length bs ≡ length w) → option_and_then (at_most m) o ≡ None
    by-bytes None k = refl
    by-bytes (Some bs) k = rw (lt-leb (length bs) m (omega (arith, h, k bs refl))) refl

pub few-enough : (w : List (List ℕ)) (m : ℕ) → length w ≤ m → is_some (option_and_then (at_most m) (bytes_of w)) ≡ is_some (bytes_of w)
few-enough w m h = by-bytes (bytes_of w) (counted w)
  where
    by-bytes : (o : Option (List ℕ)) → ((bs : List ℕ) → o ≡ Some bs → length bs ≡ length w) → is_some (option_and_then (at_most m) o) ≡ is_some o
    by-bytes None k = refl
    by-bytes (Some bs) k = rw (le-leb (length bs) m (omega (arith, h, k bs refl))) refl

-- behind the bytes so far, s, stand those of the pairs to come, w; all of them are t
module _ (t : Option (List ℕ)) (s : List ℕ) (w : List (List ℕ)) (behind : option_map (λ bs. s ++ bs) (bytes_of w) ≡ t) where
  module _ (x : List ℕ) (r : List (List ℕ)) (e : w ≡ x ∷ r) where
    first : t ≡ option_map (λ bs. s ++ bs) (bytes_of (x ∷ r))
    first = sym behind ∙ ap (λ y. option_map (λ bs. s ++ bs) (bytes_of y)) e

    pub pairs-bad : None ≡ byte_of (get_or x 0 0) (get_or x 1 0) → t ≡ None
    pairs-bad k = first ∙ ap (λ o. option_map (λ bs. s ++ bs) (option_and_then (λ b. option_map (λ bs. b ∷ bs) (bytes_of r)) o)) (sym k)

    pub pair-there : is_some t ≡ true → (o : Option ℕ) → o ≡ byte_of (get_or x 0 0) (get_or x 1 0) → (b : ℕ) → b ≡ unwrap_or o 0 → Some b ≡ byte_of (get_or x 0 0) (get_or x 1 0)
    pair-there h None k b v = absurd (false≢true (sym (ap is_some (pairs-bad k)) ∙ h))
    pair-there h (Some a) k b v = ap Some v ∙ k

    module _ (b : ℕ) (k : Some b ≡ byte_of (get_or x 0 0) (get_or x 1 0)) where
      with-first : t ≡ option_map (λ bs. s ++ bs) (option_map (λ bs. b ∷ bs) (bytes_of r))
      with-first = first ∙ ap (λ o. option_map (λ bs. s ++ bs) (option_and_then (λ b. option_map (λ bs. b ∷ bs) (bytes_of r)) o)) (sym k)

      pub pairs-more : (u : List ℕ) → u ≡ s ++ b ∷ [] → option_map (λ bs. u ++ bs) (bytes_of r) ≡ t
      pairs-more u q = ap (λ y. option_map (λ bs. y ++ bs) (bytes_of r)) q ∙ by-rest (bytes_of r) ∙ sym with-first
        where
          by-rest : (o : Option (List ℕ)) → option_map (λ bs. (s ++ b ∷ []) ++ bs) o ≡ option_map (λ bs. s ++ bs) (option_map (λ bs. b ∷ bs) o)
          by-rest None = refl
          by-rest (Some bs) = ap Some (append_assoc s (b ∷ []) bs)

      pub pairs-full : (m : ℕ) → m ≡ length s → option_and_then (at_most m) t ≡ None
      pairs-full m h = ap (option_and_then (at_most m)) with-first ∙ by-rest (bytes_of r)
        where
          by-rest : (o : Option (List ℕ)) → option_and_then (at_most m) (option_map (λ bs. s ++ bs) (option_map (λ bs. b ∷ bs) o)) ≡ None
          by-rest None = refl
          by-rest (Some bs) = rw (lt-leb (length (s ++ b ∷ bs)) m (omega (arith, h, length-append s (b ∷ bs))))

  pub pairs-done : w ≡ [] → (m : ℕ) → length s ≤ m → option_and_then (at_most m) t ≡ Some s
  pairs-done e m k =
      ap (option_and_then (at_most m)) (sym behind ∙ ap (λ y. option_map (λ bs. s ++ bs) (bytes_of y)) e) ∙ ap (at_most m) (append-nil s) ∙ rw (le-leb (length s) m k) refl
