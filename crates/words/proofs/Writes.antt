-- The laws of `over` and `put`: what a slice holds after words are written into it.
--     length_over, length-put   a buffer keeps its length
--     over-append               to write s and then t after it is to write s ++ t
--     over_more                 a turn of a loop that copies word by word
--     over-is, put-is           what is written, where it fits, in terms of take, drop and ++
--     put-part                  what is written over a part that is lent is written into the whole
use mathlib.Core.Path.{◌≡◌, refl, sym, ap, ◌∙◌}
use mathlib.Core.List.{List, [], ◌∷◌, ◌++◌, append-nil}
use Prim.Native.Nat.{ℕ, zero, suc, ◌+◌, ◌-◌, ◌≤◌, ◌<◌}
use native.Mathlib.Nat.{le_of_suc-le-suc, not-suc-le-zero, zero-add, suc-add, suc-ne-zero, suc_inj}
use native.Mathlib.Numerals.{add-one}
use native.Mathlib.Omega.{arith}
use lib.ListN.{length, take, drop, get_or, set, replicate, take-append-drop, length-drop, length-replicate, drop_of_length-le}
use lib.Seq.{take-suc, length-take-le}
use borrow.Rule.Slice.PartMut.{put_mid}
use Rattle.theory.specs.Buffers.{over, put}

pub length_over : (s d : List ℕ) → length (over s d) ≡ length d
length_over [] d = refl
length_over (w ∷ s) [] = refl
length_over (w ∷ s) (x ∷ d) = ap suc (length_over s d)

pub length-put : (n : ℕ) (s d : List ℕ) → length (put n s d) ≡ length d
length-put zero s d = length_over s d
length-put (suc n) s [] = refl
length-put (suc n) s (x ∷ d) = ap suc (length-put n s d)

pub over-append : (s t d : List ℕ) → put (length s) t (over s d) ≡ over (s ++ t) d
over-append [] t d = refl
over-append (w ∷ s) t [] = refl
over-append (w ∷ s) t (x ∷ d) = ap (λ (l : List ℕ). w ∷ l) (over-append s t d)

-- a write over the front and one just past it, in either order
pub over-put : (s t d : List ℕ) → over s (put (length s) t d) ≡ put (length s) t (over s d)
over-put [] t d = refl
over-put (w ∷ s) t [] = refl
over-put (w ∷ s) t (x ∷ d) = ap (λ (l : List ℕ). w ∷ l) (over-put s t d)

pub put-append : (n : ℕ) (s t d : List ℕ) → put (n + length s) t (put n s d) ≡ put n (s ++ t) d
put-append zero s t d = rw zero-add (over-append s t d)
put-append (suc n) s t [] = rw suc-add
put-append (suc n) s t (x ∷ d) = rw suc-add (ap (λ (l : List ℕ). x ∷ l) (put-append n s t d))

-- a store is a put of one word
pub put_one : (d : List ℕ) (i a : ℕ) → set d i a ≡ put i (a ∷ []) d
put_one [] zero a = refl
put_one [] (suc i) a = refl
put_one (x ∷ d) zero a = refl
put_one (x ∷ d) (suc i) a = ap (λ (l : List ℕ). x ∷ l) (put_one d i a)

-- a store just past the words written writes one word more
pub over_more : (s d : List ℕ) (i : ℕ) → i < length s → set (over (take i s) d) i (get_or s i 0) ≡ over (take (i + 1) s) d
over_more s d i h =
    let word : List ℕ = get_or s i 0 ∷ [] in
    rw (add-one, take-suc s i 0, put_one)
    (ap (λ (n : ℕ). put n word (over (take i s) d)) (sym (length-take-le i s (omega arith))) ∙ over-append (take i s) word d)

pub put-none : (n : ℕ) (d : List ℕ) → put n [] d ≡ d
put-none zero d = refl
put-none (suc n) [] = refl
put-none (suc n) (x ∷ d) = ap (λ (l : List ℕ). x ∷ l) (put-none n d)

-- what is written, where it fits
pub over-is : (s d : List ℕ) → length s ≤ length d → over s d ≡ s ++ drop (length s) d
over-is [] d h = refl
over-is (w ∷ s) [] h = absurd (not-suc-le-zero h)
over-is (w ∷ s) (x ∷ d) h = ap (λ (l : List ℕ). w ∷ l) (over-is s d (le_of_suc-le-suc h))

-- what is written over a part of the buffer, from n on, is written into the whole
pub put-part : (n : ℕ) (s d : List ℕ) → take n d ++ over s (drop n d) ≡ put n s d
put-part zero s d = refl
put-part (suc n) [] [] = refl
put-part (suc n) (w ∷ s) [] = refl
put-part (suc n) s (x ∷ d) = ap (λ (l : List ℕ). x ∷ l) (put-part n s d)

-- the same of a part of k words that is lent and comes back, as the borrow checker says it: s fits the part
over-take : (k : ℕ) (s l : List ℕ) → length s ≤ k → over s (take k l) ++ drop k l ≡ over s l
over-take k [] l h = take-append-drop k l
over-take zero (w ∷ s) l h = absurd (not-suc-le-zero h)
over-take (suc k) (w ∷ s) [] h = refl
over-take (suc k) (w ∷ s) (x ∷ l) h = ap (λ (r : List ℕ). w ∷ r) (over-take k s l (le_of_suc-le-suc h))

pub put-lent : (a k : ℕ) (s d y : List ℕ) → length s ≤ k → y ≡ over s (take k (drop a d)) → put_mid a k d y ≡ put a s d
put-lent a k s d y h e = ap (put_mid a k d) e ∙ ap (λ (l : List ℕ). take a d ++ l) (over-take k s (drop a d) h) ∙ put-part a s d

-- what lies past the words written is as it was, and what was written is there
pub drop-over : (n : ℕ) (s d : List ℕ) → length s ≤ n → drop n (over s d) ≡ drop n d
drop-over n [] d h = refl
drop-over zero (w ∷ s) d h = absurd (not-suc-le-zero h)
drop-over (suc n) (w ∷ s) [] h = refl
drop-over (suc n) (w ∷ s) (x ∷ d) h = drop-over n s d (le_of_suc-le-suc h)

pub take-over : (s d : List ℕ) → length s ≤ length d → take (length s) (over s d) ≡ s
take-over [] d h = refl
take-over (w ∷ s) [] h = absurd (not-suc-le-zero h)
take-over (w ∷ s) (x ∷ d) h = ap (λ (l : List ℕ). w ∷ l) (take-over s d (le_of_suc-le-suc h))

-- a buffer's own first words, written where they are
pub over-self : (n : ℕ) (d : List ℕ) → over (take n d) d ≡ d
over-self zero d = refl
over-self (suc n) [] = refl
over-self (suc n) (x ∷ d) = ap (λ (l : List ℕ). x ∷ l) (over-self n d)

-- the front of a buffer, written anew, does not depend on what it held
pub over-same : (s d e : List ℕ) → length d ≡ length e → drop (length s) d ≡ drop (length s) e → over s d ≡ over s e
over-same [] d e k q = q
over-same (w ∷ s) [] [] k q = refl
over-same (w ∷ s) [] (y ∷ e) k q = absurd (suc-ne-zero (length e) (sym k))
over-same (w ∷ s) (x ∷ d) [] k q = absurd (suc-ne-zero (length d) k)
over-same (w ∷ s) (x ∷ d) (y ∷ e) k q = ap (λ (l : List ℕ). w ∷ l) (over-same s d e (suc_inj k) q)

-- a write that covers an earlier one
pub over-over : (s t d : List ℕ) → length t ≤ length s → over s (over t d) ≡ over s d
over-over s [] d h = refl
over-over [] (w ∷ t) d h = absurd (not-suc-le-zero h)
over-over (v ∷ s) (w ∷ t) [] h = refl
over-over (v ∷ s) (w ∷ t) (x ∷ d) h = ap (λ (l : List ℕ). v ∷ l) (over-over s t d (le_of_suc-le-suc h))

-- zeros over a part that is lent, all of it
pub zeros-lent : (a e : ℕ) (d y : List ℕ) → a ≤ e → e ≤ length d → y ≡ replicate (length (take (e - a) (drop a d))) 0 → put_mid a (e - a) d y ≡ put a (replicate (e - a) 0) d
zeros-lent a e d y h k q =
    let part : List ℕ = take (e - a) (drop a d) in
    let zeros : List ℕ = replicate (e - a) 0 in
    let n : length part ≡ e - a = length-take-le (e - a) (drop a d) (simp length-drop (omega arith)) in
    let m : length zeros ≡ e - a = length-replicate (e - a) 0 in
    let none : drop (length zeros) part ≡ [] = drop_of_length-le part (omega arith) in
    put-lent a (e - a) zeros d y (omega arith)
    (q ∙ ap (λ (i : ℕ). replicate i 0) n ∙ sym (append-nil zeros) ∙ ap (zeros ++◌) (sym none) ∙ sym (over-is zeros part (omega arith)))
