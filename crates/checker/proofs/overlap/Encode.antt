-- Overlap on the bytes of left sides is the theory's `overlaps` of the patterns.
use Prim.Native.Nat.{ℕ, zero, suc}
use mathlib.Core.Path.{◌≡◌, refl, ap, ◌∙◌}
use mathlib.Core.Bool.{Bool, true, false, ◌&&◌}
use mathlib.Core.List.{List, [], ◌∷◌, ◌++◌, append_assoc}
use native.Mathlib.Omega.{arith}
use lib.ListN.{length, drop}
use lib.Seq.{drop-append_seam}
use Rattle.theory.specs.Syntax.{zero_b, true_b, false_b, Pat, pbase, psucc, pvar, choose}
use Rattle.theory.specs.Overlap.{overlap, overlaps}
use Rattle.checker.specs.Overlap.{pat_len, heads_meet, args_meet}
use Rattle.theory.specs.Encoding.{encode_pat, encode_pats}

pat-long : (p : Pat) (xs : List ℕ) → pat_len (encode_pat p ++ xs) ≡ length (encode_pat p)
unfolding pat_len
pat-long (pbase zero_b) xs = refl
pat-long (pbase true_b) xs = refl
pat-long (pbase false_b) xs = refl
pat-long (psucc p) xs = ap suc (pat-long p xs)
pat-long (pvar x) xs = refl

heads-are : (p q : Pat) (xs ys : List ℕ) → heads_meet (encode_pat p ++ xs) (encode_pat q ++ ys) ≡ overlap p q
unfolding heads_meet
heads-are (pbase zero_b) (pbase zero_b) xs ys = refl
heads-are (pbase zero_b) (pbase true_b) xs ys = refl
heads-are (pbase zero_b) (pbase false_b) xs ys = refl
heads-are (pbase zero_b) (psucc q) xs ys = refl
heads-are (pbase zero_b) (pvar y) xs ys = refl
heads-are (pbase true_b) (pbase zero_b) xs ys = refl
heads-are (pbase true_b) (pbase true_b) xs ys = refl
heads-are (pbase true_b) (pbase false_b) xs ys = refl
heads-are (pbase true_b) (psucc q) xs ys = refl
heads-are (pbase true_b) (pvar y) xs ys = refl
heads-are (pbase false_b) (pbase zero_b) xs ys = refl
heads-are (pbase false_b) (pbase true_b) xs ys = refl
heads-are (pbase false_b) (pbase false_b) xs ys = refl
heads-are (pbase false_b) (psucc q) xs ys = refl
heads-are (pbase false_b) (pvar y) xs ys = refl
heads-are (psucc p) (pbase zero_b) xs ys = refl
heads-are (psucc p) (pbase true_b) xs ys = refl
heads-are (psucc p) (pbase false_b) xs ys = refl
heads-are (psucc p) (psucc q) xs ys = heads-are p q xs ys
heads-are (psucc p) (pvar y) xs ys = refl
heads-are (pvar x) (pbase b) xs ys = refl
heads-are (pvar x) (psucc q) xs ys = refl
heads-are (pvar x) (pvar y) xs ys = refl

both : (b c d : Bool) → c ≡ d → choose b (λ u. c) (λ u. false) ≡ (b && d)
both true c d e = e
both false c d e = refl

-- past the first pattern stand the others
past_first : (p : Pat) (ps : List Pat) (xs : List ℕ) → drop (pat_len (encode_pats (p ∷ ps) ++ xs)) (encode_pats (p ∷ ps) ++ xs) ≡ encode_pats ps ++ xs
past_first p ps xs = rw (append_assoc (encode_pat p) (encode_pats ps) xs, pat-long p (encode_pats ps ++ xs)) (drop-append_seam (encode_pat p) (encode_pats ps ++ xs))

pub args_are : (ps qs : List Pat) (n : ℕ) (xs ys : List ℕ) → length ps ≡ n → length qs ≡ n → args_meet n (encode_pats ps ++ xs) (encode_pats qs ++ ys) ≡ overlaps ps qs
unfolding args_meet
args_are [] [] zero xs ys a b = refl
args_are [] [] (suc n) xs ys a b = absurd (omega arith)
args_are [] (q ∷ qs) zero xs ys a b = absurd (omega arith)
args_are [] (q ∷ qs) (suc n) xs ys a b = absurd (omega arith)
args_are (p ∷ ps) [] zero xs ys a b = absurd (omega arith)
args_are (p ∷ ps) [] (suc n) xs ys a b = absurd (omega arith)
args_are (p ∷ ps) (q ∷ qs) zero xs ys a b = absurd (omega arith)
args_are (p ∷ ps) (q ∷ qs) (suc n) xs ys a b =
    let h : heads_meet (encode_pats (p ∷ ps) ++ xs) (encode_pats (q ∷ qs) ++ ys) ≡ overlap p q =
    rw (append_assoc (encode_pat p) (encode_pats ps) xs, append_assoc (encode_pat q) (encode_pats qs) ys) (heads-are p q (encode_pats ps ++ xs) (encode_pats qs ++ ys)) in
    both (heads_meet (encode_pats (p ∷ ps) ++ xs) (encode_pats (q ∷ qs) ++ ys)) _ (overlaps ps qs)
    (rw (past_first p ps xs, past_first q qs ys) (args_are ps qs n xs ys (omega arith) (omega arith)))
    ∙ ap (λ t. t && overlaps ps qs) h
