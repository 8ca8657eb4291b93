-- The words of the generated rules, as they are written.
use mathlib.Core.Path.{◌≡◌, refl, ap, ◌∙◌}
use mathlib.Core.Bool.{Bool}
use mathlib.Core.List.{List, [], ◌∷◌, ◌++◌, append-nil}
use Prim.Native.Nat.{ℕ, zero, suc, ◌+◌, ◌*◌, ◌≤◌}
use native.Mathlib.Omega.{arith}
use lib.ListN.{take, length, length-append}
use Rattle.theory.proofs.Bounds.{sizes-variables}
use Rattle.theory.specs.Syntax.{pick}
use Rattle.theory.specs.Tree.{Rule, var, node, [·], ◌▹◌, sizes}
use Rattle.theory.specs.Words.{words, all_words, stored_rules, stored_rule}
use Rattle.theory.specs.Translation.{other_rule, exn_t, fire_t, select_t, ◌⇒◌, variables, entry_rule, arg_rule, aux}
use Rattle.theory.proofs.Tests.{eqb-true}
use Rattle.words.proofs.Writes.{length-put, put-none}

-- the rule of two exceptions: none where they are equal
abbrev other_of : ℕ → ℕ → List Rule
other_of d e = (select_t (fire_t (exn_t d)) (var 0) (exn_t e) (var 1) ⇒ fire_t (exn_t d)) ∷ []

pub other-same : (d e : ℕ) → d ≡ e → stored_rules (other_rule d e) ≡ []
other-same d e h = ap (λ (b : Bool). stored_rules (pick b [] (other_of d e))) (eqb-true d e h)

pub ruleset none_of_same = (other-same, put-none)

-- a symbol over the first n variables
pub call-words : (w n : ℕ) → n ≤ 4 → take (n + 1) (w ∷ 64 ∷ 65 ∷ 66 ∷ 67 ∷ []) ≡ words (node w (variables 0 n))
call-words w zero h = refl
call-words w (suc zero) h = refl
call-words w (suc (suc zero)) h = refl
call-words w (suc (suc (suc zero))) h = refl
call-words w (suc (suc (suc (suc zero)))) h = refl
call-words w (suc (suc (suc (suc (suc n))))) h = absurd (omega arith)

pub entry-words : (k n : ℕ) → stored_rule (entry_rule k n) ≡ ((n + 1) ∷ (n + 1) ∷ []) ++ (words (node (aux k 0) (variables 0 n)) ++ words (node (aux k 1) (variables 0 n)))
entry-words k n =
    let e : suc (sizes (variables 0 n)) ≡ n + 1 = omega (arith, sizes-variables 0 n) in
    ap (λ (s : ℕ). s ∷ s ∷ (words (node (aux k 0) (variables 0 n)) ++ words (node (aux k 1) (variables 0 n)))) e

pub arg-words : (k n i : ℕ) → stored_rules (arg_rule k n i)
    ≡ ((n + 1) ∷ (n + 4) ∷ []) ++ (words (node (aux k (i + 1)) (variables 0 n)) ++ ((7 ∷ 9 ∷ (64 + i) ∷ []) ++ words (node (aux k (i + 2)) (variables 0 n))))
arg-words k n i =
    let l = words (node (aux k (suc i)) (variables 0 n)) in
    let r = words (node (aux k (suc (suc i))) (variables 0 n)) in
    let e : suc (sizes (variables 0 n)) ≡ n + 1 = omega (arith, sizes-variables 0 n) in
    let g : suc (2 + (suc (sizes (variables 0 n)) + 0)) ≡ n + 4 = omega (arith, sizes-variables 0 n) in
    let one : suc i ≡ i + 1 = omega arith in
    let two : suc (suc i) ≡ i + 2 = omega arith in
    append-nil (stored_rule (node (aux k (suc i)) (variables 0 n) ⇒ node 7 (node 9 (var i ▹ [·]) ▹ node (aux k (suc (suc i))) (variables 0 n) ▹ [·])))
    ∙ ap (λ (s : ℕ). s ∷ suc (2 + (suc (sizes (variables 0 n)) + 0)) ∷ (l ++ (7 ∷ 9 ∷ (64 + i) ∷ (r ++ [])))) e
    ∙ ap (λ (s : ℕ). (n + 1) ∷ s ∷ (l ++ (7 ∷ 9 ∷ (64 + i) ∷ (r ++ [])))) g
    ∙ ap (λ (t : List ℕ). (n + 1) ∷ (n + 4) ∷ (l ++ (7 ∷ 9 ∷ (64 + i) ∷ t))) (append-nil r)
    ∙ ap (λ (j : ℕ). (n + 1) ∷ (n + 4) ∷ (words (node (aux k j) (variables 0 n)) ++ (7 ∷ 9 ∷ (64 + i) ∷ r))) one
    ∙ ap (λ (j : ℕ). (n + 1) ∷ (n + 4) ∷ (words (node (aux k (i + 1)) (variables 0 n)) ++ (7 ∷ 9 ∷ (64 + i) ∷ words (node (aux k j) (variables 0 n))))) two

-- how many words they are, so that there is room for each part of one behind those before it: a slice keeps its length
pub entry_length : (k n : ℕ) → length (stored_rule (entry_rule k n)) ≡ 4 + 2 * length (all_words (variables 0 n))
entry_length k n =
    let e = ap length (entry-words k n) in
    omega (arith, e, length-append (words (node (aux k 0) (variables 0 n))) (words (node (aux k 1) (variables 0 n))))

pub arg_length : (k n i : ℕ) → length (stored_rules (arg_rule k n i)) ≡ 7 + 2 * length (all_words (variables 0 n))
arg_length k n i =
    let e = ap length (arg-words k n i) in
    omega (arith, e, length-append (words (node (aux k (i + 1)) (variables 0 n))) ((7 ∷ 9 ∷ (64 + i) ∷ []) ++ words (node (aux k (i + 2)) (variables 0 n))))

pub ruleset rooms = (entry_length, arg_length, length-put)
