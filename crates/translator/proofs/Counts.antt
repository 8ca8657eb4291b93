-- How many words the rules are.
use mathlib.Core.Path.{◌≡◌, refl, sym, ap, subst, ◌∙◌}
use mathlib.Core.Bool.{Bool, true, false, ◌&&◌}
use Prim.Native.Nat.{ℕ, zero, suc, ◌+◌, ◌*◌, ◌≤◌, ◌<◌}
use native.Mathlib.Omega.{arith}
use lib.Dec.{eqb, leb, T, eqb→eq, leb→le}
use lib.ListN.{length, get_or, length-append}
use Rattle.theory.specs.Tree.{node}
use Rattle.theory.specs.Words.{words, stored_rule, stored_rules}
use Rattle.theory.specs.Translation.{aux, tree, trees, exn_rules}
use Rattle.theory.specs.Bytes.{first_terms}
use Rattle.theory.proofs.Tests.{and_left, and_right, eq-of-eqb, ne-of-eqb}
use Rattle.theory.proofs.Readability.{length-words}
use Rattle.words.proofs.Writes.{length-put}
use Rattle.generated.specs.CallRules.{call_rules}
use Rattle.term_words.specs.Records.{count_of, from, terms_at, term_at}
use Rattle.translator.specs.declared.Source.{Source}
use Rattle.translator.specs.Opened.{Opened, right_at, rule_at}
use Rattle.translator.specs.Listed.{rules_in, rules_words}
use Rattle.translator.specs.List.{rules_for}
use Rattle.translator.proofs.Laws.{fun-words, left_words, right_words, rule-words, left-size, right-size}

-- the rules of up to 16 exceptions, counted one number after the other by a computed test
abbrev all_below : (ℕ → Bool) → ℕ → Bool
all_below t zero = true
all_below t (suc n) = t n && all_below t n

at-below : (t : ℕ → Bool) (n i : ℕ) → i < n → T (all_below t n) → T (t i)
at-below t zero i h a = absurd (omega arith)
at-below t (suc n) i h a = go (eqb i n) refl (λ l. at-below t n i l (and_right (t n) (all_below t n) a))
  where
    go : (b : Bool) → eqb i n ≡ b → (i < n → T (t i)) → T (t i)
    go true e ih = subst (λ (j : ℕ). T (t j)) (sym (eq-of-eqb i n e)) (and_left (t n) (all_below t n) a)
    go false e ih = ih (let d = ne-of-eqb i n e in omega arith)

abbrev test : ℕ → Bool
test n = eqb (17 * n + 10 * n * n) (length (stored_rules (exn_rules n))) && leb (10 * n * n) 2560

pub exn_count : (n : ℕ) → n ≤ 16 → (17 * n + 10 * n * n ≡ length (stored_rules (exn_rules n))) × (10 * n * n ≤ 2560)
exn_count n h =
    let t = at-below test 17 n (omega arith) tt in
    let a = eqb (17 * n + 10 * n * n) (length (stored_rules (exn_rules n))) in
    let b = leb (10 * n * n) 2560 in
    (eqb→eq (17 * n + 10 * n * n) (length (stored_rules (exn_rules n))) (and_left a b t), leb→le (10 * n * n) 2560 (and_right a b t))

-- a function's entry and arguments
call-count : (k n : ℕ) → n ≤ 4 → length (stored_rules (call_rules k n)) ≡ 2 * n + 4 + n * (2 * n + 7)
call-count k zero h = refl
call-count k (suc zero) h = refl
call-count k (suc (suc zero)) h = refl
call-count k (suc (suc (suc zero))) h = refl
call-count k (suc (suc (suc (suc zero)))) h = refl
call-count k (suc (suc (suc (suc (suc n))))) h = absurd (omega arith)

-- a function's rules: those, and then its own; so there is room for its own behind them, as a slice keeps its length
pub fun_length : (x : Source) (f n : ℕ) → n ≡ get_or x.arities.now (16 + f) 0
    → length (stored_rules (rules_for x f)) ≡ length (stored_rules (call_rules (16 + f) n)) + length (rules_words f n (rules_in x))
fun_length x f n e = ap length (fun-words x f n e) ∙ length-append (stored_rules (call_rules (16 + f) n)) (rules_words f n (rules_in x))

pub ruleset fun_rooms = (fun_length, length-put)

pub fun_count : (x : Source) (f n : ℕ) → n ≡ get_or x.arities.now (16 + f) 0 → n ≤ 4
    → length (stored_rules (rules_for x f)) ≡ 2 * n + 4 + n * (2 * n + 7) + length (rules_words f n (rules_in x))
fun_count x f n e h = omega (arith, fun_length x f n e, call-count (16 + f) n h)

-- a rule in the bytes
pub rule-count : (x : Source) (p k n : ℕ) → Opened x p n
    → length (stored_rule (rule_at x p k n)) ≡ 2 + (count_of (from x.arities.now x.program.now (p + 2)) n + 1) + count_of (from x.arities.now x.program.now (right_at x p n)) 1
rule-count x p k n o =
    let l = node (aux k (suc n)) (trees (first_terms n (terms_at x.arities.now x.program.now (p + 2)))) in
    let r = tree (term_at x.arities.now x.program.now (right_at x p n)) in
    omega (arith, length-append (words l) (words r), length-words l, length-words r, left-size x p n o, right-size x p n o)

-- its words: three, and those of both sides
pub rule_length : (x : Source) (p k n : ℕ) → Opened x p n → length (stored_rule (rule_at x p k n)) ≡ 3 + length (left_words x p n) + length (right_words x p n)
rule_length x p k n o = omega (arith, ap length (rule-words x p k n o), length-append (left_words x p n) (right_words x p n))
