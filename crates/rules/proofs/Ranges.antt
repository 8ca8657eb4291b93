-- WHERE A FUNCTION'S OWN RULES STAND: the part that the index gives for a function's last auxiliary is exactly the function's own rules.
--
use mathlib.Core.Path.{◌≡◌, refl, sym, ap, ◌∙◌}
use mathlib.Core.Logic.{◌≢◌, ◌⊎◌, inl, inr}
use mathlib.Core.Bool.{Bool, true, false}
use mathlib.Core.List.{List, [], ◌∷◌, ◌++◌, append_assoc}
use Prim.Native.Nat.{ℕ, zero, suc, ◌+◌, ◌-◌, ◌<◌, ◌≤◌}
use native.Mathlib.Nat.{lt_of_not-le, not-suc-le-zero, le_of_suc-le-suc}
use native.Mathlib.Omega.{arith}
use lib.Dec.{eqb, ltb}
use lib.ListN.{length}
use borrow.Author.Tests.{lt-ltb, le-ltb, ltb-true, ltb-false, eqb-true, eqb-false}
use Rattle.theory.proofs.Tests.{pick-any}
use Rattle.theory.specs.Syntax.{Def, Fun, pick}
use Rattle.theory.specs.Builtins.{function, builtin_funs, nth_fun, fun_of, numbers_of, program}
use Rattle.theory.specs.Tree.{Rule}
use Rattle.theory.specs.Words.{stored_rules}
use Rattle.theory.specs.Translation.{aux, numbers, gather, raise_rule, handle_rule, same_rule, other_rule, exn_rules, arg_rule, entry_rule, own_rules, fun_rules, common_rules, standing, own_list}
use Rattle.rules.specs.Index.{slot_of, at_slot, index_of, rules_with}
use Rattle.rules.specs.declared.index.Span.{Span}
use Rattle.rules.proofs.Stored.{root_of}
use Rattle.rules.proofs.Scan.{scan, index-scan, scan-append, scan-other, scan-length, scan-first, Other, Mine, span_from, blank, blank-slot, rules-given}
use Rattle.rules.proofs.Lossless.{slot-le}

-- ---- rules of one slot that stand together
module _ (w : ℕ) where
  abbrev s : ℕ
  s = slot_of w

  -- the part of a list that its index gives for w
  abbrev pub part_for : List ℕ → List ℕ
  part_for list = rules_with list (index_of list) w

  together : (before own after : List Rule) → Other s before → Mine s own → Other s after → part_for (stored_rules (before ++ (own ++ after))) ≡ stored_rules own
  together before own after hb hm ha =
      let rs : List Rule = before ++ (own ++ after) in
      let b : ℕ = length (stored_rules before) in
      let x1 : List Span = scan 0 before blank in
      let all = index-scan rs ∙ scan-append before (own ++ after) 0 blank ∙ scan-append own after (0 + b) x1 in
      let l : length {A = Span} blank ≡ 401 = refl in
      let k = slot-le w in
      let long : s < length x1 = let n = scan-length before 0 blank in omega (arith, n, l, k) in
      let z : 0 + b ≡ b = omega arith in
      rules-given (index_of (stored_rules rs)) w before own after
      (ap (λ (i : List Span). at_slot i s) all ∙ scan-other s after ha (0 + b + length (stored_rules own)) (scan (0 + b) own x1)
      ∙ scan-first s own hm (0 + b) x1 long (scan-other s before hb 0 blank ∙ blank-slot s) ∙ ap (λ (i : ℕ). span_from i own) z)

-- ---- roots: a function's symbols have slots of their own
slot-once : (v w : ℕ) → 256 ≤ w → w < 640 → slot_of v ≡ slot_of w → v ≡ w
unfolding slot_of
slot-once v w h k e = go (ltb v 16) refl (ltb v 256) refl (ltb v 640) refl (e ∙ there)
  where
    there : slot_of w ≡ w - 240
    there = rw (le-ltb w 16 (omega arith), le-ltb w 256 h, lt-ltb w 640 k)

    go : (a : Bool) → ltb v 16 ≡ a → (b : Bool) → ltb v 256 ≡ b → (c : Bool) → ltb v 640 ≡ c → pick a v (pick b 400 (pick c (v - 240) 400)) ≡ w - 240 → v ≡ w
    go true p b q c r f = let l = ltb-true v 16 p in absurd (omega (arith, l, f))
    go false p true q c r f = absurd (omega (arith, f))
    go false p false q true r f = let l = ltb-false v 256 q in omega (arith, l, f)
    go false p false q false r f = absurd (omega (arith, f))

-- none of the rules has the root w
abbrev Apart : ℕ → List Rule → Type 0
Apart w [] = Unit {0}
Apart w (r ∷ rs) = (root_of r ≢ w) × Apart w rs

apart-append : (w : ℕ) (xs ys : List Rule) → Apart w xs → Apart w ys → Apart w (xs ++ ys)
apart-append w [] ys h g = g
apart-append w (r ∷ xs) ys h g = (h.0, apart-append w xs ys h.1 g)

apart-gather : (w : ℕ) (f : ℕ → List Rule) (i n : ℕ) → ((j : ℕ) → i ≤ j → j < i + n → Apart w (f j)) → Apart w (gather f (numbers i n))
apart-gather w f i zero h = tt
apart-gather w f i (suc n) h = apart-append w (f i) (gather f (numbers (suc i) n)) (h i (omega arith) (omega arith)) (apart-gather w f (suc i) n (λ j k l. h j (omega arith) (omega arith)))

apart-slots : (w : ℕ) → 256 ≤ w → w < 640 → (rs : List Rule) → Apart w rs → Other (slot_of w) rs
apart-slots w h k [] a = tt
apart-slots w h k (r ∷ rs) a = ((λ e. a.0 (slot-once (root_of r) w h k e)), apart-slots w h k rs a.1)

exns-apart : (w n : ℕ) → 256 ≤ w → Apart w (exn_rules n)
exns-apart w n h =
    let one : (f : ℕ → List Rule) → ((j : ℕ) → Apart w (f j)) → Apart w (gather f (numbers 0 n)) = λ f g. apart-gather w f 0 n (λ j k l. g j) in
    apart-append w (gather raise_rule (numbers 0 n)) _ (one raise_rule (λ j. ((λ e. omega (arith, e, h)), tt)))
    (apart-append w (gather handle_rule (numbers 0 n)) _ (one handle_rule (λ j. ((λ e. omega (arith, e, h)), tt)))
    (apart-append w (gather same_rule (numbers 0 n)) _ (one same_rule (λ j. ((λ e. omega (arith, e, h)), tt)))
    (one (λ d. gather (other_rule d) (numbers 0 n)) (λ d. one (other_rule d) (λ j. pick-any (Apart w) (eqb d j) [] _ tt ((λ e. omega (arith, e, h)), tt))))))

common-apart : (w : ℕ) → 256 ≤ w → Apart w common_rules
common-apart w h =
    let n : (v : ℕ) → v < 256 → v ≢ w = λ v l e. omega (arith, l, e, h) in
    (n 7 (omega arith), (n 7 (omega arith), (n 9 (omega arith), (n 9 (omega arith), (n 9 (omega arith), (n 9 (omega arith), (n 9 (omega arith), (n 2 (omega arith), (n 10 (omega arith), (n 10 (omega arith), (n 10 (omega arith), (n 8 (omega arith), tt))))))))))))

own-apart : (w k n : ℕ) (ds : List Def) → aux k (suc n) ≢ w → Apart w (own_rules k n ds)
own-apart w k n [] h = tt
own-apart w k n (d ∷ ds) h = (h, own-apart w k n ds h)

own-mine : (k n : ℕ) (ds : List Def) → Mine (slot_of (aux k (suc n))) (own_rules k n ds)
own-mine k n [] = tt
own-mine k n (d ∷ ds) = (refl, own-mine k n ds)

module _ (fun : ℕ → Fun) (small : (k : ℕ) → (fun k).arity ≤ 4) where
  -- a function's last auxiliary, its own rules, and its rules before them
  abbrev last : ℕ → ℕ
  last k = aux k (suc (fun k).arity)

  abbrev own : ℕ → List Rule
  own k = own_rules k (fun k).arity (fun k).defs

  abbrev heads : ℕ → List Rule
  heads j = entry_rule j (fun j).arity ∷ gather (arg_rule j (fun j).arity) (numbers 0 (fun j).arity)

  heads-apart : (j k : ℕ) → Apart (last k) (heads j)
  heads-apart j k =
      let s = small k in
      let t = small j in
      ((λ e. omega (arith, e, s)), apart-gather (last k) (arg_rule j (fun j).arity) 0 (fun j).arity (λ i m l. (arg i l, tt)))
    where
      arg : (i : ℕ) → i < 0 + (fun j).arity → aux j (suc i) ≢ last k
      arg i l e =
          let s = small k in
          let t = small j in
          let same : j ≡ k = omega (arith, e, s, t, l) in
          let n : (fun j).arity ≡ (fun k).arity = ap (λ (x : ℕ). (fun x).arity) same in
          omega (arith, e, same, n, l)

  fun-apart : (j k : ℕ) → j ≢ k → Apart (last k) (fun_rules fun j)
  fun-apart j k h =
      let s = small k in
      let t = small j in
      apart-append (last k) (heads j) (own j) (heads-apart j k) (own-apart (last k) j (fun j).arity (fun j).defs (λ e. h (omega (arith, e, s, t))))

  funs-apart : (i n k : ℕ) → (k < i) ⊎ (i + n ≤ k) → Apart (last k) (gather (fun_rules fun) (numbers i n))
  funs-apart i n k (inl h) = apart-gather (last k) (fun_rules fun) i n (λ j l m. fun-apart j k (λ e. omega (arith, e, h, l)))
  funs-apart i n k (inr h) = apart-gather (last k) (fun_rules fun) i n (λ j l m. fun-apart j k (λ e. omega (arith, e, h, m)))

  -- function k's own rules among others
  record Split (k : ℕ) (rs : List Rule) : Type 0 where
    before : List Rule
    after : List Rule
    whole : rs ≡ before ++ (own k ++ after)
    none_before : Apart (last k) before
    none_after : Apart (last k) after

  split : (n i k : ℕ) → i ≤ k → k < i + n → Split k (gather (fun_rules fun) (numbers i n))
  split zero i k h l = absurd (omega (arith, h, l))
  split (suc n) i k h l = go (eqb i k) refl (λ m. split n (suc i) k m (omega (arith, l)))
    where
      go : (b : Bool) → eqb i k ≡ b → (suc i ≤ k → Split k (gather (fun_rules fun) (numbers (suc i) n))) → Split k (gather (fun_rules fun) (i ∷ numbers (suc i) n))
      go true e more =
          let same : i ≡ k = eqb-true i k e in
          let rest : List Rule = gather (fun_rules fun) (numbers (suc i) n) in
          record {
            before = heads k;
            after = rest;
            whole = ap (λ (j : ℕ). fun_rules fun j ++ rest) same ∙ append_assoc (heads k) (own k) rest;
            none_before = heads-apart k k;
            none_after = funs-apart (suc i) n k (inl (omega (arith, same)));
          }
      go false e more =
          let no : i ≢ k = eqb-false i k e in
          let s = more (lt_of_not-le (λ m. no (omega (arith, m, h)))) in
          record {
            before = fun_rules fun i ++ s.before;
            after = s.after;
            whole = ap (fun_rules fun i ++◌) s.whole ∙ sym (append_assoc (fun_rules fun i) s.before (own k ++ s.after));
            none_before = apart-append (last k) (fun_rules fun i) s.before (fun-apart i k no) s.none_before;
            none_after = s.none_after;
          }

  module _ (k : ℕ) (hk : k < 48) where
    low : 256 ≤ last k
    low = omega arith

    high : last k < 640
    high = let s = small k in omega (arith, hk)

    -- rules before, none of function k; and then those of the functions i to i + n
    range-in : (lead : List Rule) → Apart (last k) lead → (i n : ℕ) → i ≤ k → k < i + n → part_for (last k) (stored_rules (lead ++ gather (fun_rules fun) (numbers i n))) ≡ stored_rules (own k)
    range-in lead al i n h l =
        let s = split n i k h l in
        let e : lead ++ gather (fun_rules fun) (numbers i n) ≡ (lead ++ s.before) ++ (own k ++ s.after) =
        ap (lead ++◌) s.whole ∙ sym (append_assoc lead s.before (own k ++ s.after)) in
        ap (λ (x : List Rule). part_for (last k) (stored_rules x)) e
        ∙ together (last k) (lead ++ s.before) (own k) s.after (apart-slots (last k) low high (lead ++ s.before) (apart-append (last k) lead s.before al s.none_before))
        (own-mine k (fun k).arity (fun k).defs) (apart-slots (last k) low high s.after s.none_after)

    -- a function that is not there has no rules there
    range-out : (lead : List Rule) → Apart (last k) lead → (i n : ℕ) → i + n ≤ k → part_for (last k) (stored_rules (lead ++ gather (fun_rules fun) (numbers i n))) ≡ []
    range-out lead al i n h =
        let rest : List Rule = gather (fun_rules fun) (numbers i n) in
        together (last k) lead [] rest (apart-slots (last k) low high lead al) tt (apart-slots (last k) low high rest (funs-apart i n k (inr h)))

numbers-are : (i : ℕ) (fs : List Fun) → numbers_of i fs ≡ numbers i (length fs)
numbers-are i [] = refl
numbers-are i (f ∷ fs) = ap (i ∷◌) (numbers-are (suc i) fs)

pub nth_past : (fs : List Fun) (i : ℕ) → length fs ≤ i → nth_fun fs i ≡ function 0 []
nth_past [] i h = refl
nth_past (f ∷ fs) zero h = absurd (not-suc-le-zero h)
nth_past (f ∷ fs) (suc i) h = nth_past fs i (le_of_suc-le-suc h)

module _ (fs : List Fun) (small : (k : ℕ) → (fun_of fs k).arity ≤ 4) where
  -- no rules of a function that is not declared
  none : (k : ℕ) → fun_of fs k ≡ function 0 [] → [] ≡ stored_rules (own (fun_of fs) small k)
  none k e = sym (ap (λ (f : Fun). stored_rules (own_rules k f.arity f.defs)) e)

  -- a built-in function's own rules, in the standing list
  pub standing-range : (k : ℕ) → k < 16 → part_for (aux k (suc (fun_of fs k).arity)) (stored_rules (standing (fun_of fs))) ≡ stored_rules (own_rules k (fun_of fs k).arity (fun_of fs k).defs)
  standing-range k h = go (ltb k (length builtin_funs)) refl
    where
      lead : Apart (aux k (suc (fun_of fs k).arity)) common_rules
      lead = common-apart (aux k (suc (fun_of fs k).arity)) (omega arith)

      go : (b : Bool) → ltb k (length builtin_funs) ≡ b → part_for (aux k (suc (fun_of fs k).arity)) (stored_rules (standing (fun_of fs))) ≡ stored_rules (own_rules k (fun_of fs k).arity (fun_of fs k).defs)
      go true e = range-in (fun_of fs) small k (omega arith) common_rules lead 0 (length builtin_funs) (omega arith) (ltb-true k (length builtin_funs) e)
      go false e =
          let l = ltb-false k (length builtin_funs) e in
          let f : fun_of fs k ≡ function 0 [] = ap (λ (b : Bool). pick b (nth_fun builtin_funs k) (nth_fun fs (k - 16))) (lt-ltb k 16 h) ∙ nth_past builtin_funs k l in
          range-out (fun_of fs) small k (omega arith) common_rules lead 0 (length builtin_funs) l ∙ none k f

  -- any other function's own rules, in the program's own list
  pub own_range : (n k : ℕ) → 16 ≤ k → k < 48 → part_for (aux k (suc (fun_of fs k).arity)) (stored_rules (own_list (program n fs))) ≡ stored_rules (own_rules k (fun_of fs k).arity (fun_of fs k).defs)
  own_range n k h m = ap (λ (ns : List ℕ). part_for (aux k (suc (fun_of fs k).arity)) (stored_rules (exn_rules n ++ gather (fun_rules (fun_of fs)) ns))) (numbers-are 16 fs) ∙ go (ltb k (16 + length fs)) refl
    where
      lead : Apart (aux k (suc (fun_of fs k).arity)) (exn_rules n)
      lead = exns-apart (aux k (suc (fun_of fs k).arity)) n (omega arith)

      go : (b : Bool) → ltb k (16 + length fs) ≡ b
          → part_for (aux k (suc (fun_of fs k).arity)) (stored_rules (exn_rules n ++ gather (fun_rules (fun_of fs)) (numbers 16 (length fs)))) ≡ stored_rules (own_rules k (fun_of fs k).arity (fun_of fs k).defs)
      go true e = range-in (fun_of fs) small k m (exn_rules n) lead 16 (length fs) h (ltb-true k (16 + length fs) e)
      go false e =
          let l = ltb-false k (16 + length fs) e in
          let f : fun_of fs k ≡ function 0 [] = ap (λ (b : Bool). pick b (nth_fun builtin_funs k) (nth_fun fs (k - 16))) (le-ltb k 16 h) ∙ nth_past fs (k - 16) (omega (arith, l)) in
          range-out (fun_of fs) small k m (exn_rules n) lead 16 (length fs) l ∙ none k f
