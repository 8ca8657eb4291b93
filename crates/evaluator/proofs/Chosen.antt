-- A function's rules among words fit where the program's do, and bind what they bind.
use mathlib.Core.Path.{◌≡◌, refl, sym, ap, ◌∙◌, subst}
use mathlib.Core.Bool.{Bool, true, false}
use mathlib.Core.List.{List, [], ◌∷◌, ◌++◌, append_assoc, append-nil}
use mathlib.Core.Option as maybe
use Prim.Native.Nat.{ℕ, suc, ◌+◌, ◌-◌, ◌<◌, ◌≤◌}
use native.Mathlib.Omega.{arith}
use lib.Dec.{eqb, eqb-suc-zero}
use lib.ListN.{length, get_or, set, take, drop, length-set, length-drop, length-append, get_or-replicate}
use Rattle.std.proofs.lemmas.List.{take_more_set}
use lib.Seq.{get_or-set_same, get_or-set_other}
use borrow.Author.Tests.{le-ltb, ne_eqb, eqb-true, eqb-false}
use Rattle.theory.specs.Syntax.{Base, zero_b, true_b, false_b, Val, base, up, height, base_of, Pat, pbase, psucc, pvar, Def, Bindings, bind_value, nothing_bound, same_base, and_then, fit, fits, Found as TheoryFound, found, chosen, pick}
use Rattle.theory.specs.Syntax as theory
use Rattle.theory.specs.WellFormed.{NarrowPat, NarrowPats}
use Rattle.theory.specs.Tree.{node, [·], size, sizes, Rule}
use Rattle.theory.specs.Words.{words, all_words, Shaped, stored_rule, stored_rules}
use Rattle.theory.specs.Translation.{aux, tree, base_t, pat_t, pat_ts, own_rules, ◌⇒◌}
use Rattle.theory.proofs.Readability.{length-words, length-wordss}
use Rattle.words.specs.Stands.{Stands}
use Rattle.std.specs.Prelude.{Option, Some, None}
use Rattle.std.specs.Option.{option_map, option_or, IsSomeAnd}
use Rattle.words.specs.Base.{word_of, named}
use Rattle.words.specs.declared.base.Base.{Base as Const}
use Rattle.evaluator.specs.declared.values.Value.{Value}
use Rattle.evaluator.specs.declared.fitting.Found.{Found}
use Rattle.evaluator.specs.declared.fitting.Fitted.{Fitted}
use Rattle.evaluator.specs.Values.{none, nones}
use Rattle.evaluator.specs.Fitting.{fits_binding, fit_word, fit_node, fit_in, bind, fit_then, fits_of, found_at, rule_of, found_from}
use Rattle.evaluator.specs.Outcomes.{value_of}
use Rattle.evaluator.proofs.Fits.{fit-in-step, found-past, found-step}
use Rattle.evaluator.proofs.TheoryRows.{fill}
use Rattle.evaluator.proofs.Among.{StandAll, head_at, tail_at, behind, root_is, var-is, base-is, parts, first, others}

-- eight slots that hold what is bound
pub record Binds (b : List Value) (θ : Bindings) : Type 0 where
  pub eight : length b ≡ 8
  pub same : (x : ℕ) → x < 8 → get_or b x none ≡ value_of (θ x)

pub binds-none : Binds nones nothing_bound
binds-none = record { eight = refl; same = λ x h. get_or-replicate 8 x none none h }

binds-set : (b : List Value) (θ : Bindings) (x : ℕ) (v : Val) → x < 8 → Binds b θ → Binds (set b x (value_of v)) (bind_value θ x v)
binds-set b θ x v h s =
    record { eight = length-set b x (value_of v) ∙ s.eight; same = λ y l. go y l (eqb x y) refl }
  where
    go : (y : ℕ) → y < 8 → (t : Bool) → eqb x y ≡ t → get_or (set b x (value_of v)) y none ≡ value_of (pick t v (θ y))
    go y l true e = let f : x ≡ y = eqb-true x y e in rw (← f) (get_or-set_same b x (value_of v) none (omega (arith, h, s.eight)))
    go y l false e = get_or-set_other b x y (value_of v) none (λ f. eqb-false x y e (sym f)) ∙ s.same y l

-- the values as the code has them; so they stand in an array that they were put into
abbrev pub values : List Val → List Value
values [] = []
values (v ∷ vs) = value_of v ∷ values vs

filled-from : (vs : List Val) (arr : List Value) (i n : ℕ) → n ≡ i + length vs → n ≤ length arr → take n (fill arr i vs) ≡ take i arr ++ values vs
filled-from [] arr i n e h = let m : n ≡ i = omega (arith, e) in rw m (sym (append-nil (take i arr)))
filled-from (v ∷ vs) arr i n e h =
    let l = length-set arr i (value_of v) in
    filled-from vs (set arr i (value_of v)) (i + 1) n (omega (arith, e)) (omega (arith, l, h))
    ∙ ap (λ (xs : List Value). xs ++ values vs) (take_more_set arr i (value_of v) (omega (arith, e, h)))
    ∙ append_assoc (take i arr) (value_of v ∷ []) (values vs)

pub filled : (vs : List Val) (arr : List Value) (n : ℕ) → length vs ≡ n → n ≤ length arr → take n (fill arr 0 vs) ≡ values vs
filled vs arr n e h = filled-from vs arr 0 n (omega (arith, e)) h

-- a pattern's fit: the place after it, and the bindings with its own
abbrev FitMeets : ℕ → List Value → Option Fitted → maybe.Option Bindings → Type 0
FitMeets a b f maybe.none = f ≡ None
FitMeets a b f (maybe.some θ) = IsSomeAnd f (λ x. (x.at ≡ a) × Binds (bind b x.binding) θ)

fit-to : (a c : ℕ) (b : List Value) (f : Option Fitted) (o : maybe.Option Bindings) → a ≡ c → FitMeets a b f o → FitMeets c b f o
fit-to a c b f o e h = subst (λ (n : ℕ). FitMeets n b f o) e h

base-fit : (a : ℕ) (b : List Value) (θ : Bindings) → Binds b θ → (c d : Base)
    → FitMeets (a + size (base_t c)) b (fit_node 0 (named d) a None (word_of (named c))) (pick (same_base c d) (maybe.some θ) maybe.none)
unfolding fit_word
base-fit a b θ s zero_b zero_b = (refl, s)
base-fit a b θ s zero_b true_b = refl
base-fit a b θ s zero_b false_b = refl
base-fit a b θ s true_b zero_b = refl
base-fit a b θ s true_b true_b = (refl, s)
base-fit a b θ s true_b false_b = refl
base-fit a b θ s false_b zero_b = refl
base-fit a b θ s false_b true_b = refl
base-fit a b θ s false_b false_b = (refl, s)

base-misfit : (k : ℕ) (x : Const) (a : ℕ) (more : Option Fitted) (c : Base) → fit_node (suc k) x a more (word_of (named c)) ≡ None
unfolding fit_word
base-misfit k x a more zero_b = rw (eqb-suc-zero k)
base-misfit k x a more true_b = rw (eqb-suc-zero k)
base-misfit k x a more false_b = rw (eqb-suc-zero k)

node-var : (k : ℕ) (x : Const) (a : ℕ) (more : Option Fitted) (v : ℕ) → fit_node k x a more (64 + v) ≡ fits_binding (a + 1) v (record { succs = k; base = x })
unfolding fit_word
node-var k x a more v =
    let e : 64 + v - 64 ≡ v = omega arith in
    rw (ne_eqb (64 + v) 2 (λ e. omega arith), le-ltb (64 + v) 64 (omega arith), e)

-- the fits of some patterns, with the bindings
abbrev AllMeet : Option (List Value) → maybe.Option Bindings → Type 0
AllMeet o maybe.none = o ≡ None
AllMeet o (maybe.some θ) = IsSomeAnd o (λ b. Binds b θ)

-- the rule found in the words is the rule found in the program
abbrev pub FoundMeets : List ℕ → (ℕ → ℕ) → Option Found → maybe.Option TheoryFound → Type 0
FoundMeets rs ar f maybe.none = f ≡ None
FoundMeets rs ar f (maybe.some g) = IsSomeAnd f (λ x. Stands rs x.at (tree g.body) × Shaped ar (tree g.body) × Binds x.b g.bound)

module _ (rs : List ℕ) where
  fit-meets : (p : Pat) (v : Val) (a : ℕ) (b : List Value) (θ : Bindings) → Stands rs a (pat_t p) → NarrowPat p → Binds b θ
      → FitMeets (a + size (pat_t p)) b (fit_in rs (named (base_of v)) (height v) a) (fit p v θ)
  unfolding fit_in
  fit-meets (pbase c) (base d) a b θ h n s = rw (base-is rs a c h) (base-fit a b θ s c d)
  fit-meets (pbase c) (up v) a b θ h n s = rw (base-is rs a c h) (base-misfit (height v) (named (base_of v)) a _ c)
  fit-meets (psucc p) (base d) a b θ h n s = rw (root_is rs a 2 _ h)
  fit-meets (psucc p) (up v) a b θ h n s =
      let e : a + 1 + size (pat_t p) ≡ a + size (pat_t (psucc p)) = omega arith in
      rw (root_is rs a 2 _ h) (fit-to _ _ b _ (fit p v θ) e (fit-meets p v (a + 1) b θ (first rs (a + 1) (pat_t p) [·] (parts rs a 2 _ h)) n s))
  fit-meets (pvar x) v a b θ h n s =
      rw (fit-in-step rs (named (base_of v)) (height v) a, var-is rs a x h, node-var (height v) (named (base_of v)) a _ x)
      (refl, binds-set b θ x v n s)

  fits-meets : (ps : List Pat) (vs : List Val) (a : ℕ) (b : List Value) (θ : Bindings) → StandAll rs a (pat_ts ps) → NarrowPats ps → length ps ≡ length vs → Binds b θ
      → AllMeet (fits_of rs a (values vs) b) (fits ps vs θ)
  unfolding fits_of
  fits-meets [] [] a b θ h n e s = s
  fits-meets [] (v ∷ vs) a b θ h n e s = absurd (omega (arith, e))
  fits-meets (p ∷ ps) [] a b θ h n e s = absurd (omega (arith, e))
  fits-meets (p ∷ ps) (v ∷ vs) a b θ h n e s =
      by (λ c η k. fits-meets ps vs (a + size (pat_t p)) c η (others rs a (pat_t p) (pat_ts ps) h) n.1 (omega (arith, e)) k)
      (fit p v θ) (fit_in rs (named (base_of v)) (height v) a) (fit-meets p v a b θ (first rs a (pat_t p) (pat_ts ps) h) n.0 s)
    where
      by : ((c : List Value) (η : Bindings) → Binds c η → AllMeet (fits_of rs (a + size (pat_t p)) (values vs) c) (fits ps vs η))
          → (o : maybe.Option Bindings) (f : Option Fitted) → FitMeets (a + size (pat_t p)) b f o
          → AllMeet (fit_then f (λ x. fits_of rs x.at (values vs) (bind b x.binding))) (and_then o (fits ps vs))
      by more maybe.none f m = rw m
      by more (maybe.some η) None m = absurd m
      by more (maybe.some η) (Some x) m = rw m.0 (more (bind b x.binding) η m.1)

-- the rules of a function: each has as many patterns as the function has arguments, and a right side in which each symbol has its parts
abbrev pub GoodDefs : (ℕ → ℕ) → ℕ → List Def → Type 0
GoodDefs ar n [] = Unit {0}
GoodDefs ar n (d ∷ ds) = (length d.left ≡ n) × NarrowPats d.left × Shaped ar (tree d.right) × GoodDefs ar n ds

module _ (rs : List ℕ) (ar : ℕ → ℕ) (k n : ℕ) where
  abbrev stored : Def → Rule
  stored d = node (aux k (suc n)) (pat_ts d.left) ⇒ tree d.right

  -- where a rule's words stand: its counts, its patterns, its right side, and what is behind it
  record RuleAt (a : ℕ) (d : Def) (rest : List ℕ) : Type 0 where
    left-count : get_or rs a 0 ≡ 1 + sizes (pat_ts d.left)
    right-count : get_or rs (a + 1) 0 ≡ size (tree d.right)
    inside : a < length rs
    patterns : StandAll rs (a + 3) (pat_ts d.left)
    right : Stands rs (a + 2 + (1 + sizes (pat_ts d.left))) (tree d.right)
    next : drop (a + 2 + (1 + sizes (pat_ts d.left)) + size (tree d.right)) rs ≡ rest

  rule-at : (a : ℕ) (d : Def) (rest : List ℕ) → drop a rs ≡ stored_rule (stored d) ++ rest → RuleAt a d rest
  rule-at a d rest e =
      let l : List ℕ = all_words (pat_ts d.left) in
      let r : List ℕ = words (tree d.right) in
      let el : length l ≡ sizes (pat_ts d.left) = length-wordss (pat_ts d.left) in
      let er : length r ≡ size (tree d.right) = length-words (tree d.right) in
      let e1 : drop (a + 1) rs ≡ size (tree d.right) ∷ (((aux k (suc n) ∷ l) ++ r) ++ rest) = tail_at rs a e in
      let e2 : drop (a + 1 + 1) rs ≡ aux k (suc n) ∷ ((l ++ r) ++ rest) = tail_at rs (a + 1) e1 in
      let i3 : a + 1 + 1 + 1 ≡ a + 3 = omega arith in
      let e3 : drop (a + 3) rs ≡ l ++ (r ++ rest) = ap (λ (i : ℕ). drop i rs) (sym i3) ∙ tail_at rs (a + 1 + 1) e2 ∙ append_assoc l r rest in
      let i4 : a + 2 + (1 + sizes (pat_ts d.left)) ≡ a + 3 + length l = omega (arith, el) in
      let e4 : drop (a + 2 + (1 + sizes (pat_ts d.left))) rs ≡ r ++ rest = behind rs l (a + 3) _ i4 e3 in
      let i5 : a + 2 + (1 + sizes (pat_ts d.left)) + size (tree d.right) ≡ a + 2 + (1 + sizes (pat_ts d.left)) + length r = omega (arith, er) in
      let m : length (drop a rs) ≡ length (stored_rule (stored d) ++ rest) = ap length e in
      record {
        left-count = head_at rs a e ∙ omega arith;
        right-count = head_at rs (a + 1) e1;
        inside = omega (arith, m, length-drop a rs, length-append (stored_rule (stored d)) rest);
        patterns = record { rest = r ++ rest; front = e3 };
        right = record { rest = rest; front = e4 };
        next = behind rs r _ _ i5 e4;
      }

  pub found-meets : (vs : List Val) → length vs ≡ n → (ds : List Def) (a : ℕ) → GoodDefs ar n ds → drop a rs ≡ stored_rules (own_rules k n ds)
      → FoundMeets rs ar (found_from rs (values vs) a) (chosen ds vs)
  unfolding rule_of
  found-meets vs e [] a h w =
      let m : length (drop a rs) ≡ 0 = ap length w in
      let past : length rs ≤ a = omega (arith, m, length-drop a rs) in
      rw (← (found-past rs (values vs) a past))
  found-meets vs e (d ∷ ds) a h w =
      let r = rule-at a d (stored_rules (own_rules k n ds)) w in
      rw (found-step rs (values vs) a r.inside, r.left-count, r.right-count)
      (by r.right (fits d.left vs nothing_bound) _ (fits-meets rs d.left vs (a + 3) nones nothing_bound r.patterns h.1 (h.0 ∙ sym e) binds-none)
      _ (chosen ds vs) (found-meets vs e ds _ h.3 r.next))
    where
      by : Stands rs (a + 2 + (1 + sizes (pat_ts d.left))) (tree d.right) → (o : maybe.Option Bindings) (f : Option (List Value)) → AllMeet f o
          → (later : Option Found) (l : maybe.Option TheoryFound) → FoundMeets rs ar later l
          → FoundMeets rs ar (option_or (option_map (found_at (a + 2 + (1 + sizes (pat_ts d.left)))) f) later) (theory.or_else (found d.right o) l)
      by right maybe.none f m later l q = rw m q
      by right (maybe.some θ) None m later l q = absurd m
      by right (maybe.some θ) (Some x) m later l q = (right, h.2, m)
