-- The laws of a program's rules in its bytes and as words.
use mathlib.Core.Path.{◌≡◌, refl, sym, ap, ap₂, ◌∙◌, subst}
use mathlib.Core.Bool.{Bool, true, false}
use mathlib.Core.List.{List, [], ◌∷◌, ◌++◌, append_assoc, append-nil}
use Prim.Native.Nat.{ℕ, zero, suc, ◌+◌, ◌≤◌, ◌<◌}
use native.Mathlib.Nat.{add-zero}
use native.Mathlib.Omega.{arith}
use lib.Dec.{eqb}
use lib.ListN.{length, get_or, take, drop}
use mathlib.Core.HLevel.{Unit-prop, ⊥_prop}
use mathlib.Core.List.{is_set as List-set}
use mathlib.Core.Logic.{∥∥₁_elim}
use native.Mathlib.Nat.{ℕ_set}
use native.Mathlib.Bridge.{le_prop}
use denote.Struct.Props.{props}
use Rattle.std.proofs.lemmas.List.{take_all, take-append-drop}
use Rattle.theory.specs.Syntax.{Term, Terms, tnil, tcons, many, pick, Def}
use Rattle.theory.specs.Tree.{Trees, node, size, sizes}
use Rattle.theory.specs.Words.{words, all_words, stored_rule, stored_rules}
use Rattle.theory.specs.Translation.{aux, tree, trees, pat_ts, own_rules, ◌⇒◌}
use Rattle.theory.specs.Bytes.{TermRecord, record_parts, first_terms, nth_term, terms_from, RuleAt, defs_of}
use Rattle.theory.proofs.Tests.{eq-of-eqb, eqb-true, eqb-false}
use Rattle.theory.proofs.Readability.{list-append}
use Rattle.term_words.specs.Records.{Whole, count_of, from, terms_at, term_at}
use Rattle.term_words.proofs.Laws.{whole-many}
use Rattle.term_words.proofs.Count.{count-words}
use Rattle.generated.specs.declared.writing.Writer.{Writer}
use Rattle.generated.specs.Wrote.{Room, Wrote}
use Rattle.words.proofs.Writes.{put-none}
use Rattle.generated.specs.CallRules.{call_rules}
use Rattle.generated.proofs.Writes.{room_as, room-first, room-then}
use Rattle.translator.specs.declared.Source.{Source}
use Rattle.translator.specs.Opened.{Opened, OpenedFor, right_at, rule_at, rule_if}
use Rattle.translator.specs.Listed.{Here, Stand, arity_of, rules_in, rules_words, Listed}
use Rattle.translator.specs.List.{rules_for}

one_size : (ts : Terms) → 1 ≤ many ts → sizes (trees (first_terms 1 ts)) ≡ size (tree (nth_term ts 0))
one_size tnil h = absurd (omega arith)
one_size (tcons t ts) h = add-zero (size (tree t))

pub term-count : (ks : List TermRecord) → Whole ks 1 → size (tree (nth_term (terms_from ks) 0)) ≡ count_of ks 1
term-count ks h = sym (one_size (terms_from ks) (whole-many ks 1 h)) ∙ count-words ks 1 h

-- the words of a rule: the two counts and the auxiliary, the left arguments, the right side
abbrev pub head_words : Source → ℕ → ℕ → ℕ → List ℕ
head_words x p k n = (count_of (from x.arities.now x.program.now (p + 2)) n + 1) ∷ count_of (from x.arities.now x.program.now (right_at x p n)) 1 ∷ aux k (n + 1) ∷ []

abbrev pub left_words : Source → ℕ → ℕ → List ℕ
left_words x p n = all_words (trees (first_terms n (terms_at x.arities.now x.program.now (p + 2))))

abbrev pub right_words : Source → ℕ → ℕ → List ℕ
right_words x p n = words (tree (term_at x.arities.now x.program.now (right_at x p n)))

pub left-size : (x : Source) (p n : ℕ) → Opened x p n → sizes (trees (first_terms n (terms_at x.arities.now x.program.now (p + 2)))) ≡ count_of (from x.arities.now x.program.now (p + 2)) n
left-size x p n o = count-words (from x.arities.now x.program.now (p + 2)) n o.left

pub right-size : (x : Source) (p n : ℕ) → Opened x p n → size (tree (term_at x.arities.now x.program.now (right_at x p n))) ≡ count_of (from x.arities.now x.program.now (right_at x p n)) 1
right-size x p n o = term-count (from x.arities.now x.program.now (right_at x p n)) o.right

pub rule-words : (x : Source) (p k n : ℕ) → Opened x p n → stored_rule (rule_at x p k n) ≡ head_words x p k n ++ (left_words x p n ++ right_words x p n)
rule-words x p k n o =
    let l = left_words x p n in
    let r = right_words x p n in
    let s : suc (sizes (trees (first_terms n (terms_at x.arities.now x.program.now (p + 2))))) ≡ count_of (from x.arities.now x.program.now (p + 2)) n + 1 = omega (arith, left-size x p n o) in
    let e : suc n ≡ n + 1 = omega arith in
    ap₂ (λ (a b : ℕ). a ∷ b ∷ aux k (suc n) ∷ (l ++ r)) s (right-size x p n o)
    ∙ ap (λ (j : ℕ). (count_of (from x.arities.now x.program.now (p + 2)) n + 1) ∷ count_of (from x.arities.now x.program.now (right_at x p n)) 1 ∷ aux k j ∷ (l ++ r)) e

-- the rules of a function among some rules and then others
defs-append : (f : ℕ) (a b : List RuleAt) → defs_of f (a ++ b) ≡ defs_of f a ++ defs_of f b
defs-append f [] b = refl
defs-append f (r ∷ a) b = go (eqb r.owner f) (defs-append f a b)
  where
    go : (t : Bool) → defs_of f (a ++ b) ≡ defs_of f a ++ defs_of f b
        → pick t (r.sides ∷ defs_of f (a ++ b)) (defs_of f (a ++ b)) ≡ pick t (r.sides ∷ defs_of f a) (defs_of f a) ++ defs_of f b
    go true e = ap (r.sides ∷◌) e
    go false e = e

own-append : (k n : ℕ) (a b : List Def) → own_rules k n (a ++ b) ≡ own_rules k n a ++ own_rules k n b
own-append k n [] b = refl
own-append k n (d ∷ a) b = ap ((node (aux k (suc n)) (pat_ts d.left) ⇒ tree d.right) ∷◌) (own-append k n a b)

pub rules-append : (f n : ℕ) (a b : List RuleAt) → rules_words f n (a ++ b) ≡ rules_words f n a ++ rules_words f n b
rules-append f n a b =
    ap (λ (ds : List Def). stored_rules (own_rules (16 + f) n ds)) (defs-append f a b)
    ∙ ap stored_rules (own-append (16 + f) n (defs_of f a) (defs_of f b))
    ∙ list-append (own_rules (16 + f) n (defs_of f a)) (own_rules (16 + f) n (defs_of f b))

-- a rule that stands at p: whether it is one of function f, and its words
module _ (x : Source) (p f n : ℕ) (is : n ≡ get_or x.arities.now (16 + f) 0) (r : RuleAt) (h : Here x p r) where
  same-arity : get_or x.program.now (p + 1) 0 ≡ f → arity_of x r ≡ n
  same-arity e = ap (λ (i : ℕ). get_or x.arities.now (16 + i) 0) (sym h.owner ∙ e) ∙ sym is

  opened-here : OpenedFor x p f n
  opened-here = record { inside = h.opened.inside; opened = λ e. subst (Opened x p) (same-arity e) h.opened }

  pub rule-here : rules_words f n (r ∷ []) ≡ rule_if x p f n
  rule-here =
      ap (λ (i : ℕ). stored_rules (own_rules (16 + f) n (pick (eqb i f) (r.sides ∷ []) []))) (sym h.owner) ∙ go (eqb (get_or x.program.now (p + 1) 0) f) refl
    where
      go : (t : Bool) → eqb (get_or x.program.now (p + 1) 0) f ≡ t
          → stored_rules (own_rules (16 + f) n (pick t (r.sides ∷ []) [])) ≡ pick t (stored_rule (rule_at x p (16 + f) n)) []
      go true e =
          let same = same-arity (eq-of-eqb (get_or x.program.now (p + 1) 0) f e) in
          append-nil (stored_rule (node (aux (16 + f) (suc n)) (pat_ts r.sides.left) ⇒ tree r.sides.right))
          ∙ ap₂ (λ (ts : Trees) (t : Term). stored_rule (node (aux (16 + f) (suc n)) ts ⇒ tree t))
          (h.left ∙ ap (λ (i : ℕ). trees (first_terms i (terms_at x.arities.now x.program.now (p + 2)))) same)
          (h.right ∙ ap (λ (i : ℕ). term_at x.arities.now x.program.now (right_at x p i)) same)
      go false e = refl

-- what is said of a rule's records has one proof at most
Whole-prop : (ks : List TermRecord) (n : ℕ) → IsProp (Whole ks n)
Whole-prop [] zero = Unit-prop
Whole-prop [] (suc n) = ⊥_prop
Whole-prop (k ∷ ks) zero = Unit-prop
Whole-prop (k ∷ ks) (suc n) = Whole-prop ks (record_parts k + n)

words_set : IsSet (List ℕ)
words_set = List-set ℕ_set

-- A SCAN OVER THE RULES by their openings. The rule at turn i stands at opening i, behind those that are passed.
record Turn (x : Source) (ps : List ℕ) (rs : List RuleAt) (i : ℕ) : Type 0 where
  rule : RuleAt
  next : take (suc i) rs ≡ take i rs ++ (rule ∷ [])
  here : Here x (get_or ps i 0) rule

turn-of : (x : Source) (ps : List ℕ) (rs : List RuleAt) → Stand x ps rs → (i : ℕ) → i < length ps → Turn x ps rs i
turn-of x [] rs h i l = absurd (omega arith)
turn-of x (p ∷ ps) [] h i l = absurd h
turn-of x (p ∷ ps) (r ∷ rs) h zero l = record { rule = r; next = refl; here = h.0 }
turn-of x (p ∷ ps) (r ∷ rs) h (suc i) l =
    let t = turn-of x ps rs h.1 i (omega arith) in
    record { rule = t.rule; next = ap (r ∷◌) t.next; here = t.here }

as-many : (x : Source) (ps : List ℕ) (rs : List RuleAt) → Stand x ps rs → length rs ≡ length ps
as-many x [] [] h = refl
as-many x [] (r ∷ rs) h = absurd h
as-many x (p ∷ ps) [] h = absurd h
as-many x (p ∷ ps) (r ∷ rs) h = ap suc (as-many x ps rs h.1)

-- what a scan asks of a listed program; each of these has one proof at most
module _ (x : Source) (h : ∥ Listed x ∥₁) where
  pub few_openings : length x.openings.now ≤ 64
  few_openings = ∥∥₁_elim h le_prop (λ y. y.few)

  length-rules : length (rules_in x) ≡ length x.openings.now
  length-rules = ∥∥₁_elim h (ℕ_set _ _) (λ y. as-many x x.openings.now (rules_in x) y.stand)

  pub passed-all : (i : ℕ) → length x.openings.now ≤ i → take i (rules_in x) ≡ rules_in x
  passed-all i l = take_all i (rules_in x) (let e = length-rules in omega (arith, e, l))

  module _ (f n i : ℕ) (is : n ≡ get_or x.arities.now (16 + f) 0) (l : i < length x.openings.now) where
    abbrev this : List ℕ
    this = rule_if x (get_or x.openings.now i 0) f n

    abbrev passed : ℕ → List ℕ
    passed k = rules_words f n (take k (rules_in x))

    turn : Listed x → Turn x x.openings.now (rules_in x) i
    turn y = turn-of x x.openings.now (rules_in x) y.stand i l

    pub turn-opened : OpenedFor x (get_or x.openings.now i 0) f n
    turn-opened = ∥∥₁_elim h (Prim.hlevel (Whole-prop, props)) (λ y. opened-here x (get_or x.openings.now i 0) f n is (turn y).rule (turn y).here)

    pub words-next : passed (i + 1) ≡ passed i ++ this
    words-next =
        let e : i + 1 ≡ suc i = omega arith in
        ap passed e
        ∙ ∥∥₁_elim h (words_set _ _)
        (λ y. let t = turn y in
        ap (rules_words f n) t.next ∙ rules-append f n (take i (rules_in x)) (t.rule ∷ []) ∙ ap (passed i ++◌) (rule-here x (get_or x.openings.now i 0) f n is t.rule t.here))

    all-words : rules_words f n (rules_in x) ≡ passed i ++ (this ++ rules_words f n (drop (i + 1) (rules_in x)))
    all-words =
        let rest = drop (i + 1) (rules_in x) in
        ap (rules_words f n) (sym (take-append-drop (i + 1) (rules_in x)))
        ∙ rules-append f n (take (i + 1) (rules_in x)) rest
        ∙ ap (◌++ rules_words f n rest) words-next
        ∙ append_assoc (passed i) this (rules_words f n rest)

    pub turn-room : {u v : Writer} → Wrote (passed i) u v → Room (rules_words f n (rules_in x)) u → Room this v
    turn-room {u} {v} w r =
        let rest = rules_words f n (drop (i + 1) (rules_in x)) in
        room-first this rest v (room-then (passed i) (this ++ rest) w (room_as u all-words r))

-- a rule of the function itself, and one of another
pub if-same : (x : Source) (p f n : ℕ) → get_or x.program.now (p + 1) 0 ≡ f → rule_if x p f n ≡ stored_rule (rule_at x p (16 + f) n)
if-same x p f n e = ap (λ (b : Bool). pick b (stored_rule (rule_at x p (16 + f) n)) []) (eqb-true (get_or x.program.now (p + 1) 0) f e)

pub if_other : (x : Source) (p f n : ℕ) → (get_or x.program.now (p + 1) 0 ≡ f → ⊥) → rule_if x p f n ≡ []
if_other x p f n e = ap (λ (b : Bool). pick b (stored_rule (rule_at x p (16 + f) n)) []) (eqb-false (get_or x.program.now (p + 1) 0) f e)

pub ruleset none_of_others = (if_other, put-none)

-- the rules of a function: its entry and its arguments, then its own
pub fun-words : (x : Source) (f n : ℕ) → n ≡ get_or x.arities.now (16 + f) 0
    → stored_rules (rules_for x f) ≡ stored_rules (call_rules (16 + f) n) ++ rules_words f n (rules_in x)
fun-words x f n e =
    let m = get_or x.arities.now (16 + f) 0 in
    list-append (call_rules (16 + f) m) (own_rules (16 + f) m (defs_of f (rules_in x)))
    ∙ ap (λ (i : ℕ). stored_rules (call_rules (16 + f) i) ++ rules_words f i (rules_in x)) (sym e)
