-- THE RECORDS OF A PROGRAM: they are read through the end record exactly where they are those of a readable program; else they are refused before it.
use Prim.Native.Nat.{ℕ, zero, suc, ◌+◌, ◌<◌, ◌≤◌}
use mathlib.Core.Path.{◌≡◌, refl, sym, ap, ap₂, ◌∙◌, subst}
use mathlib.Core.Logic.{◌⊎◌, inl, inr}
use mathlib.Core.Bool.{Bool, true, false, ◌&&◌}
use mathlib.Core.List.{List, [], ◌∷◌, ◌++◌, append_assoc, append-nil}
use native.Mathlib.Omega.{arith}
use lib.Dec.{T, eqb, leb, ltb, leb→le, ltb→lt, eqb→eq}
use lib.ListN.{length, length-append}
use Rattle.theory.specs.Syntax.{Term, Pat, choose}
use Rattle.theory.specs.Proper.{pats_vars, term_vars}
use Rattle.theory.specs.Bytes.{nth_term, terms_from, NextRecord, none_left, cut_short, next_is, next_record, Result, refused, good, if_good, Declared, nth_arity, Where, on_left, on_right, Side, read_side, RuleAt, pats_of, vars_of, Book, rule_count, add_last, or_refuse, read_rule, read_end, read_top_record, read_records, empty_book}
use Rattle.theory.specs.Encoding.{encode, encode_pats, encode_rule, encode_rules, encode_exns, encode_funs, encode_program, Each, ValidRule, OpenedFrom, stage_of, Readable, EveryRuled}
use Rattle.theory.proofs.Tests.{leb-true, eqb-true, and_left, and_right}
use Rattle.theory.proofs.SidesGive.{Ok}
use Rattle.theory.proofs.RecordsOfTerms.{flats, flats-build, terms_of, pats-of}
use Rattle.theory.proofs.SidesRead.{next-is, next-long, of-kind, LeftReads, RightReads, left-reads, left_back, right-reads, right-back, built, all_in, seen_same, onto, IsNext}
use Rattle.theory.proofs.SidesRefuse.{SideEnds, side-ends}
use Rattle.theory.proofs.EndRecord.{EndSays, end-says}

-- WHAT THE RECORDS ADD to what was read before them
abbrev pub with_exn : Book → Book
with_exn s = record { stage = 0; decls = record { exceptions = suc s.decls.exceptions; arities = s.decls.arities }; rules_at = s.rules_at }

abbrev pub with_fun : Book → ℕ → Book
with_fun s c = record { stage = 1; decls = record { exceptions = s.decls.exceptions; arities = add_last s.decls.arities c }; rules_at = s.rules_at }

abbrev pub with_rule : Book → RuleAt → Book
with_rule s r = record { stage = 2; decls = s.decls; rules_at = add_last s.rules_at r }

-- the rules, the end record, and what is behind it
abbrev pub ending : List RuleAt → List ℕ → List ℕ
ending rs z = encode_rules rs ++ (0x04 ∷ z)

abbrev stage_from : ℕ → List ℕ → List RuleAt → ℕ
stage_from i ns (r ∷ rs) = 2
stage_from i (a ∷ ns) [] = 1
stage_from i [] [] = i

stage-fun : (i c : ℕ) (ns : List ℕ) (rs : List RuleAt) → stage_from 1 ns rs ≡ stage_from i (c ∷ ns) rs
stage-fun i c ns (r ∷ rs) = refl
stage-fun i c (a ∷ ns) [] = refl
stage-fun i c [] [] = refl

stage-rule : (rs : List RuleAt) → stage_from 2 [] rs ≡ 2
stage-rule (r ∷ rs) = refl
stage-rule [] = refl

stage-start : (ns : List ℕ) (rs : List RuleAt) → stage_from 0 ns rs ≡ stage_of ns rs
stage-start ns (r ∷ rs) = refl
stage-start (a ∷ ns) [] = refl
stage-start [] [] = refl

pub count-length : (rs : List RuleAt) → rule_count rs ≡ length rs
count-length [] = refl
count-length (r ∷ rs) = ap suc (count-length rs)

-- what is read from the bytes up to the end record, where z is what is behind it
record Grown (s : Book) (p : ℕ) (bs z : List ℕ) (s' : Book) : Type 0 where
  exns : ℕ
  funs : List ℕ
  rules : List RuleAt
  all-exns : s'.decls.exceptions ≡ s.decls.exceptions + exns
  all-funs : s'.decls.arities ≡ s.decls.arities ++ funs
  all-rules : s'.rules_at ≡ s.rules_at ++ rules
  no-exns : 1 ≤ s.stage → exns ≡ 0
  no-funs : 2 ≤ s.stage → funs ≡ []
  few : s.decls.exceptions ≤ 16 → s.decls.exceptions + exns ≤ 16
  functions : length s.decls.arities ≤ 32 → length s.decls.arities + length funs ≤ 32
  small : Each (λ a. a ≤ 4) funs
  number : length s.rules_at ≤ 64 → length s.rules_at + length rules ≤ 64
  valid : Each (ValidRule s'.decls) rules
  opened : OpenedFrom (p + (length (encode_exns s.decls.exceptions exns) + length (encode_funs (length s.decls.arities) funs))) rules
  stage : s'.stage ≡ stage_from s.stage funs rules
  bytes : bs ≡ encode_exns s.decls.exceptions exns ++ (encode_funs (length s.decls.arities) funs ++ ending rules z)

opened-at : (p q : ℕ) (rs : List RuleAt) → p ≡ q → OpenedFrom p rs → OpenedFrom q rs
opened-at p q rs e h = subst (λ (i : ℕ). OpenedFrom i rs) e h

grown-exn : (s : Book) (p b n : ℕ) (bs rest z : List ℕ) (s' : Book) → (bs ≡ 0x01 ∷ b ∷ rest) × (n ≡ 2) → s.stage ≡ 0 → s.decls.exceptions < 16 → b ≡ s.decls.exceptions
    → Grown (with_exn s) (p + n) rest z s' → Grown s p bs z s'
grown-exn s p b n bs rest z s' i st few e g =
    let e0 = s.decls.exceptions in
    let two = i.1 in
    record {
      exns = suc g.exns;
      funs = g.funs;
      rules = g.rules;
      all-exns = let a = g.all-exns in omega (arith, a);
      all-funs = g.all-funs;
      all-rules = g.all-rules;
      no-exns = λ l. absurd (omega (arith, l, st));
      no-funs = λ l. absurd (omega (arith, l, st));
      few = λ l. (let a = g.few few in omega (arith, a));
      functions = g.functions;
      small = g.small;
      number = g.number;
      valid = g.valid;
      opened = opened-at (p + n + (length (encode_exns (suc e0) g.exns) + length (encode_funs (length s.decls.arities) g.funs))) _ g.rules (omega (arith, two)) g.opened;
      stage = g.stage ∙ ap (λ (j : ℕ). stage_from j g.funs g.rules) (sym st);
      bytes = i.0 ∙ ap₂ (λ (j : ℕ) (l : List ℕ). 0x01 ∷ j ∷ l) e g.bytes;
    }

grown-fun : (s : Book) (p b c n : ℕ) (bs rest z : List ℕ) (s' : Book) → (bs ≡ 0x02 ∷ b ∷ c ∷ rest) × (n ≡ 3) → s.stage ≤ 1 → length s.decls.arities < 32
    → b ≡ length s.decls.arities → c ≤ 4 → Grown (with_fun s c) (p + n) rest z s' → Grown s p bs z s'
grown-fun s p b c n bs rest z s' i st few e low g =
    let ns = s.decls.arities in
    let e0 = s.decls.exceptions in
    let three = i.1 in
    let none = g.no-exns (omega arith) in
    let m : length (add_last ns c) ≡ suc (length ns) = (let a = length-append ns (c ∷ []) in omega (arith, a)) in
    let x : length (encode_exns e0 g.exns) ≡ 0 = ap (λ (j : ℕ). length (encode_exns e0 j)) none in
    let y : length (encode_funs (length (add_last ns c)) g.funs) ≡ length (encode_funs (suc (length ns)) g.funs) = ap (λ (j : ℕ). length (encode_funs j g.funs)) m in
    record {
      exns = 0;
      funs = c ∷ g.funs;
      rules = g.rules;
      all-exns = let a = g.all-exns in omega (arith, a, none);
      all-funs = g.all-funs ∙ append_assoc ns (c ∷ []) g.funs;
      all-rules = g.all-rules;
      no-exns = λ l. refl;
      no-funs = λ l. absurd (omega (arith, l, st));
      few = λ l. omega (arith, l);
      functions = λ l. (let a = g.functions (omega (arith, m, few)) in omega (arith, a, m));
      small = (low, g.small);
      number = g.number;
      valid = g.valid;
      opened = opened-at (p + n + (length (encode_exns e0 g.exns) + length (encode_funs (length (add_last ns c)) g.funs))) _ g.rules (omega (arith, three, x, y)) g.opened;
      stage = g.stage ∙ stage-fun s.stage c g.funs g.rules;
      bytes =
          i.0
          ∙ ap₂ (λ (j : ℕ) (l : List ℕ). 0x02 ∷ j ∷ c ∷ l) e
          (g.bytes
          ∙ ap (λ (j : ℕ). encode_exns e0 j ++ (encode_funs (length (add_last ns c)) g.funs ++ ending g.rules z)) none
          ∙ ap (λ (j : ℕ). encode_funs j g.funs ++ ending g.rules z) m);
    }

grown-rule : (s : Book) (p n : ℕ) (bs rest : List ℕ) (r : RuleAt) (q : ℕ) (behind z : List ℕ) (s' : Book) → (bs ≡ 0x03 ∷ r.owner ∷ rest) × (n ≡ 2) → length s.rules_at < 64
    → r.opened ≡ p → ValidRule s.decls r → q ≡ p + n + length (encode_pats r.sides.left) + length (encode r.sides.right)
    → rest ≡ encode_pats r.sides.left ++ (encode r.sides.right ++ behind) → Grown (with_rule s r) q behind z s' → Grown s p bs z s'
grown-rule s p n bs rest r q behind z s' i few o v e w g =
    let ns = s.decls.arities in
    let e0 = s.decls.exceptions in
    let L = encode_pats r.sides.left in
    let R = encode r.sides.right in
    let two = i.1 in
    let noE = g.no-exns (omega arith) in
    let noF = g.no-funs (omega arith) in
    let x : length (encode_exns e0 g.exns) ≡ 0 = ap (λ (j : ℕ). length (encode_exns e0 j)) noE in
    let y : length (encode_funs (length ns) g.funs) ≡ 0 = ap (λ (l : List ℕ). length (encode_funs (length ns) l)) noF in
    let d1 : s'.decls.exceptions ≡ e0 = (let a = g.all-exns in omega (arith, a, noE)) in
    let d2 : s'.decls.arities ≡ ns = g.all-funs ∙ ap (ns ++◌) noF ∙ append-nil ns in
    let d : s'.decls ≡ s.decls = ap₂ (λ (j : ℕ) (l : List ℕ). record { exceptions = j; arities = l }) d1 d2 in
    let m = length-append s.rules_at (r ∷ []) in
    let k = length-append L R in
    let tail : behind ≡ ending g.rules z =
    g.bytes ∙ ap₂ (λ (j : ℕ) (l : List ℕ). encode_exns e0 j ++ (encode_funs (length ns) l ++ ending g.rules z)) noE noF in
    record {
      exns = 0;
      funs = [];
      rules = r ∷ g.rules;
      all-exns = omega (arith, d1);
      all-funs = d2 ∙ sym (append-nil ns);
      all-rules = g.all-rules ∙ append_assoc s.rules_at (r ∷ []) g.rules;
      no-exns = λ l. refl;
      no-funs = λ l. refl;
      few = λ l. omega (arith, l);
      functions = λ l. omega (arith, l);
      small = tt;
      number = λ l. (let a = g.number (omega (arith, m, few)) in omega (arith, a, m));
      valid = (subst (λ (D : Declared). ValidRule D r) (sym d) v, g.valid);
      opened = (omega (arith, o), opened-at (q + (length (encode_exns e0 g.exns) + length (encode_funs (length ns) g.funs))) _ g.rules (omega (arith, e, x, y, two, k)) g.opened);
      stage = g.stage ∙ ap (λ (l : List ℕ). stage_from 2 l g.rules) noF ∙ stage-rule g.rules;
      bytes =
          i.0
          ∙ ap (λ (l : List ℕ). 0x03 ∷ r.owner ∷ l)
          (w
          ∙ ap (λ (l : List ℕ). L ++ (R ++ l)) tail
          ∙ sym (append_assoc L R (ending g.rules z))
          ∙ sym (append_assoc (L ++ R) (encode_rules g.rules) (0x04 ∷ z)));
    }

grown-end : (s : Book) (p n : ℕ) (bs rest : List ℕ) → (bs ≡ 0x04 ∷ rest) × (n ≡ 1) → Grown s p bs rest s
grown-end s p n bs rest i =
    record {
      exns = 0;
      funs = [];
      rules = [];
      all-exns = omega arith;
      all-funs = sym (append-nil s.decls.arities);
      all-rules = sym (append-nil s.rules_at);
      no-exns = λ l. refl;
      no-funs = λ l. refl;
      few = λ l. omega (arith, l);
      functions = λ l. omega (arith, l);
      small = tt;
      number = λ l. omega (arith, l);
      valid = tt;
      opened = tt;
      stage = refl;
      bytes = i.0;
    }

-- THE RECORDS, with m the place behind all bytes, come to a refusal by a number from 2 to 9 before the end record; or to what the end record says
-- of the book that was read
abbrev pub RefusedEarly : ℕ → Result Book → Type 0
RefusedEarly m (refused r) = (2 ≤ r.number) × (r.number ≤ 9) × (r.place ≤ m)
RefusedEarly m (good s) = ⊥

pub record Ended (m : ℕ) (G : List ℕ → Book → Type 0) (r : Result Book) : Type 0 where
  pub behind : List ℕ
  pub book : Book
  pub at : ℕ
  pub grown : G behind book
  pub rest : at + length behind ≡ m
  pub said : r ≡ read_end book at behind

abbrev pub Ends : ℕ → (List ℕ → Book → Type 0) → Result Book → Type 0
Ends m G r = RefusedEarly m r ⊎ Ended m G r

choose-ends : (m : ℕ) (G : List ℕ → Book → Type 0) (b : Bool) (x y : Unit {0} → Result Book) → (T b → Ends m G (x tt)) → Ends m G (y tt) → Ends m G (choose b x y)
choose-ends m G true x y h k = h tt
choose-ends m G false x y h k = k

within-ends : (m : ℕ) (G : List ℕ → Book → Type 0) (b : Bool) (n p : ℕ) (x : Unit {0} → Result Book) → p ≤ m → 2 ≤ n → n ≤ 9 → (T b → Ends m G (x tt)) → Ends m G (or_refuse b n p x)
within-ends m G true n p x l i j h = h tt
within-ends m G false n p x l i j h = inl (i, j, l)

ends-map : (m k : ℕ) (F G : List ℕ → Book → Type 0) (r : Result Book) → k ≡ m → ((z : List ℕ) (s : Book) → F z s → G z s) → Ends k F r → Ends m G r
ends-map m k F G r e f (inl h) = inl (subst (λ (i : ℕ). RefusedEarly i r) e h)
ends-map m k F G r e f (inr h) = inr (record { behind = h.behind; book = h.book; at = h.at; grown = f h.behind h.book h.grown; rest = h.rest ∙ e; said = h.said })

-- a side is refused early, or what it reads goes on
side_then : (Q : Side → Type 0) (m : ℕ) (G : List ℕ → Book → Type 0) (w : Where) (count p : ℕ) (bs : List ℕ) (r : Result Side) (f : Side → Result Book)
    → p + length bs ≡ m → SideEnds w count p bs r → Ok Q r → ((a : Side) → Q a → Ends m G (f a)) → Ends m G (if_good r f)
side_then Q m G w count p bs (refused x) f e l h k =
    let i = l.from in
    let j = l.to in
    let b = l.in_bytes in
    inl (i, omega (arith, j), omega (arith, b, e))
side_then Q m G w count p bs (good a) f e l h k = k a h

abbrev Grows : ℕ → Type 0
Grows fuel = (s : Book) (p : ℕ) (bs : List ℕ) → Ends (p + length bs) (Grown s p bs) (read_records fuel s p bs)

-- behind a part, its place and the bytes left come to the same
behind-part : (q p : ℕ) (bs front rest : List ℕ) → q ≡ p + length front → bs ≡ front ++ rest → q + length rest ≡ p + length bs
behind-part q p bs front rest e f =
    let a : length bs ≡ length (front ++ rest) = ap length f in
    let b = length-append front rest in
    omega (arith, a, b, e)

-- a rule's two sides, and what is behind them
sides-grow : (fuel : ℕ) (s : Book) (p b n : ℕ) (bs rest : List ℕ) → (bs ≡ 0x03 ∷ b ∷ rest) × (n ≡ 2) → length s.rules_at < 64 → b < length s.decls.arities → Grows fuel
    → Ends (p + length bs) (Grown s p bs) (read_rule fuel s b p (p + n) rest (λ r q behind. read_records fuel (with_rule s r) q behind))
sides-grow fuel s p b n bs rest i few low ih =
    side_then (LeftReads D a (p + n) rest) m (Grown s p bs) (on_left []) 1 (p + n) rest (read_side D fuel (on_left []) a 1 (p + n) rest) _ whole
    (side-ends D fuel (on_left []) a 1 (p + n) rest) (left-reads D fuel a (p + n) rest)
    (λ l hl. (let from = behind-part l.from (p + n) rest (encode_pats (pats_of (terms_from l.records))) l.rest hl.place hl.spelt ∙ whole in
    side_then (RightReads D (vars_of l.seen) l.from l.rest) m (Grown s p bs) (on_right (vars_of l.seen)) 0 l.from l.rest (read_side D fuel (on_right (vars_of l.seen)) 1 0 l.from l.rest) _ from
    (side-ends D fuel (on_right (vars_of l.seen)) 1 0 l.from l.rest) (right-reads D fuel (vars_of l.seen) l.from l.rest)
    (λ r hr. ends-map m (r.from + length r.rest) (Grown (with_rule s (made l r)) r.from r.rest) (Grown s p bs) (read_records fuel (with_rule s (made l r)) r.from r.rest)
    (behind-part r.from l.from l.rest (encode (nth_term (terms_from r.records) 0)) r.rest hr.place hr.spelt ∙ from)
    (λ z s' g. grown-rule s p n bs rest (made l r) r.from r.rest z s' i few refl (valid l r hl hr)
    (hr.place ∙ ap (λ (j : ℕ). j + length (encode (nth_term (terms_from r.records) 0))) hl.place)
    (hl.spelt ∙ ap (encode_pats (pats_of (terms_from l.records)) ++◌) hr.spelt) g)
    (ih (with_rule s (made l r)) r.from r.rest))))
  where
    D : Declared
    D = s.decls

    a : ℕ
    a = nth_arity s.decls.arities b

    m : ℕ
    m = p + length bs

    whole : p + n + length rest ≡ p + length bs
    whole =
        let e : length bs ≡ length (0x03 ∷ b ∷ rest) = ap length i.0 in
        let two = i.1 in
        omega (arith, e, two)

    made : Side → Side → RuleAt
    made l r = record { owner = b; opened = p; sides = record { left = pats_of (terms_from l.records); right = nth_term (terms_from r.records) 0 } }

    valid : (l r : Side) → LeftReads s.decls (nth_arity s.decls.arities b) (p + n) rest l → RightReads s.decls (vars_of l.seen) l.from l.rest r
        → ValidRule s.decls (record { owner = b; opened = p; sides = record { left = pats_of (terms_from l.records); right = nth_term (terms_from r.records) 0 } })
    valid l r hl hr =
        record {
          declared = low;
          arguments = hl.arguments;
          left_variables = hl.variables;
          left_once = hl.once;
          left_words = hl.words;
          right_over = hr.over;
          right_variables = all_in (term_vars (nth_term (terms_from r.records) 0)) (vars_of l.seen) (pats_vars (pats_of (terms_from l.records))) hl.seen hr.variables;
          right_words = hr.words;
        }

top-grows : (fuel : ℕ) → Grows fuel
top-grows zero s p bs = inl (omega arith, omega arith, omega arith)
top-grows (suc fuel) s p bs = go (next_record bs) (next-is bs) (top-grows fuel)
  where
    D : Declared
    D = s.decls

    G : List ℕ → Book → Type 0
    G = Grown s p bs

    m : ℕ
    m = p + length bs

    test : (b : Bool) (n : ℕ) (x : Unit {0} → Result Book) → T (leb 2 n && leb n 9) → (T b → Ends (p + length bs) (Grown s p bs) (x tt)) → Ends (p + length bs) (Grown s p bs) (or_refuse b n p x)
    test b n x t = within-ends (p + length bs) (Grown s p bs) b n p x (omega arith) (leb→le 2 n (and_left (leb 2 n) (leb n 9) t)) (leb→le n 9 (and_right (leb 2 n) (leb n 9) t))

    go : (x : NextRecord) → IsNext bs x → Grows fuel → Ends (p + length bs) (Grown s p bs) (read_top_record fuel (read_records fuel) s p x)
    go none_left i ih = inl (omega arith, omega arith, omega arith)
    go cut_short i ih = inl (omega arith, omega arith, omega arith)
    go (next_is k b c n rest) i ih =
        let l = (next-long bs k b c n rest i).0 in
        let whole : p + n + length rest ≡ p + length bs = omega (arith, l) in
        choose-ends m G (eqb k 1) _ _
        (λ k1. test (eqb s.stage 0) 3 _ tt (λ st. test (ltb D.exceptions 16) 9 _ tt (λ few. test (eqb b D.exceptions) 4 _ tt
        (λ e. ends-map m (p + n + length rest) (Grown (with_exn s) (p + n) rest) G (read_records fuel (with_exn s) (p + n) rest) whole
        (λ z s' g. grown-exn s p b n bs rest z s' (of-kind 1 k b c n bs rest (eqb→eq k 1 k1) i) (eqb→eq s.stage 0 st) (ltb→lt D.exceptions 16 few) (eqb→eq b D.exceptions e) g)
        (ih (with_exn s) (p + n) rest)))))
        (choose-ends m G (eqb k 2) _ _
        (λ k2. test (leb s.stage 1) 3 _ tt (λ st. test (ltb (length D.arities) 32) 9 _ tt (λ few. test (eqb b (length D.arities) && leb c 4) 4 _ tt
        (λ e. ends-map m (p + n + length rest) (Grown (with_fun s c) (p + n) rest) G (read_records fuel (with_fun s c) (p + n) rest) whole
        (λ z s' g. grown-fun s p b c n bs rest z s' (of-kind 2 k b c n bs rest (eqb→eq k 2 k2) i) (leb→le s.stage 1 st) (ltb→lt (length D.arities) 32 few)
        (eqb→eq b (length D.arities) (and_left (eqb b (length D.arities)) (leb c 4) e)) (leb→le c 4 (and_right (eqb b (length D.arities)) (leb c 4) e)) g)
        (ih (with_fun s c) (p + n) rest)))))
        (choose-ends m G (eqb k 3) _ _
        (λ k3. test (ltb (rule_count s.rules_at) 64) 9 _ tt (λ few. test (ltb b (length D.arities)) 4 _ tt
        (λ low. sides-grow fuel s p b n bs rest (of-kind 3 k b c n bs rest (eqb→eq k 3 k3) i) (subst (λ (j : ℕ). j < 64) (count-length s.rules_at) (ltb→lt (rule_count s.rules_at) 64 few))
        (ltb→lt b (length D.arities) low) ih)))
        (choose-ends m G (eqb k 4) _ _
        (λ k4. inr (record { behind = rest; book = s; at = p + n; grown = grown-end s p n bs rest (of-kind 4 k b c n bs rest (eqb→eq k 4 k4) i); rest = whole; said = refl })) (inl (omega arith, omega arith, omega arith)))))

-- a program's bytes with anything behind them
pub encoded-behind : (s : Book) (z : List ℕ) → encode_program s ++ z ≡ encode_exns 0 s.decls.exceptions ++ (encode_funs 0 s.decls.arities ++ ending s.rules_at z)
encoded-behind s z =
    let E = encode_exns 0 s.decls.exceptions in
    let F = encode_funs 0 s.decls.arities in
    let R = encode_rules s.rules_at in
    append_assoc E (F ++ (R ++ (0x04 ∷ []))) z ∙ ap (E ++◌) (append_assoc F (R ++ (0x04 ∷ [])) z ∙ ap (F ++◌) (append_assoc R (0x04 ∷ []) z))

-- the bytes through the end record are a readable program's
abbrev pub ReadFrom : List ℕ → List ℕ → Book → Type 0
ReadFrom p z s = (p ≡ encode_program s ++ z) × Readable s

read-from : (p z : List ℕ) (s : Book) → Grown empty_book 0 p z s → ReadFrom p z s
read-from p z s g =
    let x : g.exns ≡ s.decls.exceptions = (let a = g.all-exns in omega (arith, a)) in
    let y : g.funs ≡ s.decls.arities = sym g.all-funs in
    let w : g.rules ≡ s.rules_at = sym g.all-rules in
    let few = g.few (omega arith) in
    let functions = g.functions (omega arith) in
    let number = g.number (omega arith) in
    let m : length g.funs ≡ length s.decls.arities = ap length y in
    let n : length g.rules ≡ length s.rules_at = ap length w in
    let e : p ≡ encode_exns 0 s.decls.exceptions ++ (encode_funs 0 s.decls.arities ++ ending s.rules_at z) =
    g.bytes
    ∙ ap (λ (j : ℕ). encode_exns 0 j ++ (encode_funs 0 g.funs ++ ending g.rules z)) x
    ∙ ap₂ (λ (ns : List ℕ) (rs : List RuleAt). encode_exns 0 s.decls.exceptions ++ (encode_funs 0 ns ++ ending rs z)) y w in
    let u : 0 + (length (encode_exns 0 g.exns) + length (encode_funs 0 g.funs)) ≡ length (encode_exns 0 s.decls.exceptions) + length (encode_funs 0 s.decls.arities) =
    (let a = ap (λ (j : ℕ). length (encode_exns 0 j)) x in let b = ap (λ (ns : List ℕ). length (encode_funs 0 ns)) y in omega (arith, a, b)) in (
      e ∙ sym (encoded-behind s z),
      record {
        exceptions = omega (arith, few, x);
        functions = omega (arith, functions, m);
        arities = subst (Each (λ a. a ≤ 4)) y g.small;
        rules = omega (arith, number, n);
        each_rule = subst (Each (ValidRule s.decls)) w g.valid;
        opened = subst (OpenedFrom (length (encode_exns 0 s.decls.exceptions) + length (encode_funs 0 s.decls.arities))) w (opened-at _ _ g.rules u g.opened);
        stage = g.stage ∙ stage-start g.funs g.rules ∙ ap₂ stage_of y w;
      },
    )

pub records-end : (p : List ℕ) → Ends (length p) (ReadFrom p) (read_records (suc (length p)) empty_book 0 p)
records-end p =
    ends-map (length p) (0 + length p) (Grown empty_book 0 p) (ReadFrom p) (read_records (suc (length p)) empty_book 0 p) (omega arith) (read-from p) (top-grows (suc (length p)) empty_book 0 p)

-- where the records are read, with nothing refused, they are a readable program's whose functions all have rules, and nothing is behind them
abbrev pub AllRead : List ℕ → Book → Type 0
AllRead p s = (p ≡ encode_program s) × Readable s × EveryRuled s

all_read : (p : List ℕ) (r : Result Book) → Ends (length p) (ReadFrom p) r → Ok (AllRead p) r
all_read p (refused x) h = tt
all_read p (good s) (inl h) = absurd h
all_read p (good s) (inr h) = go (subst (EndSays t h.at z) (sym h.said) (end-says t h.at z))
  where
    t : Book
    t = h.book

    z : List ℕ
    z = h.behind

    go : EndSays h.book h.at h.behind (good s) → AllRead p s
    go k = subst (AllRead p) k.0 (h.grown.0 ∙ ap (encode_program t ++◌) k.1 ∙ append-nil (encode_program t), h.grown.1, k.2)

pub records-read : (p : List ℕ) → Ok (AllRead p) (read_records (suc (length p)) empty_book 0 p)
records-read p = all_read p (read_records (suc (length p)) empty_book 0 p) (records-end p)

-- AND THE OTHER WAY: the records of a readable program are read
within-true : {A : Type 0} (b : Bool) (n p : ℕ) (go : Unit {0} → Result A) → b ≡ true → or_refuse b n p go ≡ go tt
within-true b n p go e = ap (λ (x : Bool). or_refuse x n p go) e

and-true : (a b : Bool) → a ≡ true → b ≡ true → (a && b) ≡ true
and-true a b e f = ap (λ (x : Bool). x && b) e ∙ f

sides-back : (fuel : ℕ) (s : Book) (r : RuleAt) (p : ℕ) (rest : List ℕ) (go : RuleAt → ℕ → List ℕ → Result Book) → ValidRule s.decls r
    → length (encode_pats r.sides.left) + length (encode r.sides.right) ≤ fuel
    → read_rule fuel s r.owner r.opened p (encode_pats r.sides.left ++ (encode r.sides.right ++ rest)) go
    ≡ go r (p + length (encode_pats r.sides.left) + length (encode r.sides.right)) rest
sides-back fuel s r p rest go v f =
    ap (λ (x : Result Side). if_good x second)
    (ap (λ (i : ℕ). read_side D fuel (on_left []) i 1 p (encode_pats L ++ (encode R ++ rest))) (sym v.arguments)
    ∙ left_back D L v.left_variables v.left_once v.left_words fuel p (encode R ++ rest) (omega (arith, f)))
    ∙ ap (λ (x : Result Side). if_good x (third (pats_of (terms_from (flats (terms_of L))))))
    (right-back D R seen v.right_over (all_in (term_vars R) (pats_vars L) seen (λ x. sym (seen_same x (pats_vars L))) v.right_variables) v.right_words fuel (p + length (encode_pats L)) rest (omega (arith, f)))
    ∙ ap₂ (λ (ps : List Pat) (t : Term). go (record { owner = r.owner; opened = r.opened; sides = record { left = ps; right = t } }) (p + length (encode_pats L) + length (encode R)) rest)
    (ap pats_of (flats-build (terms_of L)) ∙ pats-of L) (built D R)
  where
    D : Declared
    D = s.decls

    L : List Pat
    L = r.sides.left

    R : Term
    R = r.sides.right

    seen : List ℕ
    seen = onto (pats_vars r.sides.left) []

    third : List Pat → Side → Result Book
    third ps x = go (record { owner = r.owner; opened = r.opened; sides = record { left = ps; right = nth_term (terms_from x.records) 0 } }) x.from x.rest

    second : Side → Result Book
    second l = if_good (read_side s.decls fuel (on_right (vars_of l.seen)) 1 0 l.from l.rest)
        (λ x. go (record { owner = r.owner; opened = r.opened; sides = record { left = pats_of (terms_from l.records); right = nth_term (terms_from x.records) 0 } }) x.from x.rest)

end-at : (s : Book) (p q : ℕ) (z : List ℕ) → p ≡ q → read_end s p z ≡ read_end s q z
end-at s p q z e = ap (λ (i : ℕ). read_end s i z) e

rules-back : (rs : List RuleAt) (z : List ℕ) (fuel : ℕ) (s : Book) (p : ℕ) → Each (ValidRule s.decls) rs → OpenedFrom p rs → length s.rules_at + length rs ≤ 64 → length (ending rs z) ≤ fuel
    → read_records fuel s p (ending rs z) ≡ read_end (record { stage = stage_from s.stage [] rs; decls = s.decls; rules_at = s.rules_at ++ rs }) (p + length (encode_rules rs) + 1) z
rules-back [] z zero s p v o n f = absurd (omega (arith, f))
rules-back [] z (suc fuel) s p v o n f =
    let e : p + 1 ≡ p + 0 + 1 = omega arith in
    ap₂ (λ (l : List RuleAt) (q : ℕ). read_end (record { stage = s.stage; decls = s.decls; rules_at = l }) q z) (sym (append-nil s.rules_at)) e
rules-back (r ∷ rs) z zero s p v o n f = absurd (omega (arith, f))
rules-back (r ∷ rs) z (suc fuel) s p v o n f =
    let D = s.decls in
    let L = encode_pats r.sides.left in
    let R = encode r.sides.right in
    let go : RuleAt → ℕ → List ℕ → Result Book = λ x q rest. read_records fuel (with_rule s x) q rest in
    let e : (((L ++ R) ++ encode_rules rs) ++ (0x04 ∷ z)) ≡ L ++ (R ++ ending rs z) =
    append_assoc (L ++ R) (encode_rules rs) (0x04 ∷ z) ∙ append_assoc L R (ending rs z) in
    let a = length-append (L ++ R) (encode_rules rs) in
    let b = length-append ((L ++ R) ++ encode_rules rs) (0x04 ∷ z) in
    let c = length-append L R in
    let d = length-append (encode_rules rs) (0x04 ∷ z) in
    let h = count-length s.rules_at in
    let k = length-append s.rules_at (r ∷ []) in
    let i = o.0 in
    let q : p + length (encode_rule r) ≡ p + 2 + length L + length R = omega (arith, c) in
    let w : p + 2 + length L + length R + length (encode_rules rs) + 1 ≡ p + length (encode_rules (r ∷ rs)) + 1 = omega (arith, a, c) in
    within-true (ltb (rule_count s.rules_at) 64) 9 p _ (leb-true (suc (rule_count s.rules_at)) 64 (omega (arith, h, n)))
    ∙ within-true (ltb r.owner (length D.arities)) 4 p _ (leb-true (suc r.owner) (length D.arities) v.0.declared)
    ∙ ap₂ (λ (j : ℕ) (l : List ℕ). read_rule fuel s r.owner j (p + 2) l go) (sym i) e
    ∙ sides-back fuel s r (p + 2) (ending rs z) go v.0 (omega (arith, a, b, c, f))
    ∙ rules-back rs z fuel (with_rule s r) (p + 2 + length L + length R) v.1 (opened-at (p + length (encode_rule r)) _ rs q o.1) (omega (arith, k, n)) (omega (arith, a, b, c, d, f))
    ∙ ap₂ (λ (j : ℕ) (l : List RuleAt). read_end (record { stage = j; decls = D; rules_at = l }) (p + 2 + length L + length R + length (encode_rules rs) + 1) z) (stage-rule rs) (append_assoc s.rules_at (r ∷ []) rs)
    ∙ end-at (record { stage = 2; decls = D; rules_at = s.rules_at ++ (r ∷ rs) }) _ _ z w

-- functions, with `every` the arities of all of them in the end
funs-back : (every ns : List ℕ) (rs : List RuleAt) (z : List ℕ) (fuel i e : ℕ) (before : List ℕ) (f p : ℕ) → i ≤ 1 → every ≡ before ++ ns → f ≡ length before → f + length ns ≤ 32
    → Each (λ a. a ≤ 4) ns → Each (ValidRule (record { exceptions = e; arities = every })) rs → OpenedFrom (p + length (encode_funs f ns)) rs → length rs ≤ 64
    → length (encode_funs f ns ++ ending rs z) ≤ fuel
    → read_records fuel (record { stage = i; decls = record { exceptions = e; arities = before }; rules_at = [] }) p (encode_funs f ns ++ ending rs z)
    ≡ read_end (record { stage = stage_from i ns rs; decls = record { exceptions = e; arities = every }; rules_at = rs }) (p + length (encode_funs f ns) + length (encode_rules rs) + 1) z
funs-back every [] rs z fuel i e before f p st all len few low v o n g =
    let d : every ≡ before = all ∙ append-nil before in
    ap (λ (l : List ℕ). read_records fuel (record { stage = i; decls = record { exceptions = e; arities = l }; rules_at = [] }) p (ending rs z)) (sym d)
    ∙ rules-back rs z fuel (record { stage = i; decls = record { exceptions = e; arities = every }; rules_at = [] }) p v (opened-at (p + 0) p rs (omega arith) o) (omega (arith, n)) g
    ∙ end-at (record { stage = stage_from i [] rs; decls = record { exceptions = e; arities = every }; rules_at = rs }) (p + length (encode_rules rs) + 1) (p + 0 + length (encode_rules rs) + 1) z (omega arith)
funs-back every (a ∷ ns) rs z zero i e before f p st all len few low v o n g = absurd (omega (arith, g))
funs-back every (a ∷ ns) rs z (suc fuel) i e before f p st all len few low v o n g =
    let m = length-append before (a ∷ []) in
    within-true (leb i 1) 3 p _ (leb-true i 1 st)
    ∙ within-true (ltb (length before) 32) 9 p _ (leb-true (suc (length before)) 32 (omega (arith, len, few)))
    ∙ within-true (eqb f (length before) && leb a 4) 4 p _ (and-true (eqb f (length before)) (leb a 4) (eqb-true f (length before) len) (leb-true a 4 low.0))
    ∙ funs-back every ns rs z fuel 1 e (add_last before a) (suc f) (p + 3) (omega arith) (all ∙ sym (append_assoc before (a ∷ []) ns)) (omega (arith, m, len)) (omega (arith, few)) low.1 v
    (opened-at (p + length (encode_funs f (a ∷ ns))) (p + 3 + length (encode_funs (suc f) ns)) rs (omega arith) o) n (omega (arith, g))
    ∙ ap (λ (j : ℕ). read_end (record { stage = j; decls = record { exceptions = e; arities = every }; rules_at = rs }) (p + 3 + length (encode_funs (suc f) ns) + length (encode_rules rs) + 1) z) (stage-fun i a ns rs)
    ∙ end-at (record { stage = stage_from i (a ∷ ns) rs; decls = record { exceptions = e; arities = every }; rules_at = rs }) (p + 3 + length (encode_funs (suc f) ns) + length (encode_rules rs) + 1) (p + length (encode_funs f (a ∷ ns)) + length (encode_rules rs) + 1) z (omega arith)

-- exceptions, with `all` their number in the end
exns-back : (all n : ℕ) (ns : List ℕ) (rs : List RuleAt) (z : List ℕ) (fuel e p : ℕ) → all ≡ e + n → all ≤ 16 → length ns ≤ 32 → Each (λ a. a ≤ 4) ns
    → Each (ValidRule (record { exceptions = all; arities = ns })) rs → OpenedFrom (p + (length (encode_exns e n) + length (encode_funs 0 ns))) rs → length rs ≤ 64
    → length (encode_exns e n ++ (encode_funs 0 ns ++ ending rs z)) ≤ fuel
    → read_records fuel (record { stage = 0; decls = record { exceptions = e; arities = [] }; rules_at = [] }) p (encode_exns e n ++ (encode_funs 0 ns ++ ending rs z))
    ≡ read_end (record { stage = stage_from 0 ns rs; decls = record { exceptions = all; arities = ns }; rules_at = rs }) (p + length (encode_exns e n) + length (encode_funs 0 ns) + length (encode_rules rs) + 1) z
exns-back all zero ns rs z fuel e p t few len low v o m g =
    let d : all ≡ e = omega (arith, t) in
    ap (λ (j : ℕ). read_records fuel (record { stage = 0; decls = record { exceptions = j; arities = [] }; rules_at = [] }) p (encode_funs 0 ns ++ ending rs z)) (sym d)
    ∙ funs-back ns ns rs z fuel 0 all [] 0 p (omega arith) refl refl (omega (arith, len)) low v (opened-at (p + (0 + length (encode_funs 0 ns))) _ rs (omega arith) o) m g
    ∙ end-at (record { stage = stage_from 0 ns rs; decls = record { exceptions = all; arities = ns }; rules_at = rs }) (p + length (encode_funs 0 ns) + length (encode_rules rs) + 1) (p + 0 + length (encode_funs 0 ns) + length (encode_rules rs) + 1) z (omega arith)
exns-back all (suc n) ns rs z zero e p t few len low v o m g = absurd (omega (arith, g))
exns-back all (suc n) ns rs z (suc fuel) e p t few len low v o m g =
    within-true (ltb e 16) 9 p _ (leb-true (suc e) 16 (omega (arith, t, few)))
    ∙ within-true (eqb e e) 4 p _ (eqb-true e e refl)
    ∙ exns-back all n ns rs z fuel (suc e) (p + 2) (omega (arith, t)) few len low v
    (opened-at (p + (length (encode_exns e (suc n)) + length (encode_funs 0 ns))) (p + 2 + (length (encode_exns (suc e) n) + length (encode_funs 0 ns))) rs (omega arith) o) m (omega (arith, g))
    ∙ end-at (record { stage = stage_from 0 ns rs; decls = record { exceptions = all; arities = ns }; rules_at = rs }) (p + 2 + length (encode_exns (suc e) n) + length (encode_funs 0 ns) + length (encode_rules rs) + 1) (p + length (encode_exns e (suc n)) + length (encode_funs 0 ns) + length (encode_rules rs) + 1) z (omega arith)

-- a readable program, with anything behind it, is read through its end record
pub records-back : (s : Book) (z : List ℕ) → Readable s
    → (q : ℕ) × (read_records (suc (length (encode_program s ++ z))) empty_book 0 (encode_program s ++ z) ≡ read_end s q z)
records-back s z v = (
  0 + length (encode_exns 0 D.exceptions) + length (encode_funs 0 D.arities) + length (encode_rules s.rules_at) + 1,
  ap (read_records (suc (length (encode_program s ++ z))) empty_book 0) (encoded-behind s z)
      ∙ exns-back D.exceptions D.exceptions D.arities s.rules_at z (suc (length (encode_program s ++ z))) 0 0 (omega arith) v.exceptions v.functions v.arities v.each_rule
      (opened-at (length (encode_exns 0 D.exceptions) + length (encode_funs 0 D.arities)) _ s.rules_at (omega arith) v.opened) v.rules (omega (arith, long))
      ∙ ap (λ (j : ℕ). read_end (record { stage = j; decls = D; rules_at = s.rules_at }) (0 + length (encode_exns 0 D.exceptions) + length (encode_funs 0 D.arities) + length (encode_rules s.rules_at) + 1) z)
      (stage-start D.arities s.rules_at ∙ sym v.stage),
)
  where
    D : Declared
    D = s.decls

    long : length (encode_program s ++ z) ≡ length (encode_exns 0 s.decls.exceptions ++ (encode_funs 0 s.decls.arities ++ ending s.rules_at z))
    long = ap length (encoded-behind s z)
