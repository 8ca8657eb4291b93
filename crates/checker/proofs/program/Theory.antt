-- The turns over a program's records are the theory's `top`.
use Prim.Native.Nat.{ℕ, zero, suc, ◌+◌, ◌-◌, ◌≤◌, ◌<◌}
use mathlib.Core.Path.{◌≡◌, refl, sym, ap, ◌∙◌}
use mathlib.Core.Bool.{Bool, true, false, ◌&&◌}
use mathlib.Core.List.{List, [], ◌∷◌, ◌++◌}
use native.Mathlib.Nat.{suc-add}
use native.Mathlib.Numerals.{add-one}
use native.Mathlib.Omega.{arith}
use lib.Dec.{eqb, leb, ltb}
use lib.ListN.{length, get_or, take, drop, set, length-drop, length-append}
use lib.Seq.{drop-drop}
use borrow.Author.Tests.{lt-ltb, le-ltb, lt-leb, ltb-true, eqb-true, eqb-false, ne_eqb}
use Rattle.std.specs.Prelude.{Option, Some, None, Result, Ok, Err}
use Rattle.theory.specs.Syntax.{choose}
use Rattle.theory.specs.Bytes.{NextRecord, none_left, cut_short, next_is, next_record, refused, good, if_good, nth_arity, Where, on_left, on_right, in_question, vars_of, read_side, RuleAt, pats_of, terms_from, nth_term, Book, rule_count, add_last, or_refuse, read_rule, declared_at, read_end, read_top_record, read_records, empty_book}
use Rattle.theory.specs.Bytes
use Rattle.checker.specs.declared.side.Stand.TheVariants.{Left, Right}
use Rattle.checker.specs.declared.side.Side.{Side}
use Rattle.checker.specs.declared.declarations.Stage.{Stage}
use Rattle.checker.specs.declared.declarations.Stage.TheVariants.{Exceptions, Functions, Rules, End}
use Rattle.checker.specs.declared.declarations.Top.{Top}
use Rattle.checker.specs.declared.refusal.Refusal.{Refusal}
use Rattle.checker.specs.declared.refusal.Reason.TheVariants.{BytesLeftOver}
use Rattle.checker.specs.Refusal.{reason_of, refuse}
use Rattle.checker.specs.Answer.{padded, builtins, table}
use Rattle.theory.specs.Bytes.{opened_at}
use Rattle.record.specs.Record.{record_of, record_at}
use Rattle.checker.specs.Side.{no_vars, scan_from, seen_in}
use Rattle.checker.specs.Declarations.{takes_exceptions, takes_functions, at_end, stage_of, start_top, own_arities, own_ruled, with_exception, exception_turn, with_function, function_turn}
use Rattle.checker.specs.Program.{with_rule, right_turn, left_turn, sides_turn, rule_turn, on_turn, lost_from, or_lost, end_turn, record_turn, turn_of, turns, parse_of, marks, top_at, top_of}
use Rattle.record.proofs.Laws.{Behind, behind}
use Rattle.checker.proofs.node.Laws.{nth-get_d}
use Rattle.checker.proofs.side.Scan.{scan-fuel}
use Rattle.checker.proofs.side.Theory.{Same, scan-is-side}
use Rattle.checker.proofs.program.Turns.{turns-end}
use Rattle.checker.proofs.program.Lost.{marks-set, lost_as, lost-is}

-- the arrays
set_past : (xs ys : List ℕ) (i a : ℕ) → set (xs ++ ys) (length xs + i) a ≡ xs ++ set ys i a
set_past [] ys i a =
    let z : 0 + i ≡ i = omega arith in
    rw z
set_past (x ∷ xs) ys i a = rw suc-add (ap (λ l. x ∷ l) (set_past xs ys i a))

pad-set : (k : ℕ) (ns : List ℕ) (a : ℕ) → length ns < k → set (padded k ns) (length ns) a ≡ padded k (add_last ns a)
unfolding padded
pad-set zero ns a h = absurd (omega arith)
pad-set (suc k) [] a h = refl
pad-set (suc k) (n ∷ ns) a h = ap (λ l. n ∷ l) (pad-set k ns a (omega arith))

pub pad-take : (k : ℕ) (ns : List ℕ) → length ns ≤ k → take (length ns) (padded k ns) ≡ ns
unfolding padded
pad-take k [] h = refl
pad-take zero (n ∷ ns) h = absurd (omega arith)
pad-take (suc k) (n ∷ ns) h = ap (λ l. n ∷ l) (pad-take k ns (omega arith))

table-set : (ns : List ℕ) (a : ℕ) → length ns < 32 → set (table ns) (16 + length ns) a ≡ table (add_last ns a)
unfolding table
table-set ns a h = set_past builtins (padded 32 ns) (length ns) a ∙ ap (λ l. builtins ++ l) (pad-set 32 ns a h)

pub opened-many : (rs : List RuleAt) → length (opened_at rs) ≡ rule_count rs
opened-many [] = refl
opened-many (q ∷ qs) = ap suc (opened-many qs)

opened-more : (rs : List RuleAt) (r : RuleAt) → opened_at (add_last rs r) ≡ add_last (opened_at rs) r.opened
opened-more [] r = refl
opened-more (q ∷ qs) r = ap (λ l. q.opened ∷ l) (opened-more qs r)

opened-set : (rs : List RuleAt) (r : RuleAt) → rule_count rs < 64 → set (padded 64 (opened_at rs)) (rule_count rs) r.opened ≡ padded 64 (opened_at (add_last rs r))
opened-set rs r h =
    ap (λ i. set (padded 64 (opened_at rs)) i r.opened) (sym (opened-many rs)) ∙ pad-set 64 (opened_at rs) r.opened (rw (opened-many rs) h) ∙ ap (padded 64) (sym (opened-more rs r))

count-snoc : (rs : List RuleAt) (r : RuleAt) → rule_count (add_last rs r) ≡ rule_count rs + 1
count-snoc [] r = refl
count-snoc (q ∷ qs) r = ap suc (count-snoc qs r) ∙ sym (suc-add _ _)

pub own-are : (s : Book) (g : Stage) (p : ℕ) → length s.decls.arities ≤ 32 → own_arities (top_at s g p) ≡ s.decls.arities
unfolding own_arities top_at table
own-are s g p h = pad-take 32 s.decls.arities h

-- a part with one more exception, function or rule
abbrev pub excepted : Book → Book
excepted s = record { stage = 0; decls = record { exceptions = suc s.decls.exceptions; arities = s.decls.arities }; rules_at = s.rules_at }

abbrev pub functioned : Book → ℕ → Book
functioned s a = record { stage = 1; decls = record { exceptions = s.decls.exceptions; arities = add_last s.decls.arities a }; rules_at = s.rules_at }

abbrev pub ruled : Book → RuleAt → Book
ruled s r = record { stage = 2; decls = s.decls; rules_at = add_last s.rules_at r }

excepted-is : (s : Book) (p q : ℕ) → s.stage ≡ 0 → top_at (excepted s) Exceptions q ≡ with_exception (top_at s (stage_of s.stage) p) q
unfolding top_at
excepted-is s p q e = rw (e, add-one)

snoc-long : (ns : List ℕ) (a : ℕ) → length (add_last ns a) ≡ length ns + 1
snoc-long ns a = length-append ns (a ∷ [])

functioned-is : (s : Book) (p q a : ℕ) → length s.decls.arities < 32 → top_at (functioned s a) Functions q ≡ with_function (top_at s (stage_of s.stage) p) a q
unfolding top_at
functioned-is s p q a h = rw (table-set s.decls.arities a h, snoc-long s.decls.arities a)

ruled-is : (s : Book) (p q : ℕ) (r : RuleAt) → r.opened ≡ p → rule_count s.rules_at < 64 → r.owner < 32 → top_at (ruled s r) Rules q ≡ with_rule (top_at s (stage_of s.stage) p) r.owner q
unfolding top_at
ruled-is s p q r o h l =
    let z : r.owner ≡ 0 + r.owner = omega arith in
    rw (← o, opened-set s.rules_at r h, count-snoc s.rules_at r, marks-set 32 0 r.owner s.rules_at r z l)

-- the stages are the theory's
stage-exceptions : (n : ℕ) → takes_exceptions (stage_of n) ≡ eqb n 0
stage-exceptions zero = refl
stage-exceptions (suc zero) = refl
stage-exceptions (suc (suc n)) = sym (ne_eqb (suc (suc n)) 0 (omega arith))

stage-functions : (n : ℕ) → takes_functions (stage_of n) ≡ leb n 1
stage-functions zero = refl
stage-functions (suc zero) = refl
stage-functions (suc (suc n)) = sym (lt-leb (suc (suc n)) 1 (omega arith))

stage-open : (n : ℕ) → at_end (stage_of n) ≡ false
stage-open zero = refl
stage-open (suc zero) = refl
stage-open (suc (suc n)) = refl

module _ (ws : List ℕ) (f : ℕ) where
  abbrev Turned : Bytes.Result Book → Result Top Refusal → Type 0
  Turned r u = top_of r ≡ on_turn (turns ws f) u

  stop-turned : (n p : ℕ) → Turned (Bytes.refuse n p) (Err (record { reason = reason_of n; place = p }))
  unfolding top_of
  stop-turned n p = refl

  choose-turned : (b : Bool) (x y : Unit {0} → Bytes.Result Book) (x' y' : Unit {0} → Result Top Refusal) → (b ≡ true → Turned (x tt) (x' tt)) → (b ≡ false → Turned (y tt) (y' tt)) → Turned (choose b x y) (choose b x' y')
  choose-turned true x y x' y' h k = h refl
  choose-turned false x y x' y' h k = k refl

  within-turned : (b : Bool) (n p : ℕ) (x : Unit {0} → Bytes.Result Book) (x' : Unit {0} → Result Top Refusal) → (b ≡ true → Turned (x tt) (x' tt)) → Turned (or_refuse b n p x) (choose b x' (λ u. Err (record { reason = reason_of n; place = p })))
  within-turned true n p x x' h = h refl
  within-turned false n p x x' h = stop-turned n p

  abbrev Well : Book → Type 0
  Well s = (s.stage ≤ 2) × (length s.decls.arities ≤ 32)

  module _ (s : Book) (well : Well s) (p : ℕ) (q : ℕ) (bs : List ℕ) (behind : bs ≡ drop q ws) (fuel : length ws - q < f)
      (more : (s' : Book) (p' : ℕ) → Well s' → length ws - p' < f → Turned (read_records f s' p' (drop p' ws)) (Ok (top_at s' (stage_of s'.stage) p'))) where
    exception-turned : (b : ℕ)
        → Turned (or_refuse (eqb s.stage 0) 3 p (λ u. or_refuse (ltb s.decls.exceptions 16) 9 p (λ u. or_refuse (eqb b s.decls.exceptions) 4 p (λ u. read_records f (excepted s) q bs))))
        (exception_turn (top_at s (stage_of s.stage) p) b q)
    unfolding exception_turn top_at
    exception-turned b =
        rw (stage-exceptions s.stage)
        (within-turned (eqb s.stage 0) 3 p _ _ (λ e. within-turned (ltb s.decls.exceptions 16) 9 p _ _ (λ e₂. within-turned (eqb b s.decls.exceptions) 4 p _ _
        (λ e₃. rw behind (more (excepted s) q (omega arith, well.1) fuel) ∙ ap (turns ws f) (excepted-is s p q (eqb-true s.stage 0 e))))))

    function-turned : (b a : ℕ)
        → Turned (or_refuse (leb s.stage 1) 3 p (λ u. or_refuse (ltb (length s.decls.arities) 32) 9 p (λ u. or_refuse (eqb b (length s.decls.arities) && leb a 4) 4 p (λ u. read_records f (functioned s a) q bs))))
        (function_turn (top_at s (stage_of s.stage) p) b a q)
    unfolding function_turn top_at
    function-turned b a =
        rw (stage-functions s.stage)
        (within-turned (leb s.stage 1) 3 p _ _ (λ e. within-turned (ltb (length s.decls.arities) 32) 9 p _ _ (λ e₂. within-turned (eqb b (length s.decls.arities) && leb a 4) 4 p _ _
        (λ e₃. let h = ltb-true (length s.decls.arities) 32 e₂ in
        rw behind (more (functioned s a) q (omega arith, rw (snoc-long s.decls.arities a) (omega arith)) fuel) ∙ ap (turns ws f) (functioned-is s p q a h)))))

    end-good : length ws ≤ q → Turned (good s) (choose (ltb q (length ws)) (λ u. refuse BytesLeftOver q) (λ u. Ok (top_at s End 0)))
    unfolding top_of top_at
    end-good h = rw (le-ltb q (length ws) h) (sym (turns-end ws f (top_at s End 0) refl))

    end_more : q < length ws → Turned (Bytes.refuse 11 q) (choose (ltb q (length ws)) (λ u. refuse BytesLeftOver q) (λ u. Ok (top_at s End 0)))
    end_more h = rw (lt-ltb q (length ws) h) (stop-turned 11 q)

    end-left : Turned (choose (eqb (length bs) 0) (λ u. good s) (λ u. Bytes.refuse 11 q)) (choose (ltb q (length ws)) (λ u. refuse BytesLeftOver q) (λ u. Ok (top_at s End 0)))
    end-left = by-rest (eqb (length bs) 0) refl
      where
        long : length bs ≡ length ws - q
        long = ap length behind ∙ length-drop q ws

        by-rest : (b : Bool) → eqb (length bs) 0 ≡ b → Turned (choose b (λ u. good s) (λ u. Bytes.refuse 11 q)) (choose (ltb q (length ws)) (λ u. refuse BytesLeftOver q) (λ u. Ok (top_at s End 0)))
        by-rest true e = end-good (omega (arith, long, eqb-true (length bs) 0 e))
        by-rest false e = let z = eqb-false (length bs) 0 e in end_more (omega (arith, long))

    end-turned : Turned (read_end s q bs) (end_turn (top_at s (stage_of s.stage) p) q (length ws))
    unfolding end_turn own_ruled top_at
    end-turned = rw (lost-is s.decls s.rules_at s.decls.arities 32 well.1) (by-lost (lost_from (take (length s.decls.arities) (marks 32 0 s.rules_at))))
      where
        by-lost : (o : Option ℕ) → Turned (if_good (lost_as s.decls s.rules_at 0 o) (λ u. choose (eqb (length bs) 0) (λ u. good s) (λ u. Bytes.refuse 11 q)))
            (or_lost (top_at s (stage_of s.stage) p) o (λ u. choose (ltb q (length ws)) (λ u. refuse BytesLeftOver q) (λ u. Ok (top_at s End 0))))
        by-lost None = end-left
        by-lost (Some l) =
            let z : 0 + l ≡ l = omega arith in
            rw z (stop-turned 17 (declared_at s.decls l))

    module _ (b : ℕ) (few : rule_count s.rules_at < 64) (low : b < length s.decls.arities) where
      abbrev n : ℕ
      n = s.decls.exceptions

      abbrev ns : List ℕ
      ns = s.decls.arities

      abbrev made : Bytes.Side → Bytes.Side → RuleAt
      made l r = record { owner = b; opened = p; sides = record { left = pats_of (terms_from l.records); right = nth_term (terms_from r.records) 0 } }

      right-turned : (from : ℕ) (l : Bytes.Side) → length ws - from < f → (r : Bytes.Result Bytes.Side) (o : Result Side Refusal) → Same n ns ws from r o
          → Turned (if_good r (λ r. read_records f (ruled s (made l r)) r.from r.rest)) (right_turn (top_at s (stage_of s.stage) p) b o)
      unfolding right_turn
      right-turned from l k (refused r) o h = rw (← h.0) (stop-turned r.number r.place)
      right-turned from l k (good r) o h =
          rw (← h.0, h.1.0)
          (more (ruled s (made l r)) r.from (omega arith, well.1) (omega (arith, h.1.1)) ∙ ap (turns ws f) (ruled-is s p r.from (made l r) refl few (omega (arith, low, well.1))))

      same_seen : (w : Where) → seen_in (on_right (vars_of w)) ≡ seen_in w
      same_seen (on_left xs) = refl
      same_seen (on_right xs) = refl
      same_seen in_question = refl

      right-same : (l : Bytes.Side) → l.rest ≡ drop l.from ws → length ws - l.from < f
          → Same n ns ws l.from (read_side s.decls f (on_right (vars_of l.seen)) 1 0 l.from l.rest) (scan_from n ns ws Right (seen_in l.seen) 1 0 l.from)
      unfolding scan_from
      right-same l e k =
          rw (e, ← same_seen l.seen)
          (let h = scan-is-side n ns ws f (on_right (vars_of l.seen)) 1 0 l.from in
          (h.0 ∙ scan-fuel n ns ws f (suc (length ws - l.from)) Right (seen_in (on_right (vars_of l.seen))) 1 0 l.from k (omega arith), h.1))

      left-turned : (l : Bytes.Result Bytes.Side) (o : Result Side Refusal) → Same n ns ws q l o
          → Turned (if_good l (λ l. if_good (read_side s.decls f (on_right (vars_of l.seen)) 1 0 l.from l.rest) (λ r. read_records f (ruled s (made l r)) r.from r.rest)))
          (left_turn (top_at s (stage_of s.stage) p) b o (λ s' p'. scan_from n ns ws Right s' 1 0 p'))
      unfolding left_turn
      left-turned (refused r) o h = rw (← h.0) (stop-turned r.number r.place)
      left-turned (good l) o h =
          let k : length ws - l.from < f = omega (arith, h.1.1) in
          rw (← h.0) (right-turned l.from l k (read_side s.decls f (on_right (vars_of l.seen)) 1 0 l.from l.rest) (scan_from n ns ws Right (seen_in l.seen) 1 0 l.from) (right-same l h.1.0 k))

      left-same : Same n ns ws q (read_side s.decls f (on_left []) (nth_arity ns b) 1 q bs) (scan_from n ns ws Left no_vars (get_or ns b 0) 1 q)
      unfolding scan_from
      left-same =
          rw (behind, ← nth-get_d ns b)
          (let h = scan-is-side n ns ws f (on_left []) (nth_arity ns b) 1 q in
          (h.0 ∙ scan-fuel n ns ws f (suc (length ws - q)) Left no_vars (nth_arity ns b) 1 q fuel (omega arith), h.1))

      sides-turned : Turned (read_rule f s b p q bs (λ r q' rest. read_records f (ruled s r) q' rest)) (sides_turn ws (top_at s (stage_of s.stage) p) b q)
      unfolding sides_turn top_at
      sides-turned =
          rw (own-are s (stage_of s.stage) p well.1)
          (left-turned (read_side s.decls f (on_left []) (nth_arity ns b) 1 q bs) (scan_from n ns ws Left no_vars (get_or ns b 0) 1 q) left-same)

    rule-turned : (b : ℕ) → Turned (or_refuse (ltb (rule_count s.rules_at) 64) 9 p (λ u. or_refuse (ltb b (length s.decls.arities)) 4 p (λ u. read_rule f s b p q bs (λ r q' rest. read_records f (ruled s r) q' rest))))
        (rule_turn ws (top_at s (stage_of s.stage) p) b q)
    unfolding rule_turn top_at
    rule-turned b =
        within-turned (ltb (rule_count s.rules_at) 64) 9 p _ _ (λ e. within-turned (ltb b (length s.decls.arities)) 4 p _ _
        (λ e₂. sides-turned b (ltb-true (rule_count s.rules_at) 64 e) (ltb-true b (length s.decls.arities) e₂)))

  on-turned : (s : Book) → Well s → (p : ℕ) (o : NextRecord) → Behind (drop p ws) o → length ws - p ≤ f
      → ((s' : Book) (p' : ℕ) → Well s' → length ws - p' < f → Turned (read_records f s' p' (drop p' ws)) (Ok (top_at s' (stage_of s'.stage) p')))
      → Turned (read_top_record f (read_records f) s p o) (record_turn ws (top_at s (stage_of s.stage) p) (record_of o))
  unfolding record_turn top_at
  on-turned s well p none_left b h more = stop-turned 2 p
  on-turned s well p cut_short b h more = stop-turned 2 p
  on-turned s well p (next_is k x c i bs) b h more =
      let on : length ws - (p + i) < f = omega (arith, b.1, b.2, length-drop p ws) in
      let e : bs ≡ drop (p + i) ws = b.0 ∙ drop-drop i p ws in
      choose-turned (eqb k 1) _ _ _ _ (λ u. exception-turned s well p (p + i) bs e on more x)
      (λ u. choose-turned (eqb k 2) _ _ _ _ (λ u. function-turned s well p (p + i) bs e on more x c)
      (λ u. choose-turned (eqb k 3) _ _ _ _ (λ u. rule-turned s well p (p + i) bs e on more x)
      (λ u. choose-turned (eqb k 4) _ _ _ _ (λ u. end-turned s well p (p + i) bs e on more) (λ u. stop-turned 3 p))))

top-is-turns : (ws : List ℕ) (f : ℕ) (s : Book) (p : ℕ) → Well ws f s → length ws - p < f → top_of (read_records f s p (drop p ws)) ≡ turns ws f (top_at s (stage_of s.stage) p)
unfolding turns turn_of record_at top_at
top-is-turns ws zero s p well h = absurd (omega arith)
top-is-turns ws (suc f) s p well h =
    rw (stage-open s.stage)
    (on-turned ws f s well p (next_record (drop p ws)) (behind (drop p ws)) (omega arith) (λ s' p' w k. top-is-turns ws f s' p' w k))

pub parse-is : (ws : List ℕ) → parse_of ws ≡ top_of (read_records (suc (length ws)) empty_book 0 ws)
unfolding parse_of start_top top_at table padded marks
parse-is ws = sym (top-is-turns ws (suc (length ws)) empty_book 0 (omega arith, omega arith) (omega arith))
