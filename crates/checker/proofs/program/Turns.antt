-- The laws of a program's turns: what each record makes, that each turn goes on, and that the fuel is always enough.
use Prim.Native.Nat.{ℕ, zero, suc, ◌+◌, ◌-◌, ◌≤◌, ◌<◌}
use mathlib.Core.Path.{◌≡◌, refl, sym, ap, subst, ◌∙◌}
use Rattle.std.proofs.lemmas.Bool.{false≢true}
use mathlib.Core.Bool.{Bool, true, false, not, ◌&&◌}
use denote.Enum.Bare.{sameb}
use Rattle.checker.specs.contracts.declarations.Stage.{the_type}
use Rattle.checker.specs.declared.declarations.Stage.{Stage}
use Rattle.checker.specs.declared.declarations.Stage.TheVariants.{Exceptions, Functions, Rules, End}
use mathlib.Core.List.{List}
use native.Mathlib.Omega.{arith}
use lib.Dec.{eqb, leb, ltb}
use lib.ListN.{length, get_or, length-set}
use borrow.Author.Tests.{ne_eqb, ltb-true}
use Rattle.std.specs.Prelude.{Option, Some, None, Result, Ok, Err}
use Rattle.theory.specs.Syntax.{choose, pick}
use Rattle.checker.specs.declared.side.Stand.{Stand}
use Rattle.checker.specs.declared.side.Stand.TheVariants.{Left, Right}
use Rattle.record.specs.declared.Record.{Record}
use Rattle.checker.specs.declared.side.Step.{Step}
use Rattle.checker.specs.declared.side.Side.{Side}
use Rattle.checker.specs.declared.declarations.Top.{Top}
use Rattle.checker.specs.declared.refusal.Refusal.{Refusal}
use Rattle.checker.specs.declared.refusal.Reason.{Reason}
use Rattle.checker.specs.declared.refusal.Reason.TheVariants.{KindNotAllowed}
use Rattle.checker.specs.Refusal.{refuse}
use Rattle.record.specs.Record.{record_at}
use Rattle.checker.specs.Node.{tok_at}
use Rattle.checker.specs.Side.{step_of, most_of, no_vars, on_step, on_record, scan, scan_from}
use Rattle.checker.specs.Answer.{table, padded}
use Rattle.checker.specs.Declarations.{Kept, takes_exceptions, takes_functions, at_end, start_top, own_arities, own_ruled, exception_turn, function_turn}
use Rattle.checker.specs.Program.{right_turn, left_turn, sides_turn, rule_turn, on_turn, lost_from, or_lost, end_turn, record_turn, turn_of, turns, parse_of}
use Rattle.checker.proofs.side.Scan.{choose-same}
use Rattle.record.proofs.Laws.{record-fits}

-- a side ends no earlier than it starts
abbrev Grows : ℕ → Result Side Refusal → Type 0
Grows p (Err e) = Unit {0}
Grows p (Ok s) = p ≤ s.at

grows-from : (p q : ℕ) (o : Result Side Refusal) → p ≤ q → Grows q o → Grows p o
grows-from p q (Err e) h k = tt
grows-from p q (Ok s) h k = omega arith

choose-grows : (b : Bool) (x y : Unit {0} → Result Side Refusal) (p : ℕ) → Grows p (x tt) → Grows p (y tt) → Grows p (choose b x y)
choose-grows true x y p h k = h
choose-grows false x y p h k = k

step-grows : (go : List Bool → ℕ → ℕ → ℕ → Result Side Refusal) (most due count p n : ℕ) (t : Result Step Reason) → ((s : List Bool) (d c : ℕ) → Grows (p + n) (go s d c (p + n))) → Grows p (on_step go most due count p n t)
unfolding on_step
step-grows go most due count p n (Err r) h = tt
step-grows go most due count p n (Ok t) h =
    choose-grows (leb (count + t.words) most) _ _ p (grows-from p (p + n) (go t.seen (t.parts + due) (count + t.words) (p + n)) (omega arith) (h t.seen (t.parts + due) (count + t.words))) tt

record-grows : (n : ℕ) (ns ws : List ℕ) (go : List Bool → ℕ → ℕ → ℕ → Result Side Refusal) (m : Stand) (s : List Bool) (due count p : ℕ) (o : Option Record)
    → ((s' : List Bool) (d c q : ℕ) → Grows q (go s' d c q)) → Grows p (on_record n ns ws go m s due count p o)
unfolding on_record
record-grows n ns ws go m s due count p None h = tt
record-grows n ns ws go m s due count p (Some r) h = step-grows go (most_of m) due count p r.len (step_of m s (tok_at n ns p r.kind r.body)) (λ s' d c. h s' d c (p + r.len))

scan-grows : (n : ℕ) (ns ws : List ℕ) (f : ℕ) (m : Stand) (s : List Bool) (due count p : ℕ) → Grows p (scan n ns ws f m s due count p)
unfolding scan
scan-grows n ns ws zero m s zero count p = omega arith
scan-grows n ns ws zero m s (suc due) count p = tt
scan-grows n ns ws (suc f) m s zero count p = omega arith
scan-grows n ns ws (suc f) m s (suc due) count p = record-grows n ns ws (scan n ns ws f m) m s due count p (record_at ws p) (λ s' d c q. scan-grows n ns ws f m s' d c q)

-- a record that is none of a program's
pub turn-unknown : (ws : List ℕ) (t : Top) (r : Record) → Some r ≡ record_at ws t.place → (r.kind ≡ 1 → ⊥) → (r.kind ≡ 2 → ⊥) → (r.kind ≡ 3 → ⊥) → (r.kind ≡ 4 → ⊥)
    → refuse KindNotAllowed t.place ≡ turn_of ws t
unfolding turn_of record_turn
turn-unknown ws t r read n1 n2 n3 n4 =
    sym (rw (ne_eqb r.kind 1 n1, ne_eqb r.kind 2 n2, ne_eqb r.kind 3 n3, ne_eqb r.kind 4 n4)) ∙ ap (record_turn ws t) read

-- what falls from turn to turn
unfoldable pub left_over : List ℕ → Top → ℕ
left_over ws t = pick (at_end t.stage) 0 (suc (length ws - t.place))

-- a turn that does not end goes on from a later place, and keeps what is kept
module _ (ws : List ℕ) (t : Top) where
  abbrev pub Goes : Result Top Refusal → Type 0
  Goes (Err e) = Unit {0}
  Goes (Ok u) = (at_end u.stage ≡ false → length ws - u.place < length ws - t.place) × (Kept t → Kept u)

  choose-goes : (b : Bool) (x y : Unit {0} → Result Top Refusal) → (b ≡ true → Goes (x tt)) → (b ≡ false → Goes (y tt)) → Goes (choose b x y)
  choose-goes true x y h k = h refl
  choose-goes false x y h k = k refl

  module _ (q : ℕ) (on : length ws - q < length ws - t.place) where
    exception-goes : (b : ℕ) → Goes (exception_turn t b q)
    unfolding exception_turn
    exception-goes b =
        choose-goes (takes_exceptions t.stage) _ _
        (λ e. choose-goes (ltb t.read.exceptions 16) _ _
        (λ e. choose-goes (eqb b t.read.exceptions) _ _ (λ x. (λ h. on, λ k. (k.0, k.1, k.2, k.3, omega (arith, ltb-true t.read.exceptions 16 e), k.5))) (λ e. tt)) (λ e. tt))
        (λ e. tt)

    function-goes : (b a : ℕ) → Goes (function_turn t b a q)
    unfolding function_turn
    function-goes b a =
        choose-goes (takes_functions t.stage) _ _
        (λ e. choose-goes (ltb t.read.functions 32) _ _
        (λ e. choose-goes (eqb b t.read.functions && leb a 4) _ _ (λ x. (λ h. on, λ k. (omega (arith, ltb-true t.read.functions 32 e), length-set t.read.arities (16 + t.read.functions) a ∙ k.1, k.2, k.3, k.4, k.5))) (λ x. tt))
        (λ e. tt))
        (λ e. tt)

    right-goes : (f : ℕ) (r : Result Side Refusal) → t.read.rules < 64 → Grows q r → Goes (right_turn t f r)
    unfolding right_turn
    right-goes f (Err e) few h = tt
    right-goes f (Ok r) few h = (λ e. omega (arith, h, on), λ k. (k.0, k.1, omega arith, length-set t.read.openings t.read.rules t.place ∙ k.3, k.4, length-set t.ruled f true ∙ k.5))

    left-goes : (f : ℕ) (l : Result Side Refusal) (right : List Bool → ℕ → Result Side Refusal) → t.read.rules < 64 → Grows q l → ((s : List Bool) (p : ℕ) → Grows p (right s p)) → Goes (left_turn t f l right)
    unfolding left_turn
    left-goes f (Err e) right few h k = tt
    left-goes f (Ok l) right few h k = right-goes f (right l.seen l.at) few (grows-from q l.at (right l.seen l.at) h (k l.seen l.at))

    sides-goes : (f : ℕ) → t.read.rules < 64 → Goes (sides_turn ws t f q)
    unfolding sides_turn scan_from
    sides-goes f few =
        left-goes f (scan t.read.exceptions (own_arities t) ws (suc (length ws - q)) Left no_vars (get_or (own_arities t) f 0) 1 q) (λ s p. scan t.read.exceptions (own_arities t) ws (suc (length ws - p)) Right s 1 0 p) few
        (scan-grows t.read.exceptions (own_arities t) ws (suc (length ws - q)) Left no_vars (get_or (own_arities t) f 0) 1 q)
        (λ s p. scan-grows t.read.exceptions (own_arities t) ws (suc (length ws - p)) Right s 1 0 p)

    rule-goes : (b : ℕ) → Goes (rule_turn ws t b q)
    unfolding rule_turn
    rule-goes b =
        choose-goes (ltb t.read.rules 64) _ _ (λ e. choose-goes (ltb b t.read.functions) _ _ (λ u. sides-goes b (ltb-true t.read.rules 64 e)) (λ e. tt)) (λ e. tt)

  lost-goes : (o : Option ℕ) (go : Unit {0} → Result Top Refusal) → Goes (go tt) → Goes (or_lost t o go)
  lost-goes (Some f) go h = tt
  lost-goes None go h = h

  end_goes : (q len : ℕ) → Goes (end_turn t q len)
  unfolding end_turn
  end_goes q len =
      lost-goes (lost_from (own_ruled t)) _ (choose-goes (ltb q len) _ _ (λ e. tt) (λ e. (λ h. absurd (false≢true (sym h)), λ k. k)))

  record-goes : (o : Option Record) → record_at ws t.place ≡ o → Goes (record_turn ws t o)
  unfolding record_turn
  record-goes None e = tt
  record-goes (Some r) e =
      let l = record-fits ws t.place r e in
      let on : length ws - (t.place + r.len) < length ws - t.place = omega (arith, l) in
      choose-goes (eqb r.kind 1) _ _ (λ e. exception-goes (t.place + r.len) on r.body)
      (λ e. choose-goes (eqb r.kind 2) _ _ (λ e. function-goes (t.place + r.len) on r.body r.second)
      (λ e. choose-goes (eqb r.kind 3) _ _ (λ e. rule-goes (t.place + r.len) on r.body)
      (λ e. choose-goes (eqb r.kind 4) _ _ (λ e. end_goes (t.place + r.len) (length ws)) (λ e. tt))))

  pub turn-goes : Goes (turn_of ws t)
  unfolding turn_of
  turn-goes = record-goes (record_at ws t.place) refl

-- the loop's test is whether the end is read
pub stage-differs : (s : Stage) → true ≡ not (sameb the_type s End) → at_end s ≡ false
stage-differs Exceptions e = refl
stage-differs Functions e = refl
stage-differs Rules e = refl
stage-differs End e = cc

pub stage-same : (s : Stage) → false ≡ not (sameb the_type s End) → at_end s ≡ true
stage-same Exceptions e = cc
stage-same Functions e = cc
stage-same Rules e = cc
stage-same End e = refl

-- the turns
module _ (ws : List ℕ) where
  pub turns-end : (f : ℕ) (t : Top) → at_end t.stage ≡ true → turns ws f t ≡ Ok t
  unfolding turns
  turns-end zero t h = rw h
  turns-end (suc f) t h = rw h

  turns-stop : (f g : ℕ) (t : Top) (b : Bool) → at_end t.stage ≡ b → (at_end t.stage ≡ false → turns ws f t ≡ turns ws g t) → turns ws f t ≡ turns ws g t
  turns-stop f g t true e h = turns-end f t e ∙ sym (turns-end g t e)
  turns-stop f g t false e h = h e

  on-turn_same : (t : Top) (go go' : Top → Result Top Refusal) (o : Result Top Refusal) → Goes ws t o → ((u : Top) → (at_end u.stage ≡ false → length ws - u.place < length ws - t.place) → go u ≡ go' u) → on_turn go o ≡ on_turn go' o
  on-turn_same t go go' (Err e) h k = refl
  on-turn_same t go go' (Ok u) h k = k u h.0

  -- any fuel above the number of bytes left is enough
  pub turns-fuel : (f g : ℕ) (t : Top) → length ws - t.place < f → length ws - t.place < g → turns ws f t ≡ turns ws g t
  unfolding turns
  turns-fuel zero g t h k = absurd (omega arith)
  turns-fuel (suc f) zero t h k = absurd (omega arith)
  turns-fuel (suc f) (suc g) t h k =
      choose-same (at_end t.stage) _ _ _ _ (λ e. refl)
      (λ e. on-turn_same t (turns ws f) (turns ws g) (turn_of ws t) (turn-goes ws t)
      (λ u l. turns-stop f g u (at_end u.stage) refl (λ s. let m = l s in turns-fuel f g u (omega (arith, m)) (omega (arith, m)))))

  pub parse-starts : (t : Top) → t ≡ start_top → parse_of ws ≡ turns ws (suc (length ws - t.place)) t
  unfolding parse_of start_top table padded
  parse-starts t e = rw e (turns-fuel (suc (length ws)) (suc (length ws - 0)) start_top (omega arith) (omega arith))

  pub start-kept : (t : Top) → t ≡ start_top → Kept t
  unfolding start_top table padded
  start-kept t e = rw e (omega arith, refl, omega arith, refl, omega arith, refl)

  module _ (t : Top) (more : at_end t.stage ≡ false) where
    turns-next : (o : Result Top Refusal) → o ≡ turn_of ws t → turns ws (suc (length ws - t.place)) t ≡ on_turn (turns ws (length ws - t.place)) o
    unfolding turns
    turns-next o e = rw (more, e)

    pub parse-refused : (r : Refusal) → Err r ≡ turn_of ws t → turns ws (suc (length ws - t.place)) t ≡ Err r
    parse-refused r e = turns-next (Err r) e

    module _ (u : Top) (next : Ok u ≡ turn_of ws t) where
      goes : Goes ws t (Ok u)
      goes = subst (Goes ws t) (sym next) (turn-goes ws t)

      pub goes_kept : Kept t → Kept u
      goes_kept = goes.1

      pub parse-goes : turns ws (suc (length ws - t.place)) t ≡ turns ws (suc (length ws - u.place)) u
      parse-goes =
          turns-next (Ok u) next
          ∙ turns-stop (length ws - t.place) (suc (length ws - u.place)) u (at_end u.stage) refl (λ s. let m = goes.0 s in turns-fuel (length ws - t.place) (suc (length ws - u.place)) u m (omega arith))

      over-falls : (b : Bool) → at_end u.stage ≡ b → pick b 0 (suc (length ws - u.place)) < suc (length ws - t.place)
      over-falls true e = omega arith
      over-falls false e = let m = goes.0 e in omega (arith, m)

      pub parse-falls : left_over ws u < left_over ws t
      unfolding left_over
      parse-falls = rw more (over-falls (at_end u.stage) refl)

  pub parse-ends : (t : Top) → at_end t.stage ≡ true → turns ws (suc (length ws - t.place)) t ≡ Ok t
  parse-ends t h = turns-end (suc (length ws - t.place)) t h
