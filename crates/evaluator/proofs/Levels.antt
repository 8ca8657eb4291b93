-- One level of evaluation, put together from what the calls below it gave.
use mathlib.Core.Path.{◌≡◌, refl, sym, ◌∙◌}
use mathlib.Core.List.{List}
use Prim.Native.Nat.{ℕ, zero, suc, ◌+◌, ◌-◌, ◌≤◌}
use native.Mathlib.Numerals.{sub-one}
use lib.ListN.{length, get_or, set, get_or-eq_default}
use Rattle.std.specs.Prelude.{Result, Ok, Err}
use Rattle.words.specs.declared.base.Base.{Base}
use Rattle.rules.specs.declared.index.Span.{Span}
use Rattle.evaluator.specs.declared.values.Value.{Value}
use Rattle.evaluator.specs.declared.values.Ending.TheVariants.{Done, Raised, Stuck, Deep}
use Rattle.evaluator.specs.declared.values.Answer.{Answer}
use Rattle.evaluator.specs.declared.rows.Then.{Then}
use Rattle.evaluator.specs.declared.fitting.Found.{Found}
use Rattle.evaluator.specs.declared.places.Op.{Op}
use Rattle.evaluator.specs.declared.places.Kind.{Kind}
use Rattle.evaluator.specs.declared.places.Kind.TheVariants.{Data, Var, Raise, Part, Call, Other}
use Rattle.evaluator.specs.Values.{answer, none, nones}
use Rattle.evaluator.specs.Places.{kind_of, arguments_of, place_past}
use Rattle.evaluator.specs.Rows.{answer_then, result_then, left_of, pay_of, turn_of, took_of}
use Rattle.evaluator.specs.Fitting.{rules_of}
use Rattle.evaluator.specs.Evaluation.{Evaluator, list_of, entered_of, body_of, call_of, node, ev}

-- a term by its kind, where a level is left
ev-kind : (standing own ks : List ℕ) (si oi : List Span) (l : ℕ) (ws : List ℕ) (b : List Value) (a p : ℕ) (k : Kind) → (l ≡ 0 → ⊥) → kind_of (get_or ws a 0) ≡ k
    → ev standing own ks si oi l ws b a p ≡ node standing own ks si oi (ev standing own ks si oi (l - 1)) ws b a p k
unfolding ev
ev-kind standing own ks si oi zero ws b a p k f e = absurd (f refl)
ev-kind standing own ks si oi (suc l) ws b a p k f e = rw (e, sub-one (suc l))

module _ (standing own ks : List ℕ) (si oi : List Span) (l : ℕ) (ws : List ℕ) (b : List Value) (a p : ℕ) where
  pub at-deep : l ≡ 0 → answer Deep p ≡ ev standing own ks si oi l ws b a p
  unfolding ev
  at-deep e = rw e

  module _ (f : l ≡ 0 → ⊥) where
    below : Evaluator
    below = ev standing own ks si oi (l - 1)

    pub at-past : length ws ≤ a → answer (Stuck 0) p ≡ ev standing own ks si oi l ws b a p
    unfolding node kind_of
    at-past h = sym (ev-kind standing own ks si oi l ws b a p Other f (rw (get_or-eq_default ws 0 h)))

    pub at-data : {x : Base} → kind_of (get_or ws a 0) ≡ Data x → answer (Done (record { succs = 0; base = x })) p ≡ ev standing own ks si oi l ws b a p
    unfolding node
    at-data e = sym (ev-kind standing own ks si oi l ws b a p _ f e)

    pub at-var : {v : ℕ} {x : Value} → kind_of (get_or ws a 0) ≡ Var v → x ≡ get_or b v none → answer (Done x) p ≡ ev standing own ks si oi l ws b a p
    unfolding node
    at-var e h = rw h (sym (ev-kind standing own ks si oi l ws b a p _ f e))

    pub at-raise : {w : ℕ} {r : Answer} → kind_of (get_or ws a 0) ≡ Raise → w ≡ get_or ws (a + 1) 0 - 32 → r ≡ pay_of 1 p (Raised w) → r ≡ ev standing own ks si oi l ws b a p
    unfolding node
    at-raise e h g = (rw h at g) ∙ sym (ev-kind standing own ks si oi l ws b a p Raise f e)

    pub at_other : kind_of (get_or ws a 0) ≡ Other → answer (Stuck 0) p ≡ ev standing own ks si oi l ws b a p
    unfolding node
    at_other e = sym (ev-kind standing own ks si oi l ws b a p Other f e)

    module _ {o : Op} {r : Answer} (k : kind_of (get_or ws a 0) ≡ Part o) (hr : r ≡ ev standing own ks si oi (l - 1) ws b (a + 1) p) where
      abbrev turned : Result (Then ℕ) Answer
      turned = turn_of o (get_or ws (place_past ks ws (a + 1) 1) 0 - 32) r

      turned-to : answer_then turned (λ t. ev standing own ks si oi (l - 1) ws b (place_past ks ws (a + 1) t.next) t.left) ≡ ev standing own ks si oi l ws b a p
      unfolding node
      turned-to = rw hr (sym (ev-kind standing own ks si oi l ws b a p (Part o) f k))

      pub at-part-ends : {x : Answer} → Err x ≡ turned → x ≡ ev standing own ks si oi l ws b a p
      unfolding answer_then
      at-part-ends h = rw (← h) at turned-to

      pub at-part-goes : {t : Then ℕ} {m : ℕ} {x : Answer} → Ok t ≡ turned → m ≡ place_past ks ws (a + 1) t.next → x ≡ ev standing own ks si oi (l - 1) ws b m t.left → x ≡ ev standing own ks si oi l ws b a p
      unfolding answer_then
      at-part-goes h hm hx = (rw hm at hx) ∙ (rw (← h) at turned-to)

    -- a call of function k with n arguments, once its first step is paid
    abbrev called : ℕ → ℕ → ℕ → Answer
    called k n q =
        let rs = rules_of standing own si oi k n in
        body_of rs (ev standing own ks si oi (l - 1)) (entered_of rs n (list_of ks (ev standing own ks si oi (l - 1)) ws b n (a + 1) 0 nones q))

    module _ {k : ℕ} (e : kind_of (get_or ws a 0) ≡ Call k) where
      started : answer_then (left_of 1 p) (called k (arguments_of ks (get_or ws a 0))) ≡ ev standing own ks si oi l ws b a p
      unfolding node call_of
      started = sym (ev-kind standing own ks si oi l ws b a p (Call k) f e)

      pub at-call-out : {x : Answer} → Err x ≡ left_of 1 p → x ≡ ev standing own ks si oi l ws b a p
      unfolding answer_then
      at-call-out h = rw (← h) at started

      module _ {q n : ℕ} {x : Result (Then (List Value)) Answer} {rules : List ℕ} (h : Ok q ≡ left_of 1 p) (hn : n ≡ arguments_of ks (get_or ws a 0)) (hx : x ≡ list_of ks (ev standing own ks si oi (l - 1)) ws b n (a + 1) 0 nones q)
          (hl : rules ≡ rules_of standing own si oi k n) where
        entered : body_of rules (ev standing own ks si oi (l - 1)) (entered_of rules n x) ≡ ev standing own ks si oi l ws b a p
        unfolding answer_then
        entered = rw (hx, hl, hn) (rw (← h) at started)

        pub at-call-ends : {z : Answer} → Err z ≡ entered_of rules n x → z ≡ ev standing own ks si oi l ws b a p
        unfolding body_of answer_then
        at-call-ends g = rw (← g) at entered

        pub at-call-goes : {e : Then Found} {z : Answer} → Ok e ≡ entered_of rules n x → z ≡ ev standing own ks si oi (l - 1) rules e.next.b e.next.at e.left → z ≡ ev standing own ks si oi l ws b a p
        unfolding body_of answer_then
        at-call-goes g hz = hz ∙ (rw (← g) at entered)

-- one argument, and the rest of the list
list-more : (ks : List ℕ) (E : Evaluator) (ws : List ℕ) (b : List Value) (n a i : ℕ) (vs : List Value) (p : ℕ) → (n ≡ 0 → ⊥)
    → list_of ks E ws b n a i vs p ≡ result_then (took_of (E ws b a p)) (λ t. list_of ks E ws b (n - 1) (place_past ks ws a 1) (i + 1) (set vs i t.next) t.left)
unfolding list_of
list-more ks E ws b zero a i vs p f = absurd (f refl)
list-more ks E ws b (suc n) a i vs p f = rw (sub-one (suc n))

module _ (ks : List ℕ) (E : Evaluator) (ws : List ℕ) (b : List Value) (n a i : ℕ) (vs : List Value) (p : ℕ) where
  pub list-none : n ≡ 0 → Ok (record { next = vs; left = p }) ≡ list_of ks E ws b n a i vs p
  unfolding list_of
  list-none e = rw e

  module _ {r : Answer} (f : n ≡ 0 → ⊥) (hr : r ≡ E ws b a p) where
    took-to : result_then (took_of r) (λ x. list_of ks E ws b (n - 1) (place_past ks ws a 1) (i + 1) (set vs i x.next) x.left) ≡ list_of ks E ws b n a i vs p
    took-to = rw hr (sym (list-more ks E ws b n a i vs p f))

    pub list-ends : {x : Answer} → Err x ≡ took_of r → Err x ≡ list_of ks E ws b n a i vs p
    unfolding result_then
    list-ends h = rw (← h) at took-to

    pub list-takes : {v : Then Value} {m : ℕ} {x : Result (Then (List Value)) Answer} → Ok v ≡ took_of r → m ≡ place_past ks ws a 1 → x ≡ list_of ks E ws b (n - 1) m (i + 1) (set vs i v.next) v.left
        → x ≡ list_of ks E ws b n a i vs p
    unfolding result_then
    list-takes h hm hx = (rw hm at hx) ∙ (rw (← h) at took-to)

-- the ways in which a term and a list of arguments come to their answer, for the check to look for
pub ruleset level_steps = (at-deep, at-past, at-data, at-var, at-raise, at_other, at-part-ends, at-part-goes, at-call-out, at-call-ends, at-call-goes, list-none, list-ends, list-takes)
