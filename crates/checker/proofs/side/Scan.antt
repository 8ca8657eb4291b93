-- The laws of the scan of a side: what one record makes of it, and that its fuel is always enough.
use Prim.Native.Nat.{ℕ, zero, suc, ◌+◌, ◌-◌, ◌≤◌, ◌<◌}
use mathlib.Core.Path.{◌≡◌, refl, sym, ap, subst, ◌∙◌}
use mathlib.Core.Bool.{Bool, true, false}
use mathlib.Core.List.{List}
use native.Mathlib.Omega.{arith}
use lib.Dec.{leb}
use lib.ListN.{length, get_or, set}
use borrow.Author.Tests.{le-leb, lt-leb}
use Rattle.std.specs.Prelude.{Option, Some, None, Result, Ok, Err}
use Rattle.theory.specs.Syntax.{pick, choose}
use Rattle.theory.specs.Bytes
use Rattle.theory.specs.Bytes.{refused, good, TermRecord, constant_record, succ_record, if_record, variable_record, raise_record, handle_record, call_record}
use Rattle.checker.specs.declared.side.Stand.{Stand}
use Rattle.checker.specs.declared.side.Stand.TheVariants.{Left, Right, Asked}
use Rattle.record.specs.declared.Record.{Record}
use Rattle.checker.specs.declared.side.Step.{Step}
use Rattle.checker.specs.declared.side.Side.{Side}
use Rattle.checker.specs.declared.refusal.Reason.{Reason}
use Rattle.checker.specs.declared.refusal.Reason.TheVariants.{BytesEnd, TooManyWords}
use Rattle.checker.specs.declared.refusal.Refusal.{Refusal}
use Rattle.checker.specs.Refusal.{refuse}
use Rattle.record.specs.Record.{record_at}
use Rattle.checker.specs.Node.{tok_at}
use Rattle.checker.specs.Side.{taken, admitted, step_of, most_of, on_step, on_record, scan, scan_from}
use Rattle.record.proofs.Laws.{record-fits}

pub most-small : (m : Stand) → most_of m ≤ 512
unfolding most_of
most-small Left = omega arith
most-small Right = omega arith
most-small Asked = omega arith

-- a record that is let in has a word at least
Worded : Result Step Reason → Type 0
Worded (Err e) = Unit {0}
Worded (Ok r) = 0 < r.words

taken-worded : (t : TermRecord) (s : List Bool) → Worded (taken t s)
unfolding Worded
taken-worded (constant_record b) s = omega arith
taken-worded succ_record s = omega arith
taken-worded if_record s = omega arith
taken-worded (variable_record x) s = omega arith
taken-worded (raise_record e) s = omega arith
taken-worded (handle_record e) s = omega arith
taken-worded (call_record k n) s = omega arith

pick-worded : (b : Bool) (x y : Result Step Reason) → Worded x → Worded y → Worded (pick b x y)
pick-worded true x y h k = h
pick-worded false x y h k = k

worded : (m : Stand) (s : List Bool) (t : TermRecord) → Worded (admitted m s t)
unfolding admitted Worded
worded Left s (constant_record b) = taken-worded (constant_record b) s
worded Left s succ_record = taken-worded succ_record s
worded Left s if_record = tt
worded Left s (variable_record x) = pick-worded (get_or s x false) _ _ tt (taken-worded (variable_record x) (set s x true))
worded Left s (raise_record e) = tt
worded Left s (handle_record e) = tt
worded Left s (call_record k n) = tt
worded Right s (constant_record b) = taken-worded (constant_record b) s
worded Right s succ_record = taken-worded succ_record s
worded Right s if_record = taken-worded if_record s
worded Right s (variable_record x) = pick-worded (get_or s x false) _ _ (taken-worded (variable_record x) s) tt
worded Right s (raise_record e) = taken-worded (raise_record e) s
worded Right s (handle_record e) = taken-worded (handle_record e) s
worded Right s (call_record k n) = taken-worded (call_record k n) s
worded Asked s (constant_record b) = taken-worded (constant_record b) s
worded Asked s succ_record = taken-worded succ_record s
worded Asked s if_record = taken-worded if_record s
worded Asked s (variable_record x) = tt
worded Asked s (raise_record e) = taken-worded (raise_record e) s
worded Asked s (handle_record e) = taken-worded (handle_record e) s
worded Asked s (call_record k n) = taken-worded (call_record k n) s

step-worded-any : (m : Stand) (s : List Bool) (t : Bytes.Result TermRecord) → Worded (step_of m s t)
unfolding step_of Worded
step-worded-any m s (refused x) = tt
step-worded-any m s (good t) = worded m s t

pub step-worded : (m : Stand) (s : List Bool) (t : Bytes.Result TermRecord) (r : Step) → Ok r ≡ step_of m s t → 0 < r.words
unfolding Worded
step-worded m s t r e = subst Worded (sym e) (step-worded-any m s t)

pub choose-same : {A : Type 0} (b : Bool) (x y x' y' : Unit {0} → A) → (b ≡ true → x tt ≡ x' tt) → (b ≡ false → y tt ≡ y' tt) → choose b x y ≡ choose b x' y'
choose-same true x y x' y' h k = h refl
choose-same false x y x' y' h k = k refl

step_same : (go go' : List Bool → ℕ → ℕ → ℕ → Result Side Refusal) (most due count p n : ℕ) (t : Result Step Reason)
    → ((s : List Bool) (d c : ℕ) → go s d c (p + n) ≡ go' s d c (p + n)) → on_step go most due count p n t ≡ on_step go' most due count p n t
unfolding on_step
step_same go go' most due count p n (Err r) h = refl
step_same go go' most due count p n (Ok t) h =
    choose-same (leb (count + t.words) most) _ _ _ _ (λ f. h t.seen (t.parts + due) (count + t.words)) (λ f. refl)

-- what one step makes of the scan
module _ (go : List Bool → ℕ → ℕ → ℕ → Result Side Refusal) (most due count p n : ℕ) (t : Step) where
  step-big : most < count + t.words → on_step go most due count p n (Ok t) ≡ refuse TooManyWords p
  unfolding on_step
  step-big h = rw (lt-leb (count + t.words) most h)

  step-on : count + t.words ≤ most → on_step go most due count p n (Ok t) ≡ go t.seen (t.parts + due) (count + t.words) (p + n)
  unfolding on_step
  step-on h = rw (le-leb (count + t.words) most h)

module _ (n : ℕ) (ns ws : List ℕ) where
  record_same : (go go' : List Bool → ℕ → ℕ → ℕ → Result Side Refusal) (m : Stand) (s : List Bool) (due count p : ℕ) (o : Option Record)
      → ((r : Record) → o ≡ Some r → (s' : List Bool) (d c : ℕ) → go s' d c (p + r.len) ≡ go' s' d c (p + r.len)) → on_record n ns ws go m s due count p o ≡ on_record n ns ws go' m s due count p o
  unfolding on_record
  record_same go go' m s due count p None h = refl
  record_same go go' m s due count p (Some r) h = step_same go go' (most_of m) due count p r.len _ (h r refl)

  -- any fuel above the number of bytes left is enough
  pub scan-fuel : (f g : ℕ) (m : Stand) (s : List Bool) (due count p : ℕ) → length ws - p < f → length ws - p < g → scan n ns ws f m s due count p ≡ scan n ns ws g m s due count p
  unfolding scan
  scan-fuel zero g m s due count p h k = absurd (omega arith)
  scan-fuel (suc f) zero m s due count p h k = absurd (omega arith)
  scan-fuel (suc f) (suc g) m s zero count p h k = refl
  scan-fuel (suc f) (suc g) m s (suc due) count p h k =
      record_same (scan n ns ws f m) (scan n ns ws g m) m s due count p (record_at ws p)
      (λ r e s' d c. let l = record-fits ws p r e in scan-fuel f g m s' d c (p + r.len) (omega (arith, l)) (omega (arith, l)))

  module _ (m : Stand) (s : List Bool) (count p : ℕ) where
    pub scan-none : scan_from n ns ws m s 0 count p ≡ Ok (record { at = p; seen = s })
    unfolding scan_from scan
    scan-none = refl

    opened : (d : ℕ) → 0 < d → scan_from n ns ws m s d count p ≡ on_record n ns ws (scan n ns ws (length ws - p) m) m s (d - 1) count p (record_at ws p)
    unfolding scan_from scan
    opened zero h = absurd (omega arith)
    opened (suc d) h =
        let z : d ≡ suc d - 1 = omega arith in
        ap (λ i. on_record n ns ws (scan n ns ws (length ws - p) m) m s i count p (record_at ws p)) z

    module _ (due : ℕ) (owed : 0 < due) where
      scan-opened : (o : Option Record) → o ≡ record_at ws p → scan_from n ns ws m s due count p ≡ on_record n ns ws (scan n ns ws (length ws - p) m) m s (due - 1) count p o
      scan-opened o e = opened due owed ∙ ap (on_record n ns ws (scan n ns ws (length ws - p) m) m s (due - 1) count p) (sym e)

      pub scan-ends : None ≡ record_at ws p → scan_from n ns ws m s due count p ≡ refuse BytesEnd p
      unfolding on_record
      scan-ends e = scan-opened None e

      module _ (r : Record) (read : Some r ≡ record_at ws p) where
        scan-stepped : (t : Result Step Reason) → t ≡ step_of m s (tok_at n ns p r.kind r.body) → scan_from n ns ws m s due count p ≡ on_step (scan n ns ws (length ws - p) m) (most_of m) (due - 1) count p r.len t
        unfolding on_record
        scan-stepped t e = scan-opened (Some r) read ∙ ap (on_step (scan n ns ws (length ws - p) m) (most_of m) (due - 1) count p r.len) (sym e)

        pub scan-refused : (x : Reason) → Err x ≡ step_of m s (tok_at n ns p r.kind r.body) → scan_from n ns ws m s due count p ≡ refuse x p
        unfolding on_step
        scan-refused x e = scan-stepped (Err x) e

        module _ (t : Step) (over : Ok t ≡ step_of m s (tok_at n ns p r.kind r.body)) where
          pub scan-big : most_of m < count + t.words → scan_from n ns ws m s due count p ≡ refuse TooManyWords p
          scan-big h = scan-stepped (Ok t) over ∙ step-big _ _ _ _ _ _ t h

          pub scan-on : count + t.words ≤ most_of m → scan_from n ns ws m s due count p ≡ scan_from n ns ws m t.seen (due - 1 + t.parts) (count + t.words) (p + r.len)
          unfolding scan_from
          scan-on h =
              let z : t.parts + (due - 1) ≡ due - 1 + t.parts = omega arith in
              let l = record-fits ws p r (sym read) in
              let f : length ws - (p + r.len) < length ws - p = omega (arith, l) in
              let g : length ws - (p + r.len) < suc (length ws - (p + r.len)) = omega arith in
              scan-stepped (Ok t) over ∙ step-on _ _ _ _ _ _ t h ∙ ap (λ d. scan n ns ws (length ws - p) m t.seen d (count + t.words) (p + r.len)) z
              ∙ scan-fuel (length ws - p) (suc (length ws - (p + r.len))) m t.seen (due - 1 + t.parts) (count + t.words) (p + r.len) f g
