-- The scan of a side is the theory's `side`.
use Prim.Native.Nat.{ℕ, zero, suc, ◌+◌, ◌≤◌}
use mathlib.Core.Path.{◌≡◌, refl, ◌∙◌}
use mathlib.Core.Bool.{Bool, true, false}
use mathlib.Core.List.{List, ◌∷◌}
use native.Mathlib.Omega.{arith}
use lib.Dec.{leb}
use lib.ListN.{get_or, drop, set}
use lib.Seq.{drop-drop}
use Rattle.std.specs.Prelude.{Result, Err}
use Rattle.theory.specs.Syntax.{elem, pick, choose}
use Rattle.theory.specs.Bytes.{TermRecord, constant_record, succ_record, if_record, variable_record, raise_record, handle_record, call_record, record_parts, record_words, NextRecord, none_left, cut_short, next_is, next_record, refused, good, refuse, if_good, term_record, Where, on_left, on_right, in_question, allowed, ceiling, add_record, read_term_record, read_side}
use Rattle.theory.specs.Bytes
use Rattle.checker.specs.declared.side.Step.{Step}
use Rattle.checker.specs.declared.side.Side.{Side}
use Rattle.checker.specs.declared.refusal.Reason.{Reason}
use Rattle.checker.specs.declared.refusal.Reason.TheVariants.{VariableTwice, VariableUnknown}
use Rattle.checker.specs.declared.refusal.Refusal.{Refusal}
use Rattle.checker.specs.Refusal.{reason_of}
use Rattle.checker.specs.Answer.{declared}
use Rattle.record.specs.Record.{record_of, record_at}
use Rattle.checker.specs.Node.{tok_at}
use Rattle.checker.proofs.node.Laws.{Marked, tok-marked}
use Rattle.checker.specs.Side.{taken, admitted, step_of, most_of, on_step, on_record, scan, stand_of, bits, seen_in, side_of}
use Rattle.record.proofs.Laws.{Behind, behind}

-- eight booleans
bits-get : (xs : List ℕ) (x : ℕ) → x ≤ 7 → get_or (bits xs) x false ≡ elem x xs
bits-get xs zero h = refl
bits-get xs (suc zero) h = refl
bits-get xs (suc (suc zero)) h = refl
bits-get xs (suc (suc (suc zero))) h = refl
bits-get xs (suc (suc (suc (suc zero)))) h = refl
bits-get xs (suc (suc (suc (suc (suc zero))))) h = refl
bits-get xs (suc (suc (suc (suc (suc (suc zero)))))) h = refl
bits-get xs (suc (suc (suc (suc (suc (suc (suc zero))))))) h = refl
bits-get xs (suc (suc (suc (suc (suc (suc (suc (suc x)))))))) h = absurd (omega arith)

bits-set : (xs : List ℕ) (x : ℕ) → x ≤ 7 → set (bits xs) x true ≡ bits (x ∷ xs)
bits-set xs zero h = refl
bits-set xs (suc zero) h = refl
bits-set xs (suc (suc zero)) h = refl
bits-set xs (suc (suc (suc zero))) h = refl
bits-set xs (suc (suc (suc (suc zero)))) h = refl
bits-set xs (suc (suc (suc (suc (suc zero))))) h = refl
bits-set xs (suc (suc (suc (suc (suc (suc zero)))))) h = refl
bits-set xs (suc (suc (suc (suc (suc (suc (suc zero))))))) h = refl
bits-set xs (suc (suc (suc (suc (suc (suc (suc (suc x)))))))) h = absurd (omega arith)

-- what the theory allows is what the step takes
abbrev Allows : Where → ℕ → TermRecord → Bytes.Result Where → Result Step Reason → Type 0
Allows w p t (refused r) s = (r.place ≡ p) × (s ≡ Err (reason_of r.number))
Allows w p t (good w') s = (stand_of w' ≡ stand_of w) × (s ≡ taken t (seen_in w'))

left-var : (xs : List ℕ) (p x : ℕ) (b : Bool) → x ≤ 7 → Allows (on_left xs) p (variable_record x) (pick b (refuse 6 p) (good (on_left (x ∷ xs)))) (pick b (Err VariableTwice) (taken (variable_record x) (set (bits xs) x true)))
left-var xs p x true h = (refl, refl)
left-var xs p x false h = (refl, rw (bits-set xs x h))

right-var : (xs : List ℕ) (p x : ℕ) (b : Bool) → Allows (on_right xs) p (variable_record x) (pick b (good (on_right xs)) (refuse 7 p)) (pick b (taken (variable_record x) (bits xs)) (Err VariableUnknown))
right-var xs p x true = (refl, refl)
right-var xs p x false = (refl, refl)

allows : (w : Where) (p : ℕ) (t : TermRecord) → Marked p (good t) → Allows w p t (allowed w p t) (admitted (stand_of w) (seen_in w) t)
unfolding admitted
allows (on_left xs) p (constant_record b) h = (refl, refl)
allows (on_left xs) p succ_record h = (refl, refl)
allows (on_left xs) p if_record h = (refl, refl)
allows (on_left xs) p (variable_record x) h = rw (bits-get xs x h) (left-var xs p x (elem x xs) h)
allows (on_left xs) p (raise_record e) h = (refl, refl)
allows (on_left xs) p (handle_record e) h = (refl, refl)
allows (on_left xs) p (call_record k n) h = (refl, refl)
allows (on_right xs) p (constant_record b) h = (refl, refl)
allows (on_right xs) p succ_record h = (refl, refl)
allows (on_right xs) p if_record h = (refl, refl)
allows (on_right xs) p (variable_record x) h = rw (bits-get xs x h) (right-var xs p x (elem x xs))
allows (on_right xs) p (raise_record e) h = (refl, refl)
allows (on_right xs) p (handle_record e) h = (refl, refl)
allows (on_right xs) p (call_record k n) h = (refl, refl)
allows in_question p (constant_record b) h = (refl, refl)
allows in_question p succ_record h = (refl, refl)
allows in_question p if_record h = (refl, refl)
allows in_question p (variable_record x) h = (refl, refl)
allows in_question p (raise_record e) h = (refl, refl)
allows in_question p (handle_record e) h = (refl, refl)
allows in_question p (call_record k n) h = (refl, refl)

same-ceiling : (w : Where) → ceiling w ≡ most_of (stand_of w)
unfolding most_of
same-ceiling (on_left xs) = refl
same-ceiling (on_right xs) = refl
same-ceiling in_question = refl

-- a side's answer is the scan's, and what stands behind a side are the bytes from its end on
module _ (n : ℕ) (ns ws : List ℕ) where
  abbrev pub Stays : ℕ → Bytes.Result Bytes.Side → Type 0
  Stays p (refused r) = Unit {0}
  Stays p (good s) = (s.rest ≡ drop s.from ws) × (p ≤ s.from)

  abbrev pub Same : ℕ → Bytes.Result Bytes.Side → Result Side Refusal → Type 0
  Same p r o = (side_of r ≡ o) × Stays p r

  add-tok : (p q : ℕ) (t : TermRecord) (r : Bytes.Result Bytes.Side) (o : Result Side Refusal) → p ≤ q → Same q r o → Same p (if_good r (add_record t)) o
  add-tok p q t (refused r) o l h = h
  add-tok p q t (good s) o l h = (h.0, (h.1.0, omega (arith, h.1.1)))

  choose-same : (b : Bool) (p : ℕ) (x y : Unit {0} → Bytes.Result Bytes.Side) (x' y' : Unit {0} → Result Side Refusal) → Same p (x tt) (x' tt) → Same p (y tt) (y' tt) → Same p (choose b x y) (choose b x' y')
  choose-same true p x y x' y' h k = h
  choose-same false p x y x' y' h k = k

  module _ (f : ℕ) (w : Where) (due count p i : ℕ) (bs : List ℕ) (behind : bs ≡ drop (p + i) ws)
      (more : (w' : Where) (d c q : ℕ) → Same q (read_side (declared n ns) f w' d c q (drop q ws)) (scan n ns ws f (stand_of w') (seen_in w') d c q)) where
    on-allowed : (t : TermRecord) (r : Bytes.Result Where) (s : Result Step Reason) → Allows w p t r s
        → Same p (if_good r (λ w'. choose (leb (count + record_words t) (ceiling w)) (λ u. if_good (read_side (declared n ns) f w' (record_parts t + due) (count + record_words t) (p + i) bs) (add_record t)) (λ u. refuse 8 p)))
        (on_step (scan n ns ws f (stand_of w)) (most_of (stand_of w)) due count p i s)
    unfolding on_step
    on-allowed t (refused r) s h =
        (rw (h.1, h.0), tt)
    on-allowed t (good w') s h =
        rw (h.1, ← same-ceiling w, ← h.0, behind)
        (choose-same (leb (count + record_words t) (ceiling w)) p _ _ _ _
        (add-tok p (p + i) t (read_side (declared n ns) f w' (record_parts t + due) (count + record_words t) (p + i) (drop (p + i) ws))
        (scan n ns ws f (stand_of w') (seen_in w') (record_parts t + due) (count + record_words t) (p + i)) (omega arith) (more w' (record_parts t + due) (count + record_words t) (p + i)))
        (refl, tt))

    on-tok : (t : Bytes.Result TermRecord) → Marked p t
        → Same p (if_good t (λ t. if_good (allowed w p t) (λ w'. choose (leb (count + record_words t) (ceiling w)) (λ u. if_good (read_side (declared n ns) f w' (record_parts t + due) (count + record_words t) (p + i) bs) (add_record t)) (λ u. refuse 8 p))))
        (on_step (scan n ns ws f (stand_of w)) (most_of (stand_of w)) due count p i (step_of (stand_of w) (seen_in w) t))
    unfolding step_of on_step
    on-tok (refused r) h = (rw h, tt)
    on-tok (good t) h = on-allowed t (allowed w p t) _ (allows w p t h)

  on-next : (f : ℕ) (w : Where) (due count p : ℕ) (o : NextRecord) → Behind (drop p ws) o
      → ((w' : Where) (d c q : ℕ) → Same q (read_side (declared n ns) f w' d c q (drop q ws)) (scan n ns ws f (stand_of w') (seen_in w') d c q))
      → Same p (read_term_record (declared n ns) (read_side (declared n ns) f) w due count p o) (on_record n ns ws (scan n ns ws f (stand_of w)) (stand_of w) (seen_in w) due count p (record_of o))
  unfolding on_record tok_at
  on-next f w due count p none_left b more = (refl, tt)
  on-next f w due count p cut_short b more = (refl, tt)
  on-next f w due count p (next_is k x c i bs) b more = on-tok f w due count p i bs (b.0 ∙ drop-drop i p ws) more (tok_at n ns p k x) (tok-marked n ns p k x)

  pub scan-is-side : (f : ℕ) (w : Where) (due count p : ℕ) → Same p (read_side (declared n ns) f w due count p (drop p ws)) (scan n ns ws f (stand_of w) (seen_in w) due count p)
  unfolding scan record_at
  scan-is-side zero w zero count p = (refl, (refl, omega arith))
  scan-is-side zero w (suc due) count p = (refl, tt)
  scan-is-side (suc f) w zero count p = (refl, (refl, omega arith))
  scan-is-side (suc f) w (suc due) count p = on-next f w due count p (next_record (drop p ws)) (behind (drop p ws)) (λ w' d c q. scan-is-side f w' d c q)
