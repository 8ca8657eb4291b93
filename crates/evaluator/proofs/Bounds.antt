-- The bounds: what is bound was paid for, so no count of succ signs passes the steps allowed by more than the levels.
use mathlib.Core.Path.{◌≡◌, refl, sym, subst}
use mathlib.Core.Bool.{Bool, true, false}
use mathlib.Core.List.{List, [], ◌∷◌}
use Prim.Native.Nat.{ℕ, zero, suc, ◌+◌, ◌-◌, ◌≤◌, ◌<◌}
use native.Mathlib.Omega.{arith}
use lib.Dec.{eqb, ltb, leb}
use borrow.Author.Tests.{leb-true}
use Rattle.theory.proofs.Lists.{copies-same}
use Rattle.theory.proofs.Tests.{pick-any}
use Rattle.std.specs.Prelude.{Option, Some, None}
use Rattle.std.specs.Option.{IfSome, option_map, option_or}
use Rattle.std.specs.Prelude.{Result, Ok, Err}
use Rattle.std.specs.Result.{MatchResult}
use Rattle.words.specs.Base.{word_of}
use Rattle.words.specs.declared.base.Base.{Base}
use Rattle.words.specs.declared.base.Base.TheVariants.{Zero, True, False}
use Rattle.evaluator.specs.declared.values.Value.{Value}
use Rattle.evaluator.specs.declared.values.Ending.{Ending}
use Rattle.evaluator.specs.declared.values.Ending.TheVariants.{Done, Raised, Stuck, Out, Deep}
use Rattle.evaluator.specs.declared.values.Answer.{Answer}
use Rattle.evaluator.specs.declared.rows.Then.{Then}
use Rattle.evaluator.specs.declared.places.Op.{Op}
use Rattle.evaluator.specs.declared.places.Op.TheVariants.{Succ, Handle, If}
use Rattle.evaluator.specs.declared.fitting.Found.{Found}
use Rattle.evaluator.specs.declared.fitting.Binding.{Binding}
use Rattle.evaluator.specs.declared.fitting.Fitted.{Fitted}
use Rattle.theory.specs.Syntax.{pick}
use Rattle.evaluator.specs.Values.{answer, none, nones, most, size, Small}
use Rattle.evaluator.specs.Rows.{answer_then, result_then, left_of, pay_of, go_of, after_succ, after_guard, chosen_part, after_test, turn_of, after_arg, took_of}
use Rattle.evaluator.specs.Fitting.{fit_node, fit_word, fit_in, bind, fit_then, fits_of, found_at, rule_of, found_in, next_rule, found_from}
use Rattle.evaluator.specs.Evaluation.{Fine, FineThen, FineList, found_then, entered_of}
use lib.ListN.{get_or, set, length, take}

-- what is known of what goes on, and of what ends
fine-ok : {A : Type 0} (P : A → Type 0) (l z : ℕ) {t : Result A Answer} {x : A} → MatchResult t P (Fine l z) → Ok x ≡ t → P x
fine-ok P l z f e = rw (← e) at f

fine-err : {A : Type 0} (P : A → Type 0) (l z : ℕ) {t : Result A Answer} {r : Answer} → MatchResult t P (Fine l z) → Err r ≡ t → Fine l z r
fine-err P l z f e = rw (← e) at f

pub plain : (l z : ℕ) (x : Ending) (p : ℕ) → size x ≤ most + l → p ≤ z → Fine l z (answer x p)
plain l z x p s q = record { few = s; steps = q }

pub fine_up : (l m y z : ℕ) (r : Answer) → l ≤ m → y ≤ z → Fine l y r → Fine m z r
fine_up l m y z r h g f = record { few = omega (arith, f.few); steps = omega (arith, f.steps) }

pay-fine : (l z c p : ℕ) (x : Ending) → size x ≤ most + l → p ≤ z → Fine l z (pay_of c p x)
unfolding pay_of left_of answer_then
pay-fine l z c p x s q = pick-any (λ r. Fine l z (answer_then r (answer x))) (leb c p) _ _ (plain l z x (p - c) s (omega arith)) (plain l z Out 0 (omega arith) (omega arith))

pub paid-fine : (l z c p : ℕ) (x : Ending) {r : Answer} → r ≡ pay_of c p x → size x ≤ most + l → p ≤ z → Fine l z r
paid-fine l z c p x e s q = rw e (pay-fine l z c p x s q)

-- what is left of the steps once some are paid
left-fine : (l c p : ℕ) → MatchResult (left_of c p) (λ q. q ≤ p) (Fine l p)
unfolding left_of
left-fine l c p = pick-any (λ r. MatchResult r (λ n. n ≤ p) (Fine l p)) (leb c p) _ _ (omega arith) (plain l p Out 0 (omega arith) (omega arith))

pub left-goes : (c p : ℕ) {q : ℕ} → Ok q ≡ left_of c p → q ≤ p
left-goes c p e = fine-ok (λ n. n ≤ p) 0 p (left-fine 0 c p) e

pub left-ends : (l c p : ℕ) {r : Answer} → Err r ≡ left_of c p → Fine l p r
left-ends l c p e = fine-err (λ n. n ≤ p) l p (left-fine l c p) e

-- where it goes on, what follows was paid for
go-fine : {A : Type 0} (P : A → Type 0) (l z c p : ℕ) (x : A) → p ≤ z → (c ≤ p → P x) → FineThen P l z (go_of c p x)
unfolding go_of left_of result_then
go-fine {A} P l z c p x q h = by (leb c p) refl
  where
    by : (t : Bool) → leb c p ≡ t → FineThen P l z (result_then (pick t (Ok (p - c)) (Err (answer Out 0))) (λ r. Ok (record { next = x; left = r })))
    by true e = (omega arith, h (leb-true c p e))
    by false e = plain l z Out 0 (omega arith) (omega arith)

-- after a part: so many parts further
abbrev FineTurn : ℕ → ℕ → Result (Then ℕ) Answer → Type 0
FineTurn = FineThen (λ n. Unit {0})

module _ (l m z : ℕ) (h : l < m) where
  succ-fine : (x : Ending) (p : ℕ) → size x ≤ most + l → p ≤ z → Fine m z (after_succ x p)
  unfolding after_succ
  succ-fine (Done v) p s q = record { few = omega arith; steps = q }
  succ-fine (Raised y) p s q = pay-fine m z 1 p (Raised y) (omega arith) q
  succ-fine (Stuck t) p s q = record { few = omega arith; steps = q }
  succ-fine Out p s q = plain m z Out p (omega arith) q
  succ-fine Deep p s q = plain m z Deep p (omega arith) q

  guard-fine : (e : ℕ) (x : Ending) (p : ℕ) → size x ≤ most + l → p ≤ z → FineTurn m z (after_guard e x p)
  unfolding after_guard
  guard-fine e (Done v) p s q = pay-fine m z (v.succs + 3) p (Done v) (omega arith) q
  guard-fine e (Raised y) p s q = pick-any (FineTurn m z) (eqb y e) _ _ (go-fine _ m z 3 p 2 q (λ g. tt)) (pay-fine m z 3 p (Raised y) (omega arith) q)
  guard-fine e (Stuck t) p s q = pay-fine m z (1 + t) p (Stuck 0) (omega arith) q
  guard-fine e Out p s q = plain m z Out p (omega arith) q
  guard-fine e Deep p s q = plain m z Deep p (omega arith) q

  part-fine : (b : Base) (p : ℕ) → p ≤ z → FineTurn m z (chosen_part b p)
  part-fine Zero p q = plain m z (Stuck 0) p (omega arith) q
  part-fine True p q = go-fine _ m z 1 p 1 q (λ g. tt)
  part-fine False p q = go-fine _ m z 1 p 2 q (λ g. tt)

  test-fine : (x : Ending) (p : ℕ) → size x ≤ most + l → p ≤ z → FineTurn m z (after_test x p)
  unfolding after_test
  test-fine (Done v) p s q = pick-any (FineTurn m z) (eqb v.succs 0) _ _ (part-fine v.base p q) (plain m z (Stuck 0) p (omega arith) q)
  test-fine (Raised y) p s q = pay-fine m z 1 p (Raised y) (omega arith) q
  test-fine (Stuck t) p s q = plain m z (Stuck 0) p (omega arith) q
  test-fine Out p s q = plain m z Out p (omega arith) q
  test-fine Deep p s q = plain m z Deep p (omega arith) q

  turn-fine : (o : Op) (e : ℕ) (r : Answer) → Fine l z r → FineTurn m z (turn_of o e r)
  unfolding turn_of
  turn-fine Succ e r f = succ-fine r.end r.left f.few f.steps
  turn-fine Handle e r f = guard-fine e r.end r.left f.few f.steps
  turn-fine If e r f = test-fine r.end r.left f.few f.steps

pub turn-goes : (l z : ℕ) (o : Op) (e : ℕ) (r : Answer) {t : Then ℕ} → Fine l z r → Ok t ≡ turn_of o e r → t.left ≤ z
turn-goes l z o e r f g = (fine-ok _ (l + 1) z (turn-fine l (l + 1) z (omega arith) o e r f) g).0

pub turn-ends : (l m z : ℕ) (o : Op) (e : ℕ) (r : Answer) {x : Answer} → Fine l z r → Err x ≡ turn_of o e r → l < m → Fine m z x
turn-ends l m z o e r f g h = fine-err _ m z (turn-fine l m z h o e r f) g

-- a value that is taken was paid for
abbrev FineTook : ℕ → ℕ → Result (Then Value) Answer → Type 0
FineTook l z = FineThen (λ v. v.succs ≤ z) l z

arg-fine : (l z : ℕ) (x : Ending) (p : ℕ) → size x ≤ most + l → p ≤ z → FineTook l z (after_arg x p)
unfolding after_arg
arg-fine l z (Done v) p s q = go-fine _ l z (v.succs + 3) p v q (λ g. omega arith)
arg-fine l z (Raised y) p s q = pay-fine l z 3 p (Raised y) (omega arith) q
arg-fine l z (Stuck t) p s q = pay-fine l z (1 + t) p (Stuck 0) (omega arith) q
arg-fine l z Out p s q = plain l z Out p (omega arith) q
arg-fine l z Deep p s q = plain l z Deep p (omega arith) q

took-fine : (l z : ℕ) (r : Answer) → Fine l z r → FineTook l z (took_of r)
unfolding took_of
took-fine l z r f = arg-fine l z r.end r.left f.few f.steps

pub took-goes : (l z : ℕ) (r : Answer) {t : Then Value} → Fine l z r → Ok t ≡ took_of r → (t.left ≤ z) × (t.next.succs ≤ z)
took-goes l z r f e = fine-ok _ l z (took-fine l z r f) e

pub took-ends : (l z : ℕ) (r : Answer) {x : Answer} → Fine l z r → Err x ≡ took_of r → Fine l z x
took-ends l z r f e = fine-err _ l z (took-fine l z r f) e

pub small-nones : Small nones
small-nones i = subst (λ (v : Value). v.succs ≤ most) (sym (copies-same 8 i none)) (omega arith)

pub small-set : (b : List Value) (i : ℕ) (v : Value) → Small b → v.succs ≤ most → Small (set b i v)
small-set [] i v s h j = s j
small-set (x ∷ b) zero v s h zero = h
small-set (x ∷ b) zero v s h (suc j) = s (suc j)
small-set (x ∷ b) (suc i) v s h zero = s 0
small-set (x ∷ b) (suc i) v s h (suc j) = small-set b i v (λ k. s (suc k)) h j

-- a value that a pattern binds is a part of the value that it fits
abbrev SmallFit : Option Fitted → Type 0
SmallFit o = IfSome o (λ f. IfSome f.binding (λ x. x.value.succs ≤ most))

node-small : (k : ℕ) (x : Base) (a : ℕ) (up : Option Fitted) (w : ℕ) → k ≤ most → SmallFit up → SmallFit (fit_node k x a up w)
unfolding fit_word
node-small k x a up w h u =
    pick-any SmallFit (eqb w 2) _ _ u
    (pick-any SmallFit (ltb w 64) _ _ (pick-any SmallFit (eqb k 0) _ _ (pick-any SmallFit (eqb (word_of x) w) _ _ tt tt) tt) h)

fit-small : (rs : List ℕ) (x : Base) (k a : ℕ) → k ≤ most → SmallFit (fit_in rs x k a)
unfolding fit_in
fit-small rs x zero a h = node-small 0 x a None (get_or rs a 0) h tt
fit-small rs x (suc k) a h = node-small (suc k) x a (fit_in rs x k (a + 1)) (get_or rs a 0) h (fit-small rs x k (a + 1) (omega arith))

bind-small : (b : List Value) (o : Option Binding) → Small b → IfSome o (λ x. x.value.succs ≤ most) → Small (bind b o)
bind-small b None s h = s
bind-small b (Some x) s h = small-set b x.slot x.value s h

-- what is found is bound to parts of values that were bound before
fits-small : (rs : List ℕ) (a : ℕ) (vs b : List Value) → Small vs → Small b → IfSome (fits_of rs a vs b) Small
unfolding fits_of
fits-small rs a [] b h s = s
fits-small rs a (v ∷ vs) b h s =
    by (λ c d g. fits-small rs c vs d (λ i. h (suc i)) g) (fit_in rs v.base v.succs a) (fit-small rs v.base v.succs a (h 0))
  where
    by : ((c : ℕ) (d : List Value) → Small d → IfSome (fits_of rs c vs d) Small) → (o : Option Fitted) → SmallFit o → IfSome (fit_then o (λ f. fits_of rs f.at vs (bind b f.binding))) Small
    by more None u = tt
    by more (Some f) u = more f.at (bind b f.binding) (bind-small b f.binding s u)

abbrev SmallB : Option Found → Type 0
SmallB o = IfSome o (λ f. Small f.b)

rule-small : (rs : List ℕ) (vs : List Value) (a : ℕ) → Small vs → SmallB (rule_of rs vs a)
unfolding rule_of
rule-small rs vs a h = by (fits_of rs (a + 3) vs nones) (fits-small rs (a + 3) vs nones h small-nones)
  where
    by : (o : Option (List Value)) → IfSome o Small → SmallB (option_map (found_at (a + 2 + get_or rs a 0)) o)
    by None s = tt
    by (Some b) s = s

or-small : (o p : Option Found) → SmallB o → SmallB p → SmallB (option_or o p)
or-small None p s t = t
or-small (Some f) p s t = s

found-small : (rs : List ℕ) (vs : List Value) (c a : ℕ) → Small vs → SmallB (found_in rs vs c a)
unfolding found_in
found-small rs vs zero a h = tt
found-small rs vs (suc c) a h =
    pick-any SmallB (ltb a (length rs)) _ _ (or-small _ _ (rule-small rs vs a h) (found-small rs vs c (next_rule rs a) h)) tt

from-small : (rs : List ℕ) (vs : List Value) (a : ℕ) → Small vs → SmallB (found_from rs vs a)
unfolding found_from
from-small rs vs a h = found-small rs vs (length rs - a) a h

-- the first of some small values
small-take : (n : ℕ) (vs : List Value) → Small vs → Small (take n vs)
small-take zero vs h i = omega arith
small-take (suc n) [] h i = h i
small-take (suc n) (v ∷ vs) h zero = h 0
small-take (suc n) (v ∷ vs) h (suc i) = small-take n vs (λ j. h (suc j)) i

-- what l levels and p steps allow before a right side
abbrev FineEntered : ℕ → ℕ → Result (Then Found) Answer → Type 0
FineEntered = FineThen (λ f. Small f.b)

found-fine : (l z p : ℕ) (o : Option Found) → p ≤ z → SmallB o → FineEntered l z (found_then o p)
found-fine l z p None q s = plain l z (Stuck 0) p (omega arith) q
found-fine l z p (Some f) q s = go-fine _ l z 1 p f q (λ g. s)

enter-fine : (l z : ℕ) (rs : List ℕ) (n : ℕ) (x : Result (Then (List Value)) Answer) → FineList l z x → FineEntered l z (entered_of rs n x)
unfolding entered_of result_then
enter-fine l z rs n (Ok x) f = found-fine l z x.left (found_from rs (take n x.next) 0) f.0 (from-small rs (take n x.next) 0 (small-take n x.next f.1))
enter-fine l z rs n (Err r) f = f

pub enter-goes : (l z : ℕ) (rs : List ℕ) (n : ℕ) (x : Result (Then (List Value)) Answer) {e : Then Found} → FineList l z x → Ok e ≡ entered_of rs n x → (e.left ≤ z) × Small e.next.b
enter-goes l z rs n x f g = fine-ok _ l z (enter-fine l z rs n x f) g

pub enter-ends : (l z : ℕ) (rs : List ℕ) (n : ℕ) (x : Result (Then (List Value)) Answer) {r : Answer} → FineList l z x → Err r ≡ entered_of rs n x → Fine l z r
enter-ends l z rs n x f g = fine-err _ l z (enter-fine l z rs n x f) g

pub list_up : (l y z : ℕ) (x : Result (Then (List Value)) Answer) → y ≤ z → FineList l y x → FineList l z x
list_up l y z (Ok x) h f = (omega arith, f.1)
list_up l y z (Err r) h f = fine_up l l y z r (omega arith) h f

-- the bounds of what each call gives, for the check to look for
pub ruleset bound_steps = (plain, paid-fine, left-goes, left-ends, turn-goes, turn-ends, took-goes, took-ends, enter-goes, enter-ends, fine_up, list_up, small-nones, small-set)
