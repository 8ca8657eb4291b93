-- The evaluator as document 01 puts it in words: it is handed the steps that are left, each charge is paid before what follows it is
-- entered, and a charge past what is left ends at once.
use Rattle.std.specs.Prelude.{ℕ, zero, suc, ◌+◌, ◌-◌, List, [], ◌∷◌, eqb, leb}
use Rattle.std.proofs.Math.Option.{Option, none, some}
use Rattle.theory.specs.Syntax.{zero_b, true_b, false_b, Val, base, up, height, Term, const, succ, tvar, raise, handle, cond, call, Terms, tnil, tcons, Def, Program, Bindings, choose, Found, chosen}
use Rattle.theory.specs.Endings.{Ending, value, raised, stuck, too_deep, is, out_of_steps, Answer, says}
use Rattle.theory.specs.Cost.{Args, vals, ended}

-- what came of it and the steps left; or the steps ran out
pub data Remaining (A : Type 0) : Type 0 where
  ends_leaving : A → ℕ → Remaining A
  ran_out : Remaining A

abbrev pub pay : {A : Type 0} → ℕ → ℕ → (ℕ → Remaining A) → Remaining A
pay n c next = choose (leb c n) (λ u. next (n - c)) (λ u. ran_out)

abbrev pub then_with : {A B : Type 0} → Remaining A → (A → ℕ → Remaining B) → Remaining B
then_with (ends_leaving a n) f = f a n
then_with ran_out f = ran_out

abbrev pub PayingEv : Type 0
PayingEv = Bindings → Term → ℕ → Remaining Ending

abbrev pub succ_pays : Ending → ℕ → Remaining Ending
succ_pays (value v) n = ends_leaving (value (up v)) n
succ_pays (raised e) n = pay n 1 (ends_leaving (raised e))
succ_pays (stuck s) n = ends_leaving (stuck (suc s)) n
succ_pays too_deep n = ends_leaving too_deep n

abbrev pub handle_pays : PayingEv → Bindings → ℕ → Term → Ending → ℕ → Remaining Ending
handle_pays ev θ e h (value v) n = pay n (height v + 3) (ends_leaving (value v))
handle_pays ev θ e h (raised d) n = pay n 3 (choose (eqb d e) (λ u. ev θ h) (λ u. ends_leaving (raised d)))
handle_pays ev θ e h (stuck s) n = pay n (1 + s) (ends_leaving (stuck 0))
handle_pays ev θ e h too_deep n = ends_leaving too_deep n

abbrev pub if_pays : PayingEv → Bindings → Term → Term → Ending → ℕ → Remaining Ending
if_pays ev θ a b (value (base zero_b)) n = ends_leaving (stuck 0) n
if_pays ev θ a b (value (base true_b)) n = pay n 1 (ev θ a)
if_pays ev θ a b (value (base false_b)) n = pay n 1 (ev θ b)
if_pays ev θ a b (value (up v)) n = ends_leaving (stuck 0) n
if_pays ev θ a b (raised e) n = pay n 1 (ends_leaving (raised e))
if_pays ev θ a b (stuck s) n = ends_leaving (stuck 0) n
if_pays ev θ a b too_deep n = ends_leaving too_deep n

abbrev pub cons_pays : Val → Args → ℕ → Remaining Args
cons_pays v (vals vs) n = ends_leaving (vals (v ∷ vs)) n
cons_pays v (ended m) n = ends_leaving (ended m) n

abbrev pub arg_pays : (ℕ → Remaining Args) → Ending → ℕ → Remaining Args
arg_pays rest (value v) n = pay n (height v + 3) (λ k. then_with (rest k) (cons_pays v))
arg_pays rest (raised e) n = pay n 3 (ends_leaving (ended (raised e)))
arg_pays rest (stuck s) n = pay n (1 + s) (ends_leaving (ended (stuck 0)))
arg_pays rest too_deep n = ends_leaving (ended too_deep) n

abbrev pub pay_args : PayingEv → Bindings → Terms → ℕ → Remaining Args
pay_args ev θ tnil n = ends_leaving (vals []) n
pay_args ev θ (tcons t ts) n = then_with (ev θ t n) (arg_pays (pay_args ev θ ts))

abbrev pub body_pays : PayingEv → Option Found → ℕ → Remaining Ending
body_pays ev none n = ends_leaving (stuck 0) n
body_pays ev (some f) n = pay n 1 (ev f.bound f.body)

abbrev pub call_pays : PayingEv → List Def → Args → ℕ → Remaining Ending
call_pays ev ds (vals vs) n = body_pays ev (chosen ds vs) n
call_pays ev ds (ended m) n = ends_leaving m n

module _ (P : Program) where
  abbrev pub pay_term : PayingEv → PayingEv
  pay_term ev θ (const b) n = ends_leaving (value (base b)) n
  pay_term ev θ (succ t) n = then_with (ev θ t n) succ_pays
  pay_term ev θ (tvar x) n = ends_leaving (value (θ x)) n
  pay_term ev θ (raise e) n = pay n 1 (ends_leaving (raised e))
  pay_term ev θ (handle t e h) n = then_with (ev θ t n) (handle_pays ev θ e h)
  pay_term ev θ (cond t a b) n = then_with (ev θ t n) (if_pays ev θ a b)
  pay_term ev θ (call k ts) n = pay n 1 (λ m. then_with (pay_args ev θ ts m) (call_pays ev (P.fun k).defs))

  unfoldable pub pay_eval : ℕ → PayingEv
  pay_eval zero θ t n = ends_leaving too_deep n
  pay_eval (suc L) θ t n = pay_term (pay_eval L) θ t n

abbrev pub answered : ℕ → Remaining Ending → Answer
answered n (ends_leaving m left) = says (is m) (n - left)
answered n ran_out = says out_of_steps n
