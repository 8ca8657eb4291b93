-- The evaluator (document 004, definitions 3.3 and 3.4), with the steps that each term costs and the levels that it may go down.
-- `eval L θ t` is what t comes to with L levels left, t's own among them, and the steps that it has paid. No allowance of steps
-- cuts it: that is `cut` below. Document 01's table has a row for each of the functions named ..Row.
use Rattle.std.specs.Prelude.{ℕ, zero, suc, ◌+◌, List, [], ◌∷◌, eqb, leb}
use Rattle.std.proofs.Math.Option.{Option, none, some}
use Rattle.theory.specs.Syntax.{zero_b, true_b, false_b, Val, base, up, height, Term, const, succ, tvar, raise, handle, cond, call, Terms, tnil, tcons, Def, Program, Bindings, choose, Found, chosen, nothing_bound, pick}
use Rattle.theory.specs.Endings.{Ending, value, raised, stuck, too_deep, is, out_of_steps, Answer, says}

-- an ending and the steps paid
pub record Cost : Type 0 where
  pub ending : Ending
  pub paid : ℕ

abbrev pub paying : Ending → ℕ → Cost
paying m c = record { ending = m; paid = c }

abbrev pub after : ℕ → Cost → Cost
after c r = paying r.ending (c + r.paid)

-- what evaluates a part
abbrev pub Evaluating : Type 0
Evaluating = Bindings → Term → Cost

-- succ: "c; one more if the part raised; stuck adds 1 to s"
abbrev pub succ_row : Ending → ℕ → Cost
succ_row (value v) c = paying (value (up v)) c
succ_row (raised e) c = paying (raised e) (c + 1)
succ_row (stuck s) c = paying (stuck (suc s)) c
succ_row too_deep c = paying too_deep c

-- handle: "part is a value: c+k+3; part raised: c+3, plus the handler's if the exception is equal; part stuck: c+1+s, stuck, s becomes 0"
abbrev pub handle_row : Evaluating → Bindings → ℕ → Term → Ending → ℕ → Cost
handle_row ev θ e h (value v) c = paying (value v) (c + height v + 3)
handle_row ev θ e h (raised d) c = choose (eqb d e) (λ u. after (c + 3) (ev θ h)) (λ u. paying (raised d) (c + 3))
handle_row ev θ e h (stuck s) c = paying (stuck 0) (c + 1 + s)
handle_row ev θ e h too_deep c = paying too_deep c

-- if: "True or False: c+1, plus the chosen part's; raised: c+1; other value, or stuck: c, stuck, s = 0"
abbrev pub if_row : Evaluating → Bindings → Term → Term → Ending → ℕ → Cost
if_row ev θ a b (value (base true_b)) c = after (c + 1) (ev θ a)
if_row ev θ a b (value (base false_b)) c = after (c + 1) (ev θ b)
if_row ev θ a b (value (base zero_b)) c = paying (stuck 0) c
if_row ev θ a b (value (up v)) c = paying (stuck 0) c
if_row ev θ a b (raised e) c = paying (raised e) (c + 1)
if_row ev θ a b (stuck s) c = paying (stuck 0) c
if_row ev θ a b too_deep c = paying too_deep c

-- what a list of arguments comes to: its values, or the ending of the first that has none
pub data Args : Type 0 where
  vals : List Val → Args
  ended : Ending → Args

pub record ArgCost : Type 0 where
  pub args : Args
  pub args_paid : ℕ

abbrev pub paying_args : Args → ℕ → ArgCost
paying_args m c = record { args = m; args_paid = c }

-- call: "1, then per argument value c+k+3; raised: c+3 and end; stuck: c+1+s and end with s = 0; a fit: 1 plus the right side's;
-- no fit: stuck, s = 0". Here the argument in turn and those behind it:
abbrev pub cons_row : Val → ℕ → Args → ℕ → ArgCost
cons_row v c (vals vs) d = paying_args (vals (v ∷ vs)) (c + d)
cons_row v c (ended m) d = paying_args (ended m) (c + d)

abbrev pub arg_row : (Unit {0} → ArgCost) → Ending → ℕ → ArgCost
arg_row rest (value v) c = let r = rest tt in cons_row v (c + height v + 3) r.args r.args_paid
arg_row rest (raised e) c = paying_args (ended (raised e)) (c + 3)
arg_row rest (stuck s) c = paying_args (ended (stuck 0)) (c + 1 + s)
arg_row rest too_deep c = paying_args (ended too_deep) c

abbrev pub eval_args : Evaluating → Bindings → Terms → ArgCost
eval_args ev θ tnil = paying_args (vals []) 0
eval_args ev θ (tcons t ts) = let r = ev θ t in arg_row (λ (u : Unit {0}). eval_args ev θ ts) r.ending r.paid

-- then the rule that fits, and the whole call
abbrev pub body_row : Evaluating → ℕ → Option Found → Cost
body_row ev c none = paying (stuck 0) c
body_row ev c (some f) = after (c + 1) (ev f.bound f.body)

abbrev pub call_row : Evaluating → List Def → Args → ℕ → Cost
call_row ev ds (vals vs) c = body_row ev (1 + c) (chosen ds vs)
call_row ev ds (ended m) c = paying m (1 + c)

module _ (P : Program) where
  -- "0, True, False, variable: 0"; "raise: 1"; the others by their rows
  abbrev pub eval_term : Evaluating → Bindings → Term → Cost
  eval_term ev θ (const b) = paying (value (base b)) 0
  eval_term ev θ (succ t) = let r = ev θ t in succ_row r.ending r.paid
  eval_term ev θ (tvar x) = paying (value (θ x)) 0
  eval_term ev θ (raise e) = paying (raised e) 1
  eval_term ev θ (handle t e h) = let r = ev θ t in handle_row ev θ e h r.ending r.paid
  eval_term ev θ (cond t a b) = let r = ev θ t in if_row ev θ a b r.ending r.paid
  eval_term ev θ (call k ts) = let r = eval_args ev θ ts in call_row ev (P.fun k).defs r.args r.args_paid

  -- "Entering a level past the allowance ends at once: too deep, with the steps paid so far."
  unfoldable pub eval : ℕ → Evaluating
  eval zero θ t = paying too_deep 0
  eval (suc L) θ t = eval_term (eval L) θ t

-- "A charge past the step allowance ends at once: out of steps, count = allowance."
abbrev pub cut : ℕ → Cost → Answer
cut n r = pick (leb r.paid n) (says (is r.ending) r.paid) (says out_of_steps n)

unfoldable pub evaluator : Program → ℕ → ℕ → Term → Answer
evaluator P levels n q = cut n (eval P levels nothing_bound q)
