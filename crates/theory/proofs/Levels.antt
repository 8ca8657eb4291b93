-- More levels change no ending but `too_deep`.
use Prim.Native.Nat.{ℕ, zero, suc, ◌+◌, ◌≤◌}
use mathlib.Core.Path.{◌≡◌, refl, sym, ap, subst}
use mathlib.Core.Bool.{Bool, true, false}
use mathlib.Core.List.{List}
use mathlib.Core.Option.{Option, none, some}
use native.Mathlib.Nat.{le_of_suc-le-suc, not-suc-le-zero}
use lib.Dec.{eqb}
use Rattle.theory.specs.Syntax.{zero_b, true_b, false_b, Val, base, up, height, Term, const, succ, tvar, raise, handle, cond, call, Terms, tnil, tcons, Def, Program, Bindings, choose, Found, chosen}
use Rattle.theory.specs.Endings.{Ending, value, raised, stuck, too_deep}
use Rattle.theory.specs.Cost.{Cost, paying, after, Evaluating, succ_row, handle_row, if_row, Args, vals, ended, ArgCost, paying_args, cons_row, arg_row, eval_args, body_row, call_row, eval_term, eval}

-- a result that is not `too_deep` is kept
abbrev pub Keeps : Ending → ℕ → Cost → Type 0
Keeps (value v) c r = r ≡ paying (value v) c
Keeps (raised e) c r = r ≡ paying (raised e) c
Keeps (stuck s) c r = r ≡ paying (stuck s) c
Keeps too_deep c r = Unit {0}

keeps-after : (m : Ending) (c d : ℕ) (r : Cost) → Keeps m d r → Keeps m (c + d) (after c r)
keeps-after (value v) c d r k = ap (after c) k
keeps-after (raised e) c d r k = ap (after c) k
keeps-after (stuck s) c d r k = ap (after c) k
keeps-after too_deep c d r k = tt

-- every term, not only this one: what one evaluator keeps of the other
abbrev Better : Evaluating → Evaluating → Type 0
Better ev ev' = (θ : Bindings) (t : Term) → Keeps (ev θ t).ending (ev θ t).paid (ev' θ t)

-- what follows a result that is kept: the same step made by both
keep-succ : (m : Ending) (c : ℕ) (r : Cost) → Keeps m c r → Keeps (succ_row m c).ending (succ_row m c).paid (succ_row r.ending r.paid)
keep-succ (value v) c r k = ap (λ (x : Cost). succ_row x.ending x.paid) k
keep-succ (raised e) c r k = ap (λ (x : Cost). succ_row x.ending x.paid) k
keep-succ (stuck s) c r k = ap (λ (x : Cost). succ_row x.ending x.paid) k
keep-succ too_deep c r k = tt

keep-choice : (ev ev' : Evaluating) (θ : Bindings) (h : Term) (d c : ℕ) → Better ev ev' → (b : Bool)
    → let r = choose b (λ u. after (c + 3) (ev θ h)) (λ u. paying (raised d) (c + 3)) in
    Keeps r.ending r.paid (choose b (λ u. after (c + 3) (ev' θ h)) (λ u. paying (raised d) (c + 3)))
keep-choice ev ev' θ h d c bt true = keeps-after (ev θ h).ending (c + 3) (ev θ h).paid (ev' θ h) (bt θ h)
keep-choice ev ev' θ h d c bt false = refl

keep-handle : (ev ev' : Evaluating) (θ : Bindings) (e : ℕ) (h : Term) (m : Ending) (c : ℕ) (r : Cost) → Better ev ev' → Keeps m c r
    → Keeps (handle_row ev θ e h m c).ending (handle_row ev θ e h m c).paid (handle_row ev' θ e h r.ending r.paid)
keep-handle ev ev' θ e h (value v) c r bt k = ap (λ (x : Cost). handle_row ev' θ e h x.ending x.paid) k
keep-handle ev ev' θ e h (raised d) c r bt k =
    let g = handle_row ev θ e h (raised d) c in
    subst (λ (x : Cost). Keeps g.ending g.paid (handle_row ev' θ e h x.ending x.paid)) (sym k) (keep-choice ev ev' θ h d c bt (eqb d e))
keep-handle ev ev' θ e h (stuck s) c r bt k = ap (λ (x : Cost). handle_row ev' θ e h x.ending x.paid) k
keep-handle ev ev' θ e h too_deep c r bt k = tt

keep-cond : (ev ev' : Evaluating) (θ : Bindings) (a b : Term) (m : Ending) (c : ℕ) (r : Cost) → Better ev ev' → Keeps m c r
    → Keeps (if_row ev θ a b m c).ending (if_row ev θ a b m c).paid (if_row ev' θ a b r.ending r.paid)
keep-cond ev ev' θ a b (value (base zero_b)) c r bt k = ap (λ (x : Cost). if_row ev' θ a b x.ending x.paid) k
keep-cond ev ev' θ a b (value (base true_b)) c r bt k =
    let g = after (c + 1) (ev θ a) in
    subst (λ (x : Cost). Keeps g.ending g.paid (if_row ev' θ a b x.ending x.paid)) (sym k)
    (keeps-after (ev θ a).ending (c + 1) (ev θ a).paid (ev' θ a) (bt θ a))
keep-cond ev ev' θ a b (value (base false_b)) c r bt k =
    let g = after (c + 1) (ev θ b) in
    subst (λ (x : Cost). Keeps g.ending g.paid (if_row ev' θ a b x.ending x.paid)) (sym k)
    (keeps-after (ev θ b).ending (c + 1) (ev θ b).paid (ev' θ b) (bt θ b))
keep-cond ev ev' θ a b (value (up v)) c r bt k = ap (λ (x : Cost). if_row ev' θ a b x.ending x.paid) k
keep-cond ev ev' θ a b (raised e) c r bt k = ap (λ (x : Cost). if_row ev' θ a b x.ending x.paid) k
keep-cond ev ev' θ a b (stuck s) c r bt k = ap (λ (x : Cost). if_row ev' θ a b x.ending x.paid) k
keep-cond ev ev' θ a b too_deep c r bt k = tt

abbrev KeepsA : Args → ℕ → ArgCost → Type 0
KeepsA (vals vs) c r = r ≡ paying_args (vals vs) c
KeepsA (ended (value v)) c r = r ≡ paying_args (ended (value v)) c
KeepsA (ended (raised e)) c r = r ≡ paying_args (ended (raised e)) c
KeepsA (ended (stuck s)) c r = r ≡ paying_args (ended (stuck s)) c
KeepsA (ended too_deep) c r = Unit {0}

keep-cons : (v : Val) (c : ℕ) (a : Args) (d : ℕ) (r : ArgCost) → KeepsA a d r
    → KeepsA (cons_row v c a d).args (cons_row v c a d).args_paid (cons_row v c r.args r.args_paid)
keep-cons v c (vals vs) d r k = ap (λ (x : ArgCost). cons_row v c x.args x.args_paid) k
keep-cons v c (ended (value w)) d r k = ap (λ (x : ArgCost). cons_row v c x.args x.args_paid) k
keep-cons v c (ended (raised e)) d r k = ap (λ (x : ArgCost). cons_row v c x.args x.args_paid) k
keep-cons v c (ended (stuck s)) d r k = ap (λ (x : ArgCost). cons_row v c x.args x.args_paid) k
keep-cons v c (ended too_deep) d r k = tt

keep-arg : (rest rest' : Unit {0} → ArgCost) (m : Ending) (c : ℕ) (r : Cost) → KeepsA (rest tt).args (rest tt).args_paid (rest' tt) → Keeps m c r
    → KeepsA (arg_row rest m c).args (arg_row rest m c).args_paid (arg_row rest' r.ending r.paid)
keep-arg rest rest' (value v) c r ks k =
    let g = arg_row rest (value v) c in
    subst (λ (x : Cost). KeepsA g.args g.args_paid (arg_row rest' x.ending x.paid)) (sym k)
    (keep-cons v (c + height v + 3) (rest tt).args (rest tt).args_paid (rest' tt) ks)
keep-arg rest rest' (raised e) c r ks k = ap (λ (x : Cost). arg_row rest' x.ending x.paid) k
keep-arg rest rest' (stuck s) c r ks k = ap (λ (x : Cost). arg_row rest' x.ending x.paid) k
keep-arg rest rest' too_deep c r ks k = tt

keep-args : (ev ev' : Evaluating) (θ : Bindings) (ts : Terms) → Better ev ev' → KeepsA (eval_args ev θ ts).args (eval_args ev θ ts).args_paid (eval_args ev' θ ts)
keep-args ev ev' θ tnil bt = refl
keep-args ev ev' θ (tcons t ts) bt =
    keep-arg (λ u. eval_args ev θ ts) (λ u. eval_args ev' θ ts) (ev θ t).ending (ev θ t).paid (ev' θ t) (keep-args ev ev' θ ts bt) (bt θ t)

keep_body : (ev ev' : Evaluating) (c : ℕ) (o : Option Found) → Better ev ev' → Keeps (body_row ev c o).ending (body_row ev c o).paid (body_row ev' c o)
keep_body ev ev' c none bt = refl
keep_body ev ev' c (some f) bt =
    let r = ev f.bound f.body in
    keeps-after r.ending (c + 1) r.paid (ev' f.bound f.body) (bt f.bound f.body)

keep-call : (ev ev' : Evaluating) (ds : List Def) (a : Args) (c : ℕ) (r : ArgCost) → Better ev ev' → KeepsA a c r
    → Keeps (call_row ev ds a c).ending (call_row ev ds a c).paid (call_row ev' ds r.args r.args_paid)
keep-call ev ev' ds (vals vs) c r bt k =
    let g = body_row ev (1 + c) (chosen ds vs) in
    subst (λ (x : ArgCost). Keeps g.ending g.paid (call_row ev' ds x.args x.args_paid)) (sym k) (keep_body ev ev' (1 + c) (chosen ds vs) bt)
keep-call ev ev' ds (ended (value v)) c r bt k = ap (λ (x : ArgCost). call_row ev' ds x.args x.args_paid) k
keep-call ev ev' ds (ended (raised e)) c r bt k = ap (λ (x : ArgCost). call_row ev' ds x.args x.args_paid) k
keep-call ev ev' ds (ended (stuck s)) c r bt k = ap (λ (x : ArgCost). call_row ev' ds x.args x.args_paid) k
keep-call ev ev' ds (ended too_deep) c r bt k = tt

keep-term : (P : Program) (ev ev' : Evaluating) (θ : Bindings) (t : Term) → Better ev ev'
    → Keeps (eval_term P ev θ t).ending (eval_term P ev θ t).paid (eval_term P ev' θ t)
keep-term P ev ev' θ (const b) bt = refl
keep-term P ev ev' θ (succ t) bt = keep-succ (ev θ t).ending (ev θ t).paid (ev' θ t) (bt θ t)
keep-term P ev ev' θ (tvar x) bt = refl
keep-term P ev ev' θ (raise e) bt = refl
keep-term P ev ev' θ (handle t e h) bt = keep-handle ev ev' θ e h (ev θ t).ending (ev θ t).paid (ev' θ t) bt (bt θ t)
keep-term P ev ev' θ (cond t a b) bt = keep-cond ev ev' θ a b (ev θ t).ending (ev θ t).paid (ev' θ t) bt (bt θ t)
keep-term P ev ev' θ (call k ts) bt =
    keep-call ev ev' (P.fun k).defs (eval_args ev θ ts).args (eval_args ev θ ts).args_paid (eval_args ev' θ ts) bt (keep-args ev ev' θ ts bt)

pub more-levels : (P : Program) (L L' : ℕ) → L ≤ L' → (θ : Bindings) (t : Term) → Keeps (eval P L θ t).ending (eval P L θ t).paid (eval P L' θ t)
unfolding eval
more-levels P zero L' h θ t = tt
more-levels P (suc L) zero h θ t = absurd (not-suc-le-zero h)
more-levels P (suc L) (suc L') h θ t = keep-term P (eval P L) (eval P L') θ t (more-levels P L L' (le_of_suc-le-suc h))
