-- The paying evaluator of Budget answers as the cost evaluator of Cost does, cut at the step allowance.
use Prim.Native.Nat.{ℕ, zero, suc, ◌+◌, ◌-◌, ◌<◌, ◌≤◌}
use mathlib.Core.Path.{◌≡◌, refl, sym, ap, ◌∙◌, fun_ext}
use mathlib.Core.Bool.{Bool, true, false}
use mathlib.Core.List.{List, []}
use mathlib.Core.Option.{Option, none, some}
use native.Mathlib.Omega.{arith}
use lib.Dec.{eqb, leb}
use Rattle.theory.specs.Syntax.{zero_b, true_b, false_b, Val, base, up, height, Term, const, succ, tvar, raise, handle, cond, call, Terms, tnil, tcons, Def, Program, Bindings, nothing_bound, pick, choose, Found, chosen}
use Rattle.theory.specs.Endings.{Ending, value, raised, stuck, too_deep, is, out_of_steps, says}
use Rattle.theory.specs.Cost.{paying, after, Evaluating, succ_row, handle_row, if_row, Args, vals, ended, ArgCost, cons_row, arg_row, eval_args, body_row, call_row, eval_term, eval, evaluator}
use Rattle.theory.specs.Budget.{Remaining, ends_leaving, ran_out, pay, then_with, PayingEv, succ_pays, handle_pays, if_pays, cons_pays, arg_pays, pay_args, body_pays, call_pays, pay_term, pay_eval, answered}
use Rattle.theory.proofs.Tests.{leb-true, leb-false, le-of-leb, lt-of-leb}

-- the laws of paying: two charges are their sum, none is nothing, and what follows may be paid for in front
module _ {A : Type 0} where
  pay-yes : (n c : ℕ) (f : ℕ → Remaining A) → c ≤ n → pay n c f ≡ f (n - c)
  pay-yes n c f h = ap (λ (b : Bool). choose b (λ u. f (n - c)) (λ u. ran_out)) (leb-true c n h)

  pay-no : (n c : ℕ) (f : ℕ → Remaining A) → n < c → pay n c f ≡ ran_out
  pay-no n c f h = ap (λ (b : Bool). choose b (λ u. f (n - c)) (λ u. ran_out)) (leb-false c n h)

  pub pay-zero : (n : ℕ) (f : ℕ → Remaining A) → pay n 0 f ≡ f n
  pay-zero n f = pay-yes n 0 f (omega arith) ∙ ap f (omega arith)

  pub pay-pay : (n c d : ℕ) (f : ℕ → Remaining A) → pay n c (λ k. pay k d f) ≡ pay n (c + d) f
  pay-pay n c d f = go (leb c n) refl (leb (c + d) n) refl
    where
      go : (b : Bool) → leb c n ≡ b → (b' : Bool) → leb (c + d) n ≡ b' → pay n c (λ k. pay k d f) ≡ pay n (c + d) f
      go true e true e' =
          let l = le-of-leb c n e in
          let l' = le-of-leb (c + d) n e' in
          pay-yes n c (λ k. pay k d f) l ∙ pay-yes (n - c) d f (omega arith) ∙ ap f (omega arith) ∙ sym (pay-yes n (c + d) f l')
      go true e false e' =
          let l = le-of-leb c n e in
          let l' = lt-of-leb (c + d) n e' in
          pay-yes n c (λ k. pay k d f) l ∙ pay-no (n - c) d f (omega arith) ∙ sym (pay-no n (c + d) f l')
      go false e b' e' =
          let l = lt-of-leb c n e in
          pay-no n c (λ k. pay k d f) l ∙ sym (pay-no n (c + d) f (omega arith))

  paid-as : (n : ℕ) {c d : ℕ} (f : ℕ → Remaining A) → c ≡ d → pay n c f ≡ pay n d f
  paid-as n f e = ap (λ (c : ℕ). pay n c f) e

pub pay-then : {A B : Type 0} (n c : ℕ) (g : ℕ → Remaining A) (f : A → ℕ → Remaining B) → then_with (pay n c g) f ≡ pay n c (λ k. then_with (g k) f)
pay-then n c g f = go (leb c n)
  where
    go : (b : Bool) → then_with (choose b (λ u. g (n - c)) (λ u. ran_out)) f ≡ choose b (λ u. then_with (g (n - c)) f) (λ u. ran_out)
    go true = refl
    go false = refl

-- each step of the one evaluator is the other's, with its charges paid
abbrev Same : Evaluating → PayingEv → Type 0
Same ev evI = (θ : Bindings) (t : Term) (n : ℕ) → evI θ t n ≡ pay n (ev θ t).paid (ends_leaving (ev θ t).ending)

pay-same : (ev : Evaluating) (evI : PayingEv) → Same ev evI → (n c : ℕ) (θ : Bindings) (t : Term) → pay n c (evI θ t) ≡ pay n (c + (ev θ t).paid) (ends_leaving (ev θ t).ending)
pay-same ev evI h n c θ t = ap (pay n c) (fun_ext (λ k. h θ t k)) ∙ pay-pay n c (ev θ t).paid (ends_leaving (ev θ t).ending)

same-succ : (m : Ending) (c n : ℕ) → pay n c (succ_pays m) ≡ pay n (succ_row m c).paid (ends_leaving (succ_row m c).ending)
same-succ (value v) c n = refl
same-succ (raised e) c n = pay-pay n c 1 (ends_leaving (raised e))
same-succ (stuck s) c n = refl
same-succ too_deep c n = refl

same-handle : (ev : Evaluating) (evI : PayingEv) → Same ev evI → (θ : Bindings) (e : ℕ) (h : Term) (m : Ending) (c n : ℕ)
    → pay n c (handle_pays evI θ e h m) ≡ pay n (handle_row ev θ e h m c).paid (ends_leaving (handle_row ev θ e h m c).ending)
same-handle ev evI s θ e h (value v) c n = pay-pay n c (height v + 3) (ends_leaving (value v)) ∙ paid-as n (ends_leaving (value v)) (omega arith)
same-handle ev evI s θ e h (raised d) c n = pay-pay n c 3 (choose (eqb d e) (λ u. evI θ h) (λ u. ends_leaving (raised d))) ∙ go (eqb d e)
  where
    go : (b : Bool)
        → let r = choose b (λ u. after (c + 3) (ev θ h)) (λ u. paying (raised d) (c + 3)) in
        pay n (c + 3) (choose b (λ u. evI θ h) (λ u. ends_leaving (raised d))) ≡ pay n r.paid (ends_leaving r.ending)
    go true = pay-same ev evI s n (c + 3) θ h
    go false = refl
same-handle ev evI s θ e h (stuck x) c n = pay-pay n c (1 + x) (ends_leaving (stuck 0)) ∙ paid-as n (ends_leaving (stuck 0)) (omega arith)
same-handle ev evI s θ e h too_deep c n = refl

same_cond : (ev : Evaluating) (evI : PayingEv) → Same ev evI → (θ : Bindings) (a b : Term) (m : Ending) (c n : ℕ)
    → pay n c (if_pays evI θ a b m) ≡ pay n (if_row ev θ a b m c).paid (ends_leaving (if_row ev θ a b m c).ending)
same_cond ev evI s θ a b (value (base zero_b)) c n = refl
same_cond ev evI s θ a b (value (base true_b)) c n = pay-pay n c 1 (evI θ a) ∙ pay-same ev evI s n (c + 1) θ a
same_cond ev evI s θ a b (value (base false_b)) c n = pay-pay n c 1 (evI θ b) ∙ pay-same ev evI s n (c + 1) θ b
same_cond ev evI s θ a b (value (up v)) c n = refl
same_cond ev evI s θ a b (raised e) c n = pay-pay n c 1 (ends_leaving (raised e))
same_cond ev evI s θ a b (stuck x) c n = refl
same_cond ev evI s θ a b too_deep c n = refl

same-cons : (v : Val) (c : ℕ) (a : Args) (d n : ℕ) → pay n (c + d) (cons_pays v a) ≡ pay n (cons_row v c a d).args_paid (ends_leaving (cons_row v c a d).args)
same-cons v c (vals vs) d n = refl
same-cons v c (ended m) d n = refl

same-arg : (rest : Unit {0} → ArgCost) (rest_i : ℕ → Remaining Args) → ((k : ℕ) → rest_i k ≡ pay k (rest tt).args_paid (ends_leaving (rest tt).args)) → (m : Ending) (c n : ℕ)
    → pay n c (arg_pays rest_i m) ≡ pay n (arg_row rest m c).args_paid (ends_leaving (arg_row rest m c).args)
same-arg rest rest_i h (value v) c n =
    let a = (rest tt).args in
    let d = (rest tt).args_paid in
    pay-pay n c (height v + 3) (λ k. then_with (rest_i k) (cons_pays v))
    ∙ ap (pay n (c + (height v + 3))) (fun_ext (λ k. ap (λ (l : Remaining Args). then_with l (cons_pays v)) (h k) ∙ pay-then k d (ends_leaving a) (cons_pays v)))
    ∙ pay-pay n (c + (height v + 3)) d (cons_pays v a)
    ∙ paid-as n (cons_pays v a) (omega arith)
    ∙ same-cons v (c + height v + 3) a d n
same-arg rest rest_i h (raised e) c n = pay-pay n c 3 (ends_leaving (ended (raised e)))
same-arg rest rest_i h (stuck x) c n = pay-pay n c (1 + x) (ends_leaving (ended (stuck 0))) ∙ paid-as n (ends_leaving (ended (stuck 0))) (omega arith)
same-arg rest rest_i h too_deep c n = refl

same_args : (ev : Evaluating) (evI : PayingEv) → Same ev evI → (θ : Bindings) (ts : Terms) (n : ℕ) → pay_args evI θ ts n ≡ pay n (eval_args ev θ ts).args_paid (ends_leaving (eval_args ev θ ts).args)
same_args ev evI s θ tnil n = sym (pay-zero n (ends_leaving (vals [])))
same_args ev evI s θ (tcons t ts) n =
    let m = (ev θ t).ending in
    let c = (ev θ t).paid in
    ap (λ (l : Remaining Ending). then_with l (arg_pays (pay_args evI θ ts))) (s θ t n)
    ∙ pay-then n c (ends_leaving m) (arg_pays (pay_args evI θ ts))
    ∙ same-arg (λ u. eval_args ev θ ts) (pay_args evI θ ts) (λ k. same_args ev evI s θ ts k) m c n

same_body : (ev : Evaluating) (evI : PayingEv) → Same ev evI → (o : Option Found) (c n : ℕ) → pay n c (body_pays evI o) ≡ pay n (body_row ev c o).paid (ends_leaving (body_row ev c o).ending)
same_body ev evI s none c n = refl
same_body ev evI s (some f) c n = pay-pay n c 1 (evI f.bound f.body) ∙ pay-same ev evI s n (c + 1) f.bound f.body

same-call : (ev : Evaluating) (evI : PayingEv) → Same ev evI → (ds : List Def) (a : Args) (c n : ℕ)
    → pay n (1 + c) (call_pays evI ds a) ≡ pay n (call_row ev ds a c).paid (ends_leaving (call_row ev ds a c).ending)
same-call ev evI s ds (vals vs) c n = same_body ev evI s (chosen ds vs) (1 + c) n
same-call ev evI s ds (ended m) c n = refl

same-term : (P : Program) (ev : Evaluating) (evI : PayingEv) → Same ev evI → Same (eval_term P ev) (pay_term P evI)
same-term P ev evI s θ (const b) n = sym (pay-zero n (ends_leaving (value (base b))))
same-term P ev evI s θ (succ t) n =
    ap (λ (l : Remaining Ending). then_with l succ_pays) (s θ t n) ∙ pay-then n (ev θ t).paid (ends_leaving (ev θ t).ending) succ_pays ∙ same-succ (ev θ t).ending (ev θ t).paid n
same-term P ev evI s θ (tvar x) n = sym (pay-zero n (ends_leaving (value (θ x))))
same-term P ev evI s θ (raise e) n = refl
same-term P ev evI s θ (handle t e h) n =
    ap (λ (l : Remaining Ending). then_with l (handle_pays evI θ e h)) (s θ t n) ∙ pay-then n (ev θ t).paid (ends_leaving (ev θ t).ending) (handle_pays evI θ e h)
    ∙ same-handle ev evI s θ e h (ev θ t).ending (ev θ t).paid n
same-term P ev evI s θ (cond t a b) n =
    ap (λ (l : Remaining Ending). then_with l (if_pays evI θ a b)) (s θ t n) ∙ pay-then n (ev θ t).paid (ends_leaving (ev θ t).ending) (if_pays evI θ a b)
    ∙ same_cond ev evI s θ a b (ev θ t).ending (ev θ t).paid n
same-term P ev evI s θ (call k ts) n =
    let ds = (P.fun k).defs in
    let a = (eval_args ev θ ts).args in
    let c = (eval_args ev θ ts).args_paid in
    ap (pay n 1) (fun_ext (λ m. ap (λ (l : Remaining Args). then_with l (call_pays evI ds)) (same_args ev evI s θ ts m) ∙ pay-then m c (ends_leaving a) (call_pays evI ds)))
    ∙ pay-pay n 1 c (call_pays evI ds a)
    ∙ same-call ev evI s ds a c n

pub same-eval : (P : Program) (L : ℕ) → Same (eval P L) (pay_eval P L)
unfolding eval pay_eval
same-eval P zero θ t n = sym (pay-zero n (ends_leaving too_deep))
same-eval P (suc L) θ t n = same-term P (eval P L) (pay_eval P L) (same-eval P L) θ t n

-- so the two answer alike
pub same_answer : (P : Program) (levels n : ℕ) (q : Term) → answered n (pay_eval P levels nothing_bound q n) ≡ evaluator P levels n q
unfolding evaluator
same_answer P levels n q =
    let r = eval P levels nothing_bound q in
    ap (answered n) (same-eval P levels nothing_bound q n) ∙ go r.ending r.paid (leb r.paid n) refl
  where
    go : (m : Ending) (c : ℕ) (b : Bool) → leb c n ≡ b
        → answered n (choose b (λ u. ends_leaving m (n - c)) (λ u. ran_out)) ≡ pick b (says (is m) c) (says out_of_steps n)
    go m c true e = let l = le-of-leb c n e in ap (says (is m)) (omega arith)
    go m c false e = refl
