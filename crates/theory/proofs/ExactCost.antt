-- WHAT A TERM TAKES, EXACTLY, from what its parts take: the levels with which it ends and without which it is too deep, and the steps. Every term
-- that ends takes some.
use Prim.Native.Nat.{ℕ, zero, suc, ◌+◌, max, ◌≤◌, ◌<◌}
use mathlib.Core.Path.{◌≡◌, refl, sym, ap, ◌∙◌, subst}
use mathlib.Core.Logic.{◌⊎◌, inl, inr}
use mathlib.Core.Bool.{Bool, true, false, false≢true}
use mathlib.Core.List.{List, [], ◌∷◌}
use mathlib.Core.Option.{none, some}
use native.Mathlib.Omega.{arith}
use lib.Dec.{leb}
use Rattle.theory.specs.Syntax.{Base, Val, base, up, height, Term, const, succ, tvar, cond, call, Terms, tnil, tcons, Program, Bindings, nothing_bound, Found, chosen, pick}
use Rattle.theory.specs.Endings.{Ending, value, raised, stuck, too_deep, is, out_of_steps, says, Final}
use Rattle.theory.specs.Cost.{Cost, paying, after, succ_row, if_row, Args, vals, ended, ArgCost, paying_args, cons_row, arg_row, eval_args, body_row, call_row, eval, cut, evaluator}
use Rattle.theory.specs.Arithmetic.{flag, written, asked}
use Rattle.theory.specs.Allowances.{Costs, Takes, call_steps}
use Rattle.theory.proofs.Tests.{leb-true, leb-false, enough-or-not}
use Rattle.theory.proofs.Levels.{Keeps, more-levels}

abbrev is_deep : Ending → Bool
is_deep (value v) = false
is_deep (raised e) = false
is_deep (stuck s) = false
is_deep too_deep = true

module _ (P : Program) where
  -- the same said with other numbers
  pub costs-so : {θ : Bindings} {t : Term} {l l' : ℕ} {m m' : Ending} {c c' : ℕ} → l ≡ l' → m ≡ m' → c ≡ c' → Costs P θ t l m c → Costs P θ t l' m' c'
  costs-so {θ} {t} {l} {l'} {m} {m'} {c} {c'} el em ec h =
      subst (λ (x : ℕ). Costs P θ t x m' c') el (subst (λ (x : Ending). Costs P θ t l x c') em (subst (λ (x : ℕ). Costs P θ t l m x) ec h))

  pub takes-so : {k : ℕ} {v w : Val} {l l' : ℕ} {m m' : Ending} {c c' : ℕ} → l ≡ l' → m ≡ m' → c ≡ c' → Takes P k v w l m c → Takes P k v w l' m' c'
  takes-so {k} {v} {w} {l} {l'} {m} {m'} {c} {c'} el em ec h =
      subst (λ (x : ℕ). Takes P k v w x m' c') el (subst (λ (x : Ending). Takes P k v w l x c') em (subst (λ (x : ℕ). Takes P k v w l m x) ec h))

  -- a term has its own level, and so many are taken below it
  own-level : {θ : Bindings} {t : Term} {m : Ending} {c : ℕ} (l : ℕ) → ((L : ℕ) → l ≤ L → eval P (suc L) θ t ≡ paying m c)
      → ((L : ℕ) → L < l → (eval P (suc L) θ t).ending ≡ too_deep) → Costs P θ t (1 + l) m c
  unfolding eval
  own-level {θ} {t} {m} {c} l enough fewer = record { ends = ends; deep = deep }
    where
      ends : (L : ℕ) → 1 + l ≤ L → eval P L θ t ≡ paying m c
      ends zero h = absurd (omega (arith, h))
      ends (suc L) h = enough L (omega (arith, h))

      deep : (L : ℕ) → L < 1 + l → (eval P L θ t).ending ≡ too_deep
      deep zero h = refl
      deep (suc L) h = fewer L (omega (arith, h))

  -- a constant, a variable: no steps
  pub constant-costs : {θ : Bindings} (b : Base) → Costs P θ (const b) 1 (value (base b)) 0
  unfolding eval
  constant-costs b = own-level 0 (λ L h. refl) (λ L h. absurd (omega (arith, h)))

  pub variable-costs : {θ : Bindings} (i : ℕ) → Costs P θ (tvar i) 1 (value (θ i)) 0
  unfolding eval
  variable-costs i = own-level 0 (λ L h. refl) (λ L h. absurd (omega (arith, h)))

  -- succ: the part's
  pub succ-costs : {θ : Bindings} {t : Term} {l c : ℕ} {v : Val} → Costs P θ t l (value v) c → Costs P θ (succ t) (1 + l) (value (up v)) c
  unfolding eval
  succ-costs {θ} {t} {l} part =
      own-level l (λ L h. ap (λ (r : Cost). succ_row r.ending r.paid) (part.ends L h)) (λ L h. ap (λ (m : Ending). (succ_row m (eval P L θ t).paid).ending) (part.deep L h))

  -- if: a step, and the part that the test picks
  pub if-costs : {θ : Bindings} {t s u : Term} {l l' c d : ℕ} {m : Ending} (b : Bool) → Costs P θ t l (value (flag b)) c → Costs P θ (pick b s u) l' m d
      → Costs P θ (cond t s u) (1 + max l l') m (c + 1 + d)
  unfolding eval
  if-costs {θ} {t} {s} {u} {l} {l'} {c} {d} {m} b test part =
      own-level (max l l') (λ L h. tested L (omega (arith, h)) ∙ ap (after (c + 1)) (part.ends L (omega (arith, h)))) (λ L h. below L h (enough-or-not l L))
    where
      picked : (b : Bool) (L : ℕ) → if_row (eval P L) θ s u (value (flag b)) c ≡ after (c + 1) (eval P L θ (pick b s u))
      picked true L = refl
      picked false L = refl

      tested : (L : ℕ) → l ≤ L → eval P (suc L) θ (cond t s u) ≡ after (c + 1) (eval P L θ (pick b s u))
      tested L h = ap (λ (r : Cost). if_row (eval P L) θ s u r.ending r.paid) (test.ends L h) ∙ picked b L

      below : (L : ℕ) → L < max l l' → (l ≤ L) ⊎ (L < l) → (eval P (suc L) θ (cond t s u)).ending ≡ too_deep
      below L h (inl k) = ap (λ (r : Cost). r.ending) (tested L k) ∙ part.deep L (omega (arith, h, k))
      below L h (inr k) = ap (λ (r : Ending). (if_row (eval P L) θ s u r (eval P L θ t).paid).ending) (test.deep L k)

  -- THE ARGUMENTS OF A CALL: their values, where each has its levels
  pub record ArgsCost (θ : Bindings) (ts : Terms) (l : ℕ) (vs : List Val) (c : ℕ) : Type 0 where
    pub ends : (L : ℕ) → l ≤ L → eval_args (eval P L) θ ts ≡ paying_args (vals vs) c
    pub deep : (L : ℕ) → L < l → (eval_args (eval P L) θ ts).args ≡ ended too_deep

  pub no-argument-costs : {θ : Bindings} → ArgsCost θ tnil 0 [] 0
  no-argument-costs = record { ends = λ L h. refl; deep = λ L h. absurd (omega (arith, h)) }

  pub one-more-costs : {θ : Bindings} {t : Term} {ts : Terms} {l l' c d : ℕ} {v : Val} {vs : List Val} → Costs P θ t l (value v) c → ArgsCost θ ts l' vs d
      → ArgsCost θ (tcons t ts) (max l l') (v ∷ vs) (c + height v + 3 + d)
  one-more-costs {θ} {t} {ts} {l} {l'} {c} {d} {v} {vs} first rest =
      record {
        ends = λ L h. has L (omega (arith, h)) ∙ ap (λ (r : ArgCost). cons_row v (c + height v + 3) r.args r.args_paid) (rest.ends L (omega (arith, h)));
        deep = λ L h. below L h (enough-or-not l L);
      }
    where
      has : (L : ℕ) → l ≤ L → eval_args (eval P L) θ (tcons t ts) ≡ arg_row (λ (u : Unit {0}). eval_args (eval P L) θ ts) (value v) c
      has L h = ap (λ (r : Cost). arg_row (λ (u : Unit {0}). eval_args (eval P L) θ ts) r.ending r.paid) (first.ends L h)

      below : (L : ℕ) → L < max l l' → (l ≤ L) ⊎ (L < l) → (eval_args (eval P L) θ (tcons t ts)).args ≡ ended too_deep
      below L h (inl k) =
          ap (λ (r : ArgCost). r.args) (has L k)
          ∙ ap (λ (a : Args). (cons_row v (c + height v + 3) a (eval_args (eval P L) θ ts).args_paid).args) (rest.deep L (omega (arith, h, k)))
      below L h (inr k) = ap (λ (m : Ending). (arg_row (λ (u : Unit {0}). eval_args (eval P L) θ ts) m (eval P L θ t).paid).args) (first.deep L k)

  -- A CALL: its arguments, then the right side of the rule that fits; where none fits, stuck after the charges of the call
  module _ {θ : Bindings} {ts : Terms} {l c : ℕ} {vs : List Val} (k : ℕ) (arguments : ArgsCost θ ts l vs c) where
    called : (L : ℕ) → l ≤ L → eval P (suc L) θ (call k ts) ≡ body_row (eval P L) (1 + c) (chosen (P.fun k).defs vs)
    unfolding eval
    called L h = ap (λ (r : ArgCost). call_row (eval P L) (P.fun k).defs r.args r.args_paid) (arguments.ends L h)

    not-called : (L : ℕ) → L < l → (eval P (suc L) θ (call k ts)).ending ≡ too_deep
    unfolding eval
    not-called L h = ap (λ (a : Args). (call_row (eval P L) (P.fun k).defs a (eval_args (eval P L) θ ts).args_paid).ending) (arguments.deep L h)

    pub rule-costs : {f : Found} {l' d : ℕ} {m : Ending} → chosen (P.fun k).defs vs ≡ some f → Costs P f.bound f.body l' m d
        → Costs P θ (call k ts) (1 + max l l') m (1 + c + 1 + d)
    rule-costs {f} {l'} {d} {m} e right =
        own-level (max l l') (λ L h. fits L (omega (arith, h)) ∙ ap (after (1 + c + 1)) (right.ends L (omega (arith, h)))) (λ L h. below L h (enough-or-not l L))
      where
        fits : (L : ℕ) → l ≤ L → eval P (suc L) θ (call k ts) ≡ after (1 + c + 1) (eval P L f.bound f.body)
        fits L h = called L h ∙ ap (body_row (eval P L) (1 + c)) e

        below : (L : ℕ) → L < max l l' → (l ≤ L) ⊎ (L < l) → (eval P (suc L) θ (call k ts)).ending ≡ too_deep
        below L h (inl g) = ap (λ (r : Cost). r.ending) (fits L g) ∙ right.deep L (omega (arith, h, g))
        below L h (inr g) = not-called L g

    pub no-rule-costs : chosen (P.fun k).defs vs ≡ none → Costs P θ (call k ts) (1 + l) (stuck 0) (1 + c)
    no-rule-costs e = own-level l (λ L h. called L h ∙ ap (body_row (eval P L) (1 + c)) e) not-called

  -- a term with a value takes a level at least
  pub some_level : {θ : Bindings} {t : Term} {l c : ℕ} {v : Val} → Costs P θ t l (value v) c → 1 ≤ l
  unfolding eval
  some_level {θ} {t} {l} {c} {v} k = go l (k.ends 0)
    where
      go : (l : ℕ) → (l ≤ 0 → eval P 0 θ t ≡ paying (value v) c) → 1 ≤ l
      go zero h = absurd (false≢true (sym (ap (λ (r : Cost). is_deep r.ending) (h (omega arith)))))
      go (suc l) h = omega arith

  -- A BUILT-IN OF TWO ARGUMENTS takes what the right side takes
  pub rule-takes : {k : ℕ} {v w : Val} {f : Found} {l c : ℕ} {m : Ending} → chosen (P.fun k).defs (v ∷ w ∷ []) ≡ some f → Costs P f.bound f.body l m c
      → Takes P k v w l m (call_steps (height v) (height w) + c)
  rule-takes {k} e right =
      record { called = λ ka kb. costs-so (omega arith) refl (omega arith) (rule-costs k (one-more-costs ka (one-more-costs kb no-argument-costs)) e right) }

  pub no-rule-takes : {k : ℕ} {v w : Val} → chosen (P.fun k).defs (v ∷ w ∷ []) ≡ none → Takes P k v w 1 (stuck 0) (height v + height w + 7)
  no-rule-takes {k} e =
      record {
        called = λ ka kb.
            let some = some_level ka in
            costs-so (omega (arith, some)) refl (omega arith) (no-rule-costs k (one-more-costs ka (one-more-costs kb no-argument-costs)) e);
      }

  -- a value written down: no steps, and a level more than it has succ
  pub written-costs : {θ : Bindings} (v : Val) → Costs P θ (written v) (suc (height v)) (value v) 0
  written-costs (base b) = constant-costs b
  written-costs (up v) = costs-so (omega arith) refl refl (succ-costs (written-costs v))

  pub asked-costs : {θ : Bindings} {k : ℕ} {v w : Val} {l c : ℕ} {m : Ending} → Takes P k v w l m c
      → Costs P θ (asked k v w) (1 + max (max (suc (height v)) (suc (height w))) l) m c
  asked-costs {θ} {k} {v} {w} {l} {c} {m} t = costs-so refl refl (omega arith) (t.called (written-costs v) (written-costs w))

  -- EVERY TERM WITH A VALUE takes some levels and steps exactly
  module _ (θ : Bindings) (t : Term) where
    more-keep : {v : Val} {c : ℕ} (L L' : ℕ) → L ≤ L' → eval P L θ t ≡ paying (value v) c → eval P L' θ t ≡ paying (value v) c
    more-keep L L' h e = subst (λ (r : Cost). Keeps r.ending r.paid (eval P L' θ t)) e (more-levels P L L' h θ t)

    fewer-deep : (L L' : ℕ) → L ≤ L' → (eval P L' θ t).ending ≡ too_deep → (eval P L θ t).ending ≡ too_deep
    fewer-deep L L' h e = go (eval P L θ t).ending (eval P L θ t).paid (more-levels P L L' h θ t)
      where
        differ : (m : Ending) → is_deep m ≡ false → (eval P L' θ t).ending ≡ m → m ≡ too_deep
        differ m n k = absurd (false≢true (sym n ∙ ap is_deep (sym k ∙ e)))

        go : (m : Ending) (c : ℕ) → Keeps m c (eval P L' θ t) → m ≡ too_deep
        go (value v) c k = differ (value v) refl (ap (λ (r : Cost). r.ending) k)
        go (raised x) c k = differ (raised x) refl (ap (λ (r : Cost). r.ending) k)
        go (stuck s) c k = differ (stuck s) refl (ap (λ (r : Cost). r.ending) k)
        go too_deep c k = refl

    pub value-costs : {v : Val} {c : ℕ} (L : ℕ) → eval P L θ t ≡ paying (value v) c → (l : ℕ) × Costs P θ t l (value v) c
    unfolding eval
    value-costs zero e = absurd (false≢true (sym (ap (λ (r : Cost). is_deep r.ending) e)))
    value-costs {v} {c} (suc L) e =
        go (eval P L θ t).ending (eval P L θ t).paid refl (more-levels P L (suc L) (omega arith) θ t) (λ h. value-costs L h)
      where
        go : (m : Ending) (d : ℕ) → eval P L θ t ≡ paying m d → Keeps m d (eval P (suc L) θ t)
            → (eval P L θ t ≡ paying (value v) c → (l : ℕ) × Costs P θ t l (value v) c) → (l : ℕ) × Costs P θ t l (value v) c
        go (value u) d h k before = before (h ∙ sym k ∙ e)
        go (raised x) d h k before = before (h ∙ sym k ∙ e)
        go (stuck s) d h k before = before (h ∙ sym k ∙ e)
        go too_deep d h k before =
            (suc L, record { ends = λ L' n. more-keep (suc L) L' n e; deep = λ L' n. fewer-deep L' L (omega (arith, n)) (ap (λ (r : Cost). r.ending) h) })

  -- THE EVALUATOR, of a term that takes just so much: with both it answers; with fewer steps it is out of steps; with fewer levels it answers nothing
  module _ {t : Term} {l c : ℕ} {m : Ending} (k : Costs P nothing_bound t l m c) (L n : ℕ) where
    pub costs-enough : l ≤ L → c ≤ n → evaluator P L n t ≡ says (is m) c
    unfolding evaluator
    costs-enough hl hc = ap (cut n) (k.ends L hl) ∙ ap (λ (b : Bool). pick b (says (is m) c) (says out_of_steps n)) (leb-true c n hc)

    pub costs-out : l ≤ L → n < c → evaluator P L n t ≡ says out_of_steps n
    unfolding evaluator
    costs-out hl hc = ap (cut n) (k.ends L hl) ∙ ap (λ (b : Bool). pick b (says (is m) c) (says out_of_steps n)) (leb-false c n hc)

    pub costs-deep : L < l → Final (evaluator P L n t).said → ⊥
    unfolding evaluator
    costs-deep h = go (leb (eval P L nothing_bound t).paid n) (eval P L nothing_bound t).ending (k.deep L h)
      where
        go : (b : Bool) (e : Ending) → e ≡ too_deep → Final (pick b (says (is e) (eval P L nothing_bound t).paid) (says out_of_steps n)).said → ⊥
        go true e h f = subst (λ (e : Ending). Final (is e)) h f
        go false e h f = f
