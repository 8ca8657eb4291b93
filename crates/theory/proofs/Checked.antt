-- What a program must be, as a computed test over its functions.
use Prim.Native.Nat.{ℕ, zero, suc, ◌≤◌}
use mathlib.Core.Bool.{Bool, true, ◌||◌, ◌&&◌}
use mathlib.Core.List.{List, [], ◌∷◌}
use native.Mathlib.Omega.{arith}
use lib.Dec.{T, eqb, leb, ltb, leb→le, ltb→lt, eqb→eq}
use Rattle.theory.specs.Syntax.{Term, const, succ, tvar, raise, handle, cond, call, Terms, tnil, tcons, many, Def, Fun, Program, elem}
use Rattle.theory.specs.WellFormed.{WellFormed, AllWellFormed, DefsWellFormed}
use Rattle.theory.specs.Builtins.{nth_fun}
use Rattle.theory.specs.Translation.{builtins}
use Rattle.theory.proofs.Tests.{and_left, and_right}

module _ (P : Program) where
  abbrev mutual
    pub ok_term : Term → Bool
    ok_term (const b) = true
    ok_term (succ t) = ok_term t
    ok_term (tvar x) = true
    ok_term (raise e) = ltb e P.exns
    ok_term (handle t e h) = ok_term t && (ltb e P.exns && ok_term h)
    ok_term (cond t a b) = ok_term t && (ok_term a && ok_term b)
    ok_term (call k ts) = (elem k builtins || elem k P.own) && (eqb (many ts) (P.fun k).arity && ok_terms ts)

    pub ok_terms : Terms → Bool
    ok_terms tnil = true
    ok_terms (tcons t ts) = ok_term t && ok_terms ts

  mutual
    pub ok-term : (t : Term) → T (ok_term t) → WellFormed P t
    ok-term (const b) h = tt
    ok-term (succ t) h = ok-term t h
    ok-term (tvar x) h = tt
    ok-term (raise e) h = ltb→lt e P.exns h
    ok-term (handle t e k) h =
        let r = and_right (ok_term t) (ltb e P.exns && ok_term k) h in
        (ok-term t (and_left (ok_term t) (ltb e P.exns && ok_term k) h), ltb→lt e P.exns (and_left (ltb e P.exns) (ok_term k) r), ok-term k (and_right (ltb e P.exns) (ok_term k) r))
    ok-term (cond t a b) h =
        let r = and_right (ok_term t) (ok_term a && ok_term b) h in
        (ok-term t (and_left (ok_term t) (ok_term a && ok_term b) h), ok-term a (and_left (ok_term a) (ok_term b) r), ok-term b (and_right (ok_term a) (ok_term b) r))
    ok-term (call k ts) h =
        let known = elem k builtins || elem k P.own in
        let same = eqb (many ts) (P.fun k).arity in
        let r = and_right known (same && ok_terms ts) h in
        (and_left known (same && ok_terms ts) h, eqb→eq (many ts) (P.fun k).arity (and_left same (ok_terms ts) r), ok-terms ts (and_right same (ok_terms ts) r))

    pub ok-terms : (ts : Terms) → T (ok_terms ts) → AllWellFormed P ts
    ok-terms tnil h = tt
    ok-terms (tcons t ts) h = (ok-term t (and_left (ok_term t) (ok_terms ts) h), ok-terms ts (and_right (ok_term t) (ok_terms ts) h))

  abbrev pub ok_defs : List Def → Bool
  ok_defs [] = true
  ok_defs (d ∷ ds) = ok_term d.right && ok_defs ds

  pub ok-defs : (ds : List Def) → T (ok_defs ds) → DefsWellFormed P ds
  ok-defs [] h = tt
  ok-defs (d ∷ ds) h = (ok-term d.right (and_left (ok_term d.right) (ok_defs ds) h), ok-defs ds (and_right (ok_term d.right) (ok_defs ds) h))

  -- every function of a list
  abbrev pub ok_funs : List Fun → Bool
  ok_funs [] = true
  ok_funs (f ∷ fs) = leb f.arity 4 && (ok_defs f.defs && ok_funs fs)

  pub ok-nth : (fs : List Fun) (i : ℕ) → T (ok_funs fs) → ((nth_fun fs i).arity ≤ 4) × DefsWellFormed P (nth_fun fs i).defs
  ok-nth [] i h = (omega arith, tt)
  ok-nth (f ∷ fs) zero h =
      let r = and_right (leb f.arity 4) (ok_defs f.defs && ok_funs fs) h in
      (leb→le f.arity 4 (and_left (leb f.arity 4) (ok_defs f.defs && ok_funs fs) h), ok-defs f.defs (and_left (ok_defs f.defs) (ok_funs fs) r))
  ok-nth (f ∷ fs) (suc i) h =
      ok-nth fs i (and_right (ok_defs f.defs) (ok_funs fs) (and_right (leb f.arity 4) (ok_defs f.defs && ok_funs fs) h))
