-- The lists of Translation hold exactly the rules of definition 4.1: the standing list its sets, a program's own list its sets, both together
-- all of them and nothing else.
use Prim.Native.Nat.{ℕ, zero, suc, ◌+◌, ◌-◌, ◌<◌, ◌≤◌}
use mathlib.Core.Path.{◌≡◌, refl, sym, ap, ◌∙◌, subst}
use mathlib.Core.Logic.{◌≢◌, ◌↔◌, ◌⊎◌, inl, inr, ⊎_elim}
use mathlib.Core.Bool.{Bool, true, false}
use mathlib.Core.List.{List, [], ◌∷◌, ◌++◌}
use native.Mathlib.Omega.{arith}
use lib.Dec.{eqb}
use Rattle.theory.specs.Syntax.{Def, Fun, Program, pick, ◌∈◌}
use Rattle.theory.specs.Tree.{var, node, Rule}
use Rattle.theory.specs.Translation.{exn_t, fire_t, guard_t, select_t, is_data_t, aux, tree, pat_ts, ◌⇒◌, common_rules, numbers, gather, raise_rule, handle_rule, same_rule, other_rule, exn_rules, variables, arg_rule, own_rules, fun_rules, builtins, standing, own_list, rules}
use Rattle.theory.specs.Definition41.{Except, FB', FD, FB'∪FD, RE, guard_tt, guard_fire, is_data_succ, is_data_0, is_data_True, is_data_False, is_data_fire, select_tt, succ_fire, if_True, if_False, if_fire, RFE, raise_fire, handle_select, RCE, select_equal, RUE, select_unequal, Rf0, entry, Rf, checked, Fundef', defined, InDefinition41, InStanding, InOwn}
use Rattle.theory.proofs.Tests.{eqb-false, eq-of-eqb, ne-of-eqb}

-- membership in lists put together
pub in-append : {A : Type 0} (x : A) (xs ys : List A) → x ∈ (xs ++ ys) → (x ∈ xs) ⊎ (x ∈ ys)
in-append x [] ys h = inr h
in-append x (y ∷ xs) ys (inl e) = inl (inl e)
in-append x (y ∷ xs) ys (inr h) = ⊎_elim (λ k. inl (inr k)) inr (in-append x xs ys h)

pub in-first : {A : Type 0} (x : A) (xs ys : List A) → x ∈ xs → x ∈ (xs ++ ys)
in-first x [] ys h = absurd h
in-first x (y ∷ xs) ys (inl e) = inl e
in-first x (y ∷ xs) ys (inr h) = inr (in-first x xs ys h)

pub in-second : {A : Type 0} (x : A) (xs ys : List A) → x ∈ ys → x ∈ (xs ++ ys)
in-second x [] ys h = h
in-second x (y ∷ xs) ys h = inr (in-second x xs ys h)

pub in-gather : {A : Type 0} (f : ℕ → List A) (x : A) (ks : List ℕ) → x ∈ gather f ks → (k : ℕ) × (k ∈ ks) × (x ∈ f k)
in-gather f x [] h = absurd h
in-gather f x (k ∷ ks) h = ⊎_elim (λ i. (k, inl refl, i)) (λ i. let w = in-gather f x ks i in (w.0, inr w.1, w.2)) (in-append x (f k) (gather f ks) h)

pub gather-has : {A : Type 0} (f : ℕ → List A) (x : A) (k : ℕ) (ks : List ℕ) → k ∈ ks → x ∈ f k → x ∈ gather f ks
gather-has f x k [] h i = absurd h
gather-has f x k (l ∷ ks) (inl e) i = in-first x (f l) (gather f ks) (subst (λ (m : ℕ). x ∈ f m) e i)
gather-has f x k (l ∷ ks) (inr h) i = in-second x (f l) (gather f ks) (gather-has f x k ks h i)

pub in-upto : (e i n : ℕ) → e ∈ numbers i n → (i ≤ e) × (e < i + n)
in-upto e i zero h = absurd h
in-upto e i (suc n) (inl p) = (omega (arith, p), omega (arith, p))
in-upto e i (suc n) (inr h) = let w = in-upto e (suc i) n h in let a = w.0 in let b = w.1 in (omega (arith, a), omega (arith, b))

pub upto-has : (e i n : ℕ) → i ≤ e → e < i + n → e ∈ numbers i n
upto-has e i zero lo hi = absurd (omega (arith, lo, hi))
upto-has e i (suc n) lo hi = go (eqb e i) refl (λ l h. upto-has e (suc i) n l h)
  where
    go : (b : Bool) → eqb e i ≡ b → (suc i ≤ e → e < suc i + n → e ∈ numbers (suc i) n) → (e ≡ i) ⊎ (e ∈ numbers (suc i) n)
    go true q ih = inl (eq-of-eqb e i q)
    go false q ih = let d = ne-of-eqb e i q in inr (ih (omega (arith, d, lo)) (omega (arith, hi)))

only : {A : Type 0} {x y : A} → x ∈ (y ∷ []) → x ≡ y
only (inl e) = e
only (inr h) = absurd h

-- R_E
common-holds : (r : Rule) → (r ∈ common_rules) ↔ RE r
common-holds r = (there r, back r)
  where
    there : (r : Rule) → r ∈ common_rules → RE r
    there r (inl e) = subst RE (sym e) guard_tt
    there r (inr (inl e)) = subst RE (sym e) guard_fire
    there r (inr (inr (inl e))) = subst RE (sym e) is_data_succ
    there r (inr (inr (inr (inl e)))) = subst RE (sym e) is_data_0
    there r (inr (inr (inr (inr (inl e))))) = subst RE (sym e) is_data_True
    there r (inr (inr (inr (inr (inr (inl e)))))) = subst RE (sym e) is_data_False
    there r (inr (inr (inr (inr (inr (inr (inl e))))))) = subst RE (sym e) is_data_fire
    there r (inr (inr (inr (inr (inr (inr (inr (inl e)))))))) = subst RE (sym e) succ_fire
    there r (inr (inr (inr (inr (inr (inr (inr (inr (inl e))))))))) = subst RE (sym e) if_True
    there r (inr (inr (inr (inr (inr (inr (inr (inr (inr (inl e)))))))))) = subst RE (sym e) if_False
    there r (inr (inr (inr (inr (inr (inr (inr (inr (inr (inr (inl e))))))))))) = subst RE (sym e) if_fire
    there r (inr (inr (inr (inr (inr (inr (inr (inr (inr (inr (inr (inl e)))))))))))) = subst RE (sym e) select_tt
    there r (inr (inr (inr (inr (inr (inr (inr (inr (inr (inr (inr (inr h)))))))))))) = absurd h

    back : (r : Rule) → RE r → r ∈ common_rules
    back _ guard_tt = inl refl
    back _ guard_fire = inr (inl refl)
    back _ is_data_succ = inr (inr (inl refl))
    back _ is_data_0 = inr (inr (inr (inl refl)))
    back _ is_data_True = inr (inr (inr (inr (inl refl))))
    back _ is_data_False = inr (inr (inr (inr (inr (inl refl)))))
    back _ is_data_fire = inr (inr (inr (inr (inr (inr (inl refl))))))
    back _ succ_fire = inr (inr (inr (inr (inr (inr (inr (inl refl)))))))
    back _ if_True = inr (inr (inr (inr (inr (inr (inr (inr (inl refl))))))))
    back _ if_False = inr (inr (inr (inr (inr (inr (inr (inr (inr (inl refl)))))))))
    back _ if_fire = inr (inr (inr (inr (inr (inr (inr (inr (inr (inr (inl refl))))))))))
    back _ select_tt = inr (inr (inr (inr (inr (inr (inr (inr (inr (inr (inr (inl refl)))))))))))

-- R_FE, R_CE, R_UE
module _ (P : Program) where
  abbrev es : List ℕ
  es = numbers 0 P.exns

  is_declared : (e : ℕ) → e ∈ es → Except P e
  is_declared e h = let b = (in-upto e 0 P.exns h).1 in omega (arith, b)

  declared : (e : ℕ) → Except P e → e ∈ es
  declared e h = upto-has e 0 P.exns (omega arith) (omega (arith, h))

  abbrev others : List Rule
  others = gather (λ d. gather (other_rule d) es) es

  in-other : (r : Rule) (d e : ℕ) → Except P d → Except P e → r ∈ other_rule d e → RUE P r
  in-other r d e hd he h = go (eqb d e) refl h
    where
      go : (b : Bool) → eqb d e ≡ b → r ∈ pick b [] ((select_t (fire_t (exn_t d)) (var 0) (exn_t e) (var 1) ⇒ fire_t (exn_t d)) ∷ []) → RUE P r
      go true q k = absurd k
      go false q k = subst (RUE P) (sym (only k)) (select_unequal d e hd he (ne-of-eqb d e q))

  other-has : (d e : ℕ) → d ≢ e → (select_t (fire_t (exn_t d)) (var 0) (exn_t e) (var 1) ⇒ fire_t (exn_t d)) ∈ other_rule d e
  other-has d e ne =
      let q = select_t (fire_t (exn_t d)) (var 0) (exn_t e) (var 1) ⇒ fire_t (exn_t d) in
      subst (λ (b : Bool). q ∈ pick b [] (q ∷ [])) (sym (eqb-false d e ne)) (inl refl)

  exn-holds : (r : Rule) → (r ∈ exn_rules P.exns) ↔ (RFE P r ⊎ RCE P r ⊎ RUE P r)
  exn-holds r = (λ h. there (in-append r (gather raise_rule es) (gather handle_rule es ++ (gather same_rule es ++ others)) h), back)
    where
      unequal : r ∈ others → RUE P r
      unequal h =
          let v = in-gather (λ d. gather (other_rule d) es) r es h in
          let w = in-gather (other_rule v.0) r es v.2 in
          in-other r v.0 w.0 (is_declared v.0 v.1) (is_declared w.0 w.1) w.2

      select : (r ∈ gather same_rule es) ⊎ (r ∈ others) → RFE P r ⊎ RCE P r ⊎ RUE P r
      select (inl h) =
          let w = in-gather same_rule r es h in
          let e = is_declared w.0 w.1 in
          inr (inl (subst (RCE P) (sym (only w.2)) (select_equal w.0 w.0 e e refl)))
      select (inr h) = inr (inr (unequal h))

      handle : (r ∈ gather handle_rule es) ⊎ (r ∈ (gather same_rule es ++ others)) → RFE P r ⊎ RCE P r ⊎ RUE P r
      handle (inl h) =
          let w = in-gather handle_rule r es h in
          inl (subst (RFE P) (sym (only w.2)) (handle_select w.0 (is_declared w.0 w.1)))
      handle (inr h) = select (in-append r (gather same_rule es) others h)

      there : (r ∈ gather raise_rule es) ⊎ (r ∈ (gather handle_rule es ++ (gather same_rule es ++ others))) → RFE P r ⊎ RCE P r ⊎ RUE P r
      there (inl h) =
          let w = in-gather raise_rule r es h in
          inl (subst (RFE P) (sym (only w.2)) (raise_fire w.0 (is_declared w.0 w.1)))
      there (inr h) = handle (in-append r (gather handle_rule es) (gather same_rule es ++ others) h)

      past-raise : (q : Rule) → q ∈ (gather handle_rule es ++ (gather same_rule es ++ others)) → q ∈ exn_rules P.exns
      past-raise q = in-second q (gather raise_rule es) (gather handle_rule es ++ (gather same_rule es ++ others))

      past-handle : (q : Rule) → q ∈ (gather same_rule es ++ others) → q ∈ exn_rules P.exns
      past-handle q h = past-raise q (in-second q (gather handle_rule es) (gather same_rule es ++ others) h)

      fires : (q : Rule) → RFE P q → q ∈ exn_rules P.exns
      fires q (raise_fire e h) = in-first q (gather raise_rule es) (gather handle_rule es ++ (gather same_rule es ++ others)) (gather-has raise_rule q e es (declared e h) (inl refl))
      fires q (handle_select e h) = past-raise q (in-first q (gather handle_rule es) (gather same_rule es ++ others) (gather-has handle_rule q e es (declared e h) (inl refl)))

      equals : (q : Rule) → RCE P q → q ∈ exn_rules P.exns
      equals q (select_equal d e hd he p) =
          past-handle q (in-first q (gather same_rule es) others
          (gather-has same_rule q d es (declared d hd) (inl (ap (λ (c : ℕ). select_t (fire_t (exn_t d)) (var 0) (exn_t c) (var 1) ⇒ var 1) (sym p)))))

      unequals : (q : Rule) → RUE P q → q ∈ exn_rules P.exns
      unequals q (select_unequal d e hd he ne) =
          past-handle q (in-second q (gather same_rule es) others
          (gather-has (λ c. gather (other_rule c) es) q d es (declared d hd) (gather-has (other_rule d) q e es (declared e he) (other-has d e ne))))

      back : RFE P r ⊎ RCE P r ⊎ RUE P r → r ∈ exn_rules P.exns
      back (inl h) = fires r h
      back (inr (inl h)) = equals r h
      back (inr (inr h)) = unequals r h

-- R_f0, R_f, Fundef', for the functions of a list
module _ (fun : ℕ → Fun) where
  abbrev OfFunctions : (ℕ → Type 0) → Rule → Type 0
  OfFunctions F r = Rf0 fun F r ⊎ Rf fun F r ⊎ Fundef' fun F r

  abbrev arguments : ℕ → List Rule
  arguments k = gather (arg_rule k (fun k).arity) (numbers 0 (fun k).arity)

  abbrev def_rule : ℕ → ℕ → Def → Rule
  def_rule k n d = node (aux k (suc n)) (pat_ts d.left) ⇒ tree d.right

  -- the paper counts arguments from 1, the list from 0
  abbrev argument_rule : ℕ → ℕ → ℕ → Rule
  argument_rule k i x = node (aux k (suc i)) (variables 0 (fun k).arity) ⇒ guard_t (is_data_t (var x)) (node (aux k (suc (suc i))) (variables 0 (fun k).arity))

  from_one : (k i : ℕ) → argument_rule k i i ≡ argument_rule k i (suc i - 1)
  from_one k i = ap (argument_rule k i) (omega arith)

  in-own : (k n : ℕ) (r : Rule) (ds : List Def) → r ∈ own_rules k n ds → (d : Def) × (d ∈ ds) × (r ≡ def_rule k n d)
  in-own k n r [] h = absurd h
  in-own k n r (d ∷ ds) (inl e) = (d, inl refl, e)
  in-own k n r (d ∷ ds) (inr h) = let w = in-own k n r ds h in (w.0, inr w.1, w.2)

  own-has : (k n : ℕ) (d : Def) (ds : List Def) → d ∈ ds → def_rule k n d ∈ own_rules k n ds
  own-has k n d [] h = absurd h
  own-has k n d (c ∷ ds) (inl e) = inl (ap (def_rule k n) e)
  own-has k n d (c ∷ ds) (inr h) = inr (own-has k n d ds h)

  functions-hold : (ks : List ℕ) (r : Rule) → (r ∈ gather (fun_rules fun) ks) ↔ OfFunctions (λ f. f ∈ ks) r
  functions-hold ks r = (λ h. let w = in-gather (fun_rules fun) r ks h in there w.0 w.1 w.2, back)
    where
      F : ℕ → Type 0
      F f = f ∈ ks

      rest : (k : ℕ) → k ∈ ks → (r ∈ arguments k) ⊎ (r ∈ own_rules k (fun k).arity (fun k).defs) → OfFunctions F r
      rest k i (inl h) =
          let w = in-gather (arg_rule k (fun k).arity) r (numbers 0 (fun k).arity) h in
          let b = (in-upto w.0 0 (fun k).arity w.1).1 in
          inr (inl (subst (Rf fun F) (sym (only w.2 ∙ from_one k w.0)) (checked k (suc w.0) i (omega arith) (omega (arith, b)))))
      rest k i (inr h) =
          let w = in-own k (fun k).arity r (fun k).defs h in
          inr (inr (subst (Fundef' fun F) (sym w.2) (defined k w.0 i w.1)))

      there : (k : ℕ) → k ∈ ks → r ∈ fun_rules fun k → OfFunctions F r
      there k i (inl e) = inl (subst (Rf0 fun F) (sym e) (entry k i))
      there k i (inr h) = rest k i (in-append r (arguments k) (own_rules k (fun k).arity (fun k).defs) h)

      entries : (q : Rule) → Rf0 fun F q → q ∈ gather (fun_rules fun) ks
      entries q (entry f i) = gather-has (fun_rules fun) q f ks i (inl refl)

      checks : (q : Rule) → Rf fun F q → q ∈ gather (fun_rules fun) ks
      checks q (checked f zero i lo hi) = absurd (omega (arith, lo))
      checks q (checked f (suc j) i lo hi) =
          gather-has (fun_rules fun) q f ks i (inr (in-first q (arguments f) (own_rules f (fun f).arity (fun f).defs)
          (gather-has (arg_rule f (fun f).arity) q j (numbers 0 (fun f).arity) (upto-has j 0 (fun f).arity (omega arith) (omega (arith, hi))) (inl (sym (from_one f j))))))

      defs : (q : Rule) → Fundef' fun F q → q ∈ gather (fun_rules fun) ks
      defs q (defined f d i h) =
          gather-has (fun_rules fun) q f ks i (inr (in-second q (arguments f) (own_rules f (fun f).arity (fun f).defs) (own-has f (fun f).arity d (fun f).defs h)))

      back : OfFunctions F r → r ∈ gather (fun_rules fun) ks
      back (inl h) = entries r h
      back (inr (inl h)) = checks r h
      back (inr (inr h)) = defs r h

  -- a set of functions grows, and splits
  more : (F G : ℕ → Type 0) → ((f : ℕ) → F f → G f) → (r : Rule) → OfFunctions F r → OfFunctions G r
  more F G up r (inl (entry f i)) = inl (entry f (up f i))
  more F G up r (inr (inl (checked f j i lo hi))) = inr (inl (checked f j (up f i) lo hi))
  more F G up r (inr (inr (defined f d i h))) = inr (inr (defined f d (up f i) h))

  shared : (F G : ℕ → Type 0) (r : Rule) → OfFunctions (λ f. F f ⊎ G f) r → OfFunctions F r ⊎ OfFunctions G r
  shared F G r (inl (entry f (inl i))) = inl (inl (entry f i))
  shared F G r (inl (entry f (inr i))) = inr (inl (entry f i))
  shared F G r (inr (inl (checked f j (inl i) lo hi))) = inl (inr (inl (checked f j i lo hi)))
  shared F G r (inr (inl (checked f j (inr i) lo hi))) = inr (inr (inl (checked f j i lo hi)))
  shared F G r (inr (inr (defined f d (inl i) h))) = inl (inr (inr (defined f d i h)))
  shared F G r (inr (inr (defined f d (inr i) h))) = inr (inr (inr (defined f d i h)))

-- THE STANDING LIST holds R_E and R_f0, R_f, Fundef' of the built-in functions, and nothing else
pub standing-holds : (fun : ℕ → Fun) (r : Rule) → (r ∈ standing fun) ↔ InStanding fun r
standing-holds fun r = (λ h. there (in-append r common_rules built_in h), back)
  where
    built_in : List Rule
    built_in = gather (fun_rules fun) builtins

    there : (r ∈ common_rules) ⊎ (r ∈ built_in) → InStanding fun r
    there (inl h) = inl ((common-holds r).0 h)
    there (inr h) = inr ((functions-hold fun builtins r).0 h)

    back : InStanding fun r → r ∈ standing fun
    back (inl h) = in-first r common_rules built_in ((common-holds r).1 h)
    back (inr h) = in-second r common_rules built_in ((functions-hold fun builtins r).1 h)

module _ (P : Program) (r : Rule) where
  -- THE OWN LIST holds R_FE, R_CE, R_UE and R_f0, R_f, Fundef' of the declared functions, and nothing else
  pub own-holds : (r ∈ own_list P) ↔ InOwn P r
  own-holds = (λ h. there (in-append r (exn_rules P.exns) declared-functions h), back)
    where
      declared-functions : List Rule
      declared-functions = gather (fun_rules P.fun) P.own

      exceptions : RFE P r ⊎ RCE P r ⊎ RUE P r → InOwn P r
      exceptions (inl h) = inl h
      exceptions (inr (inl h)) = inr (inl h)
      exceptions (inr (inr h)) = inr (inr (inl h))

      there : (r ∈ exn_rules P.exns) ⊎ (r ∈ declared-functions) → InOwn P r
      there (inl h) = exceptions ((exn-holds P r).0 h)
      there (inr h) = inr (inr (inr ((functions-hold P.fun P.own r).0 h)))

      exception : RFE P r ⊎ RCE P r ⊎ RUE P r → r ∈ own_list P
      exception h = in-first r (exn_rules P.exns) declared-functions ((exn-holds P r).1 h)

      back : InOwn P r → r ∈ own_list P
      back (inl h) = exception (inl h)
      back (inr (inl h)) = exception (inr (inl h))
      back (inr (inr (inl h))) = exception (inr (inr h))
      back (inr (inr (inr h))) = in-second r (exn_rules P.exns) declared-functions ((functions-hold P.fun P.own r).1 h)

  -- document 01's two lists share out the sets of definition 4.1
  pub shared-out : InDefinition41 P r ↔ (InStanding P.fun r ⊎ InOwn P r)
  shared-out = (there, ⊎_elim from-standing from-own)
    where
      sorted : OfFunctions P.fun FB' r ⊎ OfFunctions P.fun (FD P) r → InStanding P.fun r ⊎ InOwn P r
      sorted (inl h) = inl (inr h)
      sorted (inr h) = inr (inr (inr (inr h)))

      there : InDefinition41 P r → InStanding P.fun r ⊎ InOwn P r
      there (inl h) = inl (inl h)
      there (inr (inl h)) = inr (inl h)
      there (inr (inr (inl h))) = inr (inr (inl h))
      there (inr (inr (inr (inl h)))) = inr (inr (inr (inl h)))
      there (inr (inr (inr (inr h)))) = sorted (shared P.fun FB' (FD P) r h)

      from-standing : InStanding P.fun r → InDefinition41 P r
      from-standing (inl h) = inl h
      from-standing (inr h) = inr (inr (inr (inr (more P.fun FB' (FB'∪FD P) (λ f i. inl i) r h))))

      from-own : InOwn P r → InDefinition41 P r
      from-own (inl h) = inr (inl h)
      from-own (inr (inl h)) = inr (inr (inl h))
      from-own (inr (inr (inl h))) = inr (inr (inr (inl h)))
      from-own (inr (inr (inr h))) = inr (inr (inr (inr (more P.fun (FD P) (FB'∪FD P) (λ f i. inr i) r h))))

  -- ALL RULES of a program are definition 4.1's, and nothing else
  pub rules-hold-exactly : (r ∈ rules P) ↔ InDefinition41 P r
  rules-hold-exactly = (λ h. shared-out.1 (there (in-append r (standing P.fun) (own_list P) h)), λ h. back (shared-out.0 h))
    where
      there : (r ∈ standing P.fun) ⊎ (r ∈ own_list P) → InStanding P.fun r ⊎ InOwn P r
      there (inl h) = inl ((standing-holds P.fun r).0 h)
      there (inr h) = inr (own-holds.0 h)

      back : InStanding P.fun r ⊎ InOwn P r → r ∈ rules P
      back (inl h) = in-first r (standing P.fun) (own_list P) ((standing-holds P.fun r).1 h)
      back (inr h) = in-second r (standing P.fun) (own_list P) (own-holds.1 h)
