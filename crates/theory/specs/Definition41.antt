-- Definition 4.1 of document 004 as the paper prints it: sets of rules, set by set, under the paper's names. To be held against the paper;
-- that the lists of Translation are these sets is shown in proofs/PaperTranslation.
-- From Translation come only the symbols (`aux f i` is f_i, `variables 0 n` is x_1, …, x_n), terms and patterns as trees, and l ⇒ r for a rule.
-- Variables are numbered 0, 1, 2 in the order in which they first appear on the left (document 01): y of guard(tt, y) is variable 0.
use Rattle.std.specs.Prelude.{ℕ, suc, ◌-◌, ◌<◌, ◌≤◌, ◌≡◌, ◌≢◌, ◌⊎◌}
use Rattle.theory.specs.Syntax.{zero_b, true_b, false_b, Def, Fun, Program, ◌∈◌}
use Rattle.theory.specs.Tree.{Tree, var, node, Rule}
use Rattle.theory.specs.Translation.{base_t, succ_t, tt_t, exn_t, fire_t, guard_t, select_t, is_data_t, if_t, raise_t, handle_t, aux, tree, pat_ts, ◌⇒◌, variables, builtins}

-- E ∈ Except: exception e is declared
abbrev pub Except : Program → ℕ → Type 0
Except P e = e < P.exns

-- F_B', F_D and their union: the functions by their numbers. In F_B' are those of Builtins; if, handle, raise are not in it.
abbrev pub FB' : ℕ → Type 0
FB' f = f ∈ builtins

abbrev pub FD : Program → ℕ → Type 0
FD P f = f ∈ P.own

abbrev pub FB'∪FD : Program → ℕ → Type 0
FB'∪FD P f = FB' f ⊎ FD P f

-- R_E: the twelve rules
pub data RE : Rule → Type 0 where
  -- guard(tt, y) → y, guard(fire(x), y) → fire(x)
  guard_tt : RE (guard_t tt_t (var 0) ⇒ var 0)
  guard_fire : RE (guard_t (fire_t (var 0)) (var 1) ⇒ fire_t (var 0))
  -- isData(succ(x)) → isData(x), isData(0) → tt, isData(True) → tt, isData(False) → tt, isData(fire(x)) → fire(x)
  is_data_succ : RE (is_data_t (succ_t (var 0)) ⇒ is_data_t (var 0))
  is_data_0 : RE (is_data_t (base_t zero_b) ⇒ tt_t)
  is_data_True : RE (is_data_t (base_t true_b) ⇒ tt_t)
  is_data_False : RE (is_data_t (base_t false_b) ⇒ tt_t)
  is_data_fire : RE (is_data_t (fire_t (var 0)) ⇒ fire_t (var 0))
  -- select(tt, x, y, z) → x
  select_tt : RE (select_t tt_t (var 0) (var 1) (var 2) ⇒ var 0)
  -- succ(fire(x)) → fire(x)
  succ_fire : RE (succ_t (fire_t (var 0)) ⇒ fire_t (var 0))
  -- if(True, y, z) → y, if(False, y, z) → z, if(fire(x), y, z) → fire(x)
  if_True : RE (if_t (base_t true_b) (var 0) (var 1) ⇒ var 0)
  if_False : RE (if_t (base_t false_b) (var 0) (var 1) ⇒ var 1)
  if_fire : RE (if_t (fire_t (var 0)) (var 1) (var 2) ⇒ fire_t (var 0))

-- R_FE: raise(E) → fire(E), handle(x, E, z) → select(isData(x), x, E, z), for E ∈ Except
pub data RFE (P : Program) : Rule → Type 0 where
  raise_fire : (e : ℕ) → Except P e → RFE P (raise_t (exn_t e) ⇒ fire_t (exn_t e))
  handle_select : (e : ℕ) → Except P e → RFE P (handle_t (var 0) (exn_t e) (var 1) ⇒ select_t (is_data_t (var 0)) (var 0) (exn_t e) (var 1))

-- R_CE: select(fire(E1), x, E2, z) → z, for E1, E2 ∈ Except with E1 = E2
pub data RCE (P : Program) : Rule → Type 0 where
  select_equal : (d e : ℕ) → Except P d → Except P e → d ≡ e → RCE P (select_t (fire_t (exn_t d)) (var 0) (exn_t e) (var 1) ⇒ var 1)

-- R_UE: select(fire(E1), x, E2, z) → fire(E1), for E1, E2 ∈ Except with E1 ≠ E2
pub data RUE (P : Program) : Rule → Type 0 where
  select_unequal : (d e : ℕ) → Except P d → Except P e → d ≢ e → RUE P (select_t (fire_t (exn_t d)) (var 0) (exn_t e) (var 1) ⇒ fire_t (exn_t d))

-- x_i is variable i - 1; f_i(x_1, …, x_n) for n = arity(f), where f_0 is f itself. What the number f means is said by `fun`.
abbrev pub argument : ℕ → Tree
argument i = var (i - 1)

abbrev pub over_arguments : (ℕ → Fun) → ℕ → ℕ → Tree
over_arguments fun f i = node (aux f i) (variables 0 (fun f).arity)

-- The sets over functions, for the functions of a set F. The paper takes F_B' ∪ F_D.
module _ (fun : ℕ → Fun) (F : ℕ → Type 0) where
  -- R_f0: f(x_1, …, x_n) → f_1(x_1, …, x_n)
  pub data Rf0 : Rule → Type 0 where
    entry : (f : ℕ) → F f → Rf0 (over_arguments fun f 0 ⇒ over_arguments fun f 1)

  -- R_f: f_i(x_1, …, x_n) → guard(isData(x_i), f_{i+1}(x_1, …, x_n)), for 1 ≤ i ≤ n
  pub data Rf : Rule → Type 0 where
    checked : (f i : ℕ) → F f → 1 ≤ i → i ≤ (fun f).arity → Rf (over_arguments fun f i ⇒ guard_t (is_data_t (argument i)) (over_arguments fun f (suc i)))

  -- Fundef': l' → r, for l → r in Fundef ∪ BuiltinDef with f at the root of l, where l' is l with f_{n+1} for f (f stands in l at the root only)
  pub data Fundef' : Rule → Type 0 where
    defined : (f : ℕ) (d : Def) → F f → d ∈ (fun f).defs → Fundef' (node (aux f (suc (fun f).arity)) (pat_ts d.left) ⇒ tree d.right)

-- R: the union
abbrev pub InDefinition41 : Program → Rule → Type 0
InDefinition41 P r =
    RE r ⊎ RFE P r ⊎ RCE P r ⊎ RUE P r ⊎ Rf0 P.fun (FB'∪FD P) r ⊎ Rf P.fun (FB'∪FD P) r ⊎ Fundef' P.fun (FB'∪FD P) r

-- The same, shared out as document 01 does it. The standing list's: R_E and what the built-in functions give.
abbrev pub InStanding : (ℕ → Fun) → Rule → Type 0
InStanding fun r = RE r ⊎ Rf0 fun FB' r ⊎ Rf fun FB' r ⊎ Fundef' fun FB' r

-- The program's own list's: what its exceptions and its declared functions give.
abbrev pub InOwn : Program → Rule → Type 0
InOwn P r = RFE P r ⊎ RCE P r ⊎ RUE P r ⊎ Rf0 P.fun (FD P) r ⊎ Rf P.fun (FD P) r ⊎ Fundef' P.fun (FD P) r
