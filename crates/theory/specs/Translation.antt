-- The translation of a program to rules (document 004, definition 4.1), in document 01's order.
use Rattle.std.specs.Prelude.{ℕ, zero, suc, ◌+◌, ◌*◌, List, [], ◌∷◌, ◌++◌, eqb, length}
use Rattle.theory.specs.Syntax.{Base, zero_b, true_b, false_b, Val, base, up, Term, const, succ, tvar, raise, handle, cond, call, Terms, tnil, tcons, Pat, pbase, psucc, pvar, Def, Fun, Program, pick}
use Rattle.theory.specs.Builtins.{builtin_funs}
use Rattle.theory.specs.Tree.{Tree, Trees, var, node, [·], ◌▹◌, Rule}

abbrev pub base_t : Base → Tree
base_t zero_b = node 1 [·]
base_t true_b = node 3 [·]
base_t false_b = node 4 [·]

abbrev pub succ_t : Tree → Tree
succ_t t = node 2 (t ▹ [·])

abbrev pub tt_t : Tree
tt_t = node 5 [·]

abbrev pub exn_t : ℕ → Tree
exn_t e = node (32 + e) [·]

abbrev pub fire_t : Tree → Tree
fire_t x = node 6 (x ▹ [·])

abbrev pub guard_t : Tree → Tree → Tree
guard_t a y = node 7 (a ▹ y ▹ [·])

abbrev pub select_t : Tree → Tree → Tree → Tree → Tree
select_t a x e z = node 8 (a ▹ x ▹ e ▹ z ▹ [·])

abbrev pub is_data_t : Tree → Tree
is_data_t x = node 9 (x ▹ [·])

abbrev pub if_t : Tree → Tree → Tree → Tree
if_t a y z = node 10 (a ▹ y ▹ z ▹ [·])

abbrev pub raise_t : Tree → Tree
raise_t e = node 11 (e ▹ [·])

abbrev pub handle_t : Tree → Tree → Tree → Tree
handle_t x e z = node 12 (x ▹ e ▹ z ▹ [·])

-- function k is `aux k 0`, its auxiliary j is `aux k j`
abbrev pub aux : ℕ → ℕ → ℕ
aux k j = 256 + 8 * k + j

-- values, terms and patterns as trees
abbrev pub val_t : Val → Tree
val_t (base b) = base_t b
val_t (up v) = succ_t (val_t v)

abbrev mutual
  pub tree : Term → Tree
  tree (const b) = base_t b
  tree (succ t) = succ_t (tree t)
  tree (tvar x) = var x
  tree (raise e) = raise_t (exn_t e)
  tree (handle t e h) = handle_t (tree t) (exn_t e) (tree h)
  tree (cond t a b) = if_t (tree t) (tree a) (tree b)
  tree (call k ts) = node (aux k 0) (trees ts)

  pub trees : Terms → Trees
  trees tnil = [·]
  trees (tcons t ts) = tree t ▹ trees ts

abbrev pub pat_t : Pat → Tree
pat_t (pbase b) = base_t b
pat_t (psucc p) = succ_t (pat_t p)
pat_t (pvar x) = var x

abbrev pub pat_ts : List Pat → Trees
pat_ts [] = [·]
pat_ts (p ∷ ps) = pat_t p ▹ pat_ts ps

infix 30 ◌⇒◌
abbrev pub ◌⇒◌ : Tree → Tree → Rule
l ⇒ r = record { lhs = l; rhs = r }

-- R_E
abbrev pub common_rules : List Rule
common_rules =
    (guard_t tt_t (var 0) ⇒ var 0)
    ∷ (guard_t (fire_t (var 0)) (var 1) ⇒ fire_t (var 0))
    ∷ (is_data_t (succ_t (var 0)) ⇒ is_data_t (var 0))
    ∷ (is_data_t (base_t zero_b) ⇒ tt_t)
    ∷ (is_data_t (base_t true_b) ⇒ tt_t)
    ∷ (is_data_t (base_t false_b) ⇒ tt_t)
    ∷ (is_data_t (fire_t (var 0)) ⇒ fire_t (var 0))
    ∷ (succ_t (fire_t (var 0)) ⇒ fire_t (var 0))
    ∷ (if_t (base_t true_b) (var 0) (var 1) ⇒ var 0)
    ∷ (if_t (base_t false_b) (var 0) (var 1) ⇒ var 1)
    ∷ (if_t (fire_t (var 0)) (var 1) (var 2) ⇒ fire_t (var 0))
    ∷ (select_t tt_t (var 0) (var 1) (var 2) ⇒ var 0)
    ∷ []

-- R_FE, R_CE and R_UE
abbrev pub numbers : ℕ → ℕ → List ℕ
numbers i zero = []
numbers i (suc n) = i ∷ numbers (suc i) n

abbrev pub gather : {A : Type 0} → (ℕ → List A) → List ℕ → List A
gather f [] = []
gather f (x ∷ xs) = f x ++ gather f xs

abbrev pub raise_rule : ℕ → List Rule
raise_rule e = (raise_t (exn_t e) ⇒ fire_t (exn_t e)) ∷ []

abbrev pub handle_rule : ℕ → List Rule
handle_rule e = (handle_t (var 0) (exn_t e) (var 1) ⇒ select_t (is_data_t (var 0)) (var 0) (exn_t e) (var 1)) ∷ []

abbrev pub same_rule : ℕ → List Rule
same_rule e = (select_t (fire_t (exn_t e)) (var 0) (exn_t e) (var 1) ⇒ var 1) ∷ []

abbrev pub other_rule : ℕ → ℕ → List Rule
other_rule d e = pick (eqb d e) [] ((select_t (fire_t (exn_t d)) (var 0) (exn_t e) (var 1) ⇒ fire_t (exn_t d)) ∷ [])

abbrev pub exn_rules : ℕ → List Rule
exn_rules n =
    let es = numbers 0 n in
    gather raise_rule es ++ (gather handle_rule es ++ (gather same_rule es ++ gather (λ d. gather (other_rule d) es) es))

-- the rules of a function: entry, arguments from the first, its own
abbrev pub variables : ℕ → ℕ → Trees
variables i zero = [·]
variables i (suc n) = var i ▹ variables (suc i) n

abbrev pub arg_rule : ℕ → ℕ → ℕ → List Rule
arg_rule k n i = (node (aux k (suc i)) (variables 0 n) ⇒ guard_t (is_data_t (var i)) (node (aux k (suc (suc i))) (variables 0 n))) ∷ []

abbrev pub entry_rule : ℕ → ℕ → Rule
entry_rule k n = node (aux k 0) (variables 0 n) ⇒ node (aux k 1) (variables 0 n)

abbrev pub own_rules : ℕ → ℕ → List Def → List Rule
own_rules k n [] = []
own_rules k n (d ∷ ds) = (node (aux k (suc n)) (pat_ts d.left) ⇒ tree d.right) ∷ own_rules k n ds

abbrev pub fun_rules : (ℕ → Fun) → ℕ → List Rule
fun_rules fun k =
    let n = (fun k).arity in
    entry_rule k n ∷ (gather (arg_rule k n) (numbers 0 n) ++ own_rules k n (fun k).defs)

-- the numbers of the built-in functions
abbrev pub builtins : List ℕ
builtins = numbers 0 (length builtin_funs)

-- the standing list and the program's own list
abbrev pub standing : (ℕ → Fun) → List Rule
standing fun = common_rules ++ gather (fun_rules fun) builtins

abbrev pub own_list : Program → List Rule
own_list P = exn_rules P.exns ++ gather (fun_rules P.fun) P.own

abbrev pub rules : Program → List Rule
rules P = standing P.fun ++ own_list P
