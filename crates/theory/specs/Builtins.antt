-- The built-in functions of document 01 (+, *, not, <=, <, =) with document 02's Q-2 and Q-4 (>=, >, <>, div, mod and their helper -), and a program
-- made from its declared functions with them.
use Rattle.std.specs.Prelude.{ℕ, zero, suc, ◌-◌, List, [], ◌∷◌, ltb}
use Rattle.theory.specs.Syntax.{zero_b, true_b, false_b, Term, const, succ, tvar, cond, call, tnil, tcons, Pat, pbase, psucc, pvar, Def, Fun, Program, pick}

-- the built-in functions
infix 30 ◌↝◌
abbrev pub ◌↝◌ : List Pat → Term → Def
l ↝ r = record { left = l; right = r }

abbrev pub o : Term
o = const zero_b

abbrev pub call2 : ℕ → Term → Term → Term
call2 k a b = call k (tcons a (tcons b tnil))

abbrev pub function : ℕ → List Def → Fun
function n ds = record { arity = n; defs = ds }

abbrev pub x̂ : Pat
x̂ = pvar 0

abbrev pub ŷ : Pat
ŷ = pvar 1

abbrev pub 0̂ : Pat
0̂ = pbase zero_b

abbrev pub truê : Pat
truê = pbase true_b

abbrev pub falsê : Pat
falsê = pbase false_b

abbrev pub x : Term
x = tvar 0

abbrev pub y : Term
y = tvar 1

-- Each with its document's rules in their order: up to 5 document 01's, with Q-2's for two flags behind those of =; from 6 on Q-4's.
abbrev pub builtin_funs : List Fun
builtin_funs =
    -- 0 +
    function 2 (((0̂ ∷ pvar 0 ∷ []) ↝ tvar 0) ∷ ((psucc x̂ ∷ ŷ ∷ []) ↝ succ (call2 0 x y)) ∷ [])
    -- 1 *
    ∷ function 2 (((0̂ ∷ pvar 0 ∷ []) ↝ o) ∷ ((psucc x̂ ∷ ŷ ∷ []) ↝ call2 0 y (call2 1 x y)) ∷ [])
    -- 2 not
    ∷ function 1 (((truê ∷ []) ↝ const false_b) ∷ ((falsê ∷ []) ↝ const true_b) ∷ [])
    -- 3 <=
    ∷ function 2 (((0̂ ∷ pvar 0 ∷ []) ↝ const true_b) ∷ ((psucc x̂ ∷ 0̂ ∷ []) ↝ const false_b) ∷ ((psucc x̂ ∷ psucc ŷ ∷ []) ↝ call2 3 x y) ∷ [])
    -- 4 <
    ∷ function 2 (((x̂ ∷ 0̂ ∷ []) ↝ const false_b) ∷ ((0̂ ∷ psucc (pvar 0) ∷ []) ↝ const true_b) ∷ ((psucc x̂ ∷ psucc ŷ ∷ []) ↝ call2 4 x y) ∷ [])
    -- 5 =
    ∷ function 2 (((0̂ ∷ 0̂ ∷ []) ↝ const true_b) ∷ ((0̂ ∷ psucc (pvar 0) ∷ []) ↝ const false_b) ∷ ((psucc x̂ ∷ 0̂ ∷ []) ↝ const false_b) ∷ ((psucc x̂ ∷ psucc ŷ ∷ []) ↝ call2 5 x y)
    ∷ ((truê ∷ truê ∷ []) ↝ const true_b) ∷ ((truê ∷ falsê ∷ []) ↝ const false_b) ∷ ((falsê ∷ truê ∷ []) ↝ const false_b) ∷ ((falsê ∷ falsê ∷ []) ↝ const true_b) ∷ [])
    -- 6 >=
    ∷ function 2 (((x̂ ∷ ŷ ∷ []) ↝ call2 3 y x) ∷ [])
    -- 7 >
    ∷ function 2 (((x̂ ∷ ŷ ∷ []) ↝ call2 4 y x) ∷ [])
    -- 8 <>
    ∷ function 2 (((x̂ ∷ ŷ ∷ []) ↝ call 2 (tcons (call2 5 x y) tnil)) ∷ [])
    -- 9 div
    ∷ function 2 (((x̂ ∷ psucc ŷ ∷ []) ↝ cond (call2 4 x (succ y)) o (succ (call2 9 (call2 11 x (succ y)) (succ y)))) ∷ [])
    -- 10 mod
    ∷ function 2 (((x̂ ∷ psucc ŷ ∷ []) ↝ cond (call2 4 x (succ y)) x (call2 10 (call2 11 x (succ y)) (succ y))) ∷ [])
    -- 11 -, the helper of div and mod
    ∷ function 2 (((x̂ ∷ 0̂ ∷ []) ↝ x) ∷ ((psucc x̂ ∷ psucc ŷ ∷ []) ↝ call2 11 x y) ∷ [])
    ∷ []

-- A program or a question may call those up to this one: a call of the helper "is refused with 4 like any built-in over 10". No other file says
-- the number.
abbrev pub last_called : ℕ
last_called = 10

abbrev pub nth_fun : List Fun → ℕ → Fun
nth_fun [] i = function 0 []
nth_fun (f ∷ fs) zero = f
nth_fun (f ∷ fs) (suc i) = nth_fun fs i

-- a program from its declared functions
abbrev pub fun_of : List Fun → ℕ → Fun
fun_of fs k = pick (ltb k 16) (nth_fun builtin_funs k) (nth_fun fs (k - 16))

abbrev pub numbers_of : ℕ → List Fun → List ℕ
numbers_of i [] = []
numbers_of i (f ∷ fs) = i ∷ numbers_of (suc i) fs

abbrev pub program : ℕ → List Fun → Program
program n fs = record { exns = n; fun = fun_of fs; own = numbers_of 16 fs }
