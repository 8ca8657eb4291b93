-- The checker's table of arities is that of the program: built-ins first, then the declared functions. And the openings that are in use.
use Prim.Native.Nat.{ℕ, zero, suc, ◌+◌, ◌-◌, ◌≤◌, ◌<◌}
use mathlib.Core.Path.{◌≡◌, refl, sym, ap, ◌∙◌, subst}
use mathlib.Core.Bool.{Bool, true, false}
use mathlib.Core.List.{List, [], ◌∷◌, ◌++◌}
use native.Mathlib.Omega.{arith}
use lib.Dec.{ltb}
use lib.ListN.{length, get_or, take, replicate, get_or-append}
use lib.Seq.{get_or-append-add}
use borrow.Author.Tests.{ltb-true, ltb-false}
use Rattle.theory.specs.Syntax.{Fun, pick}
use Rattle.theory.specs.Builtins.{builtin_funs, nth_fun}
use Rattle.theory.specs.Bytes.{good, Book, RuleAt, rule_count, opened_at, funs_of, Agrees, program_of, read_program}
use Rattle.theory.proofs.Lists.{copies-same}
use Rattle.theory.proofs.Accepted.{program-on-bytes}
use Rattle.checker.specs.Answer.{padded, arities_in, builtins, table}
use Rattle.checker.proofs.node.Laws.{nth-get_d}
use Rattle.checker.proofs.program.Theory.{pad-take, opened-many}
use Rattle.checker.proofs.Callers.{functions-most}

zeros-behind : (xs : List ℕ) (n k : ℕ) → get_or (xs ++ replicate n 0) k 0 ≡ get_or xs k 0
zeros-behind [] n k = copies-same n k 0
zeros-behind (x ∷ xs) n zero = refl
zeros-behind (x ∷ xs) n (suc k) = zeros-behind xs n k

padded-none : (n k : ℕ) → get_or (padded n []) k 0 ≡ 0
unfolding padded
padded-none zero k = refl
padded-none (suc n) zero = refl
padded-none (suc n) (suc k) = padded-none n k

padded-at : (n : ℕ) (ns : List ℕ) → length ns ≤ n → (k : ℕ) → get_or (padded n ns) k 0 ≡ get_or ns k 0
unfolding padded
padded-at zero [] h k = refl
padded-at zero (a ∷ ns) h k = absurd (omega arith)
padded-at (suc n) [] h zero = refl
padded-at (suc n) [] h (suc k) = padded-none n k
padded-at (suc n) (a ∷ ns) h zero = refl
padded-at (suc n) (a ∷ ns) h (suc k) = padded-at n ns (omega arith) k

arity-at : (fs : List Fun) (k : ℕ) → get_or (arities_in fs) k 0 ≡ (nth_fun fs k).arity
arity-at [] k = refl
arity-at (f ∷ fs) zero = refl
arity-at (f ∷ fs) (suc k) = arity-at fs k

declared-arity : (f : ℕ) (ns : List ℕ) (rs : List RuleAt) (k : ℕ) → get_or ns k 0 ≡ (nth_fun (funs_of f ns rs) k).arity
declared-arity f [] rs k = refl
declared-arity f (a ∷ ns) rs zero = refl
declared-arity f (a ∷ ns) rs (suc k) = declared-arity (suc f) ns rs k

pub table_builtin : (ns : List ℕ) (k : ℕ) → k < 16 → get_or (table ns) k 0 ≡ (nth_fun builtin_funs k).arity
unfolding table
table_builtin ns k h = get_or-append builtins (padded 32 ns) 0 k h ∙ zeros-behind (arities_in builtin_funs) (16 - length builtin_funs) k ∙ arity-at builtin_funs k

table-declared : (ns : List ℕ) → length ns ≤ 32 → (k : ℕ) → get_or (table ns) (16 + k) 0 ≡ get_or ns k 0
unfolding table
table-declared ns h k = get_or-append-add builtins (padded 32 ns) k 0 ∙ padded-at 32 ns h k

-- the openings that are in use
pub openings-used : (k : ℕ) (rs : List RuleAt) → rule_count rs ≤ k → take (rule_count rs) (padded k (opened_at rs)) ≡ opened_at rs
openings-used k rs h = ap (λ (n : ℕ). take n (padded k (opened_at rs))) (sym (opened-many rs)) ∙ pad-take k (opened_at rs) (rw (opened-many rs) h)

module _ (p : List ℕ) (s : Book) (read : read_program p ≡ good s) where
  pub table_is : (k : ℕ) → get_or (table s.decls.arities) k 0 ≡ ((program_of s).fun k).arity
  table_is k = by_kind (ltb k 16) refl
    where
      ns : List ℕ
      ns = s.decls.arities

      fs : List Fun
      fs = funs_of 0 ns s.rules_at

      by_kind : (b : Bool) → ltb k 16 ≡ b → get_or (table ns) k 0 ≡ (pick b (nth_fun builtin_funs k) (nth_fun fs (k - 16))).arity
      by_kind true e = table_builtin ns k (ltb-true k 16 e)
      by_kind false e =
          let h = ltb-false k 16 e in
          let z : k ≡ 16 + (k - 16) = omega arith in
          ap (λ (i : ℕ). get_or (table ns) i 0) z ∙ table-declared ns (functions-most p s read) (k - 16) ∙ declared-arity 0 ns s.rules_at (k - 16)

  pub table-small : (k : ℕ) → get_or (table s.decls.arities) k 0 ≤ 4
  table-small k = subst (λ (a : ℕ). a ≤ 4) (sym (table_is k)) ((program-on-bytes p s read).1.small k)

  pub table-agrees : Agrees s.decls (table s.decls.arities)
  table-agrees =
      record {
        builtin = λ b h. table_builtin s.decls.arities b (omega arith);
        declared = λ f h. table-declared s.decls.arities (functions-most p s read) f ∙ sym (nth-get_d s.decls.arities f);
      }
