-- What the rules of a program do at the root of a tree: all that the agreement of the two engines needs to know of them.
use Prim.Native.Nat.{ℕ, suc, ◌<◌}
use mathlib.Core.Path.{◌≡◌}
use mathlib.Core.Logic.{◌≢◌}
use mathlib.Core.Bool.{true, false}
use mathlib.Core.List.{List, [], ◌∷◌}
use mathlib.Core.Option.{Option, none, some}
use lib.Dec.{eqb}
use Rattle.theory.specs.Syntax.{Base, true_b, false_b, Val, Term, Bindings, Program, Found, chosen}
use Rattle.theory.specs.WellFormed.{Known}
use Rattle.theory.specs.Tree.{Tree, Trees, node, [·], ◌▹◌, inst, len}
use Rattle.theory.specs.Translation.{base_t, succ_t, tt_t, exn_t, fire_t, guard_t, select_t, is_data_t, if_t, raise_t, handle_t, aux, val_t, tree}
use Rattle.theory.proofs.Reach.{onto}

-- values as trees, and a term under bindings as a tree
abbrev pub val_ts : List Val → Trees
val_ts [] = [·]
val_ts (v ∷ vs) = val_t v ▹ val_ts vs

abbrev pub under : Bindings → Term → Tree
under θ t = inst (λ x. val_t (θ x)) (tree t)

abbrev pub placed : Option Found → Option Tree
placed none = none
placed (some f) = some (under f.bound f.body)

pub record RootLaws (P : Program) (root : Tree → Option Tree) : Type 0 where
  pub guard_tt : (y : Tree) → root (guard_t tt_t y) ≡ some y
  pub guard_fire : (x y : Tree) → root (guard_t (fire_t x) y) ≡ some (fire_t x)
  pub is_data_succ : (x : Tree) → root (is_data_t (succ_t x)) ≡ some (is_data_t x)
  pub is_data-base : (b : Base) → root (is_data_t (base_t b)) ≡ some tt_t
  pub is_data_fire : (x : Tree) → root (is_data_t (fire_t x)) ≡ some (fire_t x)
  pub succ_fire : (x : Tree) → root (succ_t (fire_t x)) ≡ some (fire_t x)
  pub if_true : (y z : Tree) → root (if_t (base_t true_b) y z) ≡ some y
  pub if_false : (y z : Tree) → root (if_t (base_t false_b) y z) ≡ some z
  pub if_fire : (x y z : Tree) → root (if_t (fire_t x) y z) ≡ some (fire_t x)
  pub select_tt : (x e z : Tree) → root (select_t tt_t x e z) ≡ some x
  pub raise-at : (e : ℕ) → e < P.exns → root (raise_t (exn_t e)) ≡ some (fire_t (exn_t e))
  pub handle-at : (x : Tree) (e : ℕ) (z : Tree) → e < P.exns → root (handle_t x (exn_t e) z) ≡ some (select_t (is_data_t x) x (exn_t e) z)
  pub select-same : (d : ℕ) (x : Tree) (e : ℕ) (z : Tree) → d < P.exns → e < P.exns → eqb d e ≡ true
      → root (select_t (fire_t (exn_t d)) x (exn_t e) z) ≡ some z
  pub select-other : (d : ℕ) (x : Tree) (e : ℕ) (z : Tree) → d < P.exns → e < P.exns → eqb d e ≡ false
      → root (select_t (fire_t (exn_t d)) x (exn_t e) z) ≡ some (fire_t (exn_t d))
  pub entry : (k : ℕ) (ts : Trees) → Known P k → len ts ≡ (P.fun k).arity → root (node (aux k 0) ts) ≡ some (node (aux k 1) ts)
  pub argument : (k : ℕ) (pre : Trees) (t : Tree) (post : Trees) → Known P k → len (onto pre (t ▹ post)) ≡ (P.fun k).arity
      → root (node (aux k (suc (len pre))) (onto pre (t ▹ post)))
      ≡ some (guard_t (is_data_t t) (node (aux k (suc (suc (len pre)))) (onto pre (t ▹ post))))
  pub own : (k : ℕ) (vs : List Val) → Known P k → root (node (aux k (suc (P.fun k).arity)) (val_ts vs)) ≡ placed (chosen (P.fun k).defs vs)
  -- where nothing fits
  pub base-none : (b : Base) → root (base_t b) ≡ none
  pub tt-none : root tt_t ≡ none
  pub fire-none : (x : Tree) → root (fire_t x) ≡ none
  pub succ-none : (s : ℕ) (ts : Trees) → s ≢ 6 → root (succ_t (node s ts)) ≡ none
  pub is_data-none : (s : ℕ) (ts : Trees) → 6 < s → root (is_data_t (node s ts)) ≡ none
  pub guard_none : (s : ℕ) (ts : Trees) (y : Tree) → 6 < s → root (guard_t (node s ts) y) ≡ none
  pub select-none : (s : ℕ) (ts : Trees) (x e z : Tree) → 6 < s → root (select_t (node s ts) x e z) ≡ none
  pub if_none : (s : ℕ) (ts : Trees) (y z : Tree) → s ≢ 3 → s ≢ 4 → s ≢ 6 → root (if_t (node s ts) y z) ≡ none
