-- Steps in a row, and steps inside a tree: a part that may be rewritten takes its steps where it stands.
use Prim.Native.Nat.{ℕ, zero, suc, ◌+◌}
use mathlib.Core.Path.{◌≡◌, refl, sym, ap, ◌∙◌, subst}
use mathlib.Core.Option.{Option, none, some}
use native.Mathlib.Omega.{arith}
use native.Mathlib.Nat.{suc-add, zero-add}
use Rattle.theory.specs.Tree.{Tree, Trees, node, [·], ◌▹◌, active, inside, first, later, step, step_part, len}

-- A place among the parts of a tree: the parts before it, the last of them first, and the parts from it on.
abbrev pub onto : Trees → Trees → Trees
onto [·] ts = ts
onto (t ▹ pre) ts = onto pre (t ▹ ts)

abbrev pub past : Trees → ℕ → ℕ
past [·] i = i
past (t ▹ pre) i = past pre (suc i)

pub past-suc : (pre : Trees) (i : ℕ) → past pre (suc i) ≡ suc (past pre i)
past-suc [·] i = refl
past-suc (t ▹ pre) i = past-suc pre (suc i)

pub past-len : (pre : Trees) → past pre 1 ≡ suc (len pre)
past-len [·] = refl
past-len (t ▹ pre) = past-suc pre 1 ∙ ap suc (past-len pre)

pub len-onto : (pre ts : Trees) → len (onto pre ts) ≡ len pre + len ts
len-onto [·] ts = sym (zero-add (len ts))
len-onto (t ▹ pre) ts = let h = len-onto pre (t ▹ ts) in omega (arith, h)

abbrev map_o : (Trees → Trees) → Option Trees → Option Trees
map_o f none = none
map_o f (some ts) = some (f ts)

map_o-id : (o : Option Trees) → o ≡ map_o (λ ts. ts) o
map_o-id none = refl
map_o-id (some ts) = refl

map_o-later : (pre : Trees) (t : Tree) (o : Option Trees) → map_o (onto pre) (later t o) ≡ map_o (onto (t ▹ pre)) o
map_o-later pre t none = refl
map_o-later pre t (some ts) = refl

module _ (root : Tree → Option Tree) where
  step_part-onto : (pre ts : Trees) (i : ℕ) → step_part root (onto pre ts) (past pre (suc i)) ≡ map_o (onto pre) (step_part root ts (suc i))
  unfolding step
  step_part-onto [·] ts i = map_o-id (step_part root ts (suc i))
  step_part-onto (t ▹ pre) ts i = step_part-onto pre (t ▹ ts) (suc i) ∙ map_o-later pre t (step_part root ts (suc i))

  pub step_in : (s : ℕ) (pre post : Trees) (t u : Tree) → active s ≡ past pre 1 → step root t ≡ some u
      → step root (node s (onto pre (t ▹ post))) ≡ some (node s (onto pre (u ▹ post)))
  unfolding step
  step_in s pre post t u a h =
      ap (λ (o : Option Trees). inside s o (root (node s (onto pre (t ▹ post)))))
      (ap (step_part root (onto pre (t ▹ post))) a ∙ step_part-onto pre (t ▹ post) 0 ∙ ap (λ (o : Option Tree). map_o (onto pre) (first post o)) h)

  pub step-root : (s : ℕ) (pre post : Trees) (t : Tree) → active s ≡ past pre 1 → step root t ≡ none
      → step root (node s (onto pre (t ▹ post))) ≡ root (node s (onto pre (t ▹ post)))
  unfolding step
  step-root s pre post t a h =
      ap (λ (o : Option Trees). inside s o (root (node s (onto pre (t ▹ post)))))
      (ap (step_part root (onto pre (t ▹ post))) a ∙ step_part-onto pre (t ▹ post) 0 ∙ ap (λ (o : Option Tree). map_o (onto pre) (first post o)) h)

  -- no part may be rewritten
  pub step-shut : (s : ℕ) (ts : Trees) → step_part root ts (active s) ≡ none → step root (node s ts) ≡ root (node s ts)
  unfolding step
  step-shut s ts h = ap (λ (o : Option Trees). inside s o (root (node s ts))) h

  pub step_part-zero : (ts : Trees) → step_part root ts 0 ≡ none
  unfolding step
  step_part-zero [·] = refl
  step_part-zero (t ▹ ts) = refl

  -- so many steps lead from the one tree to the other
  pub data Reach : ℕ → Tree → Tree → Type 0 where
    here : {t : Tree} → Reach zero t t
    next : {n : ℕ} {t u w : Tree} → step root t ≡ some u → Reach n u w → Reach (suc n) t w

  pub by : {m n : ℕ} {t u : Tree} → m ≡ n → Reach m t u → Reach n t u
  by {t = t} {u = u} e r = subst (λ (k : ℕ). Reach k t u) e r

  pub one : {t u : Tree} → step root t ≡ some u → Reach 1 t u
  one h = next h here

  pub join : {m n : ℕ} {t u w : Tree} → Reach m t u → Reach n u w → Reach (m + n) t w
  join {n = n} here q = by (sym (zero-add n)) q
  join {n = n} (next {n = m} h p) q = by (sym (suc-add m n)) (next h (join p q))

  pub reach-in : (s : ℕ) (pre post : Trees) {n : ℕ} {t u : Tree} → active s ≡ past pre 1 → Reach n t u
      → Reach n (node s (onto pre (t ▹ post))) (node s (onto pre (u ▹ post)))
  reach-in s pre post a here = here
  reach-in s pre post a (next {t = t} {u = u} h p) = next (step_in s pre post t u a h) (reach-in s pre post a p)
