-- The evaluator's endings and steps are the rewriter's.
use Prim.Native.Nat.{ℕ, zero, suc, ◌+◌, ◌%◌, ◌<◌}
use mathlib.Core.Path.{◌≡◌, refl, sym, ap, ◌∙◌, subst}
use mathlib.Core.Bool.{Bool, true, false, ◌||◌}
use mathlib.Core.List.{List, [], ◌∷◌}
use mathlib.Core.Option.{Option, none, some}
use native.Mathlib.Omega.{arith}
use lib.Dec.{eqb}
use Rattle.theory.specs.Syntax.{Base, zero_b, true_b, false_b, Val, base, up, height, Term, const, succ, tvar, raise, handle, cond, call, Terms, tnil, tcons, many, Def, Program, Bindings, pick, choose, Found, found, chosen, fits, nothing_bound, or_else}
use Rattle.theory.specs.WellFormed.{Known, WellFormed, AllWellFormed, DefsWellFormed, ProgramWellFormed}
use Rattle.theory.specs.Endings.{Ending, value, raised, stuck, too_deep}
use Rattle.theory.specs.Cost.{paying, after, Evaluating, succ_row, handle_row, if_row, Args, vals, ended, ArgCost, cons_row, arg_row, eval_args, body_row, call_row, eval}
use Rattle.theory.specs.Tree.{Tree, Trees, node, [·], ◌▹◌, active, step, step_part, first, later, insts, len}
use Rattle.theory.specs.Translation.{base_t, succ_t, tt_t, exn_t, fire_t, guard_t, select_t, is_data_t, if_t, handle_t, aux, val_t, trees}
use Rattle.theory.proofs.Tests.{leb-true}
use Rattle.theory.proofs.Reach.{onto, past, past-len, len-onto, step-root, step-shut, step_part-zero, Reach, here, next, by, one, join, reach-in}
use Rattle.theory.proofs.Roots.{val_ts, under, placed, RootLaws}

abbrev pub succs : ℕ → Tree → Tree
succs zero t = t
succs (suc s) t = succ_t (succs s t)

-- the part of an auxiliary that may be rewritten
pub active-aux : (k j : ℕ) → j < 8 → active (aux k j) ≡ j
active-aux k j h =
    let s = aux k j in
    ap (λ (b : Bool). pick b (s % 8) (pick (eqb s 2 || eqb s 7 || eqb s 8 || eqb s 10 || eqb s 12) 1 0)) (leb-true 256 s (omega arith))
    ∙ omega arith

module _ (P : Program) (root : Tree → Option Tree) (wp : ProgramWellFormed P) (laws : RootLaws P root) where
  -- A tree takes c steps and ends as the ending says; `too_deep` says nothing of the tree that c steps lead to.
  pub record Halted (s c : ℕ) (t : Tree) : Type 0 where
    pub head : ℕ
    pub parts : Trees
    pub reach : Reach root c t (succs s (node head parts))
    pub inert : 6 < head
    pub still : step root (node head parts) ≡ none

  abbrev pub Good : Ending → ℕ → Tree → Type 0
  Good (value v) c t = Reach root c t (val_t v)
  Good (raised e) c t = Reach root c t (fire_t (exn_t e)) × (e < P.exns)
  Good (stuck s) c t = Halted s c t
  Good too_deep c t = (u : Tree) × Reach root c t u

  -- c steps first
  lead : (m : Ending) (d : ℕ) {c : ℕ} {t u : Tree} → Reach root c t u → Good m d u → Good m (c + d) t
  lead (value v) d p g = join root p g
  lead (raised e) d p g = (join root p g.0, g.1)
  lead (stuck s) d p g = record { head = g.head; parts = g.parts; reach = join root p g.reach; inert = g.inert; still = g.still }
  lead too_deep d p g = (g.0, join root p g.1)

  recount : (m : Ending) {c d : ℕ} (t : Tree) → c ≡ d → Good m c t → Good m d t
  recount m t e g = subst (λ (n : ℕ). Good m n t) e g

  -- no step at values and at fire
  pub fire-still : (x : Tree) → step root (fire_t x) ≡ none
  unfolding step
  fire-still x = laws.fire-none x

  succ-still : (v : Val) → root (succ_t (val_t v)) ≡ none
  succ-still (base zero_b) = laws.succ-none 1 [·] (omega arith)
  succ-still (base true_b) = laws.succ-none 3 [·] (omega arith)
  succ-still (base false_b) = laws.succ-none 4 [·] (omega arith)
  succ-still (up v) = laws.succ-none 2 (val_t v ▹ [·]) (omega arith)

  base-still : (b : Base) → step root (base_t b) ≡ none
  unfolding step
  base-still zero_b = laws.base-none zero_b
  base-still true_b = laws.base-none true_b
  base-still false_b = laws.base-none false_b

  pub val-still : (v : Val) → step root (val_t v) ≡ none
  val-still (base b) = base-still b
  val-still (up v) = step-root root 2 [·] [·] (val_t v) refl (val-still v) ∙ succ-still v

  vals-still : (vs : List Val) (j : ℕ) → step_part root (val_ts vs) j ≡ none
  unfolding step
  vals-still [] j = refl
  vals-still (v ∷ vs) zero = refl
  vals-still (v ∷ vs) (suc zero) = ap (first (val_ts vs)) (val-still v)
  vals-still (v ∷ vs) (suc (suc j)) = ap (later (val_t v)) (vals-still vs (suc j))

  tt-still : step root tt_t ≡ none
  unfolding step
  tt-still = laws.tt-none

  -- isData
  is_data-shut : (x : Tree) → step root (is_data_t x) ≡ root (is_data_t x)
  is_data-shut x = step-shut root 9 (x ▹ [·]) (step_part-zero root (x ▹ [·]))

  is_data-val : (v : Val) → Reach root (height v + 1) (is_data_t (val_t v)) tt_t
  is_data-val (base b) = one root (is_data-shut (base_t b) ∙ laws.is_data-base b)
  is_data-val (up v) = by root (omega arith) (next (is_data-shut (succ_t (val_t v)) ∙ laws.is_data_succ (val_t v)) (is_data-val v))

  is_data-succs : (s : ℕ) (t : Tree) → Reach root s (is_data_t (succs s t)) (is_data_t t)
  is_data-succs zero t = here
  is_data-succs (suc s) t = next (is_data-shut (succ_t (succs s t)) ∙ laws.is_data_succ (succs s t)) (is_data-succs s t)

  is_data-inert : (s : ℕ) (ts : Trees) → 6 < s → step root (is_data_t (node s ts)) ≡ none
  is_data-inert s ts h = is_data-shut (node s ts) ∙ laws.is_data-none s ts h

  -- succ
  succ_case : (m : Ending) (c : ℕ) (t : Tree) → Good m c t → Good (succ_row m c).ending (succ_row m c).paid (succ_t t)
  succ_case (value v) c t g = reach-in root 2 [·] [·] refl g
  succ_case (raised e) c t g =
      (join root (reach-in root 2 [·] [·] refl g.0) (one root (step-root root 2 [·] [·] (fire_t (exn_t e)) refl (fire-still (exn_t e)) ∙ laws.succ_fire (exn_t e))), g.1)
  succ_case (stuck s) c t g = record { head = g.head; parts = g.parts; reach = reach-in root 2 [·] [·] refl g.reach; inert = g.inert; still = g.still }
  succ_case too_deep c t g = (succ_t g.0, reach-in root 2 [·] [·] refl g.1)

  -- a stuck form under succ signs
  pub succs-still : (s h : ℕ) (ts : Trees) → 6 < h → step root (node h ts) ≡ none → step root (succs s (node h ts)) ≡ none
  succs-still zero h ts i q = q
  succs-still (suc zero) h ts i q = step-root root 2 [·] [·] (node h ts) refl q ∙ laws.succ-none h ts (omega arith)
  succs-still (suc (suc s)) h ts i q =
      step-root root 2 [·] [·] (succs (suc s) (node h ts)) refl (succs-still (suc s) h ts i q) ∙ laws.succ-none 2 (succs s (node h ts) ▹ [·]) (omega arith)

  -- handle
  to-select : (x : Tree) (e : ℕ) (z : Tree) → e < P.exns → step root x ≡ none → Reach root 1 (handle_t x (exn_t e) z) (select_t (is_data_t x) x (exn_t e) z)
  to-select x e z lt q = one root (step-root root 12 [·] (exn_t e ▹ z ▹ [·]) x refl q ∙ laws.handle-at x e z lt)

  select-part : {n : ℕ} {t u : Tree} (x e z : Tree) → Reach root n t u → Reach root n (select_t t x e z) (select_t u x e z)
  select-part x e z p = reach-in root 8 [·] (x ▹ e ▹ z ▹ [·]) refl p

  is_data-fired : (x : Tree) → Reach root 1 (is_data_t (fire_t x)) (fire_t x)
  is_data-fired x = one root (is_data-shut (fire_t x) ∙ laws.is_data_fire x)

  caught : (d : ℕ) (e : ℕ) (z : Tree) → d < P.exns → e < P.exns → eqb d e ≡ true → Reach root 3 (handle_t (fire_t (exn_t d)) (exn_t e) z) z
  caught d e z ld le q =
      let f = fire_t (exn_t d) in
      join root (to-select f e z le (fire-still (exn_t d)))
      (join root (select-part f (exn_t e) z (is_data-fired (exn_t d)))
      (one root (step-root root 8 [·] (f ▹ exn_t e ▹ z ▹ [·]) f refl (fire-still (exn_t d)) ∙ laws.select-same d f e z ld le q)))

  passed : (d : ℕ) (e : ℕ) (z : Tree) → d < P.exns → e < P.exns → eqb d e ≡ false → Reach root 3 (handle_t (fire_t (exn_t d)) (exn_t e) z) (fire_t (exn_t d))
  passed d e z ld le q =
      let f = fire_t (exn_t d) in
      join root (to-select f e z le (fire-still (exn_t d)))
      (join root (select-part f (exn_t e) z (is_data-fired (exn_t d)))
      (one root (step-root root 8 [·] (f ▹ exn_t e ▹ z ▹ [·]) f refl (fire-still (exn_t d)) ∙ laws.select-other d f e z ld le q)))

  raised_case : (ev : Evaluating) (θ : Bindings) (e : ℕ) (h : Term) (d c : ℕ) (t : Tree) → e < P.exns → Good (raised d) c t → Good (ev θ h).ending (ev θ h).paid (under θ h)
      → (b : Bool) → eqb d e ≡ b
      → let r = choose b (λ u. after (c + 3) (ev θ h)) (λ u. paying (raised d) (c + 3)) in Good r.ending r.paid (handle_t t (exn_t e) (under θ h))
  raised_case ev θ e h d c t lt g gh true q =
      lead (ev θ h).ending (ev θ h).paid
      (join root (reach-in root 12 [·] (exn_t e ▹ under θ h ▹ [·]) refl g.0) (caught d e (under θ h) g.1 lt q)) gh
  raised_case ev θ e h d c t lt g gh false q =
      (join root (reach-in root 12 [·] (exn_t e ▹ under θ h ▹ [·]) refl g.0) (passed d e (under θ h) g.1 lt q), g.1)

  handle_case : (ev : Evaluating) (θ : Bindings) (e : ℕ) (h : Term) (m : Ending) (c : ℕ) (t : Tree) → e < P.exns → Good m c t → Good (ev θ h).ending (ev θ h).paid (under θ h)
      → Good (handle_row ev θ e h m c).ending (handle_row ev θ e h m c).paid (handle_t t (exn_t e) (under θ h))
  handle_case ev θ e h (value v) c t lt g gh =
      let z = under θ h in
      by root (omega arith)
      (join root (reach-in root 12 [·] (exn_t e ▹ z ▹ [·]) refl g)
      (join root (to-select (val_t v) e z lt (val-still v))
      (join root (select-part (val_t v) (exn_t e) z (is_data-val v))
      (one root (step-root root 8 [·] (val_t v ▹ exn_t e ▹ z ▹ [·]) tt_t refl tt-still ∙ laws.select_tt (val_t v) (exn_t e) z)))))
  handle_case ev θ e h (raised d) c t lt g gh = raised_case ev θ e h d c t lt g gh (eqb d e) refl
  handle_case ev θ e h (stuck s) c t lt g gh =
      let z = under θ h in
      let w = node g.head g.parts in
      record {
        head = 8;
        parts = is_data_t w ▹ succs s w ▹ exn_t e ▹ z ▹ [·];
        reach =
            by root (omega arith)
            (join root (reach-in root 12 [·] (exn_t e ▹ z ▹ [·]) refl g.reach)
            (join root (to-select (succs s w) e z lt (succs-still s g.head g.parts g.inert g.still))
            (select-part (succs s w) (exn_t e) z (is_data-succs s w))));
        inert = omega arith;
        still =
            step-root root 8 [·] (succs s w ▹ exn_t e ▹ z ▹ [·]) (is_data_t w) refl (is_data-inert g.head g.parts g.inert)
            ∙ laws.select-none 9 (w ▹ [·]) (succs s w) (exn_t e) z (omega arith);
      }
  handle_case ev θ e h too_deep c t lt g gh = (handle_t g.0 (exn_t e) (under θ h), reach-in root 12 [·] (exn_t e ▹ under θ h ▹ [·]) refl g.1)

  -- if
  if-part : {n : ℕ} {t u : Tree} (y z : Tree) → Reach root n t u → Reach root n (if_t t y z) (if_t u y z)
  if-part y z p = reach-in root 10 [·] (y ▹ z ▹ [·]) refl p

  if-root : (x y z : Tree) → step root x ≡ none → step root (if_t x y z) ≡ root (if_t x y z)
  if-root x y z q = step-root root 10 [·] (y ▹ z ▹ [·]) x refl q

  if-succs : (s h : ℕ) (ts : Trees) (y z : Tree) → 6 < h → root (if_t (succs s (node h ts)) y z) ≡ none
  if-succs zero h ts y z i = laws.if_none h ts y z (omega arith) (omega arith) (omega arith)
  if-succs (suc s) h ts y z i = laws.if_none 2 (succs s (node h ts) ▹ [·]) y z (omega arith) (omega arith) (omega arith)

  cond_case : (ev : Evaluating) (θ : Bindings) (a b : Term) (m : Ending) (c : ℕ) (t : Tree) → Good m c t
      → Good (ev θ a).ending (ev θ a).paid (under θ a) → Good (ev θ b).ending (ev θ b).paid (under θ b)
      → Good (if_row ev θ a b m c).ending (if_row ev θ a b m c).paid (if_t t (under θ a) (under θ b))
  cond_case ev θ a b (value (base zero_b)) c t g ga gb =
      let y = under θ a in
      let z = under θ b in
      record {
        head = 10;
        parts = base_t zero_b ▹ y ▹ z ▹ [·];
        reach = if-part y z g;
        inert = omega arith;
        still = if-root (base_t zero_b) y z (base-still zero_b) ∙ laws.if_none 1 [·] y z (omega arith) (omega arith) (omega arith);
      }
  cond_case ev θ a b (value (base true_b)) c t g ga gb =
      let y = under θ a in
      let z = under θ b in
      lead (ev θ a).ending (ev θ a).paid (join root (if-part y z g) (one root (if-root (base_t true_b) y z (base-still true_b) ∙ laws.if_true y z))) ga
  cond_case ev θ a b (value (base false_b)) c t g ga gb =
      let y = under θ a in
      let z = under θ b in
      lead (ev θ b).ending (ev θ b).paid (join root (if-part y z g) (one root (if-root (base_t false_b) y z (base-still false_b) ∙ laws.if_false y z))) gb
  cond_case ev θ a b (value (up v)) c t g ga gb =
      let y = under θ a in
      let z = under θ b in
      record {
        head = 10;
        parts = val_t (up v) ▹ y ▹ z ▹ [·];
        reach = if-part y z g;
        inert = omega arith;
        still = if-root (val_t (up v)) y z (val-still (up v)) ∙ laws.if_none 2 (val_t v ▹ [·]) y z (omega arith) (omega arith) (omega arith);
      }
  cond_case ev θ a b (raised e) c t g ga gb =
      let y = under θ a in
      let z = under θ b in
      (join root (if-part y z g.0) (one root (if-root (fire_t (exn_t e)) y z (fire-still (exn_t e)) ∙ laws.if_fire (exn_t e) y z)), g.1)
  cond_case ev θ a b (stuck s) c t g ga gb =
      let y = under θ a in
      let z = under θ b in
      let w = node g.head g.parts in
      record {
        head = 10;
        parts = succs s w ▹ y ▹ z ▹ [·];
        reach = if-part y z g.reach;
        inert = omega arith;
        still = if-root (succs s w) y z (succs-still s g.head g.parts g.inert g.still) ∙ if-succs s g.head g.parts y z g.inert;
      }
  cond_case ev θ a b too_deep c t g ga gb = (if_t g.0 (under θ a) (under θ b), if-part (under θ a) (under θ b) g.1)

  -- A call. The arguments before the one in turn are values; the path goes through the one in turn.
  abbrev pub GoodArgs : ℕ → Args → ℕ → Trees → Trees → Type 0
  GoodArgs k (vals vs) c pre xs =
      Reach root c (node (aux k (suc (len pre))) (onto pre xs)) (node (aux k (suc (P.fun k).arity)) (onto pre (val_ts vs)))
  GoodArgs k (ended m) c pre xs = Good m c (node (aux k (suc (len pre))) (onto pre xs))

  in-turn : (k : ℕ) (pre : Trees) (t : Tree) (post : Trees) → len (onto pre (t ▹ post)) ≡ (P.fun k).arity → active (aux k (suc (len pre))) ≡ past pre 1
  in-turn k pre t post h =
      active-aux k (suc (len pre)) (omega (arith, h, len-onto pre (t ▹ post), wp.small k)) ∙ sym (past-len pre)

  len-swap : (pre : Trees) (t u : Tree) (post : Trees) → len (onto pre (t ▹ post)) ≡ len (onto pre (u ▹ post))
  len-swap pre t u post = len-onto pre (t ▹ post) ∙ sym (len-onto pre (u ▹ post))

  -- once the argument in turn makes no step, the auxiliary hands it to isData, behind a guard
  to-guard : (k : ℕ) (pre : Trees) (t : Tree) (post : Trees) → Known P k → len (onto pre (t ▹ post)) ≡ (P.fun k).arity → step root t ≡ none
      → Reach root 1 (node (aux k (suc (len pre))) (onto pre (t ▹ post))) (guard_t (is_data_t t) (node (aux k (suc (suc (len pre)))) (onto pre (t ▹ post))))
  to-guard k pre t post kn h q =
      one root (step-root root (aux k (suc (len pre))) pre post t (in-turn k pre t post h) q ∙ laws.argument k pre t post kn h)

  guard-part : {n : ℕ} {t u : Tree} (y : Tree) → Reach root n t u → Reach root n (guard_t t y) (guard_t u y)
  guard-part y p = reach-in root 7 [·] (y ▹ [·]) refl p

  guard-root : (x y : Tree) → step root x ≡ none → step root (guard_t x y) ≡ root (guard_t x y)
  guard-root x y q = step-root root 7 [·] (y ▹ [·]) x refl q

  cons_case : (k : ℕ) (v : Val) (a : Args) {c : ℕ} (d : ℕ) (pre : Trees) (t : Tree) (post : Trees)
      → Reach root c (node (aux k (suc (len pre))) (onto pre (t ▹ post))) (node (aux k (suc (suc (len pre)))) (onto pre (val_t v ▹ post)))
      → GoodArgs k a d (val_t v ▹ pre) post
      → GoodArgs k (cons_row v c a d).args (cons_row v c a d).args_paid pre (t ▹ post)
  cons_case k v (vals vs) d pre t post p g = join root p g
  cons_case k v (ended m) d pre t post p g = lead m d p g

  arg_case : (k : ℕ) (rest : Unit {0} → ArgCost) (m : Ending) (c : ℕ) (pre : Trees) (t : Tree) (post : Trees)
      → Known P k → len (onto pre (t ▹ post)) ≡ (P.fun k).arity → Good m c t
      → ((v : Val) → GoodArgs k (rest tt).args (rest tt).args_paid (val_t v ▹ pre) post)
      → GoodArgs k (arg_row rest m c).args (arg_row rest m c).args_paid pre (t ▹ post)
  arg_case k rest (value v) c pre t post kn h g gs =
      let y = node (aux k (suc (suc (len pre)))) (onto pre (val_t v ▹ post)) in
      cons_case k v (rest tt).args (rest tt).args_paid pre t post
      (by root (omega arith)
      (join root (reach-in root (aux k (suc (len pre))) pre post (in-turn k pre t post h) g)
      (join root (to-guard k pre (val_t v) post kn (len-swap pre (val_t v) t post ∙ h) (val-still v))
      (join root (guard-part y (is_data-val v))
      (one root (guard-root tt_t y tt-still ∙ laws.guard_tt y))))))
      (gs v)
  arg_case k rest (raised e) c pre t post kn h g gs =
      let f = fire_t (exn_t e) in
      let y = node (aux k (suc (suc (len pre)))) (onto pre (f ▹ post)) in (
        join root (reach-in root (aux k (suc (len pre))) pre post (in-turn k pre t post h) g.0)
            (join root (to-guard k pre f post kn (len-swap pre f t post ∙ h) (fire-still (exn_t e)))
            (join root (guard-part y (is_data-fired (exn_t e)))
            (one root (guard-root f y (fire-still (exn_t e)) ∙ laws.guard_fire (exn_t e) y)))),
        g.1,
      )
  arg_case k rest (stuck s) c pre t post kn h g gs =
      let w = node g.head g.parts in
      let y = node (aux k (suc (suc (len pre)))) (onto pre (succs s w ▹ post)) in
      record {
        head = 7;
        parts = is_data_t w ▹ y ▹ [·];
        reach =
            by root (omega arith)
            (join root (reach-in root (aux k (suc (len pre))) pre post (in-turn k pre t post h) g.reach)
            (join root (to-guard k pre (succs s w) post kn (len-swap pre (succs s w) t post ∙ h) (succs-still s g.head g.parts g.inert g.still))
            (guard-part y (is_data-succs s w))));
        inert = omega arith;
        still = guard-root (is_data_t w) y (is_data-inert g.head g.parts g.inert) ∙ laws.guard_none 9 (w ▹ [·]) y (omega arith);
      }
  arg_case k rest too_deep c pre t post kn h g gs =
      (node (aux k (suc (len pre))) (onto pre (g.0 ▹ post)), reach-in root (aux k (suc (len pre))) pre post (in-turn k pre t post h) g.1)

  -- the arguments of a term under bindings
  abbrev unders : Bindings → Terms → Trees
  unders θ ts = insts (λ x. val_t (θ x)) (trees ts)

  len-unders : (θ : Bindings) (ts : Terms) → len (unders θ ts) ≡ many ts
  len-unders θ tnil = refl
  len-unders θ (tcons t ts) = ap suc (len-unders θ ts)

  args_case : (k : ℕ) (ev : Evaluating) (θ : Bindings) (ts : Terms) (pre : Trees) → ((t : Term) → WellFormed P t → Good (ev θ t).ending (ev θ t).paid (under θ t))
      → AllWellFormed P ts → Known P k → len pre + many ts ≡ (P.fun k).arity
      → GoodArgs k (eval_args ev θ ts).args (eval_args ev θ ts).args_paid pre (unders θ ts)
  args_case k ev θ tnil pre ih ws kn h = subst (λ (n : ℕ). Reach root 0 (node (aux k (suc (len pre))) (onto pre [·])) (node (aux k (suc n)) (onto pre [·]))) (omega (arith, h)) here
  args_case k ev θ (tcons t ts) pre ih ws kn h =
      arg_case k (λ u. eval_args ev θ ts) (ev θ t).ending (ev θ t).paid pre (under θ t) (unders θ ts) kn
      (omega (arith, h, len-onto pre (under θ t ▹ unders θ ts), len-unders θ ts))
      (ih t ws.0) (λ v. args_case k ev θ ts (val_t v ▹ pre) ih ws.1 kn (omega (arith, h)))

  -- the rule that fits, or none
  abbrev OkFound : Option Found → Type 0
  OkFound none = Unit {0}
  OkFound (some f) = WellFormed P f.body

  found_ok : (r : Term) (o : Option Bindings) → WellFormed P r → OkFound (found r o)
  found_ok r none w = tt
  found_ok r (some θ) w = w

  or_ok : (a b : Option Found) → OkFound a → OkFound b → OkFound (or_else a b)
  or_ok none b p q = q
  or_ok (some f) b p q = p

  chosen-ok : (ds : List Def) (vs : List Val) → DefsWellFormed P ds → OkFound (chosen ds vs)
  chosen-ok [] vs w = tt
  chosen-ok (d ∷ ds) vs w =
      or_ok (found d.right (fits d.left vs nothing_bound)) (chosen ds vs) (found_ok d.right (fits d.left vs nothing_bound) w.0) (chosen-ok ds vs w.1)

  body_case : (k : ℕ) (vs : List Val) (ev : Evaluating) (c : ℕ) (t : Tree) (o : Option Found) → OkFound o
      → ((θ : Bindings) (b : Term) → WellFormed P b → Good (ev θ b).ending (ev θ b).paid (under θ b))
      → step root (node (aux k (suc (P.fun k).arity)) (val_ts vs)) ≡ placed o
      → Reach root c t (node (aux k (suc (P.fun k).arity)) (val_ts vs))
      → Good (body_row ev c o).ending (body_row ev c o).paid t
  body_case k vs ev c t none ok ih q p =
      record { head = aux k (suc (P.fun k).arity); parts = val_ts vs; reach = p; inert = omega arith; still = q }
  body_case k vs ev c t (some f) ok ih q p =
      let r = ev f.bound f.body in
      lead r.ending r.paid (join root p (one root q)) (ih f.bound f.body ok)

  call_case : (k : ℕ) (ev : Evaluating) (a : Args) (c : ℕ) (xs : Trees) → Known P k → len xs ≡ (P.fun k).arity
      → ((θ : Bindings) (b : Term) → WellFormed P b → Good (ev θ b).ending (ev θ b).paid (under θ b))
      → GoodArgs k a c [·] xs
      → Good (call_row ev (P.fun k).defs a c).ending (call_row ev (P.fun k).defs a c).paid (node (aux k 0) xs)
  call_case k ev a c xs kn h ih g = go a g
    where
      enter : Reach root 1 (node (aux k 0) xs) (node (aux k 1) xs)
      enter =
          one root (step-shut root (aux k 0) xs (ap (step_part root xs) (active-aux k 0 (omega arith)) ∙ step_part-zero root xs) ∙ laws.entry k xs kn h)

      go : (a : Args) → GoodArgs k a c [·] xs → Good (call_row ev (P.fun k).defs a c).ending (call_row ev (P.fun k).defs a c).paid (node (aux k 0) xs)
      go (vals vs) p =
          body_case k vs ev (1 + c) (node (aux k 0) xs) (chosen (P.fun k).defs vs) (chosen-ok (P.fun k).defs vs (wp.bodies k)) ih
          (step-shut root (aux k (suc (P.fun k).arity)) (val_ts vs) (vals-still vs (active (aux k (suc (P.fun k).arity)))) ∙ laws.own k vs kn)
          (join root enter p)
      go (ended m) g' = lead m c enter g'

  const_case : (θ : Bindings) (b : Base) → Reach root 0 (under θ (const b)) (base_t b)
  const_case θ zero_b = here
  const_case θ true_b = here
  const_case θ false_b = here

  -- THE CORE: what a term comes to under the evaluator, its tree comes to by as many steps.
  pub sound : (L : ℕ) (θ : Bindings) (t : Term) → WellFormed P t → Good (eval P L θ t).ending (eval P L θ t).paid (under θ t)
  unfolding eval
  sound zero θ t w = (under θ t, here)
  sound (suc L) θ (const b) w = const_case θ b
  sound (suc L) θ (succ t) w = succ_case (eval P L θ t).ending (eval P L θ t).paid (under θ t) (sound L θ t w)
  sound (suc L) θ (tvar x) w = here
  sound (suc L) θ (raise e) w = (one root (step-shut root 11 (exn_t e ▹ [·]) (step_part-zero root (exn_t e ▹ [·])) ∙ laws.raise-at e w), w)
  sound (suc L) θ (handle t e h) w =
      handle_case (eval P L) θ e h (eval P L θ t).ending (eval P L θ t).paid (under θ t) w.1 (sound L θ t w.0) (sound L θ h w.2)
  sound (suc L) θ (cond t a b) w =
      cond_case (eval P L) θ a b (eval P L θ t).ending (eval P L θ t).paid (under θ t) (sound L θ t w.0) (sound L θ a w.1) (sound L θ b w.2)
  sound (suc L) θ (call k ts) w =
      call_case k (eval P L) (eval_args (eval P L) θ ts).args (eval_args (eval P L) θ ts).args_paid (unders θ ts) w.0 (len-unders θ ts ∙ w.1)
      (λ σ b wb. sound L σ b wb)
      (args_case k (eval P L) θ ts [·] (λ t wt. sound L θ t wt) w.2 w.0 (omega (arith, w.1)))
