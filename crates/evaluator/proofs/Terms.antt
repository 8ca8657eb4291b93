-- Words that are a term's evaluate as the theory evaluates the term.
use mathlib.Core.Path.{◌≡◌, refl, sym, ap, ◌∙◌, subst}
use mathlib.Core.Bool.{false}
use mathlib.Core.List.{List}
use mathlib.Core.Option as maybe
use Prim.Native.Nat.{ℕ, zero, suc, ◌+◌, ◌-◌, ◌<◌, ◌≤◌}
use native.Mathlib.Omega.{arith}
use lib.Dec.{eqb}
use lib.ListN.{length, get_or, set, take}
use borrow.Author.Tests.{lt-ltb, le-ltb, le-leb, ne_eqb}
use Rattle.theory.proofs.Shape.{len-trees}
use Rattle.theory.specs.Syntax.{Base, zero_b, true_b, false_b, Val, Term, const, succ, tvar, raise, handle, cond, call, Terms, tnil, tcons, many, Program, Bindings, Found as TheoryFound, chosen}
use Rattle.theory.specs.Cost.{Args, vals, ended}
use Rattle.theory.specs.Budget.{Remaining, ends_leaving, ran_out, then_with, PayingEv, pay_args, body_pays, call_pays, pay_eval}
use Rattle.theory.specs.Tree.{[·], size}
use Rattle.theory.specs.Words.{Shaped, Shapeds}
use Rattle.theory.specs.Translation.{aux, exn_t, tree, trees}
use Rattle.words.specs.Terms.{arity_of}
use Rattle.words.specs.Stands.{Stands}
use Rattle.std.specs.Prelude.{Option, Some, None}
use Rattle.std.specs.Prelude.{Result}
use Rattle.words.specs.Base.{word_of, named}
use Rattle.rules.specs.declared.index.Span.{Span}
use Rattle.evaluator.specs.declared.values.Value.{Value}
use Rattle.evaluator.specs.declared.values.Answer.{Answer}
use Rattle.evaluator.specs.declared.rows.Then.{Then}
use Rattle.evaluator.specs.declared.fitting.Found.{Found}
use Rattle.evaluator.specs.declared.places.Kind.{Kind}
use Rattle.evaluator.specs.declared.places.Kind.TheVariants.{Data, Var, Raise, Part, Call}
use Rattle.evaluator.specs.declared.places.Op.TheVariants.{Succ, Handle, If}
use Rattle.evaluator.specs.Values.{nones}
use Rattle.evaluator.specs.Places.{kind_of, arguments_of}
use Rattle.evaluator.specs.Rows.{answer_then, result_then}
use Rattle.evaluator.specs.Fitting.{rules_of, found_from}
use Rattle.evaluator.specs.Evaluation.{Evaluator, list_of, found_then, entered_of, body_of, call_of, node, ev}
use Rattle.evaluator.specs.Outcomes.{value_of}
use Rattle.evaluator.proofs.TheoryRows.{code, pay-row, left-row, go-row, succ-row, handle-row, cond-row, fill, ListMeets, arg-row}
use Rattle.evaluator.proofs.Among.{StandAll, root_is, var-is, base-is, parts, first, others, past_one, past_two}
use Rattle.evaluator.proofs.Chosen.{Binds, values, filled, FoundMeets}

-- what a word is, at words that are not literals
kind-const : (b : Base) → kind_of (word_of (named b)) ≡ Data (named b)
unfolding kind_of
kind-const zero_b = refl
kind-const true_b = refl
kind-const false_b = refl

module _ (w : ℕ) (h : 64 ≤ w) where
  no-op : (n : ℕ) → n ≤ 12 → eqb w n ≡ false
  no-op n g = ne_eqb w n (λ e. omega arith)

kind-var : (v : ℕ) → v < 8 → kind_of (64 + v) ≡ Var v
unfolding kind_of
kind-var v h =
    let no : (n : ℕ) → n ≤ 12 → eqb (64 + v) n ≡ false = no-op (64 + v) (omega arith) in
    rw (
      no 1 (omega arith),
      no 3 (omega arith),
      no 4 (omega arith),
      no 2 (omega arith),
      no 10 (omega arith),
      no 11 (omega arith),
      no 12 (omega arith),
      le-ltb (64 + v) 64 (omega arith),
      lt-ltb (64 + v) 72 (omega arith),
    )
    (ap Var (omega arith))

kind-call : (k : ℕ) → kind_of (aux k 0) ≡ Call k
unfolding kind_of
kind-call k =
    let w : ℕ = aux k 0 in
    let no : (n : ℕ) → n ≤ 12 → eqb w n ≡ false = no-op w (omega arith) in
    rw (
      no 1 (omega arith),
      no 3 (omega arith),
      no 4 (omega arith),
      no 2 (omega arith),
      no 10 (omega arith),
      no 11 (omega arith),
      no 12 (omega arith),
      le-ltb w 64 (omega arith),
      le-ltb w 72 (omega arith),
      le-ltb w 256 (omega arith),
    )
    (ap Call (omega arith))

-- the arguments, where E evaluates words as evI does terms
module _ (ks ws : List ℕ) (b : List Value) (θ : Bindings) (E : Evaluator) (evI : PayingEv)
    (same : (t : Term) (a p : ℕ) → Shaped (arity_of ks) (tree t) → Stands ws a (tree t) → E ws b a p ≡ code (evI θ t p)) where
  list-meets : (ts : Terms) (a i : ℕ) (arr : List Value) (p : ℕ) → Shapeds (arity_of ks) (trees ts) → StandAll ws a (trees ts)
      → ListMeets i arr (many ts) (pay_args evI θ ts p) (list_of ks E ws b (many ts) a i arr p)
  unfolding list_of
  list-meets tnil a i arr p g h = (refl, refl)
  list-meets (tcons t ts) a i arr p g h =
      let s = first ws a (tree t) (trees ts) h in
      rw (same t a p g.0 s, past_one ws ks a (tree t) g.0 s)
      (arg-row i arr (many ts) _ (pay_args evI θ ts) (λ v q. list-meets ts (a + size (tree t)) (i + 1) (set arr i (value_of v)) q g.1 (others ws a (tree t) (trees ts) h)) (evI θ t p))

-- the right side of the rule that fits, where the rules' words find what the program finds
module _ (P : Program) (standing own ks : List ℕ) (si oi : List Span) where
  abbrev list : ℕ → List ℕ
  list k = rules_of standing own si oi k (P.fun k).arity

  pub record Finds : Type 0 where
    pub arity : (k : ℕ) → arity_of ks (aux k 0) ≡ (P.fun k).arity
    pub few : (k : ℕ) → (P.fun k).arity ≤ 4
    pub meets : (k : ℕ) (vs : List Val) → length vs ≡ (P.fun k).arity
        → FoundMeets (list k) (arity_of ks) (found_from (list k) (values vs) 0) (chosen (P.fun k).defs vs)

  module _ (finds : Finds) where
    arguments-are : (k : ℕ) → arguments_of ks (aux k 0) ≡ (P.fun k).arity
    unfolding arguments_of
    arguments-are k = rw (finds.arity k, le-leb (P.fun k).arity 4 (finds.few k))

    module _ (E : Evaluator) (evI : PayingEv)
        (same : (ws : List ℕ) (t : Term) (a : ℕ) (b : List Value) (θ : Bindings) (p : ℕ) → Shaped (arity_of ks) (tree t) → Stands ws a (tree t) → Binds b θ → E ws b a p ≡ code (evI θ t p)) (k : ℕ) where
      found-row : (f : Option Found) (o : maybe.Option TheoryFound) (p : ℕ) → FoundMeets (list k) (arity_of ks) f o → body_of (list k) E (found_then f p) ≡ code (body_pays evI o p)
      unfolding body_of answer_then
      found-row f maybe.none p h = rw h
      found-row None (maybe.some g) p h = absurd h
      found-row (Some f) (maybe.some g) p h = go-row 1 p f _ (evI g.bound g.body) (λ q. same (list k) g.body f.at f.b g.bound q h.1 h.0 h.2)

      call-row : (x : Result (Then (List Value)) Answer) (y : Remaining Args) → ListMeets 0 nones (P.fun k).arity y x
          → body_of (list k) E (entered_of (list k) (P.fun k).arity x) ≡ code (then_with y (call_pays evI (P.fun k).defs))
      unfolding body_of entered_of result_then answer_then
      call-row x (ends_leaving (vals vs) p) h =
          let e : take (P.fun k).arity (fill nones 0 vs) ≡ values vs = filled vs nones (P.fun k).arity h.1 (omega (arith, finds.few k)) in
          rw (h.0, e) (found-row _ (chosen (P.fun k).defs vs) p (finds.meets k vs h.1))
      call-row x (ends_leaving (ended m) p) h = rw h
      call-row x ran_out h = rw h

    abbrev E : ℕ → Evaluator
    E l = ev standing own ks si oi l

    abbrev T : ℕ → PayingEv
    T l = pay_eval P l

    -- a level's kind
    by_kind : (l : ℕ) (ws : List ℕ) (b : List Value) (a p w : ℕ) (k : Kind) → get_or ws a 0 ≡ w → kind_of w ≡ k → E (suc l) ws b a p ≡ node standing own ks si oi (E l) ws b a p k
    unfolding ev
    by_kind l ws b a p w k e h = rw (e, h)

    pub ev-term : (l : ℕ) (ws : List ℕ) (t : Term) (a : ℕ) (b : List Value) (θ : Bindings) (p : ℕ) → Shaped (arity_of ks) (tree t) → Stands ws a (tree t) → Binds b θ
        → ev standing own ks si oi l ws b a p ≡ code (pay_eval P l θ t p)
    unfolding ev pay_eval node call_of kind_of
    ev-term zero ws t a b θ p g h s = refl
    ev-term (suc l) ws (const c) a b θ p g h s = by_kind l ws b a p (word_of (named c)) (Data (named c)) (base-is ws a c h) (kind-const c)
    ev-term (suc l) ws (succ t) a b θ p g h s =
        by_kind l ws b a p 2 (Part Succ) (root_is ws a 2 _ h) refl
        ∙ rw (ev-term l ws t (a + 1) b θ p g.2.0 (first ws (a + 1) (tree t) [·] (parts ws a 2 _ h)) s) (succ-row (T l θ t p) _ _)
    ev-term (suc l) ws (tvar v) a b θ p g h s = by_kind l ws b a p (64 + v) (Var v) (var-is ws a v h) (kind-var v g) ∙ rw (s.same v g)
    ev-term (suc l) ws (raise e) a b θ p g h s =
        let d : 32 + e - 32 ≡ e = omega arith in
        let x = root_is ws (a + 1) (32 + e) [·] (first ws (a + 1) (exn_t e) [·] (parts ws a 11 _ h)) in
        by_kind l ws b a p 11 Raise (root_is ws a 11 _ h) refl ∙ rw (x, d) (pay-row 1 p _)
    ev-term (suc l) ws (handle u e k) a b θ p g h s =
        let d : 32 + e - 32 ≡ e = omega arith in
        let all = parts ws a 12 _ h in
        let su = first ws (a + 1) (tree u) _ all in
        let rest = others ws (a + 1) (tree u) _ all in
        let se = first ws (a + 1 + size (tree u)) (exn_t e) _ rest in
        let sk = first ws (a + 1 + size (tree u) + size (exn_t e)) (tree k) [·] (others ws (a + 1 + size (tree u)) (exn_t e) _ rest) in
        by_kind l ws b a p 12 (Part Handle) (root_is ws a 12 _ h) refl
        ∙ rw (ev-term l ws u (a + 1) b θ p g.2.0 su s, past_one ws ks (a + 1) (tree u) g.2.0 su, root_is ws (a + 1 + size (tree u)) (32 + e) [·] se, d)
        (handle-row (T l) θ _ (T l θ u p) e k
        (λ q. rw (past_two ws ks (a + 1) (tree u) g.2.0 su (exn_t e) g.2.1.0 se) (ev-term l ws k (a + 1 + size (tree u) + size (exn_t e)) b θ q g.2.1.1.0 sk s)))
    ev-term (suc l) ws (cond c x y) a b θ p g h s =
        let all = parts ws a 10 _ h in
        let sc = first ws (a + 1) (tree c) _ all in
        let rest = others ws (a + 1) (tree c) _ all in
        let sx = first ws (a + 1 + size (tree c)) (tree x) _ rest in
        let sy = first ws (a + 1 + size (tree c) + size (tree x)) (tree y) [·] (others ws (a + 1 + size (tree c)) (tree x) _ rest) in
        by_kind l ws b a p 10 (Part If) (root_is ws a 10 _ h) refl
        ∙ rw (ev-term l ws c (a + 1) b θ p g.2.0 sc s)
        (cond-row (T l) θ _ (T l θ c p) _ x y
        (λ q. rw (past_one ws ks (a + 1) (tree c) g.2.0 sc) (ev-term l ws x (a + 1 + size (tree c)) b θ q g.2.1.0 sx s))
        (λ q. rw (past_two ws ks (a + 1) (tree c) g.2.0 sc (tree x) g.2.1.0 sx) (ev-term l ws y (a + 1 + size (tree c) + size (tree x)) b θ q g.2.1.1.0 sy s)))
    ev-term (suc l) ws (call k ts) a b θ p g h s =
        let r = root_is ws a (aux k 0) (trees ts) h in
        let n : arguments_of ks (aux k 0) ≡ (P.fun k).arity = arguments-are k in
        let m : many ts ≡ (P.fun k).arity = sym (len-trees ts) ∙ g.1 ∙ finds.arity k in
        by_kind l ws b a p (aux k 0) (Call k) r (kind-call k)
        ∙ rw (r, n)
        (left-row 1 p
        (λ q. body_of (list k) (E l) (entered_of (list k) (P.fun k).arity (list_of ks (E l) ws b (P.fun k).arity (a + 1) 0 nones q)))
        (λ q. then_with (pay_args (T l) θ ts q) (call_pays (T l) (P.fun k).defs))
        (λ q. call-row (E l) (T l) (λ vs t c d η r g z y. ev-term l vs t c d η r g z y) k _ (pay_args (T l) θ ts q)
        (subst (λ (i : ℕ). ListMeets 0 nones i (pay_args (T l) θ ts q) (list_of ks (E l) ws b i (a + 1) 0 nones q)) m
        (list-meets ks ws b θ (E l) (T l) (λ t c r g z. ev-term l ws t c b θ r g z s) ts (a + 1) 0 nones q g.2 (parts ws a (aux k 0) (trees ts) h)))))
