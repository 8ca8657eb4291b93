-- WHAT IS EVALUATED, FROM THE BYTES: the theory's answer, where the lists, arities and indexes are those of the program that was read.
use mathlib.Core.Path.{◌≡◌, refl, sym, ap, subst, fun_ext, ◌∙◌}
use mathlib.Core.Bool.{Bool, true, false}
use mathlib.Core.List.{List, [], ◌∷◌, append-nil}
use Prim.Native.Nat.{ℕ, suc, ◌-◌, ◌≤◌}
use native.Mathlib.Omega.{arith}
use lib.Dec.{ltb}
use lib.ListN.{get_or, length}
use borrow.Author.Tests.{le-ltb, ltb-true, ltb-false}
use Rattle.theory.specs.Syntax.{Val, Term, Def, Fun, Program, chosen, nothing_bound, pick}
use Rattle.theory.specs.WellFormed.{WellFormed, DefsWellFormed, ProgramWellFormed, Narrow, NarrowDefs, parts_of}
use Rattle.theory.specs.Builtins.{function, builtin_funs, nth_fun, fun_of, program}
use Rattle.theory.specs.Cost.{evaluator}
use Rattle.theory.specs.Words.{words, Shaped, stored_rules}
use Rattle.theory.specs.Translation.{aux, tree, own_rules, own_list, standing}
use Rattle.theory.specs.Bytes.{Book, good, funs_of, read_program, program_of, read_question}
use Rattle.theory.proofs.Shape.{parts-aux, tree-shaped}
use Rattle.theory.proofs.Accepted.{read-on-bytes, length-funs}
use Rattle.words.specs.Terms.{arity_of}
use Rattle.rules.specs.declared.index.Span.{Span}
use Rattle.rules.specs.Index.{index_of, rules_with}
use Rattle.rules.proofs.Ranges.{standing-range, own_range, nth_past}
use Rattle.rules.proofs.Program.{arity-is}
use Rattle.rules.proofs.Standing.{standing-same}
use Rattle.evaluator.specs.Values.{nones}
use Rattle.evaluator.specs.Fitting.{rules_of, found_from}
use Rattle.evaluator.specs.Evaluation.{evaluated}
use Rattle.evaluator.specs.Outcomes.{outcome_of}
use Rattle.evaluator.proofs.TheoryRows.{same_outcome}
use Rattle.evaluator.proofs.Chosen.{binds-none, values, FoundMeets, GoodDefs, found-meets}
use Rattle.evaluator.proofs.Terms.{Finds, ev-term}

-- a number that is no declared function's has no rules
-- n exceptions and functions that are as they must be, and what is lent for them
module _ (n : ℕ) (fs : List Fun) (exceptions : n ≤ 16) (functions : length fs ≤ 32) (formed : ProgramWellFormed (program n fs))
    (narrow : (k : ℕ) → NarrowDefs (fun_of fs k).arity (fun_of fs k).defs) (ks : List ℕ) (arities : (k : ℕ) → get_or ks k 0 ≡ (fun_of fs k).arity) where
  abbrev P : Program
  P = program n fs

  abbrev st : List ℕ
  st = stored_rules (standing (fun_of fs))

  abbrev own : List ℕ
  own = stored_rules (own_list P)

  abbrev mine : ℕ → List ℕ
  mine k = stored_rules (own_rules k (fun_of fs k).arity (fun_of fs k).defs)

  -- the rules that are looked at are the function's own
  rules-are : (k : ℕ) → rules_of st own (index_of st) (index_of own) k (fun_of fs k).arity ≡ mine k
  unfolding rules_of
  rules-are k = go (ltb k 48) refl (ltb k 16) refl
    where
      go : (a : Bool) → ltb k 48 ≡ a → (b : Bool) → ltb k 16 ≡ b → pick a (pick b (rules_with st (index_of st) (aux k (suc (fun_of fs k).arity))) (rules_with own (index_of own) (aux k (suc (fun_of fs k).arity)))) [] ≡ mine k
      go true e true f = standing-range fs formed.small k (ltb-true k 16 f)
      go true e false f = own_range fs formed.small n k (ltb-false k 16 f) (ltb-true k 48 e)
      go false e b f =
          let l = ltb-false k 48 e in
          let m : fun_of fs k ≡ function 0 [] = ap (λ (c : Bool). pick c (nth_fun builtin_funs k) (nth_fun fs (k - 16))) (le-ltb k 16 (omega (arith, l))) ∙ nth_past fs (k - 16) (omega (arith, l, functions)) in
          sym (ap (λ (g : Fun). stored_rules (own_rules k g.arity g.defs)) m)

  arities-are : arity_of ks ≡ parts_of P
  arities-are = fun_ext (arity-is P ks arities)

  shaped : (t : Term) → WellFormed P t → Narrow t → Shaped (arity_of ks) (tree t)
  shaped t w h = subst (λ (f : ℕ → ℕ). Shaped f (tree t)) (sym arities-are) (tree-shaped P exceptions t w h)

  good-defs : (i : ℕ) (ds : List Def) → DefsWellFormed P ds → NarrowDefs i ds → GoodDefs (arity_of ks) i ds
  good-defs i [] w h = tt
  good-defs i (d ∷ ds) w h = (h.0, h.1, shaped d.right w.0 h.2, good-defs i ds w.1 h.3)

  finds : Finds P st own ks (index_of st) (index_of own)
  finds =
      record {
        arity = λ k. arity-is P ks arities (aux k 0) ∙ parts-aux P k 0 (omega arith);
        few = formed.small;
        meets = meets;
      }
    where
      meets : (k : ℕ) (vs : List Val) → length vs ≡ (fun_of fs k).arity
          → FoundMeets (rules_of st own (index_of st) (index_of own) k (fun_of fs k).arity) (arity_of ks) (found_from (rules_of st own (index_of st) (index_of own) k (fun_of fs k).arity) (values vs) 0) (chosen (fun_of fs k).defs vs)
      meets k vs e =
          found-meets (rules_of st own (index_of st) (index_of own) k (fun_of fs k).arity) (arity_of ks) k (fun_of fs k).arity vs e
          (fun_of fs k).defs 0 (good-defs (fun_of fs k).arity (fun_of fs k).defs (formed.bodies k) (narrow k)) (rules-are k)

  answered : (t : Term) → WellFormed P t → Narrow t → (levels steps : ℕ) → evaluated (words (tree t)) st own ks (index_of st) (index_of own) levels steps ≡ outcome_of (evaluator P levels steps t)
  unfolding evaluated
  answered t w h levels steps =
      same_outcome P levels steps t
      (ev-term P st own ks (index_of st) (index_of own) finds levels (words (tree t)) t 0 nones nothing_bound steps (shaped t w h) (record { rest = []; front = sym (append-nil (words (tree t))) }) binds-none)

-- for a program and a question that are not refused
pub evaluator-on-bytes : (p q : List ℕ) (s : Book) (t : Term) → read_program p ≡ good s → read_question s.decls q ≡ good t
    → (ws stands own ks : List ℕ) (si oi : List Span) → ws ≡ words (tree t) → stands ≡ stored_rules (standing (fun_of [])) → own ≡ stored_rules (own_list (program_of s))
    → ((k : ℕ) → get_or ks k 0 ≡ ((program_of s).fun k).arity) → si ≡ index_of stands → oi ≡ index_of own → (levels steps : ℕ)
    → evaluated ws stands own ks si oi levels steps ≡ outcome_of (evaluator (program_of s) levels steps t)
evaluator-on-bytes p q s t ep eq ws stands own ks si oi hw hs ho hk hi hj levels steps =
    let r = read-on-bytes p q s t ep eq in
    let fs : List Fun = funs_of 0 s.decls.arities s.rules_at in
    let l = length-funs 0 s.decls.arities s.rules_at in
    let f = r.functions in
    let e : stands ≡ stored_rules (standing (fun_of fs)) = hs ∙ sym (standing-same fs) in
    rw (hi, hj, e, ho, hw)
    (answered s.decls.exceptions fs r.exceptions (omega (arith, l, f)) r.program-ok r.narrow ks hk t r.question-ok r.question-narrow levels steps)
