-- REFUSAL 17 EXACTLY (document 02, Q-9): where the bytes read through the end record and some declared function has no rule, at the declaration
-- of the lowest such function, and nowhere else; and every function of an accepted program has a rule.
use Prim.Native.Nat.{ℕ, suc, ◌+◌, ◌<◌}
use mathlib.Core.Path.{◌≡◌, refl, sym, ap, ◌∙◌}
use mathlib.Core.Logic.{◌↔◌, inl, inr}
use mathlib.Core.Bool.{Bool, true, false}
use mathlib.Core.List.{List, [], ◌∷◌, ◌++◌}
use native.Mathlib.Omega.{arith}
use lib.Dec.{eqb}
use lib.ListN.{length}
use Rattle.theory.specs.Syntax.{Def, Fun, choose, pick}
use Rattle.theory.specs.Bytes.{Result, good, refuse, if_good, RuleAt, Book, declared_at, read_records, read_end, refuse_overlaps, defs_of, funs_of, empty_book, read_program, program_of}
use Rattle.theory.specs.Encoding.{encode_program, HasRule, ReadsThrough, Lost, LostAt}
use Rattle.theory.proofs.Tests.{leb-true, eqb-true}
use Rattle.theory.proofs.EndRecord.{end-lost, lowest-lost}
use Rattle.theory.proofs.ProgramRead.{records-back}
use Rattle.theory.proofs.AcceptedExactly.{accepted-exactly}
use Rattle.theory.proofs.Refused.{ProgramRefused, too_long, early, lost, left_over, overlaps, program-refused}
use Rattle.theory.proofs.Accepted.{declared-function, nth-fun}

refused-lost : (p : List ℕ) (q : ℕ) → read_program p ≡ refuse 17 q → LostAt p q
refused-lost p q e = by (program-refused p (record { number = 17; place = q }) e)
  where
    by : ProgramRefused p (record { number = 17; place = q }) → LostAt p q
    by (too_long n i) = absurd (omega (arith, n))
    by (early l h i j) = absurd (omega (arith, h))
    by (lost n i) = i
    by (left_over n i j) = absurd (omega (arith, n))
    by (overlaps n i j) = absurd (omega (arith, n))

lost-refused : (p : List ℕ) (q : ℕ) → LostAt p q → read_program p ≡ refuse 17 q
unfolding read_program
lost-refused p q h =
    ap (λ (b : Bool). choose b (λ u. if_good (read_records (suc (length p)) empty_book 0 p) (λ s. if_good (refuse_overlaps [] s.rules_at) (λ u. good s))) (λ u. refuse 1 0)) (leb-true (length p) 8192 through.bytes)
    ∙ ap (λ (r : Result Book). if_good r (λ s. if_good (refuse_overlaps [] s.rules_at) (λ u. good s)))
    (ap (λ (l : List ℕ). read_records (suc (length l)) empty_book 0 l) through.is_read ∙ back.1 ∙ end-lost through.read back.0 through.behind h.function h.lowest)
    ∙ ap (refuse 17) (sym h.place)
  where
    through : ReadsThrough p
    through = h.through

    back : (i : ℕ)
        × (read_records (suc (length (encode_program h.through.read ++ h.through.behind))) empty_book 0 (encode_program h.through.read ++ h.through.behind)
        ≡ read_end h.through.read i h.through.behind)
    back = records-back h.through.read h.through.behind h.through.readable

-- THE REFUSAL, with its place
pub lost-refused-exactly : (p : List ℕ) (q : ℕ) → (read_program p ≡ refuse 17 q) ↔ LostAt p q
lost-refused-exactly p q = (refused-lost p q, lost-refused p q)

-- and without it: the program would otherwise read through its end record, and some declared function has no rule
pub lost-refused-where : (p : List ℕ) → ((q : ℕ) × (read_program p ≡ refuse 17 q)) ↔ ((t : ReadsThrough p) × (f : ℕ) × Lost t.read f)
lost-refused-where p = (λ x. (let h = refused-lost p x.0 x.1 in (h.through, h.function, h.lowest.0)), back)
  where
    back : (t : ReadsThrough p) × (f : ℕ) × Lost t.read f → (q : ℕ) × (read_program p ≡ refuse 17 q)
    back (t, f, h) =
        let l = lowest-lost t.read f h in
        (declared_at t.read.decls l.0, lost-refused p _ (record { through = t; function = l.0; lowest = l.1; place = refl }))

-- AN ACCEPTED PROGRAM'S FUNCTION ALWAYS HAS A RULE
owned : (f : ℕ) (rs : List RuleAt) → HasRule rs f → (d : Def) × (ds : List Def) × (defs_of f rs ≡ d ∷ ds)
owned f [] h = absurd h
owned f (r ∷ rs) (inl h) = (r.sides, defs_of f rs, ap (λ (b : Bool). pick b (r.sides ∷ defs_of f rs) (defs_of f rs)) (eqb-true r.owner f h))
owned f (r ∷ rs) (inr h) = go (eqb r.owner f) (owned f rs h)
  where
    go : (b : Bool) → (d : Def) × (ds : List Def) × (defs_of f rs ≡ d ∷ ds) → (d : Def) × (ds : List Def) × (pick b (r.sides ∷ defs_of f rs) (defs_of f rs) ≡ d ∷ ds)
    go true k = (r.sides, defs_of f rs, refl)
    go false k = k

pub accepted-has-rule : (p : List ℕ) (s : Book) → read_program p ≡ good s → (f : ℕ) → f < length s.decls.arities
    → (d : Def) × (ds : List Def) × (((program_of s).fun (16 + f)).defs ≡ d ∷ ds)
accepted-has-rule p s e f h =
    let D = s.decls in
    let z : 0 + f ≡ f = omega arith in
    let o = owned f s.rules_at (((accepted-exactly p s).0 e).1.every_function f h) in (
      o.0,
      o.1,
      ap (λ (g : Fun). g.defs) (declared-function (funs_of 0 D.arities s.rules_at) f ∙ nth-fun 0 D.arities s.rules_at f h)
          ∙ ap (λ (j : ℕ). defs_of j s.rules_at) z
          ∙ o.2,
    )
