-- `Function::put_rule` meets its contract: the counts and the auxiliary, the left arguments, the right side.
use mathlib.Core.Path.{◌≡◌, sym, ap, ◌∙◌, subst}
use mathlib.Core.List.{[], ◌∷◌}
use Prim.Native.Nat.{ℕ, ◌+◌, ◌≤◌}
use native.Mathlib.Omega.{arith}
use Rattle.theory.specs.Words.{all_words}
use Rattle.theory.specs.Translation.{aux, trees}
use Rattle.theory.specs.Bytes.{first_terms}
use Rattle.generated.specs.Wrote.{Wrote}
use Rattle.generated.proofs.Writes.{wrote_as, wrote_then, room_as, wrote-length}
use Rattle.term_words.specs.Records.{count_of, from, terms_at}
use Rattle.term_words.proofs.Laws.{term-alone}
use Rattle.term_words.proofs.Late.{empty-clear}
use Rattle.translator.specs.declared.rules.Sizes.{Sizes}
use Rattle.translator.specs.Opened.{right_at}
use Rattle.translator.proofs.Laws.{head_words, right_words, rule-words}
use Rattle.translator.proofs.Counts.{rule_length}
use Rattle.translator.proofs.program.Function.put_rule.Goals as goal
use Rattle.translator.proofs.program.Function.put_rule.Goals.{After-put, After-put_with-middle}

-- the words at the front
front : (c : After-put) → let f = c.args.self.now in Wrote (head_words f.source c.args.p (16 + f.number) f.arity) c.args.out.now c.put.new.self
front c =
    let f = c.args.self.now in
    let s = f.source in
    let p = c.args.p in
    let left = count_of (from s.arities.now s.program.now (p + 2)) f.arity + 1 in
    let right = count_of (from s.arities.now s.program.now (right_at s p f.arity)) 1 in
    wrote_as (ap (λ (x : Sizes). x.left ∷ x.right ∷ c.symbol-auxiliary.result ∷ []) c.rule_sizes-s.ensures
    ∙ ap (λ (w : ℕ). left ∷ right ∷ w ∷ []) (c.symbol-auxiliary.ensures ∙ ap (λ (i : ℕ). aux (16 + f.number) (i + 1)) c.from.ensures)) c.put.ensures

-- the right side begins where the left arguments end, and is one term
behind : (c : After-put_with-middle) → let s = c.args.self.now.source in right_at s c.args.p c.args.self.now.arity ≡ c.put_with-middle.result
behind c = sym (rw c.terms-terms.ensures at c.put_with-middle.ensures.passed.place)

right : (c : After-put_with-middle) → let s = c.args.self.now.source in right_words s c.args.p c.args.self.now.arity ≡ all_words (trees (first_terms 1 (terms_at s.arities.now s.program.now c.put_with-middle.result)))
right c =
    let f = c.args.self.now in
    let s = f.source in
    sym (term-alone s.arities.now s.program.now (right_at s c.args.p f.arity) c.requires.opened.right)
    ∙ ap (λ (q : ℕ). all_words (trees (first_terms 1 (terms_at s.arities.now s.program.now q)))) (behind c)

pub put_with-middle-requires-clause-room : goal.put_with-middle-requires-clause-room
put_with-middle-requires-clause-room c =
    let f = c.args.self.now in
    rw c.terms-terms.ensures (omega (arith, rule_length f.source c.args.p (16 + f.number) f.arity c.requires.opened, wrote-length c.put.ensures))

pub put_with-middle-requires-clause-n_in_bounds : goal.put_with-middle-requires-clause-n_in_bounds
put_with-middle-requires-clause-n_in_bounds c = rw c.terms-terms.ensures (omega (arith, c.requires.opened.small_left), empty-clear 129)

pub put_with-requires-clause-room : goal.put_with-requires-clause-room
put_with-requires-clause-room c =
    let f = c.args.self.now in
    let w = rw c.terms-terms.ensures at c.put_with-middle.ensures.wrote in
    rw c.terms-terms.ensures
    (room_as c.put_with-middle.new.out (right (goal.at.put_with-requires-clause-room c).After-put_with-middle)
    (omega (arith, rule_length f.source c.args.p (16 + f.number) f.arity c.requires.opened, w.place, wrote-length c.put.ensures, wrote-length w)))

pub put_with-requires-clause-n_in_bounds : goal.put_with-requires-clause-n_in_bounds
put_with-requires-clause-n_in_bounds c =
    let s = c.args.self.now.source in
    let small = subst (λ (q : ℕ). count_of (from s.arities.now s.program.now q) 1 ≤ 128) (behind (goal.at.put_with-requires-clause-n_in_bounds c).After-put_with-middle) c.requires.opened.small_right in
    let late = c.put_with-middle.ensures.late_after in
    rw c.terms-terms.ensures (omega (arith, small, late.1), late.0)

pub returns : goal.returns
returns c =
    let f = c.args.self.now in
    let here = goal.at.returns c in
    wrote_as (sym (rule-words f.source c.args.p (16 + f.number) f.arity c.requires.opened))
    (wrote_then (front here.After-put) (wrote_then (rw c.terms-terms.ensures at c.put_with-middle.ensures.wrote) (wrote_as (sym (right here.After-put_with-middle)) (rw c.terms-terms.ensures at c.put_with.ensures.wrote))))
