-- `own_list` meets its contract.
use mathlib.Core.Path.{◌≡◌, sym, ap, ap₂, ◌∙◌}
use mathlib.Core.Bool.{Bool}
use mathlib.Core.List.{List}
use Prim.Native.Nat.{ℕ, ◌≤◌, ◌<◌}
use native.Mathlib.Omega.{arith}
use lib.ListN.{length}
use borrow.Author.Rules.{rules}
use borrow.Author.Tests.{le-leb, lt-leb}
use Rattle.std.proofs.Common.{Some, None}
use Rattle.theory.specs.Syntax.{pick}
use Rattle.theory.specs.Words.{stored_rules}
use Rattle.theory.specs.Buffers.{over, put}
use Rattle.theory.specs.Translation.{own_list}
use Rattle.theory.specs.Bytes.{program_of}
use Rattle.translator.specs.List.{own_in}
use Rattle.translator.specs.Answered.{answered, filled}
use Rattle.translator.proofs.Accepted.{accepted-ready}
use Rattle.translator.specs.declared.Source.{Source}
use Rattle.translator.proofs.own_list.Goals as goal
use Rattle.translator.proofs.own_list.Goals.{After-list_length}

too_long : (ws d : List ℕ) → length d < length ws → (None ≡ answered ws d) × (d ≡ filled ws d)
too_long ws d h =
    let e = sym (lt-leb (length ws) (length d) h) in
    (ap (λ (b : Bool). pick b (Some (length ws)) None) e, ap (λ (b : Bool). pick b (over ws d) d) e)

fits : (ws d : List ℕ) → length ws ≤ length d → (Some (length ws) ≡ answered ws d) × (over ws d ≡ filled ws d)
fits ws d h =
    let e = sym (le-leb (length ws) (length d) h) in
    (ap (λ (b : Bool). pick b (Some (length ws)) None) e, ap (λ (b : Bool). pick b (over ws d) d) e)

-- the words of the program that was made ready
same : (c : After-list_length) → stored_rules (own_in c.of-ready.result.source) ≡ stored_rules (own_in c.args.source.now)
same c = ap (λ (s : Source). stored_rules (own_in s)) c.of-ready.ensures

pub returns-then-dst-list_length : goal.returns-then-dst-list_length
returns-then-dst-list_length c =
    let a = c.args in
    let s = a.source.now in
    let ready = accepted-ready s c.requires in
    let t = too_long (stored_rules (own_in s)) a.dst.now (let h = c.if-dst-list_length.true in omega (arith, h, c.list_length.ensures, ap length (same (goal.at.returns-then-dst-list_length c).After-list_length))) in
    record {
      of_own_list = λ b e. (t.0 ∙ ap (λ (ws : List ℕ). answered ws a.dst.now) (ready.list b e));
      of_own_list_2 = λ b e. (t.1 ∙ ap (λ (ws : List ℕ). filled ws a.dst.now) (ready.list b e));
    }

pub returns-clause-of_own_list : goal.returns-clause-of_own_list
returns-clause-of_own_list c b e =
    let a = c.args in
    let s = a.source.now in
    let here = ap length (same (goal.at.returns-clause-of_own_list c).After-list_length) in
    let f = fits (stored_rules (own_in s)) a.dst.now (omega (arith, c.if-dst-list_length.false, c.list_length.ensures, here)) in
    let n : c.written.result ≡ length (stored_rules (own_in s)) = omega (arith, c.written.ensures, c.put_list.ensures.place, c.new-out.ensures.start, here) in
    ap Some n ∙ f.0 ∙ ap (λ (ws : List ℕ). answered ws a.dst.now) ((accepted-ready s c.requires).list b e)

pub returns-clause-of_own_list_2 : goal.returns-clause-of_own_list_2
returns-clause-of_own_list_2 c b e =
    let a = c.args in
    let s = a.source.now in
    let ws = stored_rules (own_in s) in
    let here = same (goal.at.returns-clause-of_own_list_2 c).After-list_length in
    let f = fits ws a.dst.now (let h = ap length here in omega (arith, c.if-dst-list_length.false, c.list_length.ensures, h)) in
    let w : c.put_list.new.out.dst.now ≡ filled (stored_rules (own_list (program_of b))) a.dst.now =
    c.put_list.ensures.words ∙ ap (λ (l : List ℕ). put c.new-out.result.at l c.new-out.result.dst.now) here ∙ ap₂ (λ (i : ℕ) (d : List ℕ). put i ws d) c.new-out.ensures.start c.new-out.ensures.words ∙ f.1 ∙ ap (λ (l : List ℕ). filled l a.dst.now) ((accepted-ready s c.requires).list b e) in
    let same = c.put_list.ensures.same_slice in
    search rules
