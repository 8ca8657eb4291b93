-- `lines::pairs` meets its contract.
use borrow.Author.Tests.{eqb-true, eqb-false}
use Rattle.std.proofs.Common.{◌≡◌, ℕ, ◌+◌, ◌<◌, ◌/◌, ◌++◌, ◌∷◌, [], true, length, drop, get_or, is_some, length-append, option_and_then, sym, ap, ◌∙◌, arith, rules, drop-cons, add-one}
use Rattle.std.proofs.lemmas.Grind.{common_steps}
use Rattle.std.proofs.lemmas.Bool.{false≢true}
use Rattle.std.proofs.Math.ListN.{drop_of_length-le}
use Rattle.lines.specs.Fields.{at_most}
use Rattle.lines.proofs.Laws.{bytes_of, none_of, digits-stand, pairs-whole, pairs-odd, too-many, few-enough, pair-there, pairs-more, pairs-full, pairs-done}
use Rattle.lines.proofs.pairs.Goals as goal

pub loop-high-preserved : goal.loop-high-preserved
loop-high-preserved g c =
    let l = c.loop-high in
    let ps = c.as_chunks.result.0.now in
    let z = sym c.as_chunks.ensures.back_len ∙ eqb-true (length c.as_chunks.result.1.now) 0 (sym c.is_empty.ensures ∙ c.if-not-is_empty.false) in
    let t : is_some (bytes_of ps) ≡ true = ap is_some (pairs-whole _ _ c.as_chunks.ensures.front z) ∙ digits-stand _ z ∙ sym c.all_digits.ensures ∙ c.if-not-all_digits.false in
    let k = pair-there _ _ _ l.invariant.0 _ _ (drop-cons ps l.high-index [] c.loop-high-test.true) t c.byte.result c.byte.ensures _ c.unwrap_or-b.ensures in
    let n : length l.bytes.items < g.row.CAP = grind (arith, common_steps) in
    let q : c.try_push.new.self.items ≡ l.bytes.items ++ c.unwrap_or-b.result ∷ [] = grind (arith, common_steps) in
    let e : drop l.high-index ps ≡ get_or ps l.high-index [] ∷ drop (l.high-index + 1) ps = rw add-one (drop-cons ps l.high-index [] c.loop-high-test.true) in
    (pairs-more _ _ _ l.invariant.0 _ _ e _ k _ q, omega (arith, ap length q, length-append {A = ℕ}))

pub returns-then-not-is_empty : goal.returns-then-not-is_empty
returns-then-not-is_empty g c =
    let d = c.args.digits.now in
    let z = eqb-false (length c.as_chunks.result.1.now) 0 (sym c.is_empty.ensures ∙ c.if-not-is_empty.true) in
    record { value = sym (ap (option_and_then (at_most g.row.CAP)) (pairs-odd (length d / 2) d (omega (arith, z, c.as_chunks.ensures.back_len)))); bytes_after = search rules }

pub returns-then-pairs : goal.returns-then-pairs
returns-then-pairs g c =
    let t = pairs-whole _ _ c.as_chunks.ensures.front (sym c.as_chunks.ensures.back_len ∙ eqb-true (length c.as_chunks.result.1.now) 0 (sym c.is_empty.ensures ∙ c.if-not-is_empty.false)) in
    record { value = sym (ap (option_and_then (at_most g.row.CAP)) (sym t) ∙ too-many _ _ c.if-pairs.true); bytes_after = search rules }

pub returns-then-not-all_digits : goal.returns-then-not-all_digits
returns-then-not-all_digits g c =
    let z = sym c.as_chunks.ensures.back_len ∙ eqb-true (length c.as_chunks.result.1.now) 0 (sym c.is_empty.ensures ∙ c.if-not-is_empty.false) in
    let e = none_of _ (digits-stand _ z ∙ sym c.all_digits.ensures ∙ c.if-not-all_digits.true) in
    record { value = sym (ap (option_and_then (at_most g.row.CAP)) e); bytes_after = search rules }

pub returns : goal.returns
returns g c =
    let t = pairs-whole _ _ c.as_chunks.ensures.front (sym c.as_chunks.ensures.back_len ∙ eqb-true (length c.as_chunks.result.1.now) 0 (sym c.is_empty.ensures ∙ c.if-not-is_empty.false)) in
    record { value = sym (pairs-done _ _ _ (c.loop-high.invariant.0 ∙ t) (drop_of_length-le _ c.loop-high-test.false) g.row.CAP c.loop-high.invariant.1); bytes_after = tt }

pub returns-in_err-ok : goal.returns-in_err-ok
returns-in_err-ok g c =
    let l = c.loop-high in
    let ps = c.as_chunks.result.0.now in
    let z = sym c.as_chunks.ensures.back_len ∙ eqb-true (length c.as_chunks.result.1.now) 0 (sym c.is_empty.ensures ∙ c.if-not-is_empty.false) in
    let t : is_some (bytes_of ps) ≡ true = ap is_some (pairs-whole _ _ c.as_chunks.ensures.front z) ∙ digits-stand _ z ∙ sym c.all_digits.ensures ∙ c.if-not-all_digits.false in
    let k = pair-there _ _ _ l.invariant.0 _ _ (drop-cons ps l.high-index [] c.loop-high-test.true) t c.byte.result c.byte.ensures _ c.unwrap_or-b.ensures in
    let n : g.row.CAP ≡ length l.bytes.items = grind (arith, common_steps) in
    let e = pairs-full _ _ _ l.invariant.0 _ _ (drop-cons ps l.high-index [] c.loop-high-test.true) _ k g.row.CAP n in
    absurd (false≢true (sym (ap is_some e) ∙ few-enough _ _ c.if-pairs.false ∙ t))
