-- `wording::put_number` meets its contract. The fewest digits that hold a number are as many as `places_of` says.
use Rattle.std.proofs.Common.{ℕ, length, length-append, ap, ◌++◌, ◌∙◌, arith, rules}
use Rattle.wording.proofs.Laws.{number-text}
use Rattle.wording.proofs.put_number.Goals as goal

pub put_text-requires : goal.put_text-requires
put_text-requires g c =
    let d = c.decimal-k in
    let t = number-text c.args.n c.from.result d.result _ (omega arith) c.from.ensures d.ensures.len d.ensures.digits in
    (search rules, omega (arith, t.1))

pub returns : goal.returns
returns g c =
    let d = c.decimal-k in
    let t = number-text c.args.n c.from.result d.result _ (omega arith) c.from.ensures d.ensures.len d.ensures.digits in
    record {
      appended = c.put_text.ensures ∙ ap (λ t. c.args.out.now.items ++ t) t.0;
      upper_bound = omega (arith, t.1, ap length c.put_text.ensures, length-append {A = ℕ});
    }
