-- `Ready::functions_length` meets its contract. The invariant: the rules of the functions below the number are counted.
use mathlib.Core.Path.{ap, ap₂}
use Prim.Native.Nat.{ℕ}
use native.Mathlib.Omega.{arith}
use lib.ListN.{length, length-append}
use Rattle.theory.specs.Words.{stored_rules}
use Rattle.generated.proofs.Writes.{below, below_more}
use Rattle.translator.specs.declared.Source.{Source}
use Rattle.translator.specs.List.{rules_for}
use Rattle.translator.proofs.program.Ready.functions_length.Goals as goal

pub loop-number-preserved : goal.loop-number-preserved
loop-number-preserved c =
    let g = rules_for c.args.self.now.source in
    let same = ap₂ (λ (x : Source) (k : ℕ). length (stored_rules (rules_for x k))) c.of-f.ensures.source c.of-f.ensures.number in (
      omega (arith, c.loop-number.invariant.0, c.rules_length-count.ensures.value, same, ap length (below_more g c.loop-number.number), length-append (below g c.loop-number.number) (stored_rules (g c.loop-number.number))),
      omega (arith, c.loop-number.invariant.1, c.rules_length-count.ensures.upper_bound),
    )
