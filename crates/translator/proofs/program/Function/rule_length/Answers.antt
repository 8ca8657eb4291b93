-- `Function::rule_length` meets its contract.
use mathlib.Core.Path.{sym, ap, ap₂, ◌∙◌}
use Prim.Native.Nat.{ℕ, ◌+◌}
use lib.ListN.{length}
use Rattle.translator.specs.declared.rules.Sizes.{Sizes}
use Rattle.translator.proofs.Laws.{if-same}
use Rattle.translator.proofs.Counts.{rule-count}
use Rattle.translator.proofs.program.Function.rule_length.Goals as goal

pub returns-then-from-self-clause-value : goal.returns-then-from-self-clause-value
returns-then-from-self-clause-value c =
    let f = c.args.self.now in
    let p = c.args.p in
    let same = sym c.from.ensures ∙ c.if-from-self.true in
    let l = c.from-then-from-self.ensures ∙ ap (λ (x : Sizes). x.left) c.rule_sizes-s.ensures in
    let r = c.from-then-from-self-2.ensures ∙ ap (λ (x : Sizes). x.right) c.rule_sizes-s.ensures in
    ap₂ (λ (i j : ℕ). 2 + i + j) l r
    ∙ sym (rule-count f.source p (16 + f.number) f.arity (c.requires.opened same))
    ∙ sym (ap length (if-same f.source p f.number f.arity same))
