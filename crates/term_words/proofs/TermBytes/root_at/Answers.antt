-- `TermBytes::root_at` meets its contract.
use mathlib.Core.Path.{sym, ap, ◌∙◌}
use Prim.Native.Nat.{◌+◌}
use native.Mathlib.Omega.{arith}
use Rattle.theory.specs.Bytes.{TermRecord}
use Rattle.std.specs.Prelude.{is_some}
use Rattle.record.specs.Kind.{byte_of}
use Rattle.term_words.specs.Records.{plain_record, long_record}
use Rattle.term_words.specs.Roots.{root_of}
use Rattle.term_words.proofs.Laws.{is-there, next-inside, root-plain, root-long, kind-plain, kind-long}
use Rattle.term_words.proofs.TermBytes.root_at.Goals as goal

pub unwrap-r-requires : goal.unwrap-r-requires
unwrap-r-requires c = ap is_some c.record_at.ensures ∙ is-there c.args.self.arities.now c.args.self.bytes.now c.args.p c.requires

pub overflow_add-next : goal.overflow_add-next
overflow_add-next c =
    omega (arith, next-inside c.args.self.arities.now c.args.self.bytes.now c.args.p c.requires _ (sym c.record_at.ensures ∙ c.unwrap-r.ensures))

pub returns-then-r-eq1 : goal.returns-then-r-eq1
returns-then-r-eq1 c =
    let r = c.unwrap-r.result in
    c.plain_root.ensures
    ∙ ap (λ (k : TermRecord). root_of k (c.args.p + r.len)) (ap (λ k. plain_record (byte_of k)) c.unwrap_or-kind.ensures ∙ kind-plain _ r.kind c.try_from.ensures)
    ∙ root-plain c.args.self.arities.now c.args.self.bytes.now c.args.p c.requires r (sym c.record_at.ensures ∙ c.unwrap-r.ensures) c.if-r-eq1.true

pub returns : goal.returns
returns c =
    let r = c.unwrap-r.result in
    let arities = c.args.self.arities.now in
    c.long_root.ensures
    ∙ ap (λ (k : TermRecord). root_of k (c.args.p + r.len)) (ap (λ k. long_record arities (byte_of k) r.body) c.unwrap_or-kind.ensures ∙ kind-long arities r.body _ r.kind c.try_from.ensures)
    ∙ root-long arities c.args.self.bytes.now c.args.p c.requires r (sym c.record_at.ensures ∙ c.unwrap-r.ensures) c.if-r-eq1.false
