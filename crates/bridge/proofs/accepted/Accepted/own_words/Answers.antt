-- `bridge::accepted::Accepted::own_words` meets its contract.
use Rattle.std.proofs.Common.{ap, ◌∙◌}
use Rattle.theory.specs.Bytes.{read_program}
use Rattle.translator.specs.Answered.{answered, filled}
use Rattle.bridge.proofs.Judging.{accepted}
use Rattle.bridge.proofs.TranslatorWords.{checked-is, own-said}
use Rattle.bridge.proofs.accepted.Accepted.own_words.Goals as goal

pub of-requires : goal.of-requires
of-requires c = checked-is _ _ (accepted _ _ _ c.args.self.now.judged).checks

pub returns-clause-value : goal.returns-clause-value
returns-clause-value c =
    λ a.
    let s = a.checks in
    let e = ap (λ x. read_program x.now) c.of.ensures.same_program ∙ s.program_read in
    own-said (λ ws. answered ws c.args.dst.now) _ s.book (c.own_list.ensures.of_own_list s.book e)

pub returns-clause-dst_after : goal.returns-clause-dst_after
returns-clause-dst_after c =
    λ a.
    let s = a.checks in
    let e = ap (λ x. read_program x.now) c.of.ensures.same_program ∙ s.program_read in
    own-said (λ ws. filled ws c.args.dst.now) _ s.book (c.own_list.ensures.of_own_list_2 s.book e)
