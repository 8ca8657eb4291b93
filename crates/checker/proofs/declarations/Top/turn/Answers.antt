-- `checker::declarations::Top::turn` meets its contract.
use mathlib.Core.Path.{sym, ◌∙◌}
use native.Mathlib.Omega.{arith}
use Rattle.std.proofs.lemmas.Result.{MatchResult-at_err}
use Rattle.record.proofs.Laws.{record-fits}
use Rattle.record.specs.declared.Kind.TheVariants.{Exception, Function, Rule, End}
use Rattle.std.proofs.Common.{rules, tests}
use Rattle.checker.specs.declared.refusal.Reason.TheVariants.{KindNotAllowed}
use Rattle.checker.proofs.Errors.{handed_on, map_err-refused}
use Rattle.checker.proofs.program.Turns.{turn-unknown}
use Rattle.checker.proofs.declarations.Top.turn.Goals as goal

pub overflow_add-next : goal.overflow_add-next
overflow_add-next c = omega (arith, record-fits _ _ _ (sym c.record_at.ensures ∙ c.in_ok-r.ensures.ok_part))

pub returns-in_err-kind : goal.returns-in_err-kind
returns-in_err-kind c =
    let m = map_err-refused c.try_from.result c.in_err-kind.ensures.cases (λ unknown. record { reason = KindNotAllowed; place = c.args.self.now.place }) c.in_err-kind.field-0.0 (λ x h. cc) (λ e h. search (rules, tests)) in
    let none = MatchResult-at_err _ _ m.0 m.1 c.try_from.ensures in
    let read = sym c.in_ok-r.ensures.ok_part ∙ c.record_at.ensures in
    rw (handed_on c.from_residual-in_err-kind.result _ c.from_residual-in_err-kind.ensures.1, m.2)
    (turn-unknown _ _ _ read (λ e. none Exception (sym e)) (λ e. none Function (sym e)) (λ e. none Rule (sym e)) (λ e. none End (sym e)))
