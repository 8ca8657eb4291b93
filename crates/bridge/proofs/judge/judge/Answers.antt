-- `bridge::judge::judge` meets its contract.
use Rattle.std.proofs.Common.{sym, ◌∙◌, rules, tests}
use Rattle.checker.specs.Refusal.{number_of}
use Rattle.checker.proofs.Callers.{within}
use Rattle.checker.proofs.Errors.{handed_on, map_err-taken, map_err-refused}
use Rattle.bridge.specs.Report.{refusal_report}
use Rattle.bridge.proofs.Judging.{program-place, program-refused, question-place, question-refused, both-accepted}
use Rattle.bridge.proofs.judge.judge.Goals as goal

pub map_err-requires : goal.map_err-requires
map_err-requires c =
    λ e k. let h = program-place _ _ (sym k ∙ c.check_program.ensures.value) in search rules

pub returns-in_err-checked-clause-refused : goal.returns-in_err-checked-clause-refused
returns-in_err-checked-clause-refused c =
    let m = map_err-refused c.check_program.result c.in_err-checked.ensures.cases (λ e. refusal_report (number_of e.reason) 1 e.place) c.in_err-checked.field-0.0 (λ x h. cc) (λ e h. search (rules, tests)) in
    rw (handed_on c.from_residual.result _ c.from_residual.ensures.1) (program-refused _ _ (sym m.1 ∙ c.check_program.ensures.value) _ _ m.2)

pub own_arities-declared-requires : goal.own_arities-declared-requires
own_arities-declared-requires c =
    let m = map_err-taken c.check_program.result c.in_ok-checked.ensures.cases c.in_ok-checked.checked (λ x h. search (rules, tests)) (λ e h. search (rules, tests)) in
    (within _ _ (sym m ∙ c.check_program.ensures.value)).0

pub map_err-requires-2 : goal.map_err-requires-2
map_err-requires-2 c =
    let m = map_err-taken c.check_program.result c.in_ok-checked.ensures.cases c.in_ok-checked.checked (λ x h. search (rules, tests)) (λ e h. search (rules, tests)) in
    λ e k. let h = question-place _ _ (sym m ∙ c.check_program.ensures.value) _ c.own_arities-declared.ensures _ _ (sym k ∙ c.check_question.ensures.value) in search rules

pub returns-in_err-map_err-clause-refused : goal.returns-in_err-map_err-clause-refused
returns-in_err-map_err-clause-refused c =
    let m = map_err-taken c.check_program.result c.in_ok-checked.ensures.cases c.in_ok-checked.checked (λ x h. search (rules, tests)) (λ e h. search (rules, tests)) in
    let n = map_err-refused c.check_question.result c.in_err-map_err.ensures.cases (λ e. refusal_report (number_of e.reason) 2 e.place) c.in_err-map_err.field-0.0 (λ x h. cc) (λ e h. search (rules, tests)) in
    rw (handed_on c.from_residual-in_err-map_err.result _ c.from_residual-in_err-map_err.ensures.1)
    (question-refused _ _ (sym m ∙ c.check_program.ensures.value) _ c.own_arities-declared.ensures _ _ (sym n.1 ∙ c.check_question.ensures.value) _ n.2)

pub invariant_of-result : goal.invariant_of-result
invariant_of-result c =
    let m = map_err-taken c.check_program.result c.in_ok-checked.ensures.cases c.in_ok-checked.checked (λ x h. search (rules, tests)) (λ e h. search (rules, tests)) in
    let n = map_err-taken c.check_question.result c.in_ok-map_err.ensures.cases c.in_ok-map_err.field-0 (λ x h. search (rules, tests)) (λ e h. search (rules, tests)) in
    record { judged = both-accepted _ _ (sym m ∙ c.check_program.ensures.value) _ c.own_arities-declared.ensures _ (sym n ∙ c.check_question.ensures.value) }
