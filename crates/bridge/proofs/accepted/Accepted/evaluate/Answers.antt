-- `bridge::accepted::Accepted::evaluate` meets its contract.
use Rattle.std.proofs.Common.{◌≡◌, None, arith}
use Rattle.bridge.proofs.Judging.{accepted}
use Rattle.bridge.proofs.Allowing.{evaluate-runs}
use Rattle.bridge.proofs.Lending.{own-short-enough, unwrapped}
use Rattle.bridge.proofs.accepted.Accepted.evaluate.Goals as goal

pub returns-in-Some : goal.returns-in-Some
returns-in-Some c =
    let a = accepted _ _ _ c.args.self.now.judged in
    evaluate-runs a _ _ _ c.requires (c.in-Some.ensures.answers a)

-- no own list is longer than the second array
pub returns : goal.returns
returns c =
    let a = accepted _ _ _ c.args.self.now.judged in
    let w = c.evaluate_within-2 in
    evaluate-runs a _ _ _ c.requires
    (unwrapped _ _ _ _ (λ (e : w.result ≡ None). absurd (omega (arith, w.ensures.short a e, own-short-enough _ _ a.checks))) (w.ensures.answers a) c.unwrap_or.ensures)
