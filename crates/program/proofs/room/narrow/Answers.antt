use Rattle.std.proofs.Common.{arith}
use Rattle.std.specs.Prelude.{Some}
use Rattle.program.specs.declared.room.Bounds.{Bounds}
use Rattle.program.specs.Demand.{IsFound}
use Rattle.program.proofs.Trials.{handed_on, enough_here, bounds_meet, next_above, next_below}
use Rattle.program.proofs.room.narrow.Goals as goal

pub returns-in_err-trial-clause-found : goal.returns-in_err-trial-clause-found
returns-in_err-trial-clause-found c =
    handed_on c.args.config.now c.args.text.now (λ found. IsFound c.args.config.now c.args.text.now (Some found)) c.from_residual.result c.in_err-trial.field-0.0 c.from_residual.ensures.1 c.in_err-trial.ensures.trial

pub loop-found-preserved-then-trial : goal.loop-found-preserved-then-trial
loop-found-preserved-then-trial c =
    let is = c.loop-found.invariant.0 in
    let low = c.loop-found.below in
    let high = c.loop-found.found.config.pages in
    let here = enough_here c.args.config.now c.args.text.now c.min-pages.result c.in_ok-trial.trial c.if-trial.true c.in_ok-trial.ensures.trial in
    let above = next_above c.loop-found.next low high c.max.result c.min-pages.result c.loop-found-test.true c.max.ensures c.min-pages.ensures in
    let below = next_below c.loop-found.next low high c.max.result c.min-pages.result c.loop-found-test.true c.max.ensures c.min-pages.ensures in
    let most = is.most in
    (record { fewer = omega (arith, above, here.0); most = omega (arith, below, most, here.0); enough = here.1; too_few = is.too_few }, omega (arith, c.loop-found.invariant.1, c.saturating_mul-step.ensures))

pub returns-clause-found : goal.returns-clause-found
returns-clause-found c =
    let b : Bounds = record { below = c.loop-found.below; found = c.loop-found.found } in
    bounds_meet c.args.config.now c.args.text.now b c.loop-found.invariant.0 (omega (arith, c.loop-found-test.false))
