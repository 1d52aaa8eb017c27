use Rattle.std.proofs.Common.{◌≡◌, ◌+◌, ◌-◌, ◌*◌, ◌/◌, ap, ◌∙◌, arith, refl}
use Rattle.fragmentation.specs.Flow.{sweep_quanta, flow_moving}
use Rattle.fragmentation.specs.Configured.{roots_in}
use Rattle.paced.specs.Rooms.{flow_for}
use Rattle.paced.proofs.quanta.quanta_on.Goals as goal

pub returns-clause-quanta : goal.returns-clause-quanta
returns-clause-quanta c = λ makes.
    let config = c.args.config.now in
    let f = flow_for makes c.args.live_words c.args.plan.now in
    let k = config.collector_ticks * config.rate in
    let s = c.sweep_quanta-swept.ensures.quanta makes c.args.plan.now refl in
    let m = c.moving_units-moving.ensures.units makes c.args.plan.now refl in
    let b = c.budget.ensures.budget in
    let e = c.from.ensures in
    let l = c.from-left.ensures in
    let d : c.from.result - c.from-left.result ≡ k - 255 = omega (arith, b, e, l) in
    ap (λ z. z + (c.moving_units-moving.result / (c.from.result - c.from-left.result) + 1)) s
    ∙ ap (λ z. sweep_quanta f (roots_in config) c.args.pages k + (z / (c.from.result - c.from-left.result) + 1)) m
    ∙ ap (λ z. sweep_quanta f (roots_in config) c.args.pages k + (flow_moving f c.args.pages / z + 1)) d
