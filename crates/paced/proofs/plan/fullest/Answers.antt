use Rattle.std.proofs.Common.{◌≡◌, ◌-◌, ◌*◌, ◌/◌, ap, ◌∙◌, sym, arith, refl}
use Rattle.fragmentation.specs.Flow.{sweep_quanta}
use Rattle.fragmentation.specs.Configured.{roots_in}
use Rattle.paced.specs.declared.plan.Plan.{Plan}
use Rattle.paced.specs.Rooms.{flow_for}
use Rattle.paced.proofs.Planning.{none_fills, filling}
use Rattle.paced.proofs.plan.fullest.Goals as goal

pub returns-then-room-traced : goal.returns-then-room-traced
returns-then-room-traced c = λ makes made plan same fits.
    let config = c.args.config.now in
    let q = c.sweep_quanta-quanta.ensures.quanta makes plan same in
    let a = c.from.ensures in
    let b = c.from-2.ensures in
    let r = c.from-room.ensures in
    let o = c.room_for.ensures in
    let traced : c.from.result * c.from-2.result ≡ sweep_quanta (flow_for makes c.args.live_words plan) (roots_in config) c.args.pages (config.collector_ticks * config.rate) * plan.quantum_words = ap (λ z. z * c.from-2.result) (a ∙ q) ∙ ap (λ z. sweep_quanta (flow_for makes c.args.live_words plan) (roots_in config) c.args.pages (config.collector_ticks * config.rate) * z) (b ∙ sym same) in
    none_fills makes c.args.classes made config c.args.live_words c.args.pages plan (let t = c.if-room-traced.true in omega (arith, t, traced, r, o)) fits

pub returns : goal.returns
returns c = λ makes made.
    let config = c.args.config.now in
    let words = c.args.quantum_words in
    let plan : Plan = record { quantum_words = words; cycle_words = (c.from-room.result - c.from.result * c.from-2.result) / 2 } in
    let q = c.sweep_quanta-quanta.ensures.quanta makes plan refl in
    let a = c.from.ensures in
    let b = c.from-2.ensures in
    let r = c.from-room.ensures in
    let o = c.room_for.ensures in
    let traced : c.from.result * c.from-2.result ≡ sweep_quanta (flow_for makes c.args.live_words plan) (roots_in config) c.args.pages (config.collector_ticks * config.rate) * words = ap (λ z. z * c.from-2.result) (a ∙ q) ∙ ap (λ z. sweep_quanta (flow_for makes c.args.live_words plan) (roots_in config) c.args.pages (config.collector_ticks * config.rate) * z) b in
    let f = filling makes c.args.classes made config c.args.live_words c.args.pages plan c.requires.words (let t = c.if-room-traced.false in omega (arith, t, traced, r, o)) (omega (arith, traced, r, o)) in
    (refl, f.0, f.1)
