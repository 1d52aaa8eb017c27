use Rattle.std.proofs.Common.{◌≡◌, ◌↔◌, ◌≤◌, Some, ap, ◌∙◌, sym, subst}
use Rattle.std.specs.Prelude.{IfSome}
use Rattle.heap_model.specs.Phases.{awaits_sweep_end}
use Rattle.space.specs.Pace.{in_cycle}
use Rattle.sizing.specs.declared.meter.Meter.{Meter}
use Rattle.sizing.specs.Season.{IsSwept}
use Rattle.sizing.proofs.Meters.Cycles.{quanta_measure}
use Rattle.sizing.proofs.meter.Meter.quanta.Goals as goal

pub returns : goal.returns
returns c = λ l es quanta r new v w works ends.
    let old = c.args.self.now in
    let rest = c.rest.ensures in
    let beat = c.beat.ensures in
    let b : Meter = c.beat.new.self in
    let fin : Meter = record b { budget = Some c.least_of.result } in
    let season : b.season ≡ c.rest.new.self = ap (λ (x : Meter). x.season) beat.same in
    let budget : b.budget ≡ old.budget = ap (λ (x : Meter). x.budget) beat.same in
    let same : fin ≡ record old { cycle_running = fin.cycle_running; season = fin.season; asked = fin.asked; budget = fin.budget } =
    ap (λ (x : Meter). record x { budget = Some c.least_of.result }) beat.same ∙ ap (λ s. record old { cycle_running = fin.cycle_running; season = s; asked = fin.asked; budget = fin.budget }) (sym season) in
    quanta_measure l es quanta r new old fin c.args.budget v w works same
    (λ e. season ∙ rest.awaiting_sweep_end (ap awaits_sweep_end (sym ends) ∙ e))
    (λ e. season ∙ rest.rested e)
    (λ e t. subst (IsSwept old.season) (sym season) (rest.swept (ap awaits_sweep_end (sym ends) ∙ e) t))
    (λ e. (let n = beat.on e in (n.0 ∙ ap in_cycle (sym ends), n.1)))
    (λ e. (let n = beat.off e in (ap (λ (x : Meter). x.cycle_running) n, ap (λ (x : Meter). x.asked) n)))
    (λ k. subst (λ o. (k ≤ c.least_of.result) ↔ (IfSome o (λ n. k ≤ n) × (k ≤ c.args.budget))) budget (c.least_of.ensures k))
