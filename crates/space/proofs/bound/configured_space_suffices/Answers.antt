use Rattle.space.proofs.Fittings.Configured.{demand_configured, pace_configured}
use Rattle.space.proofs.bound.configured_space_suffices.Goals as goal

pub returns-clause-demand : goal.returns-clause-demand
returns-clause-demand c = λ config h es new d one o same runs keeps fits. demand_configured config h o same es new d one runs keeps fits

pub returns-clause-pace : goal.returns-clause-pace
returns-clause-pace c = λ config h es new p one great o same runs keeps fits. pace_configured config h o same es new p one great runs keeps fits
