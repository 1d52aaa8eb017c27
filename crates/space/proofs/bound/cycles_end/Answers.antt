use Rattle.space.proofs.Fittings.Configured.{cycle_configured, sweep_configured}
use Rattle.space.proofs.bound.cycles_end.Goals as goal

pub returns-clause-cycle : goal.returns-clause-cycle
returns-clause-cycle c = λ config h es new one great o same runs enough. cycle_configured config h o same es new one great runs enough

pub returns-clause-sweep : goal.returns-clause-sweep
returns-clause-sweep c = λ config h es new one great o same runs enough. sweep_configured config h o same es new one great runs enough
