use Rattle.std.proofs.Common.{arith}
use Rattle.space.specs.Pace.{unmoved_quanta, demand_of}
use Rattle.space.proofs.Paces.Unmoved.{unmoved_suffices, unmoved_keeps}
use Rattle.space.proofs.bound.space_suffices_at_an_unmoved_pace.Goals as goal

pub returns-clause-demand : goal.returns-clause-demand
returns-clause-demand c = λ h es new p k great o some runs keeps fits. unmoved_keeps h es new p k (omega (arith, great)) o some runs keeps fits

pub returns-clause-room : goal.returns-clause-room
returns-clause-room c = λ h es new p k great o some runs keeps fits.
    unmoved_suffices h es new (demand_of p (unmoved_quanta h k)) o some runs (unmoved_keeps h es new p k (omega (arith, great)) o some runs keeps fits) fits
