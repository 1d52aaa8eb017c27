use Rattle.space.specs.Pace.{moved_quanta, demand_of}
use Rattle.space.proofs.Paces.Moved.{pace_keeps}
use Rattle.space.proofs.Tally.{space_suffices}
use Rattle.space.proofs.bound.space_suffices_at_a_pace.Goals as goal

pub returns : goal.returns
returns c = λ h es new p k great o some runs keeps fits. space_suffices h es new (demand_of p (moved_quanta h k)) o some runs (pace_keeps h es new p k great o some runs keeps) fits
