use Rattle.metronome_c.proofs.Limits.{same_units, same_quanta}
use Rattle.metronome_c.proofs.laws.limits_are_those_of_heaps.Goals as goal

pub returns : goal.returns
returns c = record { units = same_units; quanta = same_quanta }
