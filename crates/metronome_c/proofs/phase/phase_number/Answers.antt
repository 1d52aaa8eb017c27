use Rattle.std.proofs.Common.{rules}
use Rattle.metronome_c.proofs.phase.phase_number.Goals as goal

pub returns-in-Moving : goal.returns-in-Moving
returns-in-Moving c = search rules
