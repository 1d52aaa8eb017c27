use Rattle.std.proofs.Common.{refl}
use Rattle.metronome_c.proofs.status.Status.number.Goals as goal

pub returns-in-Busy : goal.returns-in-Busy
returns-in-Busy c = rw c.in-Busy.is refl
