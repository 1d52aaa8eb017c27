use Rattle.std.proofs.Common.{rules}
use Rattle.metronome_c.proofs.status.Status.of_fault.Goals as goal

pub returns-in-OutOfRange : goal.returns-in-OutOfRange
returns-in-OutOfRange c = search rules
