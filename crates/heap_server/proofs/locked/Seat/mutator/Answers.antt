use Rattle.std.proofs.Common.{rules}
use Rattle.heap_server.proofs.locked.Seat.mutator.Goals as goal

pub returns : goal.returns
returns c = search rules
