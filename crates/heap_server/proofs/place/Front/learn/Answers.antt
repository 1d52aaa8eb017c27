use Rattle.std.proofs.Common.{rules}
use Rattle.heap_server.proofs.place.Front.learn.Goals as goal

pub returns-clause-that : goal.returns-clause-that
returns-clause-that c = search rules
