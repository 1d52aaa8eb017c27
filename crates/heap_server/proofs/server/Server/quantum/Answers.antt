use Rattle.std.proofs.Common.{rules}
use Rattle.heap_server.proofs.server.Server.quantum.Goals as goal

pub returns-clause-range : goal.returns-clause-range
returns-clause-range c = search rules

pub returns-clause-paced : goal.returns-clause-paced
returns-clause-paced c = search rules
