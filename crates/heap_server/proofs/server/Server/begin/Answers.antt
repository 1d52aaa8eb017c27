use Rattle.std.proofs.Common.{rules}
use Rattle.heap_server.proofs.server.Server.begin.Goals as goal

pub returns-clause-begun : goal.returns-clause-begun
returns-clause-begun c = search rules
