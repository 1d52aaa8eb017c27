use Rattle.std.proofs.Common.{rules}
use Rattle.heap_server.proofs.server.Server.call.Goals as goal

pub returns-clause-entry : goal.returns-clause-entry
returns-clause-entry c = search rules
