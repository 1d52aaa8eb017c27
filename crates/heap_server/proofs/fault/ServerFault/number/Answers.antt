use Rattle.std.proofs.Common.{rules}
use Rattle.heap_server.proofs.fault.ServerFault.number.Goals as goal

pub returns-in-Torn : goal.returns-in-Torn
returns-in-Torn c = search rules
