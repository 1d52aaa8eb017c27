use Rattle.std.proofs.Common.{rules}
use Rattle.heap_server.proofs.play.is_all.Goals as goal

pub returns-then-whole : goal.returns-then-whole
returns-then-whole c = search rules

pub returns-else-whole : goal.returns-else-whole
returns-else-whole c = search rules
