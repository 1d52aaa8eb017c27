use Rattle.std.proofs.Common.{rules}
use Rattle.heap_server.proofs.play.play_threads.Goals as goal

pub returns : goal.returns
returns c = search rules
