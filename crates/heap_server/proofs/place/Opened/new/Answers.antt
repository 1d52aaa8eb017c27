use Rattle.std.proofs.Common.{rules}
use Rattle.heap_server.proofs.place.Opened.new.Goals as goal

pub tracked-requires : goal.tracked-requires
tracked-requires c = search rules
