use Rattle.heap_shared.proofs.Merging.{logs_merge}
use Rattle.heap_shared.proofs.laws.logs_merge.Goals as goal

pub returns : goal.returns
returns c log accounts bears covers n = logs_merge log accounts bears covers n
