use Rattle.heap_shared.proofs.Merging.{nothing_between}
use Rattle.heap_shared.proofs.laws.nothing_is_done_between.Goals as goal

pub returns : goal.returns
returns c log a bears first one = nothing_between log a bears first one
