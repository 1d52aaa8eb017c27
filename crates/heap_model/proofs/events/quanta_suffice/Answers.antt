use Rattle.heap_model.proofs.Event.Kept.{cycle_ends as it}
use Rattle.heap_model.proofs.events.quanta_suffice.Goals as goal

pub returns : goal.returns
returns c = it
