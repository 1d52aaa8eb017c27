use Rattle.heap_model.proofs.Swept.{allocated_is_kept as it}
use Rattle.heap_model.proofs.collection.allocated_is_kept.Goals as goal

pub returns : goal.returns
returns c = it
