use Rattle.heap_model.proofs.Swept.{swept as it}
use Rattle.heap_model.proofs.collection.sweep_ends.Goals as goal

pub returns : goal.returns
returns c = it
