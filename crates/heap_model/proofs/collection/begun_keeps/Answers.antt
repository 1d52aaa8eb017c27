use Rattle.heap_model.proofs.Action.Each.{begun_kept as it}
use Rattle.heap_model.proofs.collection.begun_keeps.Goals as goal

pub returns : goal.returns
returns c = it
