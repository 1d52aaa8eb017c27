use Rattle.heap_model.proofs.Agreements.NewObject.{new_written as it}
use Rattle.heap_model.proofs.mutator.new_written.Goals as goal

pub returns : goal.returns
returns c = it
