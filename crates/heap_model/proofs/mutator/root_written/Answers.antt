use Rattle.heap_model.proofs.Agreements.Written.{root_written as it}
use Rattle.heap_model.proofs.mutator.root_written.Goals as goal

pub returns : goal.returns
returns c = it
