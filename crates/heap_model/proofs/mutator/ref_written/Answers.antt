use Rattle.heap_model.proofs.Agreements.Written.{ref_written as it}
use Rattle.heap_model.proofs.mutator.ref_written.Goals as goal

pub returns : goal.returns
returns c = it
