use Rattle.heap_model.proofs.Represents.{sweep_change as it}
use Rattle.heap_model.proofs.representing.sweeps_end.Goals as goal

pub returns : goal.returns
returns c = it
