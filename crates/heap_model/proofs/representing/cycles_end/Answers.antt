use Rattle.heap_model.proofs.Bound.{quanta_end as it}
use Rattle.heap_model.proofs.representing.cycles_end.Goals as goal

pub returns : goal.returns
returns c = it
