use Rattle.heap_model.proofs.Readings.Shown.{root_reads as it}
use Rattle.heap_model.proofs.reading.root_reads.Goals as goal

pub returns : goal.returns
returns c = it
