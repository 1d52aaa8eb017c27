use Rattle.heap_model.proofs.Readings.Shown.{null_reads as it}
use Rattle.heap_model.proofs.reading.null_reads.Goals as goal

pub returns : goal.returns
returns c = it
