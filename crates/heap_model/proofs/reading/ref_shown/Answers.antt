use Rattle.heap_model.proofs.Readings.Shown.{ref_shown as it}
use Rattle.heap_model.proofs.reading.ref_shown.Goals as goal

pub returns : goal.returns
returns c = it
