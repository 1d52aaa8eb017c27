use Rattle.heap_model.proofs.Readings.Shown.{shape_shown as it}
use Rattle.heap_model.proofs.reading.shape_shown.Goals as goal

pub returns : goal.returns
returns c = it
