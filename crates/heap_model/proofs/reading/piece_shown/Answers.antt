use Rattle.heap_model.proofs.Readings.Shown.{piece_shown as it}
use Rattle.heap_model.proofs.reading.piece_shown.Goals as goal

pub returns : goal.returns
returns c = it
