use Rattle.heap_model.proofs.Readings.Shown.{word_shown as it}
use Rattle.heap_model.proofs.reading.word_shown.Goals as goal

pub returns : goal.returns
returns c = it
