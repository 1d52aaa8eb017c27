use Rattle.heap_model.proofs.Action.Names.{reads_stay as it}
use Rattle.heap_model.proofs.reading.moves_keep_names.Goals as goal

pub returns : goal.returns
returns c = it
