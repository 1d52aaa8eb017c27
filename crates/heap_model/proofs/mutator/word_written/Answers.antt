use Rattle.heap_model.proofs.Agreements.Written.{word_written as it}
use Rattle.heap_model.proofs.mutator.word_written.Goals as goal

pub returns : goal.returns
returns c = it
