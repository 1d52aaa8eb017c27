use Rattle.sizing.proofs.Counts.Counting.{none_of}
use Rattle.sizing.proofs.blocks.none.Goals as goal

pub returns : goal.returns
returns c = λ class l. none_of 38 class
