use Rattle.heap_model.proofs.Grey.Few.{are_grey}
use Rattle.heap_model.proofs.representing.grey_parts_are_few.Goals as goal

pub returns : goal.returns
returns c = are_grey
