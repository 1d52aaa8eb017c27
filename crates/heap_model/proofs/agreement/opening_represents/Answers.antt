use Rattle.heap_model.proofs.Opening.{opening_represents as it}
use Rattle.heap_model.proofs.agreement.opening_represents.Goals as goal

pub returns : goal.returns
returns c = it
