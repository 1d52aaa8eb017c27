use Rattle.heap_model.proofs.Alike.Sameness.{told as it}
use Rattle.heap_model.proofs.agreement.agreeing_are_alike.Goals as goal

pub returns : goal.returns
returns c = it
