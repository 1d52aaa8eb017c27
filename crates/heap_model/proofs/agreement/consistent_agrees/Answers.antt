use Rattle.heap_model.proofs.Agreements.Implied.{consistent_agrees as it}
use Rattle.heap_model.proofs.agreement.consistent_agrees.Goals as goal

pub returns : goal.returns
returns c = it
