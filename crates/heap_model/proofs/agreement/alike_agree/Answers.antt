use Rattle.heap_model.proofs.Alike.Sameness.{agrees_alike as it}
use Rattle.heap_model.proofs.agreement.alike_agree.Goals as goal

pub returns : goal.returns
returns c = it
