use Rattle.heap_model.proofs.Alike.Sameness.{each_changed as it}
use Rattle.heap_model.proofs.agreement.changes_each.Goals as goal

pub returns : goal.returns
returns c = it
