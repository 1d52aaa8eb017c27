use Rattle.heap_model.proofs.Alike.Sameness.{alike_changed as it}
use Rattle.heap_model.proofs.agreement.changes_keep_alike.Goals as goal

pub returns : goal.returns
returns c = it
