use Rattle.heap_model.proofs.Change.Changed.{represents_changed}
use Rattle.heap_model.proofs.Left.{change_left}
use Rattle.heap_model.proofs.events.changes_represent.Goals as goal

pub returns-clause-represents : goal.returns-clause-represents
returns-clause-represents c = represents_changed

pub returns-clause-cycle : goal.returns-clause-cycle
returns-clause-cycle c = change_left
