use Rattle.heap_model.proofs.Event.Kept.{represents_command as it}
use Rattle.heap_model.proofs.events.commands_represent.Goals as goal

pub returns : goal.returns
returns c = it
