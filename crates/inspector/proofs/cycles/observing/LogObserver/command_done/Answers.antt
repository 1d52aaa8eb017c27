use Rattle.std.proofs.Common.{refl}
use Rattle.inspector.proofs.cycles.Seeing.{command_logged}
use Rattle.inspector.proofs.cycles.observing.LogObserver.command_done.Goals as goal

pub returns-clause-seen : goal.returns-clause-seen
returns-clause-seen c = λ s is run seen now. command_logged run s c.args.self.now c.args.self.now seen now c.args._entry.now is refl
