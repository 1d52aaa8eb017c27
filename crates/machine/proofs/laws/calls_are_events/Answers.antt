use Rattle.machine.proofs.Events.{command_event, begin_event, quantum_event}
use Rattle.machine.proofs.laws.calls_are_events.Goals as goal

pub returns-clause-command : goal.returns-clause-command
returns-clause-command c = command_event

pub returns-clause-begin : goal.returns-clause-begin
returns-clause-begin c = begin_event

pub returns-clause-quantum : goal.returns-clause-quantum
returns-clause-quantum c = quantum_event
