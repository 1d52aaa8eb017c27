use Rattle.paced.specs.Logged.{event_of}
use Rattle.heap_shared.specs.Past.{with_event}
use Rattle.heap_shared.proofs.log.HeapLog.enter_command.Given as goal

-- the past after the call
abbrev pub ghost-went_on : goal.ghost-went_on
ghost-went_on a = with_event a.past.now.value (event_of a._event)
