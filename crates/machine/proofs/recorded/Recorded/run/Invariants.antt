use Rattle.std.specs.Prelude.{take}
use Rattle.machine.proofs.Courses.{SoFar}
use Rattle.machine.proofs.recorded.Recorded.run.Given as goal

abbrev pub invariant-loop-event : goal.invariant-loop-event
invariant-loop-event l = SoFar l.fn.self l.self (take l.event-index l.fn.events)
