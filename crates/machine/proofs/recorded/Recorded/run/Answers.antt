use Rattle.machine.proofs.Courses.{more_done, more_refused, more_room}
use Rattle.machine.proofs.recorded.Recorded.run.Goals as goal

pub loop-event-preserved : goal.loop-event-preserved
loop-event-preserved c = more_done c.args.self.now c.loop-event.self c.event.new.self c.args.events.now c.loop-event.event-index _ c.loop-event-test.true c.loop-event.invariant c.in_ok-event.ensures.runs c.in_ok-event.ensures.left

pub returns-in_err-event-clause-runs : goal.returns-in_err-event-clause-runs
returns-in_err-event-clause-runs c =
    more_refused c.args.self.now c.loop-event.self c.event.new.self c.args.events.now c.loop-event.event-index _ c.loop-event-test.true c.loop-event.invariant c.in_err-event.ensures.runs c.from_residual.result c.from_residual.ensures.0

pub returns-in_err-event-clause-room : goal.returns-in_err-event-clause-room
returns-in_err-event-clause-room c enough =
    absurd (more_room c.args.self.now c.loop-event.self c.event.new.self c.args.events.now c.loop-event.event-index _ c.loop-event-test.true c.loop-event.invariant (λ l. let z = c.in_err-event.ensures.room l in cc) enough)
