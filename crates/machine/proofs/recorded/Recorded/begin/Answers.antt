use Rattle.std.proofs.Common.{refl, rules}
use Rattle.heap_model.specs.Event.{Cycle_begun}
use Rattle.heap_model.proofs.Event.Kept.{does_course}
use Rattle.machine.specs.Recorded.{recorded_of}
use Rattle.machine.proofs.Courses.{ends_soon}
use Rattle.machine.proofs.recorded.Recorded.begin.Goals as goal

pub invariant_of-self-2 : goal.invariant_of-self-2
invariant_of-self-2 c =
    let b = c.in_ok-begin.ensures.begins in
    does_course (recorded_of c.self.inside).course Cycle_begun (record { heap = c.begin.new.self; history = c.self.inside.history.items; place = c.len-self-inside.result }) c.self.invariant
    (record { idle = b.0; heap = b.1; history = refl; place = search rules })

pub returns-clause-suffice : goal.returns-clause-suffice
returns-clause-suffice c done =
    let b = c.in_ok-begin.ensures.begins in
    ends_soon (recorded_of c.self.inside).course (record { heap = c.begin.new.self; history = c.self.inside.history.items; place = c.len-self-inside.result }) c.self.invariant
    (record { idle = b.0; heap = b.1; history = refl; place = search rules })
