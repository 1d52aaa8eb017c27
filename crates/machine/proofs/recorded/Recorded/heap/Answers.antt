use Rattle.std.proofs.Common.{subst}
use Rattle.heap_model.specs.Event.{IsCourse, present_of, snapshot_of}
use Rattle.heap_model.proofs.Represents.{represents_limit}
use Rattle.machine.specs.Recorded.{RecordedHeap}
use Rattle.machine.proofs.Headline.{course_holds}
use Rattle.machine.proofs.recorded.Recorded.heap.Goals as goal

pub returns-clause-allocated : goal.returns-clause-allocated
returns-clause-allocated c = (course_holds c.args.self.now.course (subst (λ (x : RecordedHeap). IsCourse x.course) c.self.view_is c.self.invariant)).kept

pub returns-clause-units : goal.returns-clause-units
returns-clause-units c =
    let r = c.args.self.now.course in
    let w = subst (λ (x : RecordedHeap). IsCourse x.course) c.self.view_is c.self.invariant in
    represents_limit r.heap (present_of r) (snapshot_of r) w.represents
