use Rattle.std.proofs.Common.{subst}
use Rattle.heap_model.specs.Event.{IsCourse, present_of, snapshot_of}
use Rattle.heap_model.proofs.Agreements.Implied.{consistent_agrees}
use Rattle.machine.specs.Recorded.{RecordedHeap}
use Rattle.machine.proofs.recorded.Recorded.history.Goals as goal

pub returns-clause-agrees : goal.returns-clause-agrees
returns-clause-agrees c =
    let r = c.args.self.now.course in
    let w = subst (λ (x : RecordedHeap). IsCourse x.course) c.self.view_is c.self.invariant in
    consistent_agrees r.heap (present_of r) (snapshot_of r) w.represents.consistent
