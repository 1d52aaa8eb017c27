use Rattle.std.proofs.Common.{subst}
use Rattle.heap_model.specs.Event.{Does, IsCourse}
use Rattle.heap_model.proofs.Event.Kept.{does_course}
use Rattle.machine.specs.Recorded.{RecordedHeap, recorded_of, quantum_done}
use Rattle.machine.proofs.Courses.{quantum_does}
use Rattle.machine.proofs.Headline.{sweeps_end}
use Rattle.machine.proofs.recorded.Recorded.quantum.Goals as goal

pub invariant_of-self : goal.invariant_of-self
invariant_of-self c =
    let r = (recorded_of c.self.inside).course in
    does_course r (quantum_done c.args.budget c.quantum.result) (record r { heap = c.quantum.new.self }) c.self.invariant (quantum_does r c.args.budget c.quantum.new.self c.quantum.result c.quantum.ensures.spends)

pub returns-clause-does : goal.returns-clause-does
returns-clause-does c =
    let r = (recorded_of c.self.inside).course in
    subst (λ (x : RecordedHeap). Does x.course (quantum_done c.args.budget c.quantum.result) (record r { heap = c.quantum.new.self })) c.self.view_is (quantum_does r c.args.budget c.quantum.new.self c.quantum.result c.quantum.ensures.spends)

pub returns-clause-swept : goal.returns-clause-swept
returns-clause-swept c = sweeps_end c.args.self.now.course (subst (λ (x : RecordedHeap). IsCourse x.course) c.self.view_is c.self.invariant)
