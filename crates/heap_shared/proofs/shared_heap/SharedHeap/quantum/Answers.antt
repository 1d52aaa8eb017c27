use Rattle.std.proofs.Common.{◌∙◌, [], ◌∷◌, ap}
use Rattle.heap_model.specs.Event.{Event}
use Rattle.machine.specs.Recorded.{quantum_done}
use Rattle.heap_shared.specs.Past.{LogView, with_event}
use Rattle.heap_shared.proofs.Pasts.{led_now, goes_now}
use Rattle.heap_shared.proofs.shared_heap.SharedHeap.quantum.Goals as goal

pub invariant_of-self : goal.invariant_of-self
invariant_of-self c =
    let s = c.self.inside in
    let a = c.quantum-told.result in
    let at = ap (λ (x : LogView). x.past) c.enter.ensures ∙ ap (λ (e : Event). with_event s.log.past e) c.from_quantum.ensures in
    led_now (quantum_done c.args.budget a ∷ []) s.heap c.quantum-told.new.heap s.log.past c.enter.new.self.past s.cycles c.quantum-told.new.cycles at c.self.invariant c.quantum-told.ensures.cycles

pub returns-clause-goes : goal.returns-clause-goes
returns-clause-goes c =
    let s = c.self.inside in
    let a = c.quantum-told.result in
    let at = ap (λ (x : LogView). x.past) c.enter.ensures ∙ ap (λ (e : Event). with_event s.log.past e) c.from_quantum.ensures in
    goes_now (quantum_done c.args.budget a ∷ []) s.heap c.quantum-told.new.heap s.log.past c.enter.new.self.past s.cycles c.quantum-told.new.cycles at c.self.invariant c.quantum-told.ensures.cycles _ _ _ s.pacer c.quantum-told.new.pacer c.self.view_is (ap (λ (x : LogView). x.kept) c.enter.ensures) c.quantum-told.ensures.keeps
