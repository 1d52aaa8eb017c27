use Rattle.std.proofs.Common.{◌∙◌, [], ◌∷◌, ap}
use Rattle.heap_model.specs.Event.{Event}
use Rattle.machine.specs.Recorded.{begin_done}
use Rattle.heap_shared.specs.Past.{LogView, with_event}
use Rattle.heap_shared.proofs.Pasts.{led_now, goes_now}
use Rattle.heap_shared.proofs.shared_heap.SharedHeap.begin.Goals as goal

pub invariant_of-self : goal.invariant_of-self
invariant_of-self c =
    let s = c.self.inside in
    let a = c.begin-told.result in
    let at = ap (λ (x : LogView). x.past) c.enter.ensures ∙ ap (λ (e : Event). with_event s.log.past e) c.from_begin.ensures in
    led_now (begin_done a ∷ []) s.heap c.begin-told.new.heap s.log.past c.enter.new.self.past s.cycles c.begin-told.new.cycles at c.self.invariant c.begin-told.ensures.cycles

pub returns-clause-goes : goal.returns-clause-goes
returns-clause-goes c =
    let s = c.self.inside in
    let a = c.begin-told.result in
    let at = ap (λ (x : LogView). x.past) c.enter.ensures ∙ ap (λ (e : Event). with_event s.log.past e) c.from_begin.ensures in
    goes_now (begin_done a ∷ []) s.heap c.begin-told.new.heap s.log.past c.enter.new.self.past s.cycles c.begin-told.new.cycles at c.self.invariant c.begin-told.ensures.cycles _ _ _ s.pacer c.begin-told.new.pacer c.self.view_is (ap (λ (x : LogView). x.kept) c.enter.ensures) c.begin-told.ensures.keeps
