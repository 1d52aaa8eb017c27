use Rattle.std.proofs.Common.{[], ◌∷◌, refl, ap}
use Rattle.heap_model.specs.Event.{Command_done}
use Rattle.heap_shared.specs.Past.{LogView}
use Rattle.heap_shared.proofs.Pasts.{led_now, goes_now}
use Rattle.heap_shared.proofs.Plans.{other_keeps}
use Rattle.heap_shared.proofs.shared_heap.SharedHeap.call_by.Goals as goal

pub invariant_of-self : goal.invariant_of-self
invariant_of-self g c =
    let a = c.self.inside in
    let log = c.enter_command.new.self in
    let e = Command_done c.args.mutator c.args.command c.method-reply.result in
    let steps = c.requires.does _ _ _ (record { shown = _; shows = refl; left = _; met = c.method-reply.ensures; leaves = refl }) in
    led_now (e ∷ []) a.heap _ a.log.past log.past a.cycles a.cycles (ap (λ (x : LogView). x.past) c.enter_command.ensures) c.self.invariant (_, steps, (refl, refl))

pub returns-clause-goes : goal.returns-clause-goes
returns-clause-goes g c =
    let a = c.self.inside in
    let log = c.enter_command.new.self in
    let e = Command_done c.args.mutator c.args.command c.method-reply.result in
    let steps = c.requires.does _ _ _ (record { shown = _; shows = refl; left = _; met = c.method-reply.ensures; leaves = refl }) in
    goes_now (e ∷ []) a.heap _ a.log.past log.past a.cycles a.cycles (ap (λ (x : LogView). x.past) c.enter_command.ensures) c.self.invariant (_, steps, (refl, refl)) _ _ _ a.pacer a.pacer c.self.view_is (ap (λ (x : LogView). x.kept) c.enter_command.ensures)
    (other_keeps a.pacer a.heap _ c.args.mutator c.args.command c.method-reply.result c.requires.nothing steps)
