use Rattle.std.proofs.Common.{[], ◌∷◌, ◌∙◌, refl, sym, ap, subst}
use Rattle.std.specs.Prelude.{Option}
use Rattle.graph_heap.specs.declared.command.Command.TheVariants as commands
use Rattle.heap_model.specs.Event.{Command_done}
use Rattle.paced.specs.Pacing.{PacerView}
use Rattle.heap_shared.specs.Past.{LogView}
use Rattle.heap_shared.specs.Ring.{Ringed, KeepsBy}
use Rattle.heap_shared.proofs.Pasts.{led_now, goes_now}
use Rattle.heap_shared.proofs.shared_heap.SharedHeap.make_now.Goals as goal

pub invariant_of-self : goal.invariant_of-self
invariant_of-self c =
    let a = c.self.inside in
    let e = Command_done c.args.mutator (commands.New c.args.dst c.args.shape) c.make-reply.result in
    led_now (e ∷ []) a.heap c.make-reply.new.self a.log.past c.enter_command.new.self.past a.cycles a.cycles (ap (λ (x : LogView). x.past) c.enter_command.ensures) c.self.invariant (_, c.make-reply.ensures, (refl, refl))

pub returns-clause-goes : goal.returns-clause-goes
returns-clause-goes c =
    let a = c.self.inside in
    let h = a.heap in
    let k = c.make-reply.new.self in
    let e = Command_done c.args.mutator (commands.New c.args.dst c.args.shape) c.make-reply.result in
    let none = ap (λ (r : Ringed). r.pacer) c.self.view_is ∙ c.requires in
    goes_now (e ∷ []) h k a.log.past c.enter_command.new.self.past a.cycles a.cycles (ap (λ (x : LogView). x.past) c.enter_command.ensures) c.self.invariant (_, c.make-reply.ensures, (refl, refl)) _ _ _ a.pacer a.pacer c.self.view_is (ap (λ (x : LogView). x.kept) c.enter_command.ensures)
    (subst (λ (p : Option PacerView). KeepsBy p h (e ∷ []) p k) (sym none) refl)
