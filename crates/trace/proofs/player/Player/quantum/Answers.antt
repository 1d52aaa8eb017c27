use Rattle.std.proofs.Common.{sym, subst, ap, ◌∙◌}
use Rattle.heap_model.specs.Event.{Course}
use Rattle.trace.specs.Observing.{IsMark}
use Rattle.trace.specs.Player.{PlayerState}
use Rattle.trace.proofs.player.Player.quantum.Goals as goal

pub returns-clause-seen : goal.returns-clause-seen
returns-clause-seen g c = λ s is before after.
    let heap = c.heap.ensures.heap ∙ ap (λ (x : PlayerState). x.course.heap) c.self.view_is ∙ ap (λ (r : Course). r.heap) (sym before) in
    c.quantum_done.ensures.seen s is (subst (λ h. IsMark h c.from_heap-before.result) heap c.from_heap-before.ensures) (after ∙ ap (λ (x : PlayerState). x.course) (sym c.self-2.view_is))
