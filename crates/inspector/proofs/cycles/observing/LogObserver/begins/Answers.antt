use Rattle.std.proofs.Common.{◌≡◌, false, true, refl, sym, ap, ◌∙◌}
use Rattle.std.proofs.lemmas.Result.{on_ok_weaker}
use Rattle.heap_model.specs.State.{HeapState}
use Rattle.space.specs.Pace.{in_cycle}
use Rattle.inspector.proofs.cycles.Seeing.{on_logged, begin_logged, on_err}
use Rattle.inspector.proofs.cycles.observing.LogObserver.begins.Goals as goal

pub returns-then-in_cycle-clause-seen : goal.returns-then-in_cycle-clause-seen
returns-then-in_cycle-clause-seen c = λ s is run seen now.
    let on : in_cycle c.args.recorded.now.course.heap.phase ≡ true = ap (λ (h : HeapState). in_cycle h.phase) (sym c.heap.ensures.heap) ∙ ap in_cycle (sym c.phase.ensures.phase) ∙ sym c.in_cycle.ensures ∙ c.if-in_cycle.true in
    on_logged run s c.args.self.now c.args.self.now seen now c.args.number c.args.recorded.now.course is on refl

pub returns-clause-seen : goal.returns-clause-seen
returns-clause-seen c =
    let off : in_cycle c.args.recorded.now.course.heap.phase ≡ false = ap (λ (h : HeapState). in_cycle h.phase) (sym c.heap.ensures.heap) ∙ ap in_cycle (sym c.phase.ensures.phase) ∙ sym c.in_cycle.ensures ∙ c.if-in_cycle.false in
    on_ok_weaker c.begin_at.result (λ logs s is run seen now. begin_logged run s c.args.self.now c.begin_at.new.self seen now c.args.number c.args.recorded.now.course is off logs) c.begin_at.ensures

pub returns-clause-err : goal.returns-clause-err
returns-clause-err c = on_err c.begin_at.result
