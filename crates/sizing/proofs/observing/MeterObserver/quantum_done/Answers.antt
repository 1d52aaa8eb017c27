use Rattle.std.proofs.Common.{◌∙◌, ap, sym}
use Rattle.heap_model.specs.Event.{Course}
use Rattle.heap_model.specs.State.{HeapState}
use Rattle.sizing.proofs.Measurements.Seeing.{quantum_measured}
use Rattle.sizing.proofs.observing.MeterObserver.quantum_done.Goals as goal

pub returns : goal.returns
returns c = record {
  seen = λ s is mark after run seen now.
      quantum_measured run s c.args.self.now c.quanta.new.self seen now c.args.budget c.phase.result is
      (ap (λ (r : Course). r.heap.phase) after ∙ ap (λ (h : HeapState). h.phase) (sym c.heap.ensures.heap) ∙ sym c.phase.ensures.phase) c.quanta.ensures;
}
