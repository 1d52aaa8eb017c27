use Rattle.std.proofs.Common.{sym, ap, ◌∙◌, length}
use Rattle.heap_model.specs.Event.{Course}
use Rattle.nodes.specs.Copies.{copies_in}
use Rattle.inspector.specs.Log.{AreCounted}
use Rattle.inspector.proofs.cycles.Stepping.{quantum_begins_none}
use Rattle.inspector.proofs.cycles.log.Log.quantum.Goals as goal

pub returns : goal.returns
returns c = λ steps s is quantum mark now.
    let heap = ap (λ (r : Course). r.heap) now ∙ sym c.heap.ensures.heap in
    let turn = c.between-turn.ensures s quantum mark heap in
    let same = c.heap-2.ensures.heap ∙ ap (λ (r : Course). r.heap) (sym now) in
    let counted : AreCounted s c.copies-copies.result = record {
      sweep = λ e. c.copies-copies.ensures.sweep (turn.sweep ∙ e) ∙ ap (λ h. copies_in h.store) same;
      cycle = λ e. c.copies-copies.ensures.cycle (turn.cycle ∙ e) ∙ ap (λ h. copies_in h.store) same;
    } in
    record {
      base = c.after-self.ensures steps s is.base turn counted (ap length c.history-place.ensures.history ∙ ap (λ (r : Course). length r.history) (sym now));
      cycles = c.open_after-self.ensures steps s is.cycles (quantum_begins_none s.event quantum) turn counted now;
    }
