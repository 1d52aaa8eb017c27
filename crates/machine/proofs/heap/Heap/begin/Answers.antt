use Rattle.std.proofs.Common.{◌≡◌, [], ap, ◌∙◌, sym, subst}
use Rattle.heap_model.specs.declared.phase.Phase.TheVariants as phases
use Rattle.heap_model.specs.State.{HeapState}
use Rattle.heap_model.specs.Agreement.{Agrees}
use Rattle.heap_model.specs.Action.{begun}
use Rattle.heap_model.specs.Written.{records}
use Rattle.heap_model.proofs.Phases.{idle_is}
use Rattle.nodes.specs.Grey.{grey_in}
use Rattle.nodes.specs.HeapFields.{state_of, IsHeap}
use Rattle.machine.proofs.Collecting.{begun_heap, begun_agrees}
use Rattle.machine.proofs.heap.Heap.begin.Goals as goal

idle : (c : goal.After-self-3-1) → c.self.inside.fields.phase ≡ phases.Idle
idle c = idle_is _ (sym c.is_idle.ensures ∙ c.if-not-is_idle.false)

-- no part is grey
none : (c : goal.After-self-3-1) → grey_in c.self.inside.fields.nodes c.self.inside.fields.grey ≡ []
none c = c.self.invariant.empty (ap records (idle c))

pub invariant_of-self : goal.invariant_of-self
invariant_of-self c =
    let h = state_of c.self.inside.fields in
    record {
      heap = subst (λ xs. IsHeap (record (begun h) { grey = xs })) (sym (none c)) (begun_heap h c.self.invariant.heap (idle c));
      buffers = c.self.invariant.buffers;
      linked = c.self.invariant.linked;
      empty = λ off. none c;
    }

pub returns-clause-begins : goal.returns-clause-begins
returns-clause-begins c =
    let h = state_of c.self.inside.fields in
    (ap (λ (x : HeapState). x.phase) (sym c.self.view_is) ∙ idle c, ap (λ xs. record (begun h) { grey = xs }) (none c) ∙ ap begun c.self.view_is)

pub returns-clause-agrees : goal.returns-clause-agrees
returns-clause-agrees c g a =
    let h = state_of c.self.inside.fields in
    subst (λ xs. Agrees (record (begun h) { grey = xs }) g) (sym (none c))
    (begun_agrees h c.self.invariant.heap (idle c) g (subst (λ (x : HeapState). Agrees x g) (sym c.self.view_is) a))
