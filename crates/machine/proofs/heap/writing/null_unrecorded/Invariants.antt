use Rattle.std.specs.Prelude.{◌≡◌}
use Rattle.heap_model.specs.Change.{Clears}
use Rattle.nodes.specs.HeapFields.{state_of, AreHeapFields}
use Rattle.machine.proofs.heap.writing.null_unrecorded.Given as goal

abbrev pub invariant-loop-i : goal.invariant-loop-i
invariant-loop-i l = AreHeapFields l.heap × Clears (state_of l.fn.heap) l.fn.first l.i (state_of l.heap) × (l.heap.phase ≡ l.fn.heap.phase)
