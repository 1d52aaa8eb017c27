use Rattle.std.proofs.Common.{subst}
use Rattle.graph_heap.specs.Graph.{Graph}
use Rattle.heap_model.specs.State.{HeapState}
use Rattle.heap_model.specs.Represents.{Represents}
use Rattle.machine.proofs.heap.Heap.phase.Goals as goal

pub returns-clause-represents : goal.returns-clause-represents
returns-clause-represents c =
    let w = c.self.invariant.heap in
    subst (λ (x : HeapState). (present : Graph) × (snapshot : Graph) × Represents x present snapshot) c.self.view_is (w.present, w.snapshot, w.represents)
