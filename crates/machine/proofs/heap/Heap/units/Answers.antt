use Rattle.std.proofs.Common.{◌≤◌, subst}
use Rattle.heap_model.specs.State.{HeapState}
use Rattle.heap_model.specs.Spent.{cycle_limit}
use Rattle.heap_model.proofs.Represents.{represents_limit}
use Rattle.nodes.specs.HeapFields.{state_of}
use Rattle.machine.proofs.heap.Heap.units.Goals as goal

pub returns-clause-within : goal.returns-clause-within
returns-clause-within c =
    let w = c.self.invariant.heap in
    subst (λ (x : HeapState). c.self.inside.fields.units ≤ cycle_limit x) c.self.view_is (represents_limit (state_of c.self.inside.fields) w.present w.snapshot w.represents)
