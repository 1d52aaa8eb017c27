use Rattle.std.proofs.Common.{◌↔◌, IsTrue, subst}
use Rattle.heap_model.specs.State.{HeapState}
use Rattle.nodes.specs.Copies.{HasBlock}
use Rattle.machine.proofs.heap.Heap.holds.Goals as goal

pub returns : goal.returns
returns c = subst (λ (h : HeapState). IsTrue c.holds.result ↔ HasBlock h.store c.args.id) c.self.view_is c.holds.ensures
