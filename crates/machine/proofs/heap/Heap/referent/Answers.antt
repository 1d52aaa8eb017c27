use Rattle.std.proofs.Common.{◌<◌, length, subst, sym}
use Rattle.heap_model.specs.State.{HeapState}
use Rattle.nodes.specs.HeapFields.{state_of}
use Rattle.machine.proofs.Writing.{root_follows}
use Rattle.machine.proofs.Finding.{root_names}
use Rattle.machine.proofs.heap.Heap.referent.Goals as goal

pub returns : goal.returns
returns c g a = root_names _ _ c.self.view_is c.args.root c.get.result c.requires c.get.ensures c.resolve.result c.resolve.ensures g a

pub resolve-requires-clause-main : goal.resolve-requires-clause-main
resolve-requires-clause-main c some = (root_follows (state_of c.self.inside.fields) c.self.invariant.heap c.args.root c.get.result (subst (λ (x : HeapState). c.args.root < length x.roots) (sym c.self.view_is) c.requires) c.get.ensures some).1
