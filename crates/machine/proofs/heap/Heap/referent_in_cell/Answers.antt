use Rattle.std.proofs.Common.{ℕ, get_or, subst}
use Rattle.graph_heap.specs.Graph.{Graph, object_of}
use Rattle.heap_model.specs.State.{HeapState}
use Rattle.heap_model.specs.Agreement.{Agrees}
use Rattle.machine.specs.Reading.{IsRefPlace, Names}
use Rattle.machine.proofs.Doing.{present_agrees, place_now}
use Rattle.machine.proofs.Finding.{ref_allocated, ref_follows, ref_names}
use Rattle.machine.proofs.heap.Heap.referent_in_cell.Goals as goal

pub load-requires : goal.load-requires
load-requires c =
    let p = place_now IsRefPlace _ _ c.self.view_is c.self.invariant.heap c.args.at c.requires in
    record { allocated = ref_allocated _ c.self.invariant.heap.present (present_agrees _ c.self.invariant.heap) p.0 p.1 c.args.at p.2; within = p.2.1.within }

pub resolve-requires-clause-block : goal.resolve-requires-clause-block
resolve-requires-clause-block c some = (let p = place_now IsRefPlace _ _ c.self.view_is c.self.invariant.heap c.args.at c.requires in ref_follows _ c.self.invariant.heap.present (present_agrees _ c.self.invariant.heap) p.0 p.1 c.args.at p.2 c.load.result c.load.ensures.holds some).0

pub resolve-requires-clause-main : goal.resolve-requires-clause-main
resolve-requires-clause-main c some = (let p = place_now IsRefPlace _ _ c.self.view_is c.self.invariant.heap c.args.at c.requires in ref_follows _ c.self.invariant.heap.present (present_agrees _ c.self.invariant.heap) p.0 p.1 c.args.at p.2 c.load.result c.load.ensures.holds some).1

pub returns : goal.returns
returns c = subst (λ (x : HeapState). (g : Graph) (id i : ℕ) → Agrees x g → IsRefPlace x g id i c.args.at → Names x g (get_or (object_of g.objects id).refs i 0) c.resolve.result) c.self.view_is
    (λ g id i a p. ref_names _ g a id i c.args.at p c.load.result c.load.ensures.holds c.resolve.result c.resolve.ensures)
