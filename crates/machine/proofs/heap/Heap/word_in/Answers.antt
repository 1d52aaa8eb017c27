use Rattle.std.proofs.Common.{◌≡◌, ℕ, get_or, subst}
use Rattle.graph_heap.specs.Graph.{Graph, object_of}
use Rattle.heap_model.specs.State.{HeapState}
use Rattle.heap_model.specs.Agreement.{Agrees}
use Rattle.machine.specs.Reading.{IsWordPlace}
use Rattle.machine.proofs.Doing.{present_agrees, place_now}
use Rattle.machine.proofs.Finding.{word_allocated, word_is}
use Rattle.machine.proofs.heap.Heap.word_in.Goals as goal

pub get-requires : goal.get-requires
get-requires c =
    let p = place_now IsWordPlace _ _ c.self.view_is c.self.invariant.heap c.args.at c.requires in
    record { allocated = word_allocated _ c.self.invariant.heap.present (present_agrees _ c.self.invariant.heap) p.0 p.1 c.args.at p.2; within = p.2.1.within }

pub returns : goal.returns
returns c = subst (λ (x : HeapState). (g : Graph) (id i : ℕ) → Agrees x g → IsWordPlace x g id i c.args.at → c.get.result ≡ get_or (object_of g.objects id).words i 0) c.self.view_is
    (λ g id i a p. word_is _ g a id i c.args.at p c.get.result c.get.ensures.holds)
