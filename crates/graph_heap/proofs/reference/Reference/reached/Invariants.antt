use Rattle.std.proofs.Common.{◌≡◌, map, take}
use Rattle.graph_heap.specs.declared.reachability.found.Found.{Found}
use Rattle.graph_heap.proofs.reference.Reference.reached.Given as goal

-- the identities so far
abbrev pub invariant-loop-found : goal.invariant-loop-found
invariant-loop-found l = l.ids.items ≡ map (λ (f : Found). f.id) (take l.found-index l.found-items)
