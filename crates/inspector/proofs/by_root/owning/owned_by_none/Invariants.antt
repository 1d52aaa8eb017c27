use Rattle.std.proofs.Common.{◌≡◌, map, take}
use Rattle.graph_heap.specs.declared.reachability.found.Found.{Found}
use Rattle.inspector.proofs.by_root.owning.owned_by_none.Given as goal

-- the objects so far
abbrev pub invariant-loop-object : goal.invariant-loop-object
invariant-loop-object l = l.all.items ≡ map (λ (f : Found). record { id = f.id; root = l.roots }) (take l.object-index l.found)
