use Rattle.std.proofs.Common.{◌-◌, length}
use Rattle.graph_heap.proofs.reachability.Breadth.{Searching}
use Rattle.graph_heap.proofs.reachability.searching.search.Given as goal

abbrev pub invariant-loop-found : goal.invariant-loop-found
invariant-loop-found l = Searching l.graph l.search l.next

abbrev pub decreases-loop-found : goal.decreases-loop-found
decreases-loop-found l = length l.graph.objects - l.next
