use Rattle.graph_heap.proofs.reachability.Routes.{IsBack}
use Rattle.graph_heap.proofs.reachability.route.way_back.Given as goal

abbrev pub invariant-loop-found : goal.invariant-loop-found
invariant-loop-found l = IsBack l.search.found l.fn.target l.steps.items l.found

abbrev pub decreases-loop-found : goal.decreases-loop-found
decreases-loop-found l = l.found.distance
