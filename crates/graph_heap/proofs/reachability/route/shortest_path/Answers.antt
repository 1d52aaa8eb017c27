use Rattle.graph_heap.proofs.reachability.Routes.{are_linked}
use Rattle.graph_heap.proofs.reachability.route.shortest_path.Goals as goal

pub way_back-requires-clause-linked : goal.way_back-requires-clause-linked
way_back-requires-clause-linked c = are_linked c.args.graph.now c.in_ok-search.search.found c.in_ok-search.ensures
