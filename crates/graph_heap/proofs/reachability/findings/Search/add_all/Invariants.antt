use Rattle.graph_heap.specs.Search.{holders, Adds}
use Rattle.graph_heap.proofs.reachability.findings.Search.add_all.Given as goal

abbrev pub invariant-loop-cell : goal.invariant-loop-cell
invariant-loop-cell l = Adds l.cells l.distance (holders l.object) l.cell l.fn.self l.self
