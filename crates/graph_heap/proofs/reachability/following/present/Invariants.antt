use Rattle.graph_heap.specs.Graph.{opening}
use Rattle.graph_heap.proofs.reachability.Entries.{Follows}
use Rattle.graph_heap.proofs.reachability.following.present.Given as goal

-- the entries so far are followed
abbrev pub invariant-loop-entry : goal.invariant-loop-entry
invariant-loop-entry l = Follows (opening l.limits) l.history l.entry-index l.graph
