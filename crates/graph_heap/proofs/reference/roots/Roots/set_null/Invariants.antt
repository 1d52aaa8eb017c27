use Rattle.std.proofs.Common.{◌≡◌}
use Rattle.graph_heap.specs.Graph.{nulled}
use Rattle.graph_heap.proofs.reference.roots.Roots.set_null.Given as goal

abbrev pub invariant-loop-i : goal.invariant-loop-i
invariant-loop-i l = l.self ≡ record l.fn.self { cells = nulled l.fn.self.cells l.fn.first l.i }
