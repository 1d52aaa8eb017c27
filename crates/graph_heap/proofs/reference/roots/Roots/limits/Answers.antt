use Rattle.std.proofs.Common.{◌≡◌, length, subst}
use Rattle.graph_heap.specs.Graph.{root_cells}
use Rattle.graph_heap.specs.Roots.{Row}
use Rattle.graph_heap.proofs.Rows.{row_count}
use Rattle.graph_heap.proofs.reference.roots.Roots.limits.Goals as goal

pub returns-clause-row : goal.returns-clause-row
returns-clause-row c =
    subst (λ (r : Row). length r.cells ≡ root_cells r.limits) c.self.view_is
    (row_count c.self.inside.limits c.self.inside.slots.entries c.self.inside.statics.items c.self.invariant.slots c.self.invariant.statics)
