use Rattle.std.proofs.Common.{ap}
use Rattle.std.specs.Prelude.{slice_index}
use Rattle.graph_heap.specs.declared.reachability.found.Found.{Found}
use Rattle.graph_heap.specs.Search.{holders}
use Rattle.graph_heap.proofs.reachability.Adding.{adds_none, adds_more}
use Rattle.graph_heap.proofs.reachability.findings.Search.add_all.Goals as goal

pub loop-cell-init : goal.loop-cell-init
loop-cell-init c = adds_none c.args.cells.now c.args.distance (holders c.args.object) c.args.self.now

pub loop-cell-preserved : goal.loop-cell-preserved
loop-cell-preserved c =
    let cells = c.args.cells.now in
    let found : Found = record { id = slice_index cells c.loop-cell.cell; distance = c.args.distance; holder = c.holder.result } in
    adds_more cells c.args.distance (holders c.args.object) c.loop-cell.cell c.args.self.now c.loop-cell.self c.add.new.self c.loop-cell.invariant found
    (ap (λ h. record { id = slice_index cells c.loop-cell.cell; distance = c.args.distance; holder = h }) c.holder.ensures) c.in_ok-add.ensures
