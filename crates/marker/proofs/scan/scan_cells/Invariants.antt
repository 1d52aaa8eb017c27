use Rattle.std.proofs.Common.{◌≡◌, ℕ, ◌+◌, ◌-◌, ◌≤◌}
use Rattle.heap_model.specs.Action.{Chain}
use Rattle.heap_model.specs.State.{width_at}
use Rattle.heap_model.specs.Store.{record_of}
use Rattle.nodes.specs.Grey.{AreLinked}
use Rattle.nodes.specs.HeapFields.{state_of}
use Rattle.marker.specs.Scanning.{scanning}
use Rattle.marker.proofs.scan.scan_cells.Given as goal

-- this many cells were scanned
abbrev pub invariant-loop-scanned : goal.invariant-loop-scanned
invariant-loop-scanned l =
    ((units : ℕ) → Chain (state_of (scanning l.fn.heap l.part l.cell units)) l.scanned (state_of (scanning l.heap l.part (l.cell + l.scanned) (units + l.scanned))))
    × (width_at (record_of l.heap.nodes (l.part - 1)) ≡ width_at (record_of l.fn.heap.nodes (l.part - 1))) × (l.heap.grey.buffers ≡ l.fn.heap.grey.buffers)
    × (l.heap ≡ record l.fn.heap { nodes = l.heap.nodes; grey = l.heap.grey }) × (l.scanned ≤ l.count) × AreLinked l.heap.nodes l.heap.grey

abbrev pub decreases-loop-scanned : goal.decreases-loop-scanned
decreases-loop-scanned l = l.count - l.scanned
