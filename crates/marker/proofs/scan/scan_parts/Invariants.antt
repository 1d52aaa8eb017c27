use Rattle.std.proofs.Common.{◌≡◌, ◌+◌, ◌-◌, ◌≤◌}
use Rattle.heap_model.specs.Action.{Chain}
use Rattle.heap_model.specs.State.{seen}
use Rattle.nodes.specs.Grey.{AreLinked}
use Rattle.nodes.specs.HeapFields.{state_of}
use Rattle.marker.specs.Scanning.{scanning}
use Rattle.marker.proofs.scan.scan_parts.Given as goal

-- with this many units marking has got to this place
abbrev pub invariant-loop-units : goal.invariant-loop-units
invariant-loop-units l =
    Chain (state_of l.fn.heap) l.units (state_of (scanning l.heap l.scan.part l.scan.cell (l.fn.heap.units + l.units))) × (l.scan.width ≡ (seen (state_of l.heap)).width l.scan.part)
    × (l.heap.grey.buffers ≡ l.fn.heap.grey.buffers) × (l.heap ≡ record l.fn.heap { nodes = l.heap.nodes; grey = l.heap.grey }) × (l.units ≤ l.room)
    × AreLinked l.heap.nodes l.heap.grey

abbrev pub decreases-loop-units : goal.decreases-loop-units
decreases-loop-units l = l.room - l.units
