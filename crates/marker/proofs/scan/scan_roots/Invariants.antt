use Rattle.std.proofs.Common.{◌≡◌, ◌+◌, ◌-◌, ◌≤◌, length}
use Rattle.heap_model.specs.Action.{Chain}
use Rattle.heap_model.specs.declared.phase.Phase.TheVariants as phases
use Rattle.nodes.specs.Grey.{AreLinked}
use Rattle.nodes.specs.HeapFields.{state_of}
use Rattle.marker.proofs.scan.scan_roots.Given as goal

-- as many units as root cells were scanned are spent, and the next is the one after these
abbrev pub invariant-loop-scanned : goal.invariant-loop-scanned
invariant-loop-scanned l =
    Chain (state_of l.fn.heap) l.scanned (state_of l.heap) × (l.heap.phase ≡ phases.Roots (l.next + l.scanned))
    × (l.heap.grey.buffers ≡ l.fn.heap.grey.buffers) × (length l.heap.roots.cells ≡ length l.fn.heap.roots.cells) × (l.scanned ≤ l.count)
    × AreLinked l.heap.nodes l.heap.grey

abbrev pub decreases-loop-scanned : goal.decreases-loop-scanned
decreases-loop-scanned l = l.count - l.scanned
