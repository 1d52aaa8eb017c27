-- Marking on its way, before the phase is written.
use Rattle.std.specs.Prelude.{ℕ, ◌+◌}
use Rattle.heap_model.specs.declared.phase.Phase.TheVariants as phases
use Rattle.heap_model.specs.Action.{Chain}
use Rattle.nodes.specs.declared.heap_fields.HeapFields.{HeapFields}
use Rattle.nodes.specs.HeapFields.{state_of, AreHeapFields}
use Rattle.marker.specs.declared.scan.Scan.{Scan}

-- the heap when marking is at a cell of a part and this many units are spent
abbrev pub scanning : HeapFields → ℕ → ℕ → ℕ → HeapFields
scanning a part cell units = record a { phase = phases.Marking part cell; units = units }

-- with some number of units this is a heap between two steps
abbrev pub IsScanning : HeapFields → ℕ → ℕ → Type 0
IsScanning a part cell = (units : ℕ) × AreHeapFields (scanning a part cell units)

-- Actions that cost this much lead from the one place in marking to the other.
abbrev pub Scans : HeapFields → Scan → HeapFields → Scan → ℕ → Type 0
Scans old from new to cost = (units : ℕ)
    → Chain (state_of (scanning old from.part from.cell units)) cost
    (state_of (scanning new to.part to.cell (units + cost)))
