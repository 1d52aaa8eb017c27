-- One marking action, and its answer.
use Rattle.std.specs.Prelude.{◌≡◌, ℕ, nat_lt, if◌then◌else◌, List, [], ◌∷◌, length}
use Rattle.heap_model.specs.declared.cost.TheConstants.{SCAN}
use Rattle.heap_model.specs.declared.phase.Phase.{Phase}
use Rattle.heap_model.specs.declared.phase.Phase.TheVariants as phases
use Rattle.heap_model.specs.Action.{Action}
use Rattle.heap_model.specs.State.{HeapState, seen}
use Rattle.nodes.specs.Acting.{ActsOnce}
use Rattle.nodes.specs.declared.heap_fields.HeapFields.{HeapFields}
use Rattle.nodes.specs.HeapFields.{state_of}
use Rattle.marker.specs.declared.scan.Scanned.{Scanned}
use Rattle.marker.specs.declared.scan.Scanned.TheVariants as answers

-- if no cell is left, the answer is the header of a grey part, or nothing if no part is grey
abbrev pub header_of : List ℕ → Scanned
header_of [] = answers.Nothing
header_of (x ∷ grey) = answers.Header

-- the answer at a place
abbrev pub scanned_at : HeapState → Phase → Scanned
scanned_at h (phases.Roots next) = if nat_lt next (length h.roots) then answers.Root else answers.Nothing
scanned_at h (phases.Marking part cell) =
    if nat_lt cell ((seen h).width part) then answers.Cell else header_of h.grey
scanned_at h (phases.Sweeping page block) = answers.Nothing
scanned_at h (phases.Moving place) = answers.Nothing
scanned_at h phases.Idle = answers.Nothing

-- the answer at the place of the collector
abbrev pub scanned_next : HeapState → Scanned
scanned_next h = scanned_at h h.phase

-- One action was done if the answer names one, and else nothing. Before the header of a grey part is scanned, the part
-- is taken out of the list.
abbrev pub ScansOne : HeapFields → Scanned → HeapFields → Type 0
ScansOne old answers.Root new = Action (state_of old) SCAN (state_of new)
ScansOne old answers.Header new = ActsOnce old SCAN new
ScansOne old answers.Cell new = Action (state_of old) SCAN (state_of new)
ScansOne old answers.Nothing new = new ≡ old
