-- The invariant of a heap before and after each event.
use Rattle.std.specs.Prelude.{◌<◌, Bool, true, false, length}
use Rattle.graph_heap.specs.Graph.{Graph}
use Rattle.heap_model.specs.declared.phase.Phase.{Phase}
use Rattle.heap_model.specs.declared.phase.Phase.TheVariants as phases
use Rattle.heap_model.specs.Pages.{ArePages}
use Rattle.heap_model.specs.State.{HeapState}
use Rattle.heap_model.specs.Agreement.{Consistent}
use Rattle.heap_model.specs.Spent.{IsWithin}
use Rattle.heap_model.specs.Placed.{IsPlaced}
use Rattle.heap_model.specs.Marks.{AreClosed}

-- The heap represents the graph heap at present, and the one when the last cycle began. There are pages, and each is well
-- formed; the invariant holds. The units spent are at most those of a cycle up to this place of the phase. The place fits
-- the pages, and the pages that a sweep has closed carry no mark.
pub record Represents (h : HeapState) (present snapshot : Graph) : Type 0 where
  pub pages : ArePages h.store.pages
  pub some : 0 < length h.store.pages
  pub consistent : Consistent h present snapshot
  pub within : IsWithin h h.phase
  pub placed : IsPlaced h.store.pages h.phase
  pub closed : AreClosed h.store.pages h.phase

-- whether pages are being swept
abbrev pub is_sweeping : Phase → Bool
is_sweeping (phases.Sweeping page block) = true
is_sweeping _ = false
