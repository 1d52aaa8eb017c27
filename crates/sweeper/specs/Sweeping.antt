-- One action of the sweeper, and its answer.
use Rattle.std.specs.Prelude.{◌≡◌, ℕ, ◌+◌, Bool, false, not, nat_le, ◌&&◌, if◌then◌else◌, length, slice_index_or, Option, Some, None}
use Rattle.heap_model.specs.declared.cost.TheConstants.{LOOK, CLOSE}
use Rattle.heap_model.specs.declared.phase.Phase.{Phase}
use Rattle.heap_model.specs.declared.phase.Phase.TheVariants as phases
use Rattle.heap_model.specs.Action.{is_looked_at}
use Rattle.heap_model.specs.Pages.{Page, page_at}
use Rattle.heap_model.specs.State.{HeapState, seen}
use Rattle.heap_model.specs.Store.{address_of}
use Rattle.nodes.specs.Acting.{ActsOnce}
use Rattle.nodes.specs.declared.heap_fields.HeapFields.{HeapFields}
use Rattle.sweeper.specs.declared.sweep.Swept.{Swept}
use Rattle.sweeper.specs.declared.sweep.Swept.TheVariants as answers

-- a block of a page is allocated and isn't marked
abbrev pub is_garbage : HeapState → Option Page → ℕ → ℕ → Bool
is_garbage h None page block = false
is_garbage h (Some p) page block =
    slice_index_or p.allocated block false && not ((seen h).marked (address_of p.class page block + 1))

-- the answer, with the sweeper at a block of a page
abbrev pub swept_at : HeapState → ℕ → ℕ → Swept
swept_at h page block =
    if nat_le (length h.store.pages) page then answers.Nothing
    else (if is_looked_at (page_at h.store.pages page) block then answers.Closed
    else (if is_garbage h (page_at h.store.pages page) page block then answers.Freed else answers.Looked))

-- the place of the sweeper after an answer
abbrev pub place_after : ℕ → ℕ → Swept → Phase
place_after page block answers.Looked = phases.Sweeping page (block + 1)
place_after page block answers.Freed = phases.Sweeping page (block + 1)
place_after page block answers.Closed = phases.Sweeping (page + 1) 0
place_after page block answers.Nothing = phases.Sweeping page block

-- the cost of an answer
abbrev pub cost_of : Swept → ℕ
cost_of answers.Looked = LOOK
cost_of answers.Freed = LOOK
cost_of answers.Closed = CLOSE
cost_of answers.Nothing = 0

-- one action was done if the answer names one, and else nothing
abbrev pub SweepsOne : HeapFields → Swept → HeapFields → Type 0
SweepsOne old answers.Looked new = ActsOnce old LOOK new
SweepsOne old answers.Freed new = ActsOnce old LOOK new
SweepsOne old answers.Closed new = ActsOnce old CLOSE new
SweepsOne old answers.Nothing new = new ≡ old
