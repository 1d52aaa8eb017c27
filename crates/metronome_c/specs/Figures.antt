-- Figures of a heap as a whole, as C sees them.
use Rattle.std.specs.Prelude.{◌≡◌, ℕ, if◌then◌else◌, length, Option, Some, None, Result, Ok, Err}
use Rattle.std.specs.Option.{option_map}
use Rattle.graph_heap.specs.Graph.{Graph}
use Rattle.size_classes.specs.Sizes.{size_of}
use Rattle.heap_model.specs.Pages.{free_pages, page_at}
use Rattle.heap_model.specs.State.{HeapState}
use Rattle.heap_model.specs.Represents.{Represents}
use Rattle.nodes.specs.Copies.{copies_in}
use Rattle.nodes.specs.Seen.{block_view}
use Rattle.nodes.specs.declared.nodes.seeing.BlockView.{BlockView}
use Rattle.paced.specs.declared.cycles.Cycle.{Cycle}
use Rattle.pages.specs.View.{view_of}
use Rattle.pages.specs.declared.view.PageView.{PageView}
use Rattle.roots.specs.Used.{used_in}
use Rattle.metronome_c.specs.declared.block.MetronomeBlock.{MetronomeBlock}
use Rattle.metronome_c.specs.declared.figures.Counts.{Counts}
use Rattle.metronome_c.specs.declared.held.Held.{Held}
use Rattle.metronome_c.specs.declared.held.Held.TheVariants as holds
use Rattle.metronome_c.specs.declared.page.MetronomePage.{MetronomePage}
use Rattle.metronome_c.specs.declared.status.Status.{Status}
use Rattle.metronome_c.specs.declared.status.Status.TheVariants.{Done, Outside}
use Rattle.metronome_c.specs.Answer.{sized, shape_of}
use Rattle.metronome_c.specs.Asking.{told_or}
use Rattle.metronome_c.specs.Either.{heap_of, found_of}
use Rattle.metronome_c.specs.Status.{status_number}

-- C is told what was found of a heap, or why there is none
abbrev pub IsTold : {A : Type 0} → Result A Status → A → A → ℕ → Type 0
IsTold (Err why) before after status = (after ≡ before) × (status ≡ status_number why)
IsTold (Ok a) before after status = (after ≡ a) × (status ≡ status_number Done)

-- C is told what is found of what a handle holds, or why there is nothing to tell, and nothing changes. The value that C had before
-- stands first.
abbrev pub TellsFound : {A : Type 0} → (Held → Result A Status) → Result Held Status → Result Held Status → A × A → ℕ → Type 0
TellsFound find old new values status = (new ≡ old) × IsTold (found_of find old) values.0 values.1 status

-- the figure of the heap that is held, in the turn
abbrev pub seen : {A : Type 0} → (HeapState → A) → Held → Result A Status
seen figure held = told_or Outside (option_map figure (heap_of held))

-- C is told something of the heap that a handle holds, in its turn
abbrev pub Tells : {A : Type 0} → (HeapState → A) → Result Held Status → Result Held Status → A × A → ℕ → Type 0
Tells figure old new values status = TellsFound (seen figure) old new values status

-- the last cycle that ended in the heap that is held, in the turn
abbrev pub last_ended : Held → Result Cycle Status
last_ended (holds.Own h) = Ok h.cycles.ended
last_ended (holds.Shared v) = told_or Outside (option_map (λ r. r.cycles.ended) v.turn)

-- a heap represents some graph heap at present, and one when the last cycle began
abbrev pub RepresentsSome : HeapState → Type 0
RepresentsSome h = (present : Graph) × (snapshot : Graph) × Represents h present snapshot

-- the counts of a heap: pages, root cells, objects with the parts that they have, and old copies
abbrev pub counts_of : HeapState → Counts
counts_of h = record {
  pages = length h.store.pages;
  free_pages = free_pages h.store.pages;
  root_cells = length h.roots;
  roots_used = used_in h.roots;
  objects = (copies_in h.store).objects;
  parts = (copies_in h.store).parts;
  old_copies = (copies_in h.store).old;
}

-- A page in use: the words of each of its blocks, how many of these are held, and its marks, as 1 or 0. If the page is free,
-- each number is 0.
abbrev pub page_told : Option PageView → MetronomePage
page_told None = record { size = 0; held = 0; leaving = 0; receiving = 0 }
page_told (Some v) = record {
  size = size_of v.class;
  held = v.allocated;
  leaving = if v.evacuating then 1 else 0;
  receiving = if v.is_target then 1 else 0;
}

-- the page of this number, or a free one if there is none
abbrev pub page_of : ℕ → HeapState → MetronomePage
page_of number h = page_told (view_of (page_at h.store.pages number))

-- A block that holds a part: that part's number, and the identity and the shape of its object. As 1 or 0 it says whether the
-- part was moved to another block. If it holds none, each number is 0.
abbrev pub block_told : Option BlockView → MetronomeBlock
block_told None = record { identity = 0; shape = sized 0 0 0; part = 0; held = 0; old = 0 }
block_told (Some v) = record {
  identity = v.identity;
  shape = shape_of v.shape;
  part = v.part;
  held = 1;
  old = if v.is_old then 1 else 0;
}

-- the block of a number on the page of a number, or one that holds nothing if there is none
abbrev pub block_of : ℕ → ℕ → HeapState → MetronomeBlock
block_of page number h = block_told (block_view h.store page number)
