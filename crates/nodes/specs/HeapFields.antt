-- The fields of a heap, as the heap in words.
use Rattle.std.specs.Prelude.{◌≡◌, ◌<◌, ◌^◌, ℕ, true, false, [], length}
use Rattle.graph_heap.specs.Graph.{Graph, object_of}
use Rattle.graph_heap.specs.Shape.{fits}
use Rattle.heap_model.specs.State.{HeapState}
use Rattle.heap_model.specs.Spent.{cycle_limit}
use Rattle.heap_model.specs.Represents.{Represents}
use Rattle.heap_model.specs.Written.{records}
use Rattle.nodes.specs.declared.heap_fields.HeapFields.{HeapFields}
use Rattle.nodes.specs.Grey.{grey_in, AreLinked}

-- the fields of a heap, as the heap in words
abbrev pub state_of : HeapFields → HeapState
state_of a = record {
  limits = a.roots.limits;
  defrag_below = a.config.defrag_below;
  defrag_pages = a.config.defrag_pages;
  store = a.nodes;
  roots = a.roots.cells;
  live = a.roots.live;
  next = a.next;
  phase = a.phase;
  units = a.units;
  mark_parity = a.mark_parity;
  grey = grey_in a.nodes a.grey;
}

-- The heap represents some graph heaps in which no object is too large, and the limit of a cycle is a small number.
pub record IsHeap (h : HeapState) : Type 0 where
  pub present : Graph
  pub snapshot : Graph
  pub represents : Represents h present snapshot
  pub fits : (id : ℕ) → fits (object_of present.objects id).shape ≡ true
  pub small : cycle_limit h < 2 ^ 41

-- The invariant of the fields between two steps. They are a heap. Each mutator has a buffer, whose records are linked one
-- to the next; unused links are 0. Outside roots and marking no part is grey.
pub record AreHeapFields (a : HeapFields) : Type 0 where
  pub heap : IsHeap (state_of a)
  pub buffers : length a.grey.buffers ≡ a.roots.limits.mutators
  pub linked : AreLinked a.nodes a.grey
  pub empty : records a.phase ≡ false → grey_in a.nodes a.grey ≡ []
