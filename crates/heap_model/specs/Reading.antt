-- Reading the heap through forwarding, by address.
use Rattle.std.specs.Prelude.{◌≡◌, ◌≢◌, ℕ, ◌-◌, ◌<◌, true, ◌==◌, if◌then◌else◌, length, slice_index}
use Rattle.graph_heap.specs.Graph.{Graph, object_of}
use Rattle.size_classes.specs.Parts.{cells_of, spine_of, part_in, spine_cell_of}
use Rattle.heap_model.specs.Store.{Store, is_allocated, record_of}
use Rattle.heap_model.specs.Core.{Name}
use Rattle.heap_model.specs.State.{HeapState}

-- the block at an address is a main copy of a part
pub record IsMainCopy (s : Store) (address : ℕ) (n : Name) : Type 0 where
  pub allocated : is_allocated s address ≡ true
  pub forward : (record_of s address).forward ≡ address
  pub identity : (record_of s address).identity ≡ n.identity
  pub part : (record_of s address).part ≡ n.part

-- the block at an address is a main copy of the part that has cell i of an object, of its reference cells or of its
-- word cells
abbrev pub HasCell : HeapState → Graph → ℕ → ℕ → ℕ → Type 0
HasCell h g id i address = IsMainCopy h.store address (record {
  identity = id;
  part = part_in (cells_of (object_of g.objects id).shape) i;
})

-- a reference, other than null, leads by way of its forwarding word to the main copy of a part
pub record LeadsTo (h : HeapState) (x : ℕ) (n : Name) : Type 0 where
  pub allocated : is_allocated h.store (x - 1) ≡ true
  pub main : IsMainCopy h.store (record_of h.store (x - 1)).forward n

-- the block that a reference cell names, by way of the forwarding word
abbrev pub step_to : Store → ℕ → ℕ → ℕ
step_to s block cell = (record_of s (slice_index (record_of s block).cells cell - 1)).forward

-- a cell of an allocated block refers to an allocated block
pub record Refers (s : Store) (block cell : ℕ) : Type 0 where
  pub allocated : is_allocated s block ≡ true
  pub within : cell < length (record_of s block).cells
  pub some : slice_index (record_of s block).cells cell ≢ 0
  pub there : is_allocated s (slice_index (record_of s block).cells cell - 1) ≡ true

-- the block of the spine that refers to a part, from the block of part 0 of an object with this many cells: that block,
-- or the middle spine to which it refers
abbrev pub spine_at : Store → ℕ → ℕ → ℕ → ℕ
spine_at s cells block part = if spine_of cells part == 0 then block
    else step_to s block (spine_cell_of cells (spine_of cells part))

-- the block of a part, from that of part 0: itself, or by way of the spine that refers to it
abbrev pub block_of : Store → ℕ → ℕ → ℕ → ℕ
block_of s cells block part =
    if part == 0 then block else step_to s (spine_at s cells block part) (spine_cell_of cells part)
