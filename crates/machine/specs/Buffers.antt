-- The mutators' buffers after a write.
use Rattle.std.specs.Prelude.{◌≡◌, ◌≢◌, ℕ, List, length, slice_index}
use Rattle.heap_model.specs.Store.{record_of}
use Rattle.nodes.specs.Grey.{MutatorRecords, GreySet, buffer_of}
use Rattle.nodes.specs.declared.heap_fields.HeapFields.{HeapFields}
use Rattle.satb_barrier.specs.Recording.{buffers_after}
use Rattle.machine.specs.declared.plan.Write.{Write}
use Rattle.machine.specs.declared.plan.Write.TheVariants as writes

-- the buffers after a write of one root or cell: the mutator's own also has the overwritten reference
abbrev pub buffers_by : HeapFields → ℕ → Write → List MutatorRecords
buffers_by a mutator (writes.Root cell x) = buffers_after a mutator (slice_index a.roots.cells cell)
buffers_by a mutator (writes.Ref at x) = buffers_after a mutator
    (slice_index (record_of a.nodes at.block).cells at.index)
buffers_by a mutator (writes.New cell shape) = buffers_after a mutator (slice_index a.roots.cells cell)
buffers_by a mutator _ = a.grey.buffers

-- the number of buffers is the same, and only the mutator's own buffer has changed
abbrev pub AreOwn : ℕ → GreySet → GreySet → Type 0
AreOwn mutator old new = (length new.buffers ≡ length old.buffers)
    × ((k : ℕ) → k ≢ mutator → buffer_of new k ≡ buffer_of old k)

-- the buffers after a write of a mutator; if it leaves, only its own buffer has changed
abbrev pub AreBuffersBy : HeapFields → ℕ → Write → GreySet → Type 0
AreBuffersBy a mutator (writes.Leave m) grey = AreOwn m a.grey grey
AreBuffersBy a mutator write grey = grey.buffers ≡ buffers_by a mutator write
