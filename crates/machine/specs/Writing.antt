-- The condition and the effect of a write.
use Rattle.std.specs.Prelude.{◌≡◌, ℕ, ◌<◌}
use Rattle.heap_model.specs.Change.{Records}
use Rattle.nodes.specs.Grey.{AreLinked}
use Rattle.nodes.specs.GreyAllocated.{AreAllocated}
use Rattle.nodes.specs.HeapFields.{state_of, AreHeapFields}
use Rattle.nodes.specs.declared.heap_fields.HeapFields.{HeapFields}
use Rattle.satb_barrier.specs.Recording.{buffers_after}
use Rattle.machine.specs.Buffers.{AreBuffersBy}
use Rattle.machine.specs.Plan.{CanPerform, DoesEach}
use Rattle.machine.specs.declared.plan.Write.{Write}

-- the mutator exists, and the write can be done
pub record CanWrite (a : HeapFields) (m : ℕ) (w : Write) : Type 0 where
  pub heap : AreHeapFields a
  pub mutator : m < a.roots.limits.mutators
  pub write : CanPerform (state_of a) w

-- The write was done: the heap has changed by it, and the mutator's buffer has the overwritten references, each
-- linked to the record before it.
pub record IsWritten (a : HeapFields) (m : ℕ) (w : Write) (b : HeapFields) : Type 0 where
  pub does : DoesEach (state_of a) w (state_of b)
  pub buffers : AreBuffersBy a m w b.grey
  pub linked : AreLinked b.nodes b.grey

-- the reference about to be overwritten was recorded: its main copy is shaded, and in the mutator's buffer
pub record IsRecorded (a : HeapFields) (m reference : ℕ) (b : HeapFields) : Type 0 where
  pub records : Records (state_of a) reference (state_of b)
  pub buffers : b.grey.buffers ≡ buffers_after a m reference
  pub linked : AreLinked b.nodes b.grey
  pub allocated : AreAllocated b
  pub same : b ≡ record a { nodes = b.nodes; grey = b.grey }
