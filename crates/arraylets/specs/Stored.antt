-- The effect of a write of a reference cell.
use Rattle.std.specs.Prelude.{◌≡◌, ℕ}
use Rattle.heap_model.specs.Block.{with_cell}
use Rattle.heap_model.specs.Change.{Records}
use Rattle.heap_model.specs.State.{HeapState}
use Rattle.heap_model.specs.Store.{record_of, Writes}
use Rattle.nodes.specs.declared.heap_fields.HeapFields.{HeapFields}
use Rattle.nodes.specs.Grey.{AreLinked}
use Rattle.nodes.specs.HeapFields.{state_of}
use Rattle.satb_barrier.specs.Recording.{buffers_after}
use Rattle.arraylets.specs.declared.cells.Cell.{Cell}
use Rattle.arraylets.specs.Cells.{cell_at}

-- The old value of the cell was recorded in the mutator's buffer, and then the cell was written.
pub record IsStored (a : HeapFields) (mutator : ℕ) (at : Cell) (reference : ℕ) (b : HeapFields) : Type 0 where
  pub mid : HeapState
  pub recorded : Records (state_of a) (cell_at a.nodes at) mid
  pub written : Writes mid.store b.nodes at.block (with_cell (record_of mid.store at.block) at.index reference)
  pub state : state_of b ≡ record mid { store = b.nodes }
  pub buffers : b.grey.buffers ≡ buffers_after a mutator (cell_at a.nodes at)
  pub linked : AreLinked b.nodes b.grey
