-- The counts over a heap's blocks so far, by the shapes of their objects.
use Rattle.std.specs.Prelude.{◌≡◌, ℕ, ◌+◌, ◌*◌, ◌≤◌, Bool}
use Rattle.std.specs.BTreeMap.{IsOrdered, get}
use Rattle.graph_heap.specs.declared.command.Shape.{Shape}
use Rattle.heap_model.specs.Store.{Store}
use Rattle.inspector.specs.declared.shapes.counting.Counted.{Counted}
use Rattle.inspector.specs.declared.shapes.held.Cells.{Cells}
use Rattle.inspector.specs.declared.shapes.held.Held.{Held}
use Rattle.inspector.specs.Shapes.{any_shape, both, cells_order, has_cells, held_at, held_on, row_by, summed}

-- figures that this many blocks or fewer have
pub record IsOfBlocks (h : Held) (most : ℕ) : Type 0 where
  pub objects : h.objects ≤ h.parts
  pub parts : h.parts ≤ most
  pub words : h.words ≤ 256 * h.parts

-- the figures of the blocks of the first k pages, and of the first blocks of page k
abbrev pub held_before : (Shape → Bool) → Store → ℕ → ℕ → Held
held_before these s k index = both (summed (held_on these s) k) (summed (held_at these s k) index)

-- those blocks are counted, of each shape and of all shapes
pub record IsCounted (s : Store) (k index : ℕ) (counted : Counted) : Type 0 where
  pub ordered : IsOrdered cells_order counted.each
  pub each : (c : Cells) → get cells_order counted.each c ≡ row_by (held_before (has_cells c) s k index)
  pub all : counted.all ≡ held_before any_shape s k index
  pub few : (these : Shape → Bool) → IsOfBlocks (held_before these s k index) (512 * k + index)
