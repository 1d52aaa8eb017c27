-- How a part of an object is written into its spine.
use Rattle.std.specs.Prelude.{◌≡◌, ℕ, ◌+◌, ◌<◌}
use Rattle.size_classes.specs.Parts.{spine_cell_of}
use Rattle.heap_model.specs.Block.{with_cell}
use Rattle.heap_model.specs.Store.{Store, Writes, record_of}

-- A part at an address, of an object of this many cells, is written into its cell of the spine that refers to it. Part
-- 0 is written into none.
pub record LinksPart (cells : ℕ) (old : Store) (spine part address : ℕ) (new : Store) : Type 0 where
  pub root : part ≡ 0 → new ≡ old
  pub written : 0 < part → Writes old new spine (with_cell (record_of old spine) (spine_cell_of cells part)
      (address + 1))
