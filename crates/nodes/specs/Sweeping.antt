-- The sweep of a run of blocks.
use Rattle.std.specs.Prelude.{◌≡◌, ℕ, ◌+◌, Bool, length, slice_set}
use Rattle.heap_model.specs.declared.phase.Phase.TheVariants as phases
use Rattle.heap_model.specs.Action.{Chain, KeepsBlocks, closed, goes_to}
use Rattle.heap_model.specs.Pages.{page_at}
use Rattle.heap_model.specs.State.{HeapState}
use Rattle.heap_model.specs.Store.{Store}
use Rattle.nodes.specs.Pages.{blocks_on}

-- Take any heap with the one store, in which the sweeper is at a block of a page and this colour means marked. Then
-- `count` actions of the collector lead to the heap with the other store, with the sweeper `count` blocks further on.
abbrev pub Sweeps : Store → Store → Bool → ℕ → ℕ → ℕ → Type 0
Sweeps old new colour page block count =
    (h : HeapState) → h.store ≡ old → h.mark_parity ≡ colour → h.phase ≡ phases.Sweeping page block
    → Chain h count (goes_to (record h { store = new }) count (phases.Sweeping page (block + count)))

-- The sweeper looks at the last blocks of a page, and closes it: its marks go, and if no block is allocated, the page becomes
-- free. The closing changes no block.
pub record SweepsAndCloses (old new : Store) (colour : Bool) (page block count : ℕ) : Type 0 where
  pub mid : Store
  pub sweeps : Sweeps old mid colour page block count
  pub len : length mid.pages ≡ length old.pages
  pub blocks : blocks_on (page_at mid.pages page) ≡ blocks_on (page_at old.pages page)
  pub kept : KeepsBlocks mid new
  pub closes : new.pages ≡ slice_set mid.pages page (closed (page_at mid.pages page))
