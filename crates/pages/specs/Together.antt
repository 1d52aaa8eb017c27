-- The records and the words together, as a list of pages.
use Rattle.std.specs.Prelude.{◌≡◌, ℕ, ◌+◌, ◌*◌, ◌<◌, ◌≤◌, true, List, map, length, slice_get, slice_index, Option, Some, option_map, IfSome}
use Rattle.std.specs.List.{enumerate_from}
use Rattle.size_classes.specs.declared.class.TheConstants.{CLASSES, PAGE_WORDS}
use Rattle.size_classes.specs.Sizes.{size_of}
use Rattle.heap_model.specs.Pages.{Page, page_at}
use Rattle.heap_model.specs.Store.{Store}
use Rattle.pages.specs.declared.page.PageRow.{PageRow}
use Rattle.pages.specs.FreeList.{flags_of, IsFreeList}
use Rattle.pages.specs.Index.{row_at}

-- a page, by its record and the words from its first on
abbrev pub page_by : List ℕ → ℕ → Option PageRow → Option Page
page_by words at = option_map (λ r. record {
  class = r.class;
  evacuating = r.evacuating;
  is_target = r.is_target;
  allocated = flags_of words at r.class;
})

-- the pages, by their records and the words
unfoldable pub pages_in : List (Option PageRow) → List ℕ → List (Option Page)
pages_in rows words = map (λ p. page_by words (PAGE_WORDS * p.0) p.1) (enumerate_from 0 rows)

-- the table's records and the arena's words, as a store
abbrev pub joined : List (Option PageRow) → List ℕ → Store
joined rows words = record { pages = pages_in rows words; words = words }

-- The table and the arena go together. Each page in use has its 2048 words, and no page behind the last has any. The list
-- of each page in use runs through exactly its free blocks, each once.
pub record Together (rows : List (Option PageRow)) (words : List ℕ) : Type 0 where
  pub present : (k : ℕ) → IfSome (row_at rows k) (λ _. PAGE_WORDS * k + PAGE_WORDS ≤ length words)
  pub within : length words ≤ PAGE_WORDS * length rows
  pub classes : (k : ℕ) → IfSome (row_at rows k) (λ r. r.class < CLASSES)
  pub each : (k : ℕ) → IfSome (row_at rows k) (λ r. IsFreeList words (PAGE_WORDS * k) r.class r.first r.allocated)

-- the words of the blocks that are allocated stay, and no word goes
pub record KeepsAllocated (pages : List (Option Page)) (old new : List ℕ) : Type 0 where
  pub len : length old ≤ length new
  pub each : (k : ℕ) (p : Page) (i j : ℕ) → page_at pages k ≡ Some p → slice_get p.allocated i ≡ Some true
      → j < size_of p.class
      → slice_index new (PAGE_WORDS * k + i * size_of p.class + j)
      ≡ slice_index old (PAGE_WORDS * k + i * size_of p.class + j)

-- a statement that follows from the records alone: it holds of the pages, whatever words go together with the records
abbrev pub Tells : List (Option PageRow) → (List (Option Page) → Type 0) → Type 0
Tells rows says = (words : List ℕ) → Together rows words → says (pages_in rows words)
