-- The words of allocated blocks that no part uses.
use Rattle.std.specs.Prelude.{ℕ, ◌-◌, false, if◌then◌else◌, slice_index_or, Option, Some, None}
use Rattle.size_classes.specs.Sizes.{size_of, blocks_in}
use Rattle.size_classes.specs.Parts.{cells_of, part_words}
use Rattle.heap_model.specs.Block.{BlockRecord}
use Rattle.heap_model.specs.Pages.{Page, page_at}
use Rattle.heap_model.specs.Store.{Store, record_of, address_of}
use Rattle.heap_model.specs.Units.{total}

-- the words that the part in a block uses: four of header, and its cells
abbrev pub words_in : BlockRecord → ℕ
words_in n = part_words (cells_of n.shape) n.part

-- the words of an allocated block behind the last cell of its part; none of a free block
abbrev pub wasted_in : Store → ℕ → Page → ℕ → ℕ
wasted_in s page p block = if slice_index_or p.allocated block false
    then size_of p.class - words_in (record_of s (address_of p.class page block)) else 0

-- those of all blocks of a page; a free page has none
abbrev pub wasted_of : Store → ℕ → Option Page → ℕ
wasted_of s page None = 0
wasted_of s page (Some p) = total (wasted_in s page p) (blocks_in p.class)

-- the words that are wasted inside the allocated blocks of a page
abbrev pub wasted_on : Store → ℕ → ℕ
wasted_on s page = wasted_of s page (page_at s.pages page)
