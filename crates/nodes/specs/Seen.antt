-- The view of one block.
use Rattle.std.specs.Prelude.{ℕ, false, not, ◌==◌, if◌then◌else◌, slice_index_or, Option, Some, None}
use Rattle.heap_model.specs.Block.{BlockRecord}
use Rattle.heap_model.specs.Pages.{Page, page_at}
use Rattle.heap_model.specs.Store.{Store, record_of, address_of}
use Rattle.nodes.specs.declared.nodes.seeing.BlockView.{BlockView}

-- the view of a block at an address, by its record: it is an old copy if it forwards to another
abbrev pub seen_in : ℕ → BlockRecord → BlockView
seen_in address n = record { identity = n.identity; part = n.part; shape = n.shape; is_old = not (n.forward == address) }

-- the view of a block of a page, by its number there, from 0: none if the page is free or the block isn't allocated
abbrev pub seen_on : Store → ℕ → ℕ → Option Page → Option BlockView
seen_on s page index None = None
seen_on s page index (Some p) = if slice_index_or p.allocated index false
    then Some (seen_in (address_of p.class page index) (record_of s (address_of p.class page index))) else None

-- the view of a block, by its page and its number there: none if it doesn't exist or isn't allocated
abbrev pub block_view : Store → ℕ → ℕ → Option BlockView
block_view s page index = seen_on s page index (page_at s.pages page)
