-- How many blocks of a heap are allocated.
use Rattle.std.specs.Prelude.{ℕ, zero, suc, ◌+◌, ◌*◌, List, length, Option, Some, None}
use Rattle.size_classes.specs.Sizes.{size_of}
use Rattle.heap_model.specs.Pages.{Page, page_at}
use Rattle.pages.specs.View.{view_of}
use Rattle.pages.specs.declared.view.PageView.{PageView}
use Rattle.pictures.specs.declared.allocated.Allocated.{Allocated}

-- none
abbrev pub nothing : Allocated
nothing = record { blocks = 0; words = 0 }

-- the sums of two rows of figures
abbrev pub both : Allocated → Allocated → Allocated
both a b = record { blocks = a.blocks + b.blocks; words = a.words + b.words }

-- those of a page, if it is in use
abbrev pub allocated_by : Option PageView → Allocated
allocated_by None = nothing
allocated_by (Some v) = record { blocks = v.allocated; words = v.allocated * size_of v.class }

-- the figures of page k
abbrev pub allocated_on : List (Option Page) → ℕ → Allocated
allocated_on pages k = allocated_by (view_of (page_at pages k))

-- those of the first pages
unfoldable pub allocated_below : List (Option Page) → ℕ → Allocated
allocated_below pages zero = nothing
allocated_below pages (suc n) = both (allocated_below pages n) (allocated_on pages n)

-- those of all pages
abbrev pub allocated_in : List (Option Page) → Allocated
allocated_in pages = allocated_below pages (length pages)
