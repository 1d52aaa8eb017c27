-- The objects of each shape that a heap holds: lines of text.
use Rattle.std.specs.Prelude.{◌≡◌, ℕ, zero, suc, ◌+◌, Bool, true, not, ◌&&◌, ◌==◌, if◌then◌else◌, List, ◌++◌, length, Option, Some, None, codes, decimal}
use Rattle.std.specs.List.{flat_map}
use Rattle.std.specs.List.Sorted.{IsStrictlySortedBy}
use Rattle.std.specs.Map.{keys_of, lookup}
use Rattle.std.specs.declared.cmp.Ordering.{Ordering}
use Rattle.std.specs.Ordering.{nat_cmp, is_eq, ordering_then}
use Rattle.size_classes.specs.Sizes.{blocks_in}
use Rattle.graph_heap.specs.Shape.{ref_cells, word_cells}
use Rattle.graph_heap.specs.declared.command.Shape.{Shape}
use Rattle.heap_model.specs.Pages.{Page, page_at}
use Rattle.heap_model.specs.State.{HeapState}
use Rattle.heap_model.specs.Store.{Store, size_in}
use Rattle.nodes.specs.Seen.{block_view}
use Rattle.nodes.specs.declared.nodes.seeing.BlockView.{BlockView}
use Rattle.inspector.specs.declared.shapes.held.Cells.{Cells}
use Rattle.inspector.specs.declared.shapes.held.Held.{Held}

-- how many cells of each kind the objects of a shape have
abbrev pub cells_of : Shape → Cells
cells_of shape = record { refs = ref_cells shape; words = word_cells shape }

-- fewer references come first, and of as many references fewer words
abbrev pub cells_order : Cells → Cells → Ordering
cells_order c d = ordering_then (nat_cmp c.refs d.refs) (nat_cmp c.words d.words)

-- whether the objects of a shape have this many cells of each kind
abbrev pub has_cells : Cells → Shape → Bool
has_cells c shape = (ref_cells shape == c.refs) && (word_cells shape == c.words)

-- every shape
abbrev pub any_shape : Shape → Bool
any_shape shape = true

-- the figures of no part
abbrev pub nothing : Held
nothing = record { objects = 0; parts = 0; words = 0 }

-- the sums of two rows of figures
abbrev pub both : Held → Held → Held
both a b = record { objects = a.objects + b.objects; parts = a.parts + b.parts; words = a.words + b.words }

-- the figures of a part in a block of this many words: an object counts with its part 0
abbrev pub held_by : ℕ → BlockView → Held
held_by size v = record { objects = if v.part == 0 then 1 else 0; parts = 1; words = size }

-- the figures of a block, if it is allocated and holds a main copy, and its object's shape is one of these
abbrev pub held_in : (Shape → Bool) → ℕ → Option BlockView → Held
held_in these size None = nothing
held_in these size (Some v) = if not v.is_old && these v.shape then held_by size v else nothing

-- the figures of the block at a place of page k
abbrev pub held_at : (Shape → Bool) → Store → ℕ → ℕ → Held
held_at these s k index = held_in these (size_in (page_at s.pages k)) (block_view s k index)

-- how many blocks a page has; a free page has none
abbrev pub places_on : Option Page → ℕ
places_on None = 0
places_on (Some p) = blocks_in p.class

-- the sum over the numbers below n
unfoldable pub summed : (ℕ → Held) → ℕ → Held
summed each zero = nothing
summed each (suc n) = both (summed each n) (each n)

-- the figures of all blocks of page k
abbrev pub held_on : (Shape → Bool) → Store → ℕ → Held
held_on these s k = summed (held_at these s k) (places_on (page_at s.pages k))

-- the figures of all objects of these shapes that a heap holds
abbrev pub held_of : (Shape → Bool) → Store → Held
held_of these s = summed (held_on these s) (length s.pages)

-- a shape has a row if a part of one of its objects is held
abbrev pub row_by : Held → Option Held
row_by held = if held.parts == 0 then None else Some held

-- The rows of a heap: the figures of each shape, by the shape's cells, in rising order.
pub record AreRows (s : Store) (rows : List (Cells × Held)) : Type 0 where
  pub order : IsStrictlySortedBy cells_order (keys_of rows)
  pub each : (c : Cells) → lookup (λ d. is_eq (cells_order c d)) rows ≡ row_by (held_of (has_cells c) s)

-- objects, their parts, and the words of the blocks of these, with LF (byte 10) after them
abbrev pub figures : Held → List ℕ
figures h = codes " objects " ++ (decimal h.objects ++ (codes " parts " ++ (decimal h.parts
    ++ (codes " words " ++ (decimal h.words ++ codes "\n")))))

-- the line of a shape: its references and its words
abbrev pub shape_line : Cells × Held → List ℕ
shape_line row = codes "shape " ++ (decimal row.0.refs ++ (codes " " ++ (decimal row.0.words ++ figures row.1)))

-- the line of all shapes together
abbrev pub all_line : Held → List ℕ
all_line h = codes "all" ++ figures h

-- the text of a report by shape: a line for each shape, and their sums
abbrev pub ShapesTold : HeapState → List ℕ → Type 0
ShapesTold h text = (rows : List (Cells × Held)) × AreRows h.store rows
    × (text ≡ flat_map shape_line rows ++ all_line (held_of any_shape h.store))
