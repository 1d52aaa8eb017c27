-- Shapes: how many cells of each kind an object has.
use Rattle.std.specs.Prelude.{ℕ, ◌+◌, Bool, true, false, nat_le}
use Rattle.graph_heap.specs.declared.command.Shape.{Shape}
use Rattle.graph_heap.specs.declared.command.TheConstants.{PLAIN_CELLS, ARRAY_CELLS}
use Rattle.graph_heap.specs.declared.command.Shape.TheVariants.{Plain, RefArray, WordArray}

-- how many reference cells
abbrev pub ref_cells : Shape → ℕ
ref_cells (Plain refs words) = refs
ref_cells (RefArray n) = n
ref_cells (WordArray n) = 0

-- how many word cells
abbrev pub word_cells : Shape → ℕ
word_cells (Plain refs words) = words
word_cells (RefArray n) = 0
word_cells (WordArray n) = n

-- a shape within the limits of an object
abbrev pub fits : Shape → Bool
fits (Plain refs words) = nat_le (refs + words) PLAIN_CELLS
fits (RefArray n) = nat_le n ARRAY_CELLS
fits (WordArray n) = nat_le n ARRAY_CELLS

-- whether reference commands are for the shape: for all but an array of words
abbrev pub takes_refs : Shape → Bool
takes_refs (Plain refs words) = true
takes_refs (RefArray n) = true
takes_refs (WordArray n) = false

-- whether word commands are for the shape: for all but an array of references
abbrev pub takes_words : Shape → Bool
takes_words (Plain refs words) = true
takes_words (RefArray n) = false
takes_words (WordArray n) = true
