-- The cells of an object as two lists, of references and of words, over its parts; and where one of them stands.
use Rattle.std.specs.Prelude.{◌≡◌, ◌≢◌, ℕ, ◌+◌, ◌<◌, true, List, map, length, slice_index, slice_set}
use Rattle.std.specs.List.{range_with_len}
use Rattle.graph_heap.specs.declared.command.Shape.{Shape}
use Rattle.graph_heap.specs.Shape.{ref_cells, word_cells}
use Rattle.size_classes.specs.Parts.{cells_of, parts_in, part_in, column_in, spine_of, spine_cell_of}
use Rattle.heap_model.specs.Reading.{IsMainCopy, Refers, spine_at, block_of}
use Rattle.heap_model.specs.State.{width_at}
use Rattle.heap_model.specs.Store.{Store, is_allocated, record_of}
use Rattle.arraylets.specs.declared.cells.Cell.{Cell}

-- an allocated block has such a cell
pub record IsCell (s : Store) (at : Cell) : Type 0 where
  pub allocated : is_allocated s at.block ≡ true
  pub within : at.index < length (record_of s at.block).cells

-- the value in a cell
abbrev pub cell_at : Store → Cell → ℕ
cell_at s at = slice_index (record_of s at.block).cells at.index

-- the shape of an object, by the block of its part 0
abbrev pub shape_at : Store → ℕ → Shape
shape_at s object = (record_of s object).shape

-- the block of a part of an object
abbrev pub part_at : Store → ℕ → ℕ → ℕ
part_at s object part = block_of s (cells_of (shape_at s object)) object part

-- the block of the part that has cell i of a kind
abbrev pub piece_at : Store → ℕ → ℕ → ℕ
piece_at s object i = part_at s object (part_in (cells_of (shape_at s object)) i)

-- the place of reference cell i
abbrev pub ref_place : Store → ℕ → ℕ → Cell
ref_place s object i = record { block = piece_at s object i; index = column_in i }

-- the place of word cell i: words come after references
abbrev pub word_place : Store → ℕ → ℕ → Cell
word_place s object i =
    record { block = piece_at s object i; index = width_at (record_of s (piece_at s object i)) + column_in i }

-- the values in the reference cells of an object, as a list
abbrev pub refs_of : Store → ℕ → List ℕ
refs_of s object = map (λ i. cell_at s (ref_place s object i)) (range_with_len 0 (ref_cells (shape_at s object)))

-- the values in the word cells of an object, as a list
abbrev pub words_of : Store → ℕ → List ℕ
words_of s object = map (λ i. cell_at s (word_place s object i)) (range_with_len 0 (word_cells (shape_at s object)))

-- An object is there, with its part 0 in this block. Each of its parts is found from there, as a main copy with the
-- object's identity and shape. Each step to it is by a cell that refers to an allocated block.
pub record IsObject (s : Store) (object : ℕ) : Type 0 where
  pub main : (part : ℕ) → part < parts_in (cells_of (shape_at s object)) → IsMainCopy s (part_at s object part)
      (record { identity = (record_of s object).identity; part = part })
  pub shape : (part : ℕ) → part < parts_in (cells_of (shape_at s object))
      → shape_at s (part_at s object part) ≡ shape_at s object
  pub spine : (part : ℕ) → 0 < part → part < parts_in (cells_of (shape_at s object))
      → spine_of (cells_of (shape_at s object)) part ≢ 0
      → Refers s object (spine_cell_of (cells_of (shape_at s object)) (spine_of (cells_of (shape_at s object)) part))
  pub piece : (part : ℕ) → 0 < part → part < parts_in (cells_of (shape_at s object))
      → Refers s (spine_at s (cells_of (shape_at s object)) object part)
      (spine_cell_of (cells_of (shape_at s object)) part)

-- a cell is reference cell i of an object
pub record IsRef (s : Store) (object i : ℕ) (at : Cell) : Type 0 where
  pub there : IsObject s object
  pub below : i < ref_cells (shape_at s object)
  pub place : at ≡ ref_place s object i

-- a cell is word cell i of an object
pub record IsWord (s : Store) (object i : ℕ) (at : Cell) : Type 0 where
  pub there : IsObject s object
  pub below : i < word_cells (shape_at s object)
  pub place : at ≡ word_place s object i

-- the cells of each object but this one stay
abbrev pub KeepsOthers : Store → ℕ → Store → Type 0
KeepsOthers s object new = (other : ℕ) → IsObject s other → (record_of s other).identity ≢ (record_of s object).identity
    → (refs_of new other ≡ refs_of s other) × (words_of new other ≡ words_of s other)

-- reference cell i of an object gets a reference, and no other cell of any object changes
pub record SetsRef (s : Store) (object i reference : ℕ) (new : Store) : Type 0 where
  pub refs : refs_of new object ≡ slice_set (refs_of s object) i reference
  pub words : words_of new object ≡ words_of s object
  pub others : KeepsOthers s object new

-- word cell i of an object gets a word, and no other cell of any object changes
pub record SetsWord (s : Store) (object i word : ℕ) (new : Store) : Type 0 where
  pub refs : refs_of new object ≡ refs_of s object
  pub words : words_of new object ≡ slice_set (words_of s object) i word
  pub others : KeepsOthers s object new
