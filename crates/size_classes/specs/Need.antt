-- The blocks that an object needs.
use Rattle.std.specs.Prelude.{ℕ, zero, suc, ◌+◌, ◌==◌, if◌then◌else◌, Option, Some, None, Bool, false}
use Rattle.graph_heap.specs.declared.command.Shape.{Shape}
use Rattle.size_classes.specs.Sizes.{class_for}
use Rattle.size_classes.specs.Parts.{cells_of, parts_in, part_words}

-- a class that was looked for and found is this one
abbrev pub is_class : ℕ → Option ℕ → Bool
is_class class None = false
is_class class (Some c) = c == class

-- how many of the first parts of an object with this many cells stand in blocks of a class
abbrev pub blocks_needed : ℕ → ℕ → ℕ → ℕ
blocks_needed cells zero class = 0
blocks_needed cells (suc parts) class =
    blocks_needed cells parts class + (if is_class class (class_for (part_words cells parts)) then 1 else 0)

-- how many blocks of a class an object of a shape needs
abbrev pub needed : Shape → ℕ → ℕ
needed shape class = blocks_needed (cells_of shape) (parts_in (cells_of shape)) class

-- 1 if a block of this many words is of a class, else 0
abbrev pub counts_at : ℕ → ℕ → ℕ
counts_at words class = if is_class class (class_for words) then 1 else 0
