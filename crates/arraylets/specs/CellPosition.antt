-- The positions of an object's cells.
use Rattle.std.specs.Prelude.{ℕ, ◌+◌, nat_lt, if◌then◌else◌, Result, Ok, Err}
use Rattle.graph_heap.specs.declared.command.Shape.{Shape}
use Rattle.graph_heap.specs.declared.command.Refusal.{Refusal}
use Rattle.graph_heap.specs.declared.command.Refusal.TheVariants as refusals
use Rattle.graph_heap.specs.Shape.{ref_cells, word_cells, takes_refs, takes_words}
use Rattle.size_classes.specs.Parts.{cells_of, part_in, column_in}
use Rattle.heap_model.specs.Cut.{width_in}
use Rattle.arraylets.specs.declared.position.CellPosition.{CellPosition}

-- reference cell i: in its part, where references stand first
abbrev pub ref_position : Shape → ℕ → Result CellPosition Refusal
ref_position shape i =
    if takes_refs shape
    then (if nat_lt i (ref_cells shape) then Ok (record { part = part_in (cells_of shape) i; cell = column_in i })
    else Err refusals.BadIndex)
    else Err refusals.WrongKind

-- word cell i: in its part, after the references
abbrev pub word_position : Shape → ℕ → Result CellPosition Refusal
word_position shape i =
    if takes_words shape
    then (if nat_lt i (word_cells shape)
    then Ok (record {
      part = part_in (cells_of shape) i;
      cell = width_in (ref_cells shape) (word_cells shape) (part_in (cells_of shape) i) + column_in i;
    })
    else Err refusals.BadIndex)
    else Err refusals.WrongKind
