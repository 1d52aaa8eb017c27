use Rattle.std.proofs.Common.{◌≡◌, ◌++◌, string_bytes, codes}
use Rattle.std.specs.List.{flat_map}
use Rattle.pictures.specs.Tables.{shape_row}
use Rattle.pictures.proofs.tables.shape_rows.Given as goal

-- the rows so far, and those of the others
abbrev pub invariant-loop-cells : goal.invariant-loop-cells
invariant-loop-cells l =
    string_bytes l.text ++ flat_map shape_row l.cells-iterator
    ≡ codes "\"shapes\":[[\"refs\",\"words\",\"objects\",\"parts\",\"block_words\"]" ++ flat_map shape_row l.counted.each.entries
