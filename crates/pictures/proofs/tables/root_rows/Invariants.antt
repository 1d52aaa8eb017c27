use Rattle.std.proofs.Common.{◌≡◌, ◌++◌, string_bytes, codes, take}
use Rattle.std.specs.List.{flat_map}
use Rattle.pictures.specs.Tables.{root_row}
use Rattle.pictures.proofs.tables.root_rows.Given as goal

-- the rows so far
abbrev pub invariant-loop-one : goal.invariant-loop-one
invariant-loop-one l =
    string_bytes l.text ≡ codes "\"roots\":[[\"objects\",\"words\",\"mutator\",\"slot\",\"static\"]" ++ flat_map (root_row l.limits) (take l.one-index l.rows)
