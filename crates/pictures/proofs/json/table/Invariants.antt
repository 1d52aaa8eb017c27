use Rattle.std.proofs.Common.{◌≡◌, ◌++◌, take, string_bytes}
use Rattle.std.specs.List.{flat_map}
use Rattle.pictures.proofs.json.table.Given as goal

-- the rows so far
abbrev pub invariant-loop-one : goal.invariant-loop-one
invariant-loop-one g l = string_bytes l.text ≡ l.head ++ flat_map g.R.JsonRow.told (take l.one-index l.rows)
