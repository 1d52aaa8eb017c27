use Rattle.std.proofs.Common.{◌≡◌, string_bytes, take}
use Rattle.std.specs.List.{flat_map}
use Rattle.inspector.specs.ByRoot.{root_line}
use Rattle.inspector.proofs.by_root.text.lines_of.Given as goal

-- the lines of the rows so far
abbrev pub invariant-loop-row : goal.invariant-loop-row
invariant-loop-row l = string_bytes l.text ≡ flat_map (root_line l.limits) (take l.row-index l.rows)
