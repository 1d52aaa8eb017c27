use Rattle.std.proofs.Common.{◌≡◌, ◌++◌, string_bytes}
use Rattle.std.specs.List.{flat_map}
use Rattle.inspector.specs.Shapes.{shape_line}
use Rattle.inspector.proofs.shapes.text.lines_of.Given as goal

-- the lines of the rows so far, and those of the others
abbrev pub invariant-loop-cells : goal.invariant-loop-cells
invariant-loop-cells l = string_bytes l.text ++ flat_map shape_line l.cells-iterator ≡ flat_map shape_line l.counted.each.entries
