use Rattle.std.proofs.Common.{◌++◌, ap}
use Rattle.std.specs.List.{flat_map}
use Rattle.inspector.specs.Shapes.{all_line, shape_line, ShapesTold}
use Rattle.inspector.proofs.TextLines.{of_bytes}
use Rattle.inspector.proofs.shapes.text.shapes_text.Goals as goal

pub returns : goal.returns
returns c =
    let rows = c.in_ok-counted.counted.each.entries in
    of_bytes c.lines_of.result _ (ShapesTold c.args.heap.now) c.lines_of.ensures
    (rows, c.in_ok-counted.ensures.rows, ap (λ h. flat_map shape_line rows ++ all_line h) c.in_ok-counted.ensures.all)
