use Rattle.std.proofs.Common.{refl}
use Rattle.inspector.proofs.TextLines.{of_bytes}
use Rattle.pictures.specs.Tables.{ShapesTable}
use Rattle.pictures.proofs.tables.shapes_table.Goals as goal

pub returns : goal.returns
returns c = of_bytes c.shape_rows.result _ (ShapesTable c.args.heap.now) c.shape_rows.ensures (c.in_ok-counted.counted.each.entries, c.in_ok-counted.ensures.rows, refl)
