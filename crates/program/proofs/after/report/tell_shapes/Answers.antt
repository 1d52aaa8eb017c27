use Rattle.inspector.specs.Shapes.{ShapesTold}
use Rattle.program.proofs.MadeText.{report_told}
use Rattle.program.proofs.after.report.tell_shapes.Goals as goal

pub returns-clause-told : goal.returns-clause-told
returns-clause-told g c = report_told (ShapesTold c.args.heap.now) c.shapes_report.result _ c.tell_text.result c.shapes_report.ensures c.tell_text.ensures.told
