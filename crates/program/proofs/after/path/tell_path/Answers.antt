use Rattle.program.specs.Telling.{TellsWhy}
use Rattle.program.proofs.MadeText.{report_told}
use Rattle.program.proofs.after.path.tell_path.Goals as goal

pub returns-clause-told : goal.returns-clause-told
returns-clause-told g c = report_told (TellsWhy c.args.id c.args.heap.now c.args.graph.now) c.path_report.result _ c.tell_text.result c.path_report.ensures c.tell_text.ensures.told
