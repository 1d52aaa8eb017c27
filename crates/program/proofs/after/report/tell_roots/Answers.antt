use Rattle.heap_model.specs.Event.{present_of}
use Rattle.inspector.specs.ByRoot.{RootsTold}
use Rattle.program.proofs.MadeText.{report_told}
use Rattle.program.proofs.after.report.tell_roots.Goals as goal

pub returns-clause-told : goal.returns-clause-told
returns-clause-told g c = report_told (RootsTold (present_of c.args.player.now.course)) c.roots_report.result _ c.tell_text.result c.roots_report.ensures c.tell_text.ensures.told
