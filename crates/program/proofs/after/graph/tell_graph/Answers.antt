use Rattle.std.proofs.Common.{Ok, Err, refl}
use Rattle.trace.specs.Streams.{taken_by}
use Rattle.program.proofs.Finishing.{failed_so}
use Rattle.program.proofs.Failing.{text_unread, writes_text, drawn_unread}
use Rattle.program.proofs.after.graph.tell_graph.Goals as goal

pub returns-in_err-draw_graph-clause-told : goal.returns-in_err-draw_graph-clause-told
returns-in_err-draw_graph-clause-told g c = (Err c.in_err-draw_graph.field-0.0, c.in_err-draw_graph.ensures.drawn, failed_so c.from_residual.result _ c.from_residual.ensures.1)

pub returns-clause-told : goal.returns-clause-told
returns-clause-told g c = (Ok c.in_ok-draw_graph.field-0, c.in_ok-draw_graph.ensures.drawn, refl)

pub returns-in_err-draw_graph-clause-reads : goal.returns-in_err-draw_graph-clause-reads
returns-in_err-draw_graph-clause-reads g c =
    let taken = taken_by g.K.Sink.taken g.K.Sink.sent c.args.sink.now c.draw_graph.new.sink in
    text_unread c.from_residual.result c.in_err-draw_graph.field-0.0 c.from_residual.ensures.1 (drawn_unread c.args.graph.now c.args.most taken (Err c.in_err-draw_graph.field-0.0) c.in_err-draw_graph.ensures.drawn)

pub returns-in_err-draw_graph-clause-writes : goal.returns-in_err-draw_graph-clause-writes
returns-in_err-draw_graph-clause-writes g c = writes_text c.from_residual.result c.in_err-draw_graph.field-0.0 _ _ c.from_residual.ensures.1 c.in_err-draw_graph.ensures.cause
