use Rattle.trace.specs.Lines.{text_of}
use Rattle.inspector.specs.Report.{head_lines, page_lines, tail_lines, report_of}
use Rattle.inspector.proofs.Parts.{at_err, first_of_three, second_of_three, third_of_three, three}
use Rattle.inspector.proofs.PageByPage.{text_three}
use Rattle.inspector.proofs.reporting.report.Goals as goal

pub returns-in_err-write_head-clause-err : goal.returns-in_err-write_head-clause-err
returns-in_err-write_head-clause-err g c =
    let h = c.args.heap.now in
    at_err c.from_residual.result _
    (first_of_three (text_of (head_lines h)) (text_of (page_lines 0 h.store.pages)) (text_of (tail_lines h)) (report_of h) (text_three (head_lines h) (page_lines 0 h.store.pages) (tail_lines h))
    (g.K.Sink.taken c.args.sink.now) (g.K.Sink.taken c.write_head.new.sink) c.in_err-write_head.ensures.err)

pub returns-in_err-write_page_lines-clause-err : goal.returns-in_err-write_page_lines-clause-err
returns-in_err-write_page_lines-clause-err g c =
    let h = c.args.heap.now in
    at_err c.from_residual-in_err-write_page_lines.result _
    (second_of_three (text_of (head_lines h)) (text_of (page_lines 0 h.store.pages)) (text_of (tail_lines h)) (report_of h) (text_three (head_lines h) (page_lines 0 h.store.pages) (tail_lines h))
    (g.K.Sink.taken c.args.sink.now) (g.K.Sink.taken c.write_head.new.sink) (g.K.Sink.taken c.write_page_lines.new.sink) c.in_ok-write_head.ensures.ok c.in_err-write_page_lines.ensures.err)

pub returns-in_err-write_tail-clause-err : goal.returns-in_err-write_tail-clause-err
returns-in_err-write_tail-clause-err g c =
    let h = c.args.heap.now in
    at_err c.from_residual-in_err-write_tail.result _
    (third_of_three (text_of (head_lines h)) (text_of (page_lines 0 h.store.pages)) (text_of (tail_lines h)) (report_of h) (text_three (head_lines h) (page_lines 0 h.store.pages) (tail_lines h))
    (g.K.Sink.taken c.args.sink.now) (g.K.Sink.taken c.write_head.new.sink) (g.K.Sink.taken c.write_page_lines.new.sink) c.in_ok-write_head.ensures.ok
    (g.K.Sink.taken c.write_tail.new.sink) c.in_ok-write_page_lines.ensures.ok c.in_err-write_tail.ensures.err)

pub returns-clause-ok : goal.returns-clause-ok
returns-clause-ok g c =
    let h = c.args.heap.now in
    three (text_of (head_lines h)) (text_of (page_lines 0 h.store.pages)) (text_of (tail_lines h)) (report_of h) (text_three (head_lines h) (page_lines 0 h.store.pages) (tail_lines h))
    (g.K.Sink.taken c.args.sink.now) (g.K.Sink.taken c.write_head.new.sink) (g.K.Sink.taken c.write_page_lines.new.sink) c.in_ok-write_head.ensures.ok
    (g.K.Sink.taken c.write_tail.new.sink) c.in_ok-write_page_lines.ensures.ok c.in_ok-write_tail.ensures.ok
