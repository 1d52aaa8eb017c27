use Rattle.std.proofs.Common.{◌<◌, length, arith}
use Rattle.inspector.proofs.Parts.{at_err}
use Rattle.inspector.proofs.PageByPage.{one_more, part_more}
use Rattle.inspector.proofs.reporting.write_page_lines.Goals as goal

pub returns-in_err-write_page-clause-err : goal.returns-in_err-write_page-clause-err
returns-in_err-write_page-clause-err g c =
    let l : c.loop-page.page < length c.args.heap.now.store.pages = omega (arith, c.pages-page-end.ensures.pages, c.loop-page-test.true) in
    at_err c.from_residual.result _
    (part_more (g.K.Sink.taken c.args.sink.now) (g.K.Sink.taken c.loop-page.sink) (g.K.Sink.taken c.write_page.new.sink) c.args.heap.now.store.pages c.loop-page.page l c.loop-page.invariant.written
    c.in_err-write_page.ensures.err)

pub loop-page-preserved : goal.loop-page-preserved
loop-page-preserved g c =
    let l : c.loop-page.page < length c.args.heap.now.store.pages = omega (arith, c.pages-page-end.ensures.pages, c.loop-page-test.true) in
    record {
      written = one_more (g.K.Sink.taken c.args.sink.now) (g.K.Sink.taken c.loop-page.sink) (g.K.Sink.taken c.write_page.new.sink) c.args.heap.now.store.pages c.loop-page.page l c.loop-page.invariant.written
          c.in_ok-write_page.ensures.ok;
      failures = omega (arith, c.in_ok-write_page.ensures.cause, c.loop-page.invariant.failures);
    }
