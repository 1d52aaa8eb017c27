use Rattle.std.proofs.Common.{◌≡◌}
use Rattle.inspector.proofs.PageByPage.{SoFar}
use Rattle.inspector.proofs.reporting.write_page_lines.Given as goal

-- the lines of the pages so far are written, and no call has failed
abbrev pub invariant-loop-page : goal.invariant-loop-page
invariant-loop-page g l = record {
  written : SoFar (g.K.Sink.taken l.fn.sink) (g.K.Sink.taken l.sink) l.heap.store.pages l.page;
  failures : g.K.Sink.failures l.sink ≡ g.K.Sink.failures l.fn.sink;
}
