use Rattle.std.proofs.Common.{◌≡◌}
use Rattle.std.specs.Iterator.Adapters.{zip_first, zip_second}
use Rattle.std.specs.List.{zip}
use Rattle.std.specs.Slice.Iter.{iter_rest}
use Rattle.pictures.specs.Events.{json_text}
use Rattle.pictures.proofs.PageCounts.{counts_of}
use Rattle.pictures.proofs.Parts.{SoFar}
use Rattle.pictures.proofs.page_counts.write_pages.Given as goal

-- the events of the quanta so far are written, those of the others are left, and no call has failed
abbrev pub invariant-loop-quantum : goal.invariant-loop-quantum
invariant-loop-quantum g l = record {
  written : SoFar json_text (g.K.Sink.taken l.fn.sink) (g.K.Sink.taken l.sink) (counts_of l.pages (zip l.quanta l.starts)) (counts_of l.pages (zip (iter_rest (zip_first l.quantum-iterator)) (iter_rest (zip_second l.quantum-iterator))));
  failures : g.K.Sink.failures l.sink ≡ g.K.Sink.failures l.fn.sink;
}
