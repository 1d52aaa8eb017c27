use Rattle.std.proofs.Common.{◌≡◌}
use Rattle.std.specs.Iterator.Adapters.{zip_first, zip_second}
use Rattle.std.specs.List.{zip}
use Rattle.std.specs.Slice.Iter.{iter_rest}
use Rattle.pictures.proofs.CycleSpans.{IsOn}
use Rattle.pictures.proofs.cycle_spans.write_cycles.Given as goal

-- the events of the cycles before this one are written, the quanta behind those of this one are left, and no call has failed
abbrev pub invariant-loop-quantum : goal.invariant-loop-quantum
invariant-loop-quantum g l = record {
  here : IsOn (g.K.Sink.taken l.fn.sink) (g.K.Sink.taken l.sink) (zip l.quanta l.starts) (zip (iter_rest (zip_first l.quantum-iterator)) (iter_rest (zip_second l.quantum-iterator))) l.cycle;
  failures : g.K.Sink.failures l.sink ≡ g.K.Sink.failures l.fn.sink;
}
