use Rattle.std.proofs.Common.{◌≡◌, ◌*◌, ◌++◌}
use Rattle.trace.specs.Lines.{text_of}
use Rattle.inspector.specs.Filling.{IsWithin, filling_of, summed, classes_lines}
use Rattle.inspector.proofs.by_size.write_classes.Given as goal

-- the classes so far are summed, their lines are written, and no call has failed
abbrev pub invariant-loop-number : goal.invariant-loop-number
invariant-loop-number g l = record {
  sum : l.all ≡ summed (filling_of l.heap.store) l.number;
  within : IsWithin l.all (137438953472 * l.number);
  written : g.K.Sink.taken l.sink ≡ g.K.Sink.taken l.fn.sink ++ text_of (classes_lines l.heap.store l.number);
  failures : g.K.Sink.failures l.sink ≡ g.K.Sink.failures l.fn.sink;
}
