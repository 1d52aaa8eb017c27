use Rattle.std.proofs.Common.{◌≡◌, ◌≤◌, ◌++◌, length}
use Rattle.trace.specs.BufferedSink.{sink_below, bytes_waiting}
use Rattle.trace.proofs.streams.buffered.BufferedSinkSink.flush.Given as goal

-- the same bytes are taken, fewer of them wait, and no call has failed
abbrev pub invariant-loop-self : goal.invariant-loop-self
invariant-loop-self g l = record {
  taken : g.K.Sink.taken (sink_below l.self) ++ bytes_waiting l.self ≡ g.K.Sink.taken (sink_below l.fn.self) ++ bytes_waiting l.fn.self;
  sent : length (g.K.Sink.taken (sink_below l.fn.self)) ≤ length (g.K.Sink.taken (sink_below l.self));
  failures : g.K.Sink.failures (sink_below l.self) ≡ g.K.Sink.failures (sink_below l.fn.self);
}

abbrev pub decreases-loop-self : goal.decreases-loop-self
decreases-loop-self g l = l.self.end
