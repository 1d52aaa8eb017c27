use Rattle.std.proofs.Common.{◌≡◌, ◌-◌, ◌≤◌, ◌++◌, length, take}
use Rattle.trace.proofs.streams.sink.write_all.Given as goal

-- the first bytes are written, no call has failed, and what was sent on stays so
abbrev pub invariant-loop-at : goal.invariant-loop-at
invariant-loop-at g l = record {
  within : l.at ≤ length l.bytes;
  taken : g.K.Sink.taken l.sink ≡ g.K.Sink.taken l.fn.sink ++ take l.at l.bytes;
  sent : g.K.Sink.sent l.fn.sink ≤ g.K.Sink.sent l.sink;
  failures : g.K.Sink.failures l.sink ≡ g.K.Sink.failures l.fn.sink;
}

abbrev pub decreases-loop-at : goal.decreases-loop-at
decreases-loop-at g l = length l.bytes - l.at
