use Rattle.std.proofs.Common.{◌≡◌, drop}
use Rattle.quanta.specs.Intervals.{IsRisingFrom}
use Rattle.pictures.specs.Events.{json_text, quanta_events}
use Rattle.pictures.proofs.Parts.{SoFar}
use Rattle.pictures.proofs.events.write_quanta.Given as goal

-- the events of the quanta so far are written, the others begin behind the last of these, and no call has failed
abbrev pub invariant-loop-quantum : goal.invariant-loop-quantum
invariant-loop-quantum g l = record {
  rising : IsRisingFrom l.from (drop l.quantum-index l.quanta);
  written : SoFar json_text (g.K.Sink.taken l.fn.sink) (g.K.Sink.taken l.sink) (quanta_events 0 l.quanta) (quanta_events l.from (drop l.quantum-index l.quanta));
  failures : g.K.Sink.failures l.sink ≡ g.K.Sink.failures l.fn.sink;
}
