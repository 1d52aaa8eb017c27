-- A sink that gathers the bytes that it takes: the sink below, and the bytes that wait to be written to it. It has
-- taken the bytes that the sink below has, and then those that wait.
use Rattle.std.specs.Prelude.{ℕ, List, take}
use Rattle.trace.specs.declared.streams.buffered.BufferedSink.{BufferedSink}

module _ {K : Type 0} where
  -- the sink below
  abbrev pub sink_below : BufferedSink K → K
  sink_below s = s.below

  -- the bytes that wait
  abbrev pub bytes_waiting : BufferedSink K → List ℕ
  bytes_waiting s = take s.end s.bytes
