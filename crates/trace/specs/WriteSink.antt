-- A sink over a std writer: the writer, the bytes that it has taken as a sink, and how many calls failed.
use Rattle.std.specs.Prelude.{ℕ, List}
use Rattle.trace.specs.declared.streams.standard.WriteSink.{WriteSink}

module _ {W : Type 0} where
  -- the writer
  abbrev pub sink_writer : WriteSink W → W
  sink_writer s = s.writer

  -- the bytes that it has taken
  abbrev pub sink_taken : WriteSink W → List ℕ
  sink_taken s = s.transcript.bytes

  -- how many calls failed
  abbrev pub sink_failures : WriteSink W → ℕ
  sink_failures s = s.transcript.failures
