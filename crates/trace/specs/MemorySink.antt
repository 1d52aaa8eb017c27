-- A sink over memory: the bytes that it has taken, and how many calls failed.
use Rattle.std.specs.Prelude.{ℕ, List}
use Rattle.trace.specs.declared.streams.memory.MemorySink.{MemorySink}

-- the bytes that it has taken
abbrev pub sink_bytes : MemorySink → List ℕ
sink_bytes s = s.bytes.items

-- how many calls failed
abbrev pub sink_failures : MemorySink → ℕ
sink_failures s = s.transcript.failures
