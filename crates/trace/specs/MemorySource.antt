-- A source over memory: its bytes, and how many of them are given.
use Rattle.std.specs.Prelude.{ℕ, List}
use Rattle.trace.specs.declared.streams.memory.MemorySource.{MemorySource}

-- all its bytes
abbrev pub source_bytes : MemorySource → List ℕ
source_bytes s = s.bytes.now

-- how many of them it has given
abbrev pub source_place : MemorySource → ℕ
source_place s = s.at
