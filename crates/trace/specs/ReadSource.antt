-- A source over a std reader: the reader, the bytes that it has given, whether it has ended, and how many calls failed.
use Rattle.std.specs.Prelude.{ℕ, Bool, List}
use Rattle.trace.specs.declared.streams.standard.ReadSource.{ReadSource}

-- the reader
abbrev pub source_reader : {R : Type 0} {g : _} → ReadSource R g → R
source_reader s = s.reader

-- the bytes that it has given
abbrev pub source_given : {R : Type 0} {g : _} → ReadSource R g → List ℕ
source_given s = s.transcript.bytes

-- whether its input has ended
abbrev pub source_ended : {R : Type 0} {g : _} → ReadSource R g → Bool
source_ended s = s.ended

-- the number of failed calls
abbrev pub source_failures : {R : Type 0} {g : _} → ReadSource R g → ℕ
source_failures s = s.transcript.failures
