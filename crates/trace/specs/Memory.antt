-- Bytes in memory as a source.
use Rattle.std.specs.Prelude.{ℕ, ◌^◌, ◌<◌, List, length, take, drop, nat_le}
use Rattle.std.proofs.Common.{arith, length-take, sym}
use Rattle.std.proofs.lemmas.Bool.{leb-true}
use Rattle.std.proofs.lemmas.List.{take-append-drop, drop_all}
use Rattle.trace.specs.Streams.{Begins}

-- if the bytes are few, so are the first n of them
pub take_few : (n : ℕ) (bytes : List ℕ) → length bytes < 2 ^ 64 → length (take n bytes) < 2 ^ 64
take_few n bytes few = omega (arith, length-take n bytes)

-- the first n bytes are a beginning, and all of them if n isn't less than the length
pub take_begins : (n : ℕ) (bytes : List ℕ) → Begins (take n bytes) (nat_le (length bytes) n) bytes
take_begins n bytes = record {
  rest = drop n bytes;
  whole = sym (take-append-drop n bytes);
  over = λ h. drop_all n bytes (leb-true (length bytes) n h);
}
