-- The facts about its source that a loop over lines keeps, apart from the lines.
use Rattle.std.proofs.Common.{◌≡◌, ℕ, ◌+◌, ◌≤◌, List, length, arith, refl}
use Rattle.std.specs.Prelude.{Option}
use Rattle.trace.specs.LineReader.{Lines, no_lines}
use Rattle.trace.specs.Streams.{Stays}
use Rattle.trace.proofs.LinesProcessed.{stays_same, stays_on}

-- the source has given at least the bytes that the reader handed out and keeps, no read has failed, and the known
-- input stays
pub record IsReading (given : List ℕ) (failures failures' : ℕ) (known known' : Option (List ℕ)) (reader : Lines) : Type 0 where
  pub behind : reader.text.number + length reader.kept ≤ length given
  pub reads : failures' ≡ failures
  pub input : Stays known known'

-- before the first line
pub reading_at_first : (given : List ℕ) (failures : ℕ) (known : Option (List ℕ)) → IsReading given failures failures known known no_lines
reading_at_first given failures known = record { behind = omega arith; reads = refl; input = stays_same known }

-- after one more line
pub reading_on : {given given' : List ℕ} {failures mid failures' : ℕ} {known between known' : Option (List ℕ)} {reader next : Lines} → IsReading given failures mid known between reader
    → next.text.number + length next.kept ≤ length given' → failures' ≡ mid + 0 → Stays between known' → IsReading given' failures failures' known known' next
reading_on {known = known} {between = between} {known' = known'} r behind cause stays = record { behind = behind; reads = omega (arith, r.reads); input = stays_on known between known' r.input stays }
