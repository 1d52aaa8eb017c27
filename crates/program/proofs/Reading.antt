-- A trace that is read from memory.
use Rattle.std.proofs.Common.{◌≡◌, ℕ, List, [], length, take, Some, ap, ◌∙◌, subst}
use Rattle.std.specs.Prelude.{nat_le}
use Rattle.std.proofs.lemmas.Option.{same_Some}
use Rattle.trace.specs.declared.streams.memory.MemorySource.{MemorySource}
use Rattle.trace.specs.Memory.{take_begins}
use Rattle.trace.specs.Streams.{Begins, Stays}
use Rattle.program.specs.Texts.{ReadsText}

-- A source over memory that has given nothing yet gives its bytes from the first one on.
pub reads_text : (text : List ℕ) (old new : MemorySource) → old.bytes.now ≡ text → old.at ≡ 0 → Stays (Some old.bytes.now) (Some new.bytes.now)
    → ReadsText text (record { before = take old.at old.bytes.now; after = take new.at new.bytes.now; ended = nat_le (length new.bytes.now) new.at })
reads_text text old new bytes place stays = (
  ap (λ n. take n old.bytes.now) place,
  subst (Begins (take new.at new.bytes.now) (nat_le (length new.bytes.now) new.at)) (same_Some new.bytes.now old.bytes.now stays ∙ bytes) (take_begins new.at new.bytes.now),
)

-- A source over memory of which nothing is read yet has given nothing.
pub none_taken : (s : MemorySource) → s.at ≡ 0 → take s.at s.bytes.now ≡ []
none_taken s place = ap (λ n. take n s.bytes.now) place
