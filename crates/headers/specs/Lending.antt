-- The words of an arena are lent out of it.
use Rattle.std.specs.Prelude.{ℕ, List, length}
use Rattle.std.specs.Borrow.{Array, Fml, Lends, MutBor, u64}
use Rattle.std.specs.List.{refill}
use Rattle.headers.specs.Memory.{Memory}
use Rattle.headers.specs.contracts.arena.Arena.{the_row}

-- the memory with these words in the place of its own, cut or filled up from its own so that it has as many
abbrev pub with_words : Memory → List ℕ → Memory
with_words a words = record { words = refill (length a.words) a.words words; pages = a.pages }

-- once the borrow of the words ends, the memory has the words that were left there
abbrev pub LendsWords : MutBor Memory → MutBor (List ℕ) → Fml
LendsWords a r = Lends the_row (Array u64 0) a r (with_words a.now)
