-- The collector works ahead for a plan, or it doesn't.
use Rattle.std.proofs.Common.{ℕ, ap, subst}
use Rattle.std.specs.Prelude.{Result, Ok, Err}
use Rattle.metronome_c.specs.declared.own_heap.OwnHeap.{OwnHeap}
use Rattle.metronome_c.specs.declared.status.Status.{Status}
use Rattle.metronome_c.specs.Asking.{Asks}
use Rattle.metronome_c.specs.Either.{flat}
use Rattle.metronome_c.specs.Figures.{IsTold}
use Rattle.metronome_c.specs.Preparing.{PreparesHeld, PreparesOpen}

pub prepares_open : (words : ℕ) (found : Result (Result ℕ Status) Status) (before after n : ℕ) → IsTold (flat found) before after n
    → (old new : Result OwnHeap Status) → Asks (λ h answer k. PreparesHeld h words answer k) old found new → PreparesOpen old words new before after n
prepares_open words found before after n told (Err why) new asks =
    let is : IsTold (Err why) before after n = subst (λ (x : Result ℕ Status). IsTold x before after n) (ap flat asks.0) told in (asks.1, is.0, is.1)
prepares_open words found before after n told (Ok h) new asks =
    (asks.1, asks.0, asks.3, asks.4, subst (λ (x : Result ℕ Status). IsTold x before after n) (ap flat asks.2) told)
