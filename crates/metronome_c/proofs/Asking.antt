-- What C holds was asked, so what holds of each such call holds of it.
use Rattle.std.specs.Prelude.{Result, Ok, Err}
use Rattle.metronome_c.specs.declared.status.Status.{Status}
use Rattle.metronome_c.specs.Asking.{Asks}

-- what each call says, said of the call that was made
pub asks_so : {S A : Type 0} (call Says : S → A → S → Type 0) → ((h : S) (a : A) (k : S) → call h a k → Says h a k)
    → (old : Result S Status) (answer : Result A Status) (new : Result S Status) → Asks call old answer new → Asks Says old answer new
asks_so call Says so (Err why) answer new asks = asks
asks_so call Says so (Ok h) answer new asks = (asks.0, asks.1, asks.2, asks.3, so h asks.0 asks.1 asks.4)
