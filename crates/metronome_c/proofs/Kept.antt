-- A plan is kept, or it isn't.
use Rattle.std.proofs.Common.{◌≡◌, ◌∙◌, ℕ, Bool, true, false, refl, ap}
use Rattle.std.specs.Prelude.{Result, Ok, Err}
use Rattle.metronome_c.specs.declared.own_heap.OwnHeap.{OwnHeap}
use Rattle.metronome_c.specs.declared.planning.MetronomeFlow.{MetronomeFlow}
use Rattle.metronome_c.specs.declared.status.Status.{Status}
use Rattle.metronome_c.specs.Asking.{Asks, status_of}
use Rattle.metronome_c.specs.Either.{flat}
use Rattle.metronome_c.specs.Keeping.{KeepsTold, keep_told, keep_status, KeepsOwn}
use Rattle.metronome_c.specs.Status.{status_number}

kept_so : (kept : Bool) → status_number (status_of (keep_told kept)) ≡ status_number (keep_status kept)
kept_so true = refl
kept_so false = refl

pub keeps_open : (flow : MetronomeFlow) (answer : Result (Result (Unit {0}) Status) Status) (n : ℕ) → n ≡ status_number (status_of (flat answer))
    → (old new : Result OwnHeap Status) → Asks (λ h a k. KeepsTold h flow a k) old answer new → KeepsOwn old flow new n
keeps_open flow answer n told (Err why) new asks = (asks.1, told ∙ ap (λ x. status_number (status_of (flat x))) asks.0)
keeps_open flow answer n told (Ok h) new asks =
    let kept = asks.4 in
    (asks.1, kept.kept, asks.3, kept.does, told ∙ ap (λ x. status_number (status_of (flat x))) asks.2 ∙ ap (λ x. status_number (status_of x)) kept.is ∙ kept_so kept.kept)
