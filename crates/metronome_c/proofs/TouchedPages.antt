-- Pages of the heap that C holds get their words, and it is as it was made.
use Rattle.std.proofs.Common.{◌≡◌, ◌∙◌, ℕ, ap, subst}
use Rattle.std.specs.Prelude.{Result, Ok, Err}
use Rattle.heap_model.specs.Agreement.{Agrees}
use Rattle.size_classes.specs.declared.settings.Settings.{Settings}
use Rattle.metronome_c.specs.declared.own_heap.OwnHeap.{OwnHeap}
use Rattle.metronome_c.specs.declared.status.Status.{Status}
use Rattle.metronome_c.specs.Status.{status_number}
use Rattle.metronome_c.specs.Asking.{Asks, status_of}
use Rattle.metronome_c.specs.Either.{flat}
use Rattle.metronome_c.specs.Lifetime.{IsMadeOf}
use Rattle.metronome_c.specs.Touching.{touched_held, TouchesTold, TouchesOpen}

pub touches_open : (pages : ℕ) (answer : Result (Result (Unit {0}) Status) Status) (n : ℕ) → n ≡ status_number (status_of (flat answer))
    → (old new : Result OwnHeap Status) → Asks (λ h a k. TouchesTold h pages a k) old answer new → TouchesOpen old pages new n
touches_open pages answer n told (Err why) new asks = (asks.1, told ∙ ap (λ x. status_number (status_of (flat x))) asks.0)
touches_open pages answer n told (Ok h) new asks =
    let t = asks.4 in (
      asks.3 ∙ ap Ok t.touches,
      λ g agrees. subst (λ (x : OwnHeap). Agrees x.heap g) t.touches (t.agrees g agrees),
      told ∙ ap (λ x. status_number (status_of (flat x))) asks.2 ∙ ap (λ x. status_number (status_of x)) t.is,
    )

-- a heap that was made is still one of the settings
pub touched_made : (s : Settings) (h : OwnHeap) (pages : ℕ) → IsMadeOf s h → IsMadeOf s (touched_held h pages)
touched_made s h pages made =
    let o = made.0 in
    (record { pages = o.pages; roots = o.roots; live = o.live; next = o.next; phase = o.phase; units = o.units; grey = o.grey }, made.1, made.2, made.3, made.4)
