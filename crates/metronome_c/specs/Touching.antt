-- Pages of the heap that C holds get their words.
use Rattle.std.specs.Prelude.{◌≡◌, ℕ, Bool, true, false, Option, Some, None, Result, Ok, Err}
use Rattle.heap_model.specs.State.{HeapState}
use Rattle.nodes.specs.Touching.{touched}
use Rattle.paced.specs.Pacing.{KeepsAgreeing}
use Rattle.heap_shared.specs.Members.{ChangesIn}
use Rattle.heap_shared.specs.Ring.{TouchesBy}
use Rattle.metronome_c.specs.declared.held.Held.{Held}
use Rattle.metronome_c.specs.declared.own_heap.OwnHeap.{OwnHeap}
use Rattle.metronome_c.specs.declared.status.Status.{Status}
use Rattle.metronome_c.specs.declared.status.Status.TheVariants.{Done, InUse, Outside}
use Rattle.metronome_c.specs.Asking.{TellsStatus}
use Rattle.metronome_c.specs.Either.{OnEither}
use Rattle.metronome_c.specs.Status.{status_number}

-- a heap whose first pages have their words, this many pages or all
abbrev pub touched_heap : HeapState → ℕ → HeapState
touched_heap h pages = record h { store = touched h.store pages }

-- what a handle holds, once the first pages of its heap have their words
abbrev pub touched_held : OwnHeap → ℕ → OwnHeap
touched_held h pages = record h { heap = touched_heap h.heap pages }

-- the first pages of a heap of its own have their words, which is told
pub record TouchesTold (old : OwnHeap) (pages : ℕ) (answer : Result (Unit {0}) Status) (new : OwnHeap) : Type 0 where
  pub touches : new ≡ touched_held old pages
  pub agrees : KeepsAgreeing old.heap new.heap
  pub is : answer ≡ Ok tt

-- the first pages have their words, and nothing else changes
abbrev pub TouchesOpen : Result OwnHeap Status → ℕ → Result OwnHeap Status → ℕ → Type 0
TouchesOpen (Err why) pages new status = (new ≡ Err why) × (status ≡ status_number why)
TouchesOpen (Ok h) pages new status =
    (new ≡ Ok (touched_held h pages)) × KeepsAgreeing h.heap (touched_heap h.heap pages) × (status ≡ status_number Done)

-- the outcome of a member's call: the pages have their words, an event was done before, or the handle doesn't have the turn
abbrev pub touched_told : Option Bool → Result (Unit {0}) Status
touched_told (Some true) = Ok tt
touched_told (Some false) = Err InUse
touched_told None = Err Outside

-- The first pages of the heap that a handle holds have their words. A member touches pages before the first event alone.
abbrev pub Touches : Result Held Status → ℕ → Result Held Status → ℕ → Type 0
Touches old pages new status = OnEither (λ h k. TouchesOpen h pages k status)
    (λ v w. TellsStatus (ChangesIn (TouchesBy pages)) touched_told v w status) old new
