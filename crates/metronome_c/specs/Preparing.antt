-- The collector works ahead for a plan.
use Rattle.std.specs.Prelude.{◌≡◌, ℕ, ◌<◌, ◌≤◌, Option, Some, None, Result, Ok, Err}
use Rattle.paced.specs.Bounds.{Prepares as PacerPrepares}
use Rattle.paced.specs.Pacing.{PacerView, paced_by}
use Rattle.heap_shared.specs.declared.fault.NotPrepared.{NotPrepared}
use Rattle.heap_shared.specs.declared.fault.NotPrepared.TheVariants as unprepared
use Rattle.heap_shared.specs.Members.{PreparesIn}
use Rattle.metronome_c.specs.declared.held.Held.{Held}
use Rattle.metronome_c.specs.declared.own_heap.OwnHeap.{OwnHeap}
use Rattle.metronome_c.specs.declared.status.Status.{Status}
use Rattle.metronome_c.specs.declared.status.Status.TheVariants.{NoPlan, AbovePlan, Outside}
use Rattle.metronome_c.specs.Asking.{AsksMember, told_by}
use Rattle.metronome_c.specs.Either.{OnEither}
use Rattle.metronome_c.specs.Figures.{IsTold}
use Rattle.metronome_c.specs.Status.{status_number}

-- A pacer, if there is one, has the collector do one piece at most of the work that words will owe, and it says how many are left. If
-- there is none, or the words are more than the plan has for a whole cycle, that is told, and nothing is done.
abbrev pub PreparesBy : Option PacerView → OwnHeap → ℕ → Result ℕ Status → OwnHeap → Type 0
PreparesBy None old words answer new = (answer ≡ Err NoPlan) × (new ≡ old)
PreparesBy (Some p) old words (Err why) new = (why ≡ AbovePlan) × (p.counts.plan.cycle_words < words) × (new ≡ old)
PreparesBy (Some p) old words (Ok left) new = (q : PacerView)
    × (new ≡ record old { heap = new.heap; pacer = Some q; cycles = new.cycles }) × (words ≤ p.counts.plan.cycle_words)
    × PacerPrepares (paced_by p old.heap old.cycles) words left (paced_by q new.heap new.cycles)

-- the pacer of what C holds, if there is one, has the collector work ahead so
abbrev pub PreparesHeld : OwnHeap → ℕ → Result ℕ Status → OwnHeap → Type 0
PreparesHeld old words answer new = PreparesBy old.pacer old words answer new

-- So it is with the heap that C holds, and C is told how many pieces are left, or why nothing was done.
abbrev pub PreparesOpen : Result OwnHeap Status → ℕ → Result OwnHeap Status → ℕ → ℕ → ℕ → Type 0
PreparesOpen (Err why) words new before after status =
    (new ≡ Err why) × (after ≡ before) × (status ≡ status_number why)
PreparesOpen (Ok h) words new before after status = (k : OwnHeap) × (answer : Result ℕ Status) × (new ≡ Ok k)
    × PreparesHeld h words answer k × IsTold answer before after status

-- the status of why a member doesn't prepare
abbrev pub not_prepared_status : NotPrepared → Status
not_prepared_status unprepared.Outside = Outside
not_prepared_status unprepared.NoPlan = NoPlan
not_prepared_status unprepared.AbovePlan = AbovePlan

-- The heap that a handle holds is prepared for words. C has the number of calls left, or what it had before.
abbrev pub Prepares : Result Held Status → ℕ → Result Held Status → ℕ × ℕ → ℕ → Type 0
Prepares old words new left status = OnEither (λ h k. PreparesOpen h words k left.0 left.1 status)
    (λ v w. AsksMember (λ s a k. PreparesIn s words a k) (told_by not_prepared_status) v w (λ found. IsTold found left.0 left.1 status)) old new
