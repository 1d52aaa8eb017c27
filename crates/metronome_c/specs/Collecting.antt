-- The collector of the heap that C holds, and its outcomes as C sees them.
use Rattle.std.specs.Prelude.{◌≡◌, ℕ, Option, Some, None, Result, Ok, Err}
use Rattle.heap_model.specs.declared.phase.Phase.{Phase}
use Rattle.heap_model.specs.declared.phase.Phase.TheVariants as phases
use Rattle.heap_model.specs.State.{HeapState}
use Rattle.heap_model.specs.Event.{Event}
use Rattle.machine.specs.declared.collector.Busy.{Busy as CycleOn}
use Rattle.machine.specs.declared.collector.BudgetOutOfRange.{BudgetOutOfRange as Refused}
use Rattle.machine.specs.declared.collector.Spent.{Spent}
use Rattle.machine.specs.Collecting.{Begins, Spends}
use Rattle.machine.specs.Recorded.{begin_done, quantum_done}
use Rattle.paced.specs.Cycles.{cycles_after, EndsOrSpends}
use Rattle.paced.specs.Pacing.{PacerView, counted, KeepsAgreeing}
use Rattle.metronome_c.specs.declared.collector.QuantumSpent.{QuantumSpent}
use Rattle.metronome_c.specs.declared.own_heap.OwnHeap.{OwnHeap}
use Rattle.metronome_c.specs.declared.status.Status.{Status}
use Rattle.metronome_c.specs.declared.status.Status.TheVariants.{Done, Busy, BudgetOutOfRange, Outside}
use Rattle.heap_shared.specs.Members.{DoesInTurn}
use Rattle.metronome_c.specs.declared.held.Held.{Held}
use Rattle.metronome_c.specs.Asking.{AsksMember, TellsStatus}
use Rattle.metronome_c.specs.Either.{OnEither}
use Rattle.metronome_c.specs.Figures.{IsTold}
use Rattle.metronome_c.specs.Status.{status_number}

-- each phase has a number
abbrev pub phase_number : Phase → ℕ
phase_number phases.Idle = 0
phase_number (phases.Roots next) = 1
phase_number (phases.Marking part cell) = 2
phase_number (phases.Sweeping page block) = 3
phase_number (phases.Moving place) = 4

-- a pacer, if there is one, has counted an event
abbrev pub counted_by : Event → Option PacerView → Option PacerView
counted_by e (Some p) = Some (record p { counts = counted p.counts e })
counted_by e None = None

-- what C holds after an event that left its heap so: it counts for the cycles, and a pacer counts it, if there is one
abbrev pub held_after : OwnHeap → Event → HeapState → OwnHeap
held_after old e after = record old {
  heap = after;
  pacer = counted_by e old.pacer;
  cycles = cycles_after e old.heap after old.cycles;
}

-- a cycle begins, or one is running already
abbrev pub BeginsHeld : OwnHeap → Result (Unit {0}) CycleOn → OwnHeap → Type 0
BeginsHeld old result new =
    (new ≡ held_after old (begin_done result) new.heap)
    × KeepsAgreeing old.heap new.heap × Begins old.heap new.heap result

-- a cycle begins, or one is running, or the member hasn't the turn
abbrev pub begun_told : Option (Result (Unit {0}) CycleOn) → Result (Unit {0}) Status
begun_told (Some (Ok done)) = Ok tt
begun_told (Some (Err busy)) = Err Busy
begun_told None = Err Outside

-- what a quantum did, or its budget is refused, or the member hasn't the turn
abbrev pub spent_told : Option (Result Spent Refused) → Result QuantumSpent Status
spent_told (Some (Ok spent)) = Ok (record { units = spent.units; phase = phase_number spent.phase })
spent_told (Some (Err refused)) = Err BudgetOutOfRange
spent_told None = Err Outside

-- a cycle begins so, and that is told
pub record BeginsTold (old : OwnHeap) (answer : Result (Unit {0}) Status) (new : OwnHeap) : Type 0 where
  pub told : Result (Unit {0}) CycleOn
  pub does : BeginsHeld old told new
  pub is : answer ≡ begun_told (Some told)

-- the status of a call to begin a cycle
abbrev pub begin_status : Result (Unit {0}) CycleOn → ℕ
begin_status (Ok done) = status_number Done
begin_status (Err busy) = status_number Busy

-- a cycle begins in the heap that C holds, or one is running already
abbrev pub BeginsOpen : Result OwnHeap Status → Result OwnHeap Status → ℕ → Type 0
BeginsOpen (Err why) new status = (new ≡ Err why) × (status ≡ status_number why)
BeginsOpen (Ok h) new status = (k : OwnHeap) × (answer : Result (Unit {0}) CycleOn)
    × (new ≡ Ok k) × BeginsHeld h answer k × (status ≡ begin_status answer)

-- the status of a call to spend a budget
abbrev pub quantum_status : Result Spent Refused → ℕ
quantum_status (Ok spent) = status_number Done
quantum_status (Err refused) = status_number BudgetOutOfRange

-- the record for a quantum after it; if the quantum is refused, it is as before
abbrev pub spent_of : QuantumSpent → Result Spent Refused → QuantumSpent
spent_of before (Ok spent) = record { units = spent.units; phase = phase_number spent.phase }
spent_of before (Err refused) = before

-- a quantum spends units of its budget in one turn, or the budget is refused
abbrev pub SpendsHeld : OwnHeap → ℕ → Result Spent Refused → OwnHeap → Type 0
SpendsHeld old budget result new =
    (new ≡ held_after old (quantum_done budget result) new.heap)
    × KeepsAgreeing old.heap new.heap × Spends old.heap budget new.heap result × EndsOrSpends budget result

-- a quantum is spent so, and that is told
abbrev pub SpendsTold : OwnHeap → ℕ → Result QuantumSpent Status → OwnHeap → Type 0
SpendsTold old budget answer new = (t : Result Spent Refused) × SpendsHeld old budget t new × (answer ≡ spent_told (Some t))

-- a quantum is spent in the heap that C holds, or its budget is refused
abbrev pub SpendsOpen : Result OwnHeap Status → ℕ → Result OwnHeap Status → QuantumSpent → QuantumSpent → ℕ → Type 0
SpendsOpen (Err why) budget new before after status = (new ≡ Err why) × (after ≡ before) × (status ≡ status_number why)
SpendsOpen (Ok h) budget new before after status = (k : OwnHeap) × (answer : Result Spent Refused)
    × (new ≡ Ok k) × SpendsHeld h budget answer k
    × (after ≡ spent_of before answer) × (status ≡ quantum_status answer)

-- a cycle begins in the heap that a handle holds, or one is running already
abbrev pub BeginsCycle : Result Held Status → Result Held Status → ℕ → Type 0
BeginsCycle old new status = OnEither (λ h k. BeginsOpen h k status)
    (λ v w. TellsStatus (DoesInTurn begin_done) begun_told v w status) old new

-- A quantum is spent in the heap that a handle holds, or its budget is refused. C has its outcome, or what it had before.
abbrev pub SpendsBudget : Result Held Status → ℕ → Result Held Status → QuantumSpent × QuantumSpent → ℕ → Type 0
SpendsBudget old budget new spent status = OnEither (λ h k. SpendsOpen h budget k spent.0 spent.1 status)
    (λ v w. AsksMember (DoesInTurn (quantum_done budget)) spent_told v w (λ found. IsTold found spent.0 spent.1 status)) old new
