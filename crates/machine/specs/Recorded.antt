-- A heap and its history.
use Rattle.std.specs.Prelude.{◌≡◌, ◌↔◌, ◌⊎◌, ℕ, ◌+◌, ◌-◌, ◌<◌, ◌≤◌, true, false, List, [], ◌∷◌, ◌++◌, map, Result, Ok, Err, vec_len, vec_capacity}
use Rattle.graph_heap.specs.declared.command.Command.{Command}
use Rattle.graph_heap.specs.declared.command.Entry.{Entry}
use Rattle.graph_heap.specs.declared.no_memory.NoMemory.{NoMemory}
use Rattle.heap_model.specs.declared.phase.Phase.TheVariants as phases
use Rattle.heap_model.specs.declared.phase.Moving.{Moving}
use Rattle.heap_model.specs.Pages.{page_at}
use Rattle.heap_model.specs.State.{HeapState}
use Rattle.heap_model.specs.Store.{Store}
use Rattle.heap_model.specs.Action.{Action, Chain, Relinks}
use Rattle.heap_model.specs.Swept.{IsSwept, IsKept, IsAllocated}
use Rattle.heap_model.specs.Marks.{HasNoMark}
use Rattle.heap_model.specs.Represents.{is_sweeping}
use Rattle.heap_model.specs.Event as done
use Rattle.heap_model.specs.Event.{Course, present_of, snapshot_of, Runs, HaveBudgets, quanta_in, OneIsLast}
use Rattle.heap_model.specs.Bound.{most_quanta}
use Rattle.machine.specs.declared.recorded.Recorded.TheInside.{Inside}
use Rattle.machine.specs.declared.event.Event.{Event}
use Rattle.machine.specs.declared.event.Event.TheVariants as events
use Rattle.machine.specs.declared.collector.Busy.{Busy}
use Rattle.machine.specs.declared.collector.BudgetOutOfRange.{BudgetOutOfRange}
use Rattle.machine.specs.declared.collector.Spent.{Spent}

-- a heap with its history, the place at which the last cycle began, and for how many more entries there is memory
pub record RecordedHeap : Type 0 where
  pub course : Course
  pub room : ℕ

-- the fields of a heap with its history, as contracts see them
abbrev pub recorded_of : Inside → RecordedHeap
recorded_of a = record {
  course = record { heap = a.heap; history = a.history.items; place = a.place };
  room = vec_capacity a.history - vec_len a.history;
}

-- the result of a command for its caller: its entry in the history, and the place of that entry, from 0
pub record ReceiptView : Type 0 where
  pub entry : Entry
  pub place : ℕ

-- the event of a call to begin a cycle
abbrev pub begin_done : Result (Unit {0}) Busy → done.Event
begin_done (Ok begun) = done.Cycle_begun
begin_done (Err busy) = done.Begin_refused

-- the event of a call to spend a budget
abbrev pub quantum_done : ℕ → Result Spent BudgetOutOfRange → done.Event
quantum_done budget (Ok spent) = done.Quantum_done budget spent.units spent.phase
quantum_done budget (Err refused) = done.Quantum_refused budget

-- the request of an event
abbrev pub asked : done.Event → Event
asked (done.Command_done m c reply) = events.Command m c
asked done.Cycle_begun = events.Begin
asked done.Begin_refused = events.Begin
asked (done.Quantum_done budget units phase) = events.Quantum budget
asked (done.Quantum_refused budget) = events.Quantum budget

-- The events requested are done, one after the other; or memory was refused for a command, and only the events before
-- it are done.
abbrev pub RunsFront : Course → List Event → Course → Result (Unit {0}) NoMemory → Type 0
RunsFront old es new (Ok all) = (front : List done.Event) × Runs old front new × (es ≡ map asked front)
RunsFront old es new (Err refused) =
    (front : List done.Event) × (m : ℕ) × (c : Command) × (rest : List Event) × Runs old front new
    × (es ≡ map asked front ++ events.Command m c ∷ rest)

-- the number of commands among the events
abbrev pub commands_in : List Event → ℕ
commands_in [] = 0
commands_in (events.Command m c ∷ es) = commands_in es + 1
commands_in (e ∷ es) = commands_in es

-- At each change out of sweeping exactly the blocks of kept objects are allocated, and no page is evacuating or a
-- target. It holds within a quantum too, and also right after blocks were threaded anew.
abbrev pub EachSweepEnds : Course → Type 0
EachSweepEnds r =
    (spent cost : ℕ) (h after : HeapState) (linked : Store) → Chain r.heap spent h → Relinks h.store linked
    → Action (record h { store = linked }) cost after → is_sweeping h.phase ≡ true → is_sweeping after.phase ≡ false
    → IsSwept after (present_of r) (snapshot_of r) × ((k : ℕ) → HasNoMark (page_at after.store.pages k))

-- In idle and while blocks are moved, also within a quantum, exactly the kept objects are allocated.
abbrev pub HoldsKept : Course → Type 0
HoldsKept r =
    (spent : ℕ) (h : HeapState) → Chain r.heap spent h → (h.phase ≡ phases.Idle)
    ⊎ ((place : Moving) × (h.phase ≡ phases.Moving place))
    → (id : ℕ) → 0 < id → IsAllocated h (present_of r) id ↔ IsKept (present_of r) (snapshot_of r) id

-- After a cycle has begun, one of a stated number of quanta ends in idle. The number is for quanta of budgets of at
-- least k, for any k from 256 on, and whatever events come between them.
abbrev pub EndsSoon : Course → Type 0
EndsSoon r =
    (k : ℕ) (es : List done.Event) (new : Course) → 256 ≤ k → Runs r es new → HaveBudgets k es
    → most_quanta r.heap k ≤ quanta_in es → OneIsLast es
