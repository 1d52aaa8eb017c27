-- The calls of a program on one handle, one after the other.
use Rattle.std.specs.Prelude.{◌≡◌, ℕ, List, [], ◌∷◌, Result, Ok}
use Rattle.graph_heap.specs.declared.command.Command.{Command}
use Rattle.size_classes.specs.declared.settings.Settings.{Settings}
use Rattle.size_classes.specs.declared.config.Config.{Config}
use Rattle.size_classes.specs.Config.{IsOf}
use Rattle.heap_model.specs.State.{HeapState}
use Rattle.heap_model.specs.Event.{Course, Event, Command_done, Cycle_begun, Begin_refused, Quantum_done, Quantum_refused, Runs}
use Rattle.heap_model.specs.ReachedFrom.{opened}
use Rattle.machine.specs.Headline.{Holds, AlwaysHolds}
use Rattle.machine.specs.Space.{IsJustMade, FindsSpace}
use Rattle.paced.specs.declared.cycles.Cycles.{Cycles}
use Rattle.paced.specs.Cycles.{CountsCycles}
use Rattle.metronome_c.specs.declared.answer.Answer.{Answer}
use Rattle.metronome_c.specs.declared.collector.QuantumSpent.{QuantumSpent}
use Rattle.metronome_c.specs.declared.own_heap.OwnHeap.{OwnHeap}
use Rattle.metronome_c.specs.declared.status.Status.{Status}
use Rattle.metronome_c.specs.declared.status.Status.TheVariants.{Done, Busy, BudgetOutOfRange}
use Rattle.metronome_c.specs.Answer.{answer_of}
use Rattle.metronome_c.specs.Collecting.{phase_number, BeginsOpen, SpendsOpen}
use Rattle.metronome_c.specs.Status.{status_number}
use Rattle.metronome_c.specs.Steps.{DoesCommand}

-- A call that may change a heap, and its outcome. A command of a mutator has its answer, and a beginning of a cycle its status.
-- A quantum has a budget, the record for its outcome before and after, and the status.
pub data Call : Type 0 where
  Command_called : ℕ → Command → Answer → Call
  Begin_called : ℕ → Call
  Quantum_called : ℕ → QuantumSpent → QuantumSpent → ℕ → Call

-- what a call does to what the handle holds, as the contract of its export says
abbrev pub DoesCall : Result OwnHeap Status → Call → Result OwnHeap Status → Type 0
DoesCall old (Command_called m c answer) new = DoesCommand old m c new answer
DoesCall old (Begin_called status) new = BeginsOpen old new status
DoesCall old (Quantum_called budget before after status) new = SpendsOpen old budget new before after status

-- calls one after the other
abbrev pub Calls : Result OwnHeap Status → List Call → Result OwnHeap Status → Type 0
Calls old [] new = new ≡ old
Calls old (call ∷ calls) new = (next : Result OwnHeap Status) × DoesCall old call next × Calls next calls new

-- the program is told the outcome of the event by the call
abbrev pub TellsEvent : Event → Call → Type 0
TellsEvent (Command_done m c reply) call = call ≡ Command_called m c (answer_of reply)
TellsEvent Cycle_begun call = call ≡ Begin_called (status_number Done)
TellsEvent Begin_refused call = call ≡ Begin_called (status_number Busy)
TellsEvent (Quantum_done budget units phase) call = (before : QuantumSpent)
    × (call ≡ Quantum_called budget before (record { units = units; phase = phase_number phase }) (status_number Done))
TellsEvent (Quantum_refused budget) call = (before : QuantumSpent)
    × (call ≡ Quantum_called budget before before (status_number BudgetOutOfRange))

-- each call told the outcome of its event
abbrev pub AllTellEvents : List Event → List Call → Type 0
AllTellEvents [] calls = calls ≡ []
AllTellEvents (e ∷ es) [] = ⊥
AllTellEvents (e ∷ es) (call ∷ calls) = TellsEvent e call × AllTellEvents es calls

-- The calls are events. They lead from the heap that was made to the one that the handle holds, with the history of the
-- commands, and to its cycles. Each told the program its outcome. All that is promised of a heap with its history holds there.
pub record AreEvents (h : OwnHeap) (calls : List Call) (new : Result OwnHeap Status) : Type 0 where
  pub events : List Event
  pub course : Course
  pub cycles : Cycles
  pub runs : Runs (opened h.heap) events course
  pub counts : CountsCycles h.heap h.cycles events course.heap cycles
  pub told : AllTellEvents events calls
  pub left : new ≡ Ok (record h { heap = course.heap; cycles = cycles })
  pub holds : Holds course

-- A heap of a configuration with the numbers of these settings was just made. All that is promised of a heap with its history
-- holds, whatever comes. No reply is the refusal for lack of space if that is promised.
pub record IsPromised (s : Settings) (h : HeapState) : Type 0 where
  pub config : Config
  pub of : IsOf s config
  pub made : IsJustMade config (opened h)
  pub holds : AlwaysHolds (opened h)
  pub space : FindsSpace (opened h)
