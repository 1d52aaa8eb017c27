-- The calls of a program on a handle whose heap keeps a plan.
use Rattle.std.specs.Prelude.{◌≡◌, ◌⊎◌, ℕ, ◌≤◌, List, [], ◌∷◌, ◌++◌, length, Result, Ok, Err}
use Rattle.graph_heap.specs.declared.command.Command.{Command}
use Rattle.graph_heap.specs.declared.command.Command.TheVariants as commands
use Rattle.graph_heap.specs.declared.command.Reply.{Reply}
use Rattle.graph_heap.specs.declared.command.Shape.{Shape}
use Rattle.heap_model.specs.Event.{Event, Cycle_begun, Quantum_done}
use Rattle.machine.specs.Headline.{Holds}
use Rattle.paced.specs.Cycles.{CountsCycles}
use Rattle.paced.specs.Pacing.{shape_words, MakesNothing}
use Rattle.paced.specs.Rooms.{FindsRoom}
use Rattle.bulk.specs.declared.progress.Progress.{Progress}
use Rattle.bulk.specs.InOrder.{events_of, with_refusal}
use Rattle.metronome_c.specs.declared.bulk_calls.MetronomeProgress.{MetronomeProgress}
use Rattle.metronome_c.specs.declared.own_heap.OwnHeap.{OwnHeap}
use Rattle.metronome_c.specs.declared.planning.MetronomeFlow.{MetronomeFlow}
use Rattle.metronome_c.specs.declared.status.Status.{Status}
use Rattle.metronome_c.specs.declared.status.Status.TheVariants.{AbovePlan}
use Rattle.metronome_c.specs.Answer.{refused}
use Rattle.metronome_c.specs.BulkCalls.{progress_told, DoesList, MakesList}
use Rattle.metronome_c.specs.Calls.{Call, Command_called, DoesCall, TellsEvent}
use Rattle.metronome_c.specs.Planning.{flow_of}
use Rattle.metronome_c.specs.Preparing.{PreparesOpen}

-- A call that may change the heap. It is one as without a plan, or one that does a list of commands of a mutator, with how far
-- it was done. Or it prepares for a number of words, with the number of calls left that the program had before and after, and
-- the status.
pub data KeptCall : Type 0 where
  Called : Call → KeptCall
  List_called : ℕ → List Command → MetronomeProgress → KeptCall
  Prepare_called : ℕ → ℕ → ℕ → ℕ → KeptCall

-- no command of a list makes an object
abbrev pub MakeNothing : List Command → Type 0
MakeNothing [] = Unit {0}
MakeNothing (c ∷ cs) = MakesNothing c × MakeNothing cs

-- A list of commands is done as the contract of an export says: it makes an object first, or none.
abbrev pub DoesCommands : Result OwnHeap Status → ℕ → List Command → Result OwnHeap Status → MetronomeProgress → Type 0
DoesCommands old m (commands.New dst shape ∷ cs) new told =
    MakeNothing cs × MakesList old (shape_words shape) m (commands.New dst shape ∷ cs) new told
DoesCommands old m cs new told = MakeNothing cs × DoesList old m cs new told

-- what a call does to what the handle holds, as the contract of its export says
abbrev pub DoesKept : Result OwnHeap Status → KeptCall → Result OwnHeap Status → Type 0
DoesKept old (Called call) new = DoesCall old call new
DoesKept old (List_called m cs told) new = DoesCommands old m cs new told
DoesKept old (Prepare_called words before after status) new = PreparesOpen old words new before after status

-- such calls one after the other
abbrev pub KeptCalls : Result OwnHeap Status → List KeptCall → Result OwnHeap Status → Type 0
KeptCalls old [] new = new ≡ old
KeptCalls old (call ∷ calls) new = (next : Result OwnHeap Status) × DoesKept old call next × KeptCalls next calls new

-- what the collector does of itself: a cycle begins, or a quantum is done
abbrev pub IsWork : Event → Type 0
IsWork Cycle_begun = Unit {0}
IsWork (Quantum_done budget units phase) = Unit {0}
IsWork e = ⊥

-- each event is such work
abbrev pub AreWork : List Event → Type 0
AreWork [] = Unit {0}
AreWork (e ∷ es) = IsWork e × AreWork es

-- the call asked for an object above the plan, and was told so
abbrev pub IsRefusedAbove : Call → Type 0
IsRefusedAbove call = (m : ℕ) × (dst : ℕ) × (shape : Shape)
    × (call ≡ Command_called m (commands.New dst shape) (refused AbovePlan))

-- A call was these events. It was one, of which it told the outcome, with the collector's own work before it. It was none if it
-- asked for an object above the plan.
abbrev pub WasOne : List Event → Call → Type 0
WasOne es call = ((es ≡ []) × IsRefusedAbove call)
    ⊎ ((work : List Event) × (e : Event) × (es ≡ work ++ e ∷ []) × AreWork work × TellsEvent e call)

-- A list of commands of mutator m was these events: its commands, as far as it told, with the collector's own work before them.
-- It was none if its object was above the plan.
abbrev pub WasList : List Event → ℕ → List Command → MetronomeProgress → Type 0
WasList es m cs told = ((es ≡ []) × (told ≡ progress_told (Err AbovePlan)))
    ⊎ ((work : List Event) × (rs : List Reply) × (p : Progress) × (es ≡ work ++ events_of m cs (with_refusal rs p.refused))
    × AreWork work × (p.done ≡ length rs) × (told ≡ progress_told (Ok p)))

-- A call that prepares was these events: the collector's own work, one piece at most.
abbrev pub WasPiece : List Event → Type 0
WasPiece es = AreWork es × (length es ≤ 1)

-- a call was these events, whichever it was
abbrev pub WasEvents : List Event → KeptCall → Type 0
WasEvents es (Called call) = WasOne es call
WasEvents es (List_called m cs told) = WasList es m cs told
WasEvents es (Prepare_called words before after status) = WasPiece es

-- the calls were these events, one call after the other
abbrev pub WereEvents : List Event → List KeptCall → Type 0
WereEvents es [] = es ≡ []
WereEvents es (call ∷ calls) = (first : List Event) × (rest : List Event) × (es ≡ first ++ rest) × WasEvents first call
    × WereEvents rest calls

-- The calls were events, which lead from the heap that keeps a plan to the one that the handle holds, and to its cycles. If
-- live objects are within the plan whenever one of them begins a cycle, no reply is the refusal for lack of space. All that is
-- promised of a heap with its history holds there.
pub record KeepsRoom (h : OwnHeap) (flow : MetronomeFlow) (calls : List KeptCall) (new : Result OwnHeap Status) : Type 0 where
  pub events : List Event
  pub left : OwnHeap
  pub is_left : new ≡ Ok left
  pub were : WereEvents events calls
  pub room : FindsRoom h.config (flow_of flow) h.heap left.heap events
  pub counts : CountsCycles h.heap h.cycles events left.heap left.cycles
  pub holds : Holds room.course
