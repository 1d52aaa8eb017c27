-- The steps of a run: its events, each with the line that asked for it and the heap before and after it.
use Rattle.std.specs.Prelude.{◌≡◌, ◌⊎◌, ℕ, ◌+◌, List, [], ◌∷◌, ◌++◌, map}
use Rattle.std.proofs.Common.{inl, inr}
use Rattle.graph_heap.specs.declared.command.Entry.{Entry}
use Rattle.heap_model.specs.declared.phase.Phase.{Phase}
use Rattle.heap_model.specs.Event.{Course, Event, Command_done, Cycle_begun, Begin_refused, Quantum_done, Does}
use Rattle.trace.specs.declared.line.Line.{Line}
use Rattle.trace.specs.TextLine.{Text}
use Rattle.trace.specs.declared.player.style.Style.TheVariants.{Nothing}
use Rattle.trace.specs.Player.{PlayerState, QuantaDue, None_yet, One_more, DoesLine, Skips, Commands, Begins, Goes_on, Spends, Ticks}
use Rattle.trace.specs.Playing.{Session, PlaysLine}

-- An event that was done: the number of its line, and the heap with its history before and after it.
pub record Step : Type 0 where
  pub line : ℕ
  pub event : Event
  pub before : Course
  pub after : Course

-- a step, by its parts
abbrev pub step : ℕ → Event → Course → Course → Step
step line event before after = record { line = line; event = event; before = before; after = after }

-- the events of steps
abbrev pub events_of : List Step → List Event
events_of steps = map (λ s. s.event) steps

-- the event of a step leads from the heap before it to that after it
abbrev pub IsDone : Step → Type 0
IsDone s = Does s.before s.event s.after

-- the step is the command of an entry
abbrev pub IsCommand : Entry → Step → Type 0
IsCommand e s = (s.event ≡ Command_done e.mutator e.command e.reply) × IsDone s

-- a line of this number begins a cycle at this moment by the step, or finds one running
abbrev pub IsBegin : ℕ → Course → Step → Type 0
IsBegin number now s =
    (s.line ≡ number) × (s.before ≡ now) × (s.event ≡ Cycle_begun ⊎ s.event ≡ Begin_refused) × IsDone s

-- the step is a quantum of a budget
abbrev pub IsQuantum : ℕ → Step → Type 0
IsQuantum budget s = ((units : ℕ) × (phase : Phase) × (s.event ≡ Quantum_done budget units phase)) × IsDone s

-- the quanta that were due in ticks of a line
abbrev pub steps_due : (line until : ℕ) (old : PlayerState) (events : List Event) (new : PlayerState)
    → QuantaDue until old events new → List Step
steps_due line until old events new None_yet = []
steps_due line until old events new (One_more es q due units phase course earlier is below does) =
    steps_due line until old es q earlier ++ step line (Quantum_done q.budget units phase) q.course course ∷ []

-- the steps of a line that was done
abbrev pub steps_of : (line : ℕ) (old : PlayerState) (text : Line) (events : List Event) (new : PlayerState)
    → DoesLine old text events new → List Step
steps_of line old text events new Skips = []
steps_of line old text events new (Commands m c reply course does) =
    step line (Command_done m c reply) old.course course ∷ []
steps_of line old text events new (Begins course does) = step line Cycle_begun old.course course ∷ []
steps_of line old text events new (Goes_on does) = step line Begin_refused old.course old.course ∷ []
steps_of line old text events new (Spends budget units phase course does) =
    step line (Quantum_done budget units phase) old.course course ∷ []
steps_of line old text events new (Ticks n es q within quanta none) =
    steps_due line (old.timetable.clock + n) old es q quanta

-- the steps of a line of an input: one that tells the version has none
abbrev pub steps_in : (text : Text) (old : Session) (events : List Event) (new : Session)
    → PlaysLine Nothing text old events new → List Step
steps_in text old events new (inl tells) = []
steps_in text old events new (inr goes) =
    steps_of text.number old.player goes.1.0 events new.player goes.1.2.0
