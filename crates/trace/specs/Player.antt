-- A player, and the effects of lines on it.
use Rattle.std.specs.Prelude.{◌≡◌, ℕ, ◌+◌, ◌<◌, ◌≤◌, Bool, true, false, List, [], ◌∷◌, ◌++◌, Some, None}
use Rattle.graph_heap.specs.declared.command.Command.{Command}
use Rattle.graph_heap.specs.declared.command.Reply.{Reply}
use Rattle.graph_heap.specs.declared.command.Entry.{Entry}
use Rattle.heap_model.specs.declared.phase.Phase.{Phase}
use Rattle.heap_model.specs.declared.phase.Phase.TheVariants as phases
use Rattle.heap_model.specs.Event.{Course, Event, IsBudget, Command_done, Cycle_begun, Begin_refused, Quantum_done, Does}
use Rattle.heap_model.specs.Pages.{free_pages}
use Rattle.quanta.specs.declared.schedule.TheConstants.{CLOCK_LIMIT}
use Rattle.quanta.specs.Timetable.{Timetable, first_due, due_below, with_reserved}
use Rattle.trace.specs.declared.line.Line.{Line}
use Rattle.trace.specs.declared.line.Line.TheVariants as lines
use Rattle.trace.specs.declared.player.Player.TheInside.{Inside}
use Rattle.trace.specs.declared.player.start.QuantumStart.{QuantumStart}
use Rattle.trace.specs.Starts.{name_of}

-- A heap with its history, the timetable of the collector's quanta, and the budget of each of them, in units. Then
-- how the quanta with an interval started, in their order, and whether a cycle has begun since the last of them. The
-- memory that the timetable has reserved isn't part of it.
pub record PlayerState : Type 0 where
  pub course : Course
  pub timetable : Timetable
  pub budget : ℕ
  pub starts : List QuantumStart
  pub begun : Bool

-- the fields of a player, as contracts see them
abbrev pub player_of : Inside → PlayerState
player_of a = record {
  course = a.recorded.course;
  timetable = with_reserved a.schedule 0;
  budget = a.budget;
  starts = a.starts.items;
  begun = a.begun;
}

-- a cycle begins: its first quantum becomes due
abbrev pub started : Timetable → Timetable
started t = record t { due = Some (first_due t) }

-- a quantum that ends in idle ends the cycle
abbrev pub timetable_after : Phase → Timetable → Timetable
timetable_after phases.Idle t = record t { due = None }
timetable_after phase t = t

-- the quantum that is due at a time gets its interval, and the next becomes due after it
abbrev pub placed : ℕ → Timetable → Timetable
placed due t = record t {
  intervals = t.intervals ++ (record { start = due; end = due + t.collector_ticks }) ∷ [];
  due = Some (due + t.collector_ticks + t.mutator_ticks);
}

-- the start of a quantum that takes ticks
abbrev pub start_of : PlayerState → QuantumStart
start_of p = record {
  phase = name_of p.course.heap.phase;
  opens_cycle = p.begun;
  free_pages = free_pages p.course.heap.store.pages;
}

-- the player after a quantum with its interval
abbrev pub after_quantum : PlayerState → ℕ → Phase → Course → PlayerState
after_quantum p due phase course =
    record p {
      course = course;
      timetable = timetable_after phase (placed due p.timetable);
      starts = p.starts ++ start_of p ∷ [];
      begun = false;
    }

-- Quanta are done, with their intervals, in the order in which they are due below a time.
pub data QuantaDue (until : ℕ) (p : PlayerState) : List Event → PlayerState → Type 0 where
  None_yet : QuantaDue until p [] p
  One_more : (es : List Event) (q : PlayerState) (due units : ℕ) (phase : Phase) (course : Course)
      → QuantaDue until p es q → q.timetable.due ≡ Some due → due < until
      → Does q.course (Quantum_done q.budget units phase) course
      → QuantaDue until p (es ++ Quantum_done q.budget units phase ∷ []) (after_quantum q due phase course)

-- A line does these events, and leads to this player. A running cycle goes on. Ticks do the quanta that are due in
-- them, and then move the clock.
pub data DoesLine (p : PlayerState) : Line → List Event → PlayerState → Type 0 where
  Skips : DoesLine p lines.Skip [] p
  Commands : (m : ℕ) (c : Command) (reply : Reply) (course : Course) → Does p.course (Command_done m c reply) course
      → DoesLine p (lines.Command m c) (Command_done m c reply ∷ []) (record p { course = course })
  Begins : (course : Course) → Does p.course Cycle_begun course
      → DoesLine p lines.Begin (Cycle_begun ∷ [])
      (record p { course = course; timetable = started p.timetable; begun = true })
  Goes_on : Does p.course Begin_refused p.course → DoesLine p lines.Begin (Begin_refused ∷ []) p
  Spends : (budget units : ℕ) (phase : Phase) (course : Course) → Does p.course (Quantum_done budget units phase) course
      → DoesLine p (lines.Quantum budget) (Quantum_done budget units phase ∷ [])
      (record p { course = course; timetable = timetable_after phase p.timetable })
  Ticks : (n : ℕ) (es : List Event) (q : PlayerState) → p.timetable.clock + n ≤ CLOCK_LIMIT
      → QuantaDue (p.timetable.clock + n) p es q → due_below (p.timetable.clock + n) q.timetable.due ≡ None
      → DoesLine p (lines.Tick n) es (record q { timetable = record q.timetable { clock = p.timetable.clock + n } })

-- the budget of a line that has one
abbrev pub HasBudget : Line → Type 0
HasBudget (lines.Quantum budget) = IsBudget budget
HasBudget line = Unit {0}

-- the entries of the commands that are done
abbrev pub entries_in : List Event → List Entry
entries_in [] = []
entries_in (Command_done m c reply ∷ es) = record { mutator = m; command = c; reply = reply } ∷ entries_in es
entries_in (e ∷ es) = entries_in es
