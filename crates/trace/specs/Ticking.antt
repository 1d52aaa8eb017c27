-- The effects of single calls on a player.
use Rattle.std.specs.Prelude.{◌≡◌, ℕ, ◌+◌, ◌<◌, Bool, true, false, List, Some, None, Result, Ok, Err}
use Rattle.graph_heap.specs.declared.no_memory.NoMemory.{NoMemory}
use Rattle.heap_model.specs.declared.phase.Phase.{Phase}
use Rattle.heap_model.specs.Event.{Course, Event, Quantum_done, Does}
use Rattle.quanta.specs.declared.schedule.TheConstants.{CLOCK_LIMIT}
use Rattle.quanta.specs.Timetable.{due_below}
use Rattle.trace.specs.declared.line.Line.TheVariants as lines
use Rattle.trace.specs.declared.player.TickFault.{TickFault}
use Rattle.trace.specs.declared.player.TickFault.TheVariants as faults
use Rattle.trace.specs.Player.{PlayerState, QuantaDue, timetable_after, after_quantum, DoesLine}

-- a cycle is begun, or one is running already
abbrev pub Begun : PlayerState → PlayerState → Type 0
Begun old new = (es : List Event) × DoesLine old lines.Begin es new

-- a quantum of a budget is done; if it ends in idle, the timetable's cycle ends
abbrev pub Spent : PlayerState → ℕ → PlayerState → Type 0
Spent old budget new =
    (units : ℕ) × (phase : Phase) × (course : Course) × Does old.course (Quantum_done budget units phase) course
    × (new ≡ record old { course = course; timetable = timetable_after phase old.timetable })

-- the quantum that is due below a time is done, with its interval; or none is due; or memory was refused for the
-- interval
abbrev pub DueDone : ℕ → PlayerState → PlayerState → Result Bool NoMemory → Type 0
DueDone until old new (Ok true) =
    (due : ℕ) × (units : ℕ) × (phase : Phase) × (course : Course) × (old.timetable.due ≡ Some due) × (due < until)
    × Does old.course (Quantum_done old.budget units phase) course × (new ≡ after_quantum old due phase course)
DueDone until old new (Ok false) = (due_below until old.timetable.due ≡ None) × (new ≡ old)
DueDone until old new (Err refused) = (due : ℕ) × (old.timetable.due ≡ Some due) × (due < until) × (new ≡ old)

-- n ticks passed, or would pass the clock's limit, or memory was refused for the interval of a
-- quantum that is due in them
abbrev pub Ticked : ℕ → PlayerState → PlayerState → Result (Unit {0}) TickFault → Type 0
Ticked n old new (Ok passed) = (es : List Event) × DoesLine old (lines.Tick n) es new
Ticked n old new (Err faults.ClockSpent) = (CLOCK_LIMIT < old.timetable.clock + n) × (new ≡ old)
Ticked n old new (Err faults.NoMemory) =
    (es : List Event) × (due : ℕ) × QuantaDue (old.timetable.clock + n) old es new × (new.timetable.due ≡ Some due)
    × (due < old.timetable.clock + n)
