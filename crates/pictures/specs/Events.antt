-- The quanta of a run, its cycles with their phases, and its pages, as events that viewers of traces read: JSON, in the
-- Trace Event Format. Times are ticks, which stand for its microseconds. All names are fixed, so nothing is escaped.
use Rattle.std.specs.Prelude.{ℕ, ◌-◌, ◌*◌, ◌/◌, List, [], ◌∷◌, ◌++◌, length, map, codes, decimal}
use Rattle.std.specs.List.{flat_map, zip}
use Rattle.heap_model.specs.Pages.{free_pages}
use Rattle.quanta.specs.declared.interval.Interval.{Interval}
use Rattle.quanta.specs.Timetable.{last_end}
use Rattle.trace.specs.Player.{PlayerState}
use Rattle.pictures.specs.declared.events.Row.{Row}
use Rattle.pictures.specs.declared.events.Row.TheVariants.{Collector, Mutators, Cycles, Phases}
use Rattle.pictures.specs.declared.events.Span.{Span}
use Rattle.pictures.specs.declared.events.Span.TheVariants as spans
use Rattle.pictures.specs.declared.events.TraceEvent.{TraceEvent}
use Rattle.pictures.specs.declared.events.TraceEvent.TheVariants.{Open, Process, Row as Row_name, Quantum, Between, Share, Span as Span_of, Pages, Rest, Close}
use Rattle.pictures.specs.CycleSpans.{Turn, cycles_on, cycle_events}
use Rattle.pictures.specs.Lines.{lines_text}
use Rattle.pictures.specs.Samples.{pages_used}
use Rattle.pictures.specs.Utilisation.{span_of}

-- the name of the whole
abbrev pub process_line : List ℕ
process_line = codes "{\"name\":\"process_name\",\"ph\":\"M\",\"pid\":1,\"args\":{\"name\":\"metronome\"}},"

-- the number of a row: of the quanta, of the mutators' ticks, of cycles, or of their phases
abbrev pub row_number : Row → ℕ
row_number Collector = 1
row_number Mutators = 2
row_number Cycles = 3
row_number Phases = 4

-- a row, by its number, with a name
abbrev pub row_text : Row → List ℕ → List ℕ
row_text row name =
    codes "{\"name\":\"thread_name\",\"ph\":\"M\",\"pid\":1,\"tid\":" ++ decimal (row_number row)
    ++ codes ",\"args\":{\"name\":\"" ++ name ++ codes "\"}},"

-- a row, with its name
abbrev pub row_line : Row → List ℕ
row_line Collector = row_text Collector (codes "collector")
row_line Mutators = row_text Mutators (codes "mutators")
row_line Cycles = row_text Cycles (codes "cycles")
row_line Phases = row_text Phases (codes "phases")

-- how many ticks an event takes, and its row: the end of its text
abbrev pub length_text : ℕ → Row → List ℕ
length_text ticks row =
    codes ",\"dur\":" ++ decimal ticks ++ codes ",\"pid\":1,\"tid\":" ++ decimal (row_number row) ++ codes "}"

-- an event that takes ticks: its name and its row, when it begins, and how many ticks it takes
abbrev pub ticks_text : List ℕ → Row → ℕ → ℕ → List ℕ
ticks_text name row start ticks =
    codes "{\"name\":\"" ++ name ++ codes "\",\"ph\":\"X\",\"ts\":" ++ decimal start ++ length_text ticks row

-- an event that takes ticks, and behind which others stand
abbrev pub ticks_line : List ℕ → Row → ℕ → ℕ → List ℕ
ticks_line name row start ticks = ticks_text name row start ticks ++ codes ","

-- a share of the mutators in thousandths, from a tick on
abbrev pub share_line : ℕ → ℕ → List ℕ
share_line tick permille =
    codes "{\"name\":\"utilisation\",\"ph\":\"C\",\"ts\":" ++ decimal tick ++ codes ",\"pid\":1,\"args\":{\"permille\":"
    ++ decimal permille ++ codes "}},"

-- a cycle or a phase: when it begins, and how many ticks it takes
abbrev pub span_line : Span → ℕ → ℕ → List ℕ
span_line spans.Cycle start ticks = ticks_line (codes "cycle") Cycles start ticks
span_line spans.Roots start ticks = ticks_line (codes "roots") Phases start ticks
span_line spans.Marking start ticks = ticks_line (codes "marking") Phases start ticks
span_line spans.Sweeping start ticks = ticks_line (codes "sweeping") Phases start ticks
span_line spans.Moving start ticks = ticks_line (codes "moving") Phases start ticks

-- how many pages are in use and how many are free, from a tick on
abbrev pub pages_line : ℕ → ℕ → ℕ → List ℕ
pages_line tick used free =
    codes "{\"name\":\"pages\",\"ph\":\"C\",\"ts\":" ++ decimal tick ++ codes ",\"pid\":1,\"args\":{\"used\":"
    ++ decimal used ++ codes ",\"free\":" ++ decimal free ++ codes "}},"

-- an event as a line of text: each but the last has a comma behind it
abbrev pub event_line : TraceEvent → List ℕ
event_line Open = codes "{\"traceEvents\":["
event_line Process = process_line
event_line (Row_name row) = row_line row
event_line (Quantum start ticks) = ticks_line (codes "quantum") Collector start ticks
event_line (Between start ticks) = ticks_line (codes "mutators") Mutators start ticks
event_line (Share tick permille) = share_line tick permille
event_line (Span_of span start ticks) = span_line span start ticks
event_line (Pages tick used free) = pages_line tick used free
event_line (Rest start ticks) = ticks_text (codes "mutators") Mutators start ticks
event_line Close = codes "]}"

-- The events of a quantum, by the end of the one before it: the mutators' ticks between, and the collector's; and the
-- share that the mutators had of both, from that end on.
abbrev pub quantum_events : ℕ → Interval → List TraceEvent
quantum_events from q =
    Between from (q.start - from)
    ∷ Share from (1000 * (q.start - from) / (q.end - from))
    ∷ Quantum q.start (q.end - q.start)
    ∷ []

-- the events of quanta, one after the other
abbrev pub quanta_events : ℕ → List Interval → List TraceEvent
quanta_events from [] = []
quanta_events from (q ∷ later) = quantum_events from q ++ quanta_events q.end later

-- the lines before the events of quanta
abbrev pub events_head : List TraceEvent
events_head = Open ∷ Process ∷ Row_name Collector ∷ Row_name Mutators ∷ Row_name Cycles ∷ Row_name Phases ∷ []

-- those of the cycles of a player's quanta that took ticks, one after the other
abbrev pub cycles_events : PlayerState → List TraceEvent
cycles_events p = flat_map cycle_events (cycles_on [] (zip p.timetable.intervals p.starts))

-- the pages of a heap that were in use, and the free ones, when a quantum started
abbrev pub pages_event : ℕ → Turn → TraceEvent
pages_event pages q = Pages q.0.start (pages - q.1.free_pages) q.1.free_pages

-- that of each of a player's quanta that took ticks, one after the other
abbrev pub pages_events : PlayerState → List TraceEvent
pages_events p = map (pages_event (length p.course.heap.store.pages)) (zip p.timetable.intervals p.starts)

-- behind them the pages at the end of the span, and the mutators' ticks up to there
abbrev pub events_tail : PlayerState → List TraceEvent
events_tail p =
    Pages (span_of p.timetable) (pages_used p.course.heap) (free_pages p.course.heap.store.pages)
    ∷ Rest (last_end p.timetable.intervals) (span_of p.timetable - last_end p.timetable.intervals) ∷ Close ∷ []

-- all events of a player
abbrev pub events_of : PlayerState → List TraceEvent
events_of p =
    events_head
    ++ (quanta_events 0 p.timetable.intervals ++ (cycles_events p ++ (pages_events p ++ events_tail p)))

-- the text of events: each is a line, with LF (byte 10) after it
abbrev pub json_text : List TraceEvent → List ℕ
json_text = lines_text event_line

-- the text of the picture
abbrev pub events_picture : PlayerState → List ℕ
events_picture p = json_text (events_of p)
