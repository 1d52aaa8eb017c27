-- How long cycles of the collector and their phases take, by the quanta that took ticks.
use Rattle.std.specs.Prelude.{ℕ, ◌-◌, Bool, true, false, if◌then◌else◌, List, [], ◌∷◌, ◌++◌, Option, Some, None, option_map}
use Rattle.std.specs.List.{filter}
use Rattle.quanta.specs.declared.interval.Interval.{Interval}
use Rattle.trace.specs.declared.player.start.PhaseName.{PhaseName}
use Rattle.trace.specs.declared.player.start.PhaseName.TheVariants as names
use Rattle.trace.specs.declared.player.start.QuantumStart.{QuantumStart}
use Rattle.pictures.specs.declared.cycle_spans.CycleSpans.{CycleSpans}
use Rattle.pictures.specs.declared.events.Span.{Span}
use Rattle.pictures.specs.declared.events.Span.TheVariants as spans
use Rattle.pictures.specs.declared.events.TraceEvent.{TraceEvent}
use Rattle.pictures.specs.declared.events.TraceEvent.TheVariants as events
use Rattle.pictures.specs.Lines.{present}

-- a quantum that took ticks: which they are, and how it started
abbrev pub Turn : Type 0
Turn = Interval × QuantumStart

-- The quanta of each cycle, in order, if `these` are those of the first one so far. A quantum that opens a cycle is the
-- first of the next.
abbrev pub cycles_on : List Turn → List Turn → List (List Turn)
cycles_on these [] = these ∷ []
cycles_on these (q ∷ later) =
    if q.1.opens_cycle then these ∷ cycles_on (q ∷ []) later else cycles_on (these ++ q ∷ []) later

-- the end of the last of some quanta
abbrev pub end_of : Turn → List Turn → ℕ
end_of q [] = q.0.end
end_of q (next ∷ later) = end_of next later

-- from the beginning of the first of some quanta to the end of the last
abbrev pub stretch : List Turn → Option Interval
stretch [] = None
stretch (q ∷ later) = Some (record { start = q.0.start; end = end_of q later })

-- two names of phases are the same
abbrev pub is_name : PhaseName → PhaseName → Bool
is_name names.Idle names.Idle = true
is_name names.Roots names.Roots = true
is_name names.Marking names.Marking = true
is_name names.Sweeping names.Sweeping = true
is_name names.Moving names.Moving = true
is_name one other = false

-- the quanta that found the collector in a phase
abbrev pub found_in : PhaseName → List Turn → List Turn
found_in phase quanta = filter (λ q. is_name phase q.1.phase) quanta

-- how long a cycle of these quanta is, and how long its phases are
abbrev pub spans_of : List Turn → CycleSpans
spans_of quanta = record {
  whole = stretch quanta;
  roots = stretch (found_in names.Roots quanta);
  marking = stretch (found_in names.Marking quanta);
  sweeping = stretch (found_in names.Sweeping quanta);
  moving = stretch (found_in names.Moving quanta);
}

-- the event of a span, if there is one
abbrev pub span_event : Span → Option Interval → Option TraceEvent
span_event span ticks = option_map (λ i. events.Span span i.start (i.end - i.start)) ticks

-- a cycle's events
abbrev pub span_events : CycleSpans → List (Option TraceEvent)
span_events c =
    span_event spans.Cycle c.whole ∷ span_event spans.Roots c.roots ∷ span_event spans.Marking c.marking
    ∷ span_event spans.Sweeping c.sweeping ∷ span_event spans.Moving c.moving ∷ []

-- those of a cycle of these quanta: itself, and those of its phases that a quantum found
abbrev pub cycle_events : List Turn → List TraceEvent
cycle_events quanta = present (span_events (spans_of quanta))
