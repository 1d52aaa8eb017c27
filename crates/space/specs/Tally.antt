-- The sums of a list of events, by the events alone: they don't depend on a heap.
use Rattle.std.specs.Prelude.{◌≡◌, ℕ, ◌+◌, ◌<◌, ◌≤◌, true, if◌then◌else◌, List, [], ◌∷◌, length, drop}
use Rattle.graph_heap.specs.declared.command.Limits.{Limits}
use Rattle.graph_heap.specs.declared.command.Command.{Command}
use Rattle.graph_heap.specs.declared.command.Command.TheVariants as commands
use Rattle.graph_heap.specs.declared.command.Reply.{Reply}
use Rattle.graph_heap.specs.Graph.{Graph, opening}
use Rattle.graph_heap.specs.History.{after_entry, had_room}
use Rattle.size_classes.specs.declared.class.TheConstants.{CLASSES}
use Rattle.heap_model.specs.Phases.{awaits_sweep_end}
use Rattle.heap_model.specs.Event.{Event, Command_done, Cycle_begun, Begin_refused, Quantum_done, Quantum_refused}
use Rattle.space.specs.Demand.{Demand, LiveWithin, blocks_of, asked_for}

-- The graph heap to which the events lead. The number of objects when the last cycle began, and when the cycle began
-- whose sweep ended last. Both numbers are 0 before the first cycle.
pub record Tally : Type 0 where
  pub graph : Graph
  pub last : ℕ
  pub base : ℕ

-- the tally before the first event
abbrev pub opening_tally : Limits → Tally
opening_tally l = record { graph = opening l; last = 0; base = 0 }

-- the tally after one more event
abbrev pub after_event : Tally → Event → Tally
after_event t (Command_done m c reply) =
    record t { graph = after_entry t.graph (record { mutator = m; command = c; reply = reply }) }
after_event t Cycle_begun = record t { last = length t.graph.objects }
after_event t Begin_refused = t
after_event t (Quantum_done budget units phase) = if awaits_sweep_end phase then t else record t { base = t.last }
after_event t (Quantum_refused budget) = t

-- An event keeps to a demand. When a cycle begins, live objects are within the demand. At a command, so are the objects
-- that were allocated since the cycle began whose sweep ended last, with the one requested.
abbrev pub KeepsTo : Demand → Tally → Event → Type 0
KeepsTo d t (Command_done m c reply) = (class : ℕ) → class < CLASSES
    → blocks_of (drop t.base t.graph.objects) class + asked_for t.graph m c class ≤ d.allocated class
KeepsTo d t Cycle_begun = LiveWithin t.graph d.live
KeepsTo d t Begin_refused = Unit {0}
KeepsTo d t (Quantum_done budget units phase) = Unit {0}
KeepsTo d t (Quantum_refused budget) = Unit {0}

-- each of the events does
abbrev pub AllKeepTo : Demand → Tally → List Event → Type 0
AllKeepTo d t [] = Unit {0}
AllKeepTo d t (e ∷ es) = KeepsTo d t e × AllKeepTo d (after_event t e) es

-- a new object isn't refused for lack of space
abbrev pub FindsRoom : Command → Reply → Type 0
FindsRoom (commands.New dst shape) reply = had_room reply ≡ true
FindsRoom _ reply = Unit {0}

-- an event isn't a new object that is refused for lack of space
abbrev pub NewFindsRoom : Event → Type 0
NewFindsRoom (Command_done m c reply) = FindsRoom c reply
NewFindsRoom Cycle_begun = Unit {0}
NewFindsRoom Begin_refused = Unit {0}
NewFindsRoom (Quantum_done budget units phase) = Unit {0}
NewFindsRoom (Quantum_refused budget) = Unit {0}

-- no new object is refused for lack of space, in all of the events
abbrev pub EveryNewFindsRoom : List Event → Type 0
EveryNewFindsRoom [] = Unit {0}
EveryNewFindsRoom (e ∷ es) = NewFindsRoom e × EveryNewFindsRoom es
