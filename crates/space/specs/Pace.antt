-- A pace: how many blocks are requested while the collector does a quantum's work.
use Rattle.std.specs.Prelude.{ℕ, ◌+◌, ◌*◌, ◌<◌, ◌≤◌, Bool, true, false, if◌then◌else◌, List, [], ◌∷◌, length}
use Rattle.graph_heap.specs.declared.command.Limits.{Limits}
use Rattle.graph_heap.specs.Graph.{Graph, opening}
use Rattle.graph_heap.specs.History.{after_entry}
use Rattle.size_classes.specs.declared.class.TheConstants.{CLASSES}
use Rattle.size_classes.specs.Cycle as cycle
use Rattle.heap_model.specs.declared.phase.Phase.{Phase}
use Rattle.heap_model.specs.declared.phase.Phase.TheVariants as phases
use Rattle.heap_model.specs.State.{HeapState}
use Rattle.heap_model.specs.Event.{Event, Command_done, Cycle_begun, Begin_refused, Quantum_done, Quantum_refused}
use Rattle.space.specs.Demand.{Demand, LiveWithin, asked_for}

-- Three limits for each size class: the most blocks that live objects need when a cycle begins; those requested while a
-- cycle runs, from its beginning or a quantum to the next quantum; and those requested from the end of a cycle until the
-- next begins.
pub record Pace : Type 0 where
  pub live : ℕ → ℕ
  pub busy : ℕ → ℕ
  pub idle : ℕ → ℕ

-- The graph heap to which the events lead; whether a cycle runs; and how many blocks were requested since the last
-- beginning, or quantum of a cycle.
pub record Beat : Type 0 where
  pub graph : Graph
  pub cycle_running : Bool
  pub asked : ℕ → ℕ

-- the beat before the first event
abbrev pub opening_beat : Limits → Beat
opening_beat l = record { graph = opening l; cycle_running = false; asked = λ class. 0 }

-- a cycle runs in this phase
abbrev pub in_cycle : Phase → Bool
in_cycle phases.Idle = false
in_cycle phase = true

-- the beat after one more event
abbrev pub next_beat : Beat → Event → Beat
next_beat b (Command_done m c reply) =
    record b {
      graph = after_entry b.graph (record { mutator = m; command = c; reply = reply });
      asked = λ class. b.asked class + asked_for b.graph m c class;
    }
next_beat b Cycle_begun = record b { cycle_running = true; asked = λ class. 0 }
next_beat b Begin_refused = b
next_beat b (Quantum_done budget units phase) =
    if b.cycle_running then record b { cycle_running = in_cycle phase; asked = λ class. 0 } else b
next_beat b (Quantum_refused budget) = b

-- an event keeps to a pace, with quanta of at least k units
abbrev pub KeepsPace : Pace → ℕ → Beat → Event → Type 0
KeepsPace p k b (Command_done m c reply) = (class : ℕ) → class < CLASSES
    → b.asked class + asked_for b.graph m c class ≤ (if b.cycle_running then p.busy class else p.idle class)
KeepsPace p k b Cycle_begun = LiveWithin b.graph p.live
KeepsPace p k b Begin_refused = Unit {0}
KeepsPace p k b (Quantum_done budget units phase) = k ≤ budget
KeepsPace p k b (Quantum_refused budget) = Unit {0}

-- each of the events does
abbrev pub AllKeepPace : Pace → ℕ → Beat → List Event → Type 0
AllKeepPace p k b [] = Unit {0}
AllKeepPace p k b (e ∷ es) = KeepsPace p k b e × AllKeepPace p k (next_beat b e) es

-- the units that moving spends at most
abbrev pub moving_units : HeapState → ℕ
moving_units h = cycle.moving_units (length h.store.pages) h.defrag_pages

-- the quanta of budgets of at least k that a cycle takes at most
abbrev pub moved_quanta : HeapState → ℕ → ℕ
moved_quanta h = cycle.moved_quanta (length h.roots) (length h.store.pages) h.defrag_pages

-- the quanta of budgets of at least k that a cycle takes at most if moving never begins
abbrev pub unmoved_quanta : HeapState → ℕ → ℕ
unmoved_quanta h = cycle.unmoved_quanta (length h.roots) (length h.store.pages)

-- the demand of a pace if a cycle takes at most this many quanta: that of two cycles, and of the time between them
abbrev pub demand_of : Pace → ℕ → Demand
demand_of p quanta = record { live = p.live; allocated = λ class. 2 * (quanta * p.busy class) + p.idle class }
