-- The sums of a list of events, by the events alone, if the needs shift from cycle to cycle.
use Rattle.std.specs.Prelude.{ℕ, ◌+◌, Bool, true, false, if◌then◌else◌, List, [], ◌∷◌, length, drop}
use Rattle.graph_heap.specs.declared.command.Limits.{Limits}
use Rattle.graph_heap.specs.Graph.{Graph, opening}
use Rattle.graph_heap.specs.History.{after_entry}
use Rattle.heap_model.specs.Event.{Event, Command_done, Cycle_begun, Begin_refused, Quantum_done, Quantum_refused}
use Rattle.space.specs.Demand.{LiveWithin, blocks_of, asked_for}
use Rattle.heap_model.specs.Phases.{awaits_sweep_end}

-- The graph heap to which the events lead, the number of cycles that began, and whether a cycle runs whose sweep hasn't
-- ended. The number of objects when the last cycle began (`last`), when the cycle began whose sweep ended last (`base`),
-- and at that sweep's end (`swept`). `number` is that cycle's number. `before` is the need of each class up to that
-- sweep's end since the cycle before began.
pub record Season : Type 0 where
  pub graph : Graph
  pub cycles : ℕ
  pub awaiting_sweep_end : Bool
  pub last : ℕ
  pub base : ℕ
  pub swept : ℕ
  pub number : ℕ
  pub before : ℕ → ℕ

-- the season before the first event
abbrev pub opening_season : Limits → Season
opening_season l = record {
  graph = opening l;
  cycles = 0;
  awaiting_sweep_end = false;
  last = 0;
  base = 0;
  swept = 0;
  number = 0;
  before = λ class. 0;
}

-- the most blocks that live objects need when the nth cycle begins, by class; before the first, n is 0
abbrev pub Lives : Type 0
Lives = ℕ → ℕ → ℕ

-- the blocks of a class that the objects need which were made after the first `count`
abbrev pub made_since : ℕ → Season → ℕ → ℕ
made_since count s class = blocks_of (drop count s.graph.objects) class

-- the blocks of a class that were live when the cycle began whose sweep ended last, with those made since
abbrev pub needed_since : Lives → Season → ℕ → ℕ
needed_since live s class = live s.number class + made_since s.base s class

-- the season after a sweep ended: its cycle is now the one whose sweep ended last
abbrev pub season_swept : Lives → Season → Season
season_swept live s = record s {
  awaiting_sweep_end = false;
  base = s.last;
  swept = length s.graph.objects;
  number = s.cycles;
  before = needed_since live s;
}

-- the season after one more event
abbrev pub season_after : Lives → Season → Event → Season
season_after live s (Command_done m c reply) =
    record s { graph = after_entry s.graph (record { mutator = m; command = c; reply = reply }) }
season_after live s Cycle_begun =
    record s { cycles = s.cycles + 1; awaiting_sweep_end = true; last = length s.graph.objects }
season_after live s Begin_refused = s
season_after live s (Quantum_done budget units phase) =
    if awaits_sweep_end phase then s else (if s.awaiting_sweep_end then season_swept live s else s)
season_after live s (Quantum_refused budget) = s

-- An event keeps to a bound. At a command the bound holds of the season and of the requested blocks. When a cycle
-- begins, live objects need no more than `live` says.
abbrev pub Keeps : (Season → (ℕ → ℕ) → Type 0) → Lives → Season → Event → Type 0
Keeps Bound live s (Command_done m c reply) = Bound s (asked_for s.graph m c)
Keeps Bound live s Cycle_begun = LiveWithin s.graph (live (s.cycles + 1))
Keeps Bound live s Begin_refused = Unit {0}
Keeps Bound live s (Quantum_done budget units phase) = Unit {0}
Keeps Bound live s (Quantum_refused budget) = Unit {0}

-- each of the events does
abbrev pub AllKeep : (Season → (ℕ → ℕ) → Type 0) → Lives → Season → List Event → Type 0
AllKeep Bound live s [] = Unit {0}
AllKeep Bound live s (e ∷ es) = Keeps Bound live s e × AllKeep Bound live (season_after live s e) es
