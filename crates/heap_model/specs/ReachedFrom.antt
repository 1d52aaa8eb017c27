-- From an opening heap to a heap with its history.
use Rattle.std.specs.Prelude.{◌≡◌, ℕ, ◌+◌, ◌<◌, List, [], ◌∷◌, length}
use Rattle.heap_model.specs.State.{HeapState}
use Rattle.heap_model.specs.Opening.{IsOpening}
use Rattle.heap_model.specs.Event.{Course, Event, Cycle_begun, Quantum_done, Runs, quanta_in}

-- how many cycles began
abbrev pub cycles_in : List Event → ℕ
cycles_in [] = 0
cycles_in (Cycle_begun ∷ es) = cycles_in es + 1
cycles_in (e ∷ es) = cycles_in es

-- how many units the quanta spent
abbrev pub units_in : List Event → ℕ
units_in [] = 0
units_in (Quantum_done budget units phase ∷ es) = units_in es + units
units_in (e ∷ es) = units_in es

-- a course that begins: a heap with the empty history
abbrev pub opened : HeapState → Course
opened h = record { heap = h; history = []; place = 0 }

-- Events lead here from an opening heap; in them this many cycles began, this many quanta were done, and these spent
-- this many units.
pub record IsReachedFrom (r : Course) (cycles quanta units : ℕ) : Type 0 where
  pub first : HeapState
  pub events : List Event
  pub opening : IsOpening first
  pub pages : 0 < length first.store.pages
  pub runs : Runs (opened first) events r
  pub begun : cycles_in events ≡ cycles
  pub done : quanta_in events ≡ quanta
  pub spent : units_in events ≡ units
