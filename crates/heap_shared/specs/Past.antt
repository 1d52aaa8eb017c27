-- The past of a heap: the events that led to it, and the place of its history at which the last cycle began.
use Rattle.std.specs.Prelude.{ℕ, ◌≡◌, ◌<◌, List, [], ◌∷◌, ◌++◌, length}
use Rattle.graph_heap.specs.declared.command.Entry.{Entry}
use Rattle.heap_model.specs.Event.{Course, Event, Command_done, Cycle_begun, Runs}
use Rattle.heap_model.specs.Opening.{IsOpening}
use Rattle.heap_model.specs.ReachedFrom.{opened}
use Rattle.heap_model.specs.State.{HeapState}
use Rattle.nodes.specs.Touching.{touched}

-- the history that events make: an entry for each command
abbrev pub history_of : List Event → List Entry
history_of [] = []
history_of (Command_done m c reply ∷ es) = (record { mutator = m; command = c; reply = reply }) ∷ history_of es
history_of (e ∷ es) = history_of es

-- the events that led to a heap, and the place of its history at which the last cycle began
pub record PastView : Type 0 where
  pub events : List Event
  pub place : ℕ

-- a heap with the history of its past
abbrev pub course_of : HeapState → PastView → Course
course_of h p = record { heap = h; history = history_of p.events; place = p.place }

-- a heap whose first pages have their words, this many pages or all
abbrev pub touched_heap : HeapState → ℕ → HeapState
touched_heap h pages = record h { store = touched h.store pages }

-- pages of a heap were touched, one time after the other
abbrev pub touched_all : HeapState → List ℕ → HeapState
touched_all h [] = h
touched_all h (pages ∷ more) = touched_all (touched_heap h pages) more

-- a heap with its history is the same as before, except for touched pages
abbrev pub IsTouched : Course → Course → Type 0
IsTouched old new = (pages : List ℕ) × (new ≡ record old { heap = touched_all old.heap pages })

-- one more event was done
abbrev pub with_event : PastView → Event → PastView
with_event p Cycle_begun = record { events = p.events ++ Cycle_begun ∷ []; place = length (history_of p.events) }
with_event p e = record { events = p.events ++ e ∷ []; place = p.place }

-- more events were done, one after the other
abbrev pub with_events : PastView → List Event → PastView
with_events p [] = p
with_events p (e ∷ es) = with_events (with_event p e) es

-- a log has all events, and the number of the last ones that it keeps
pub record LogView : Type 0 where
  pub past : PastView
  pub kept : ℕ

-- Events lead to a heap with its history, from one that was just made.
pub record IsLed (es : List Event) (r : Course) : Type 0 where
  pub first : HeapState
  pub opening : IsOpening first
  pub pages : 0 < length first.store.pages
  pub runs : Runs (opened first) es r
