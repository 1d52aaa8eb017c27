-- A flow: how many words of blocks a program makes while the collector works, all size classes together.
use Rattle.std.specs.Prelude.{◌≡◌, ℕ, ◌+◌, ◌-◌, ◌*◌, ◌/◌, ◌<◌, ◌≤◌, ◌⊎◌, Bool, false, true, nat_lt, nat_le, min, if◌then◌else◌, List, [], ◌∷◌, length}
use Rattle.graph_heap.specs.declared.command.Limits.{Limits}
use Rattle.graph_heap.specs.Graph.{Graph, opening}
use Rattle.graph_heap.specs.History.{after_entry}
use Rattle.size_classes.specs.declared.class.TheConstants.{CLASSES, PAGE_WORDS}
use Rattle.size_classes.specs.Sizes.{size_of}
use Rattle.size_classes.specs.Cycle.{sweep_units, unmoved_quanta, quanta_for}
use Rattle.heap_model.specs.State.{HeapState}
use Rattle.heap_model.specs.Event.{Event, Command_done, Cycle_begun, Begin_refused, Quantum_done, Quantum_refused}
use Rattle.space.specs.Demand.{LiveWithin, asked_for}
use Rattle.heap_model.specs.Phases.{awaits_sweep_end}
use Rattle.space.specs.Space.{class_sum}
use Rattle.fragmentation.specs.declared.flow.TheConstants.{LEAST_PAGE_FILL, PARTLY_FILLED_PAGES}
use Rattle.fragmentation.specs.Suffice.{pages_of}

-- the words of this many blocks of each class: whole blocks, with their headers
abbrev pub words_of : (ℕ → ℕ) → ℕ
words_of blocks = class_sum (λ class. size_of class * blocks class) CLASSES

-- The limits of a flow. `makes` has the classes of which blocks are made. `live_words` is the most words of live objects'
-- blocks when a cycle begins, or LEAST_PAGE_FILL for each whole page that they take. `quantum_words` is the most words of
-- blocks requested for each quantum that counts, from a cycle's beginning to its sweep's end; words left at one quantum
-- may be requested at a later one. `burst` is the most words besides. `cycle_words` is the most words from a cycle's
-- beginning until the next begins.
pub record Flow : Type 0 where
  pub makes : ℕ → Bool
  pub live_words : ℕ
  pub quantum_words : ℕ
  pub burst : ℕ
  pub cycle_words : ℕ

-- The graph heap to which the events lead, and whether a cycle runs whose sweep hasn't ended. Since the last cycle began:
-- the number of quanta done that count, and of words of blocks requested.
pub record FlowMeter : Type 0 where
  pub graph : Graph
  pub awaiting_sweep_end : Bool
  pub quanta : ℕ
  pub words : ℕ

-- the meter before the first event
abbrev pub opening_meter : Limits → FlowMeter
opening_meter l = record { graph = opening l; awaiting_sweep_end = false; quanta = 0; words = 0 }

-- the meter after one more event, if quanta of at least k units count
abbrev pub next_meter : ℕ → FlowMeter → Event → FlowMeter
next_meter k t (Command_done m c reply) =
    record t {
      graph = after_entry t.graph (record { mutator = m; command = c; reply = reply });
      words = t.words + words_of (asked_for t.graph m c);
    }
next_meter k t Cycle_begun = record t { awaiting_sweep_end = true; quanta = 0; words = 0 }
next_meter k t Begin_refused = t
next_meter k t (Quantum_done budget units phase) = record t {
  awaiting_sweep_end = awaits_sweep_end phase;
  quanta = if nat_le k budget then t.quanta + 1 else t.quanta;
}
next_meter k t (Quantum_refused budget) = t

-- the meter after events
abbrev pub meter_after : ℕ → FlowMeter → List Event → FlowMeter
meter_after k t [] = t
meter_after k t (e ∷ es) = meter_after k (next_meter k t e) es

-- the most words that may have been requested since the last cycle began
abbrev pub allowed_words : Flow → FlowMeter → ℕ
allowed_words f t = if t.awaiting_sweep_end then (t.quanta + 1) * f.quantum_words + f.burst else f.cycle_words

-- there are no blocks of a class of which the flow makes none
abbrev pub OnlyMade : Flow → (ℕ → ℕ) → Type 0
OnlyMade f blocks = (class : ℕ) → class < CLASSES → f.makes class ≡ false → blocks class ≡ 0

-- live objects are within the flow, by their whole pages or by their words
pub record LiveInFlow (g : Graph) (f : Flow) : Type 0 where
  pub blocks : ℕ → ℕ
  pub within : LiveWithin g blocks
  pub few : (LEAST_PAGE_FILL * pages_of blocks ≤ f.live_words) ⊎ (words_of blocks ≤ f.live_words)
  pub only : OnlyMade f blocks

-- the request of an event keeps to the flow
abbrev pub Paces : Flow → FlowMeter → Event → Type 0
Paces f t (Command_done m c reply) = (t.words + words_of (asked_for t.graph m c) ≤ allowed_words f t)
    × OnlyMade f (asked_for t.graph m c)
Paces f t _ = Unit {0}

-- if the event begins a cycle, live objects are within the flow
abbrev pub LivesIn : Flow → FlowMeter → Event → Type 0
LivesIn f t Cycle_begun = LiveInFlow t.graph f
LivesIn f t _ = Unit {0}

-- an event keeps to a flow
abbrev pub KeepsFlow : Flow → FlowMeter → Event → Type 0
KeepsFlow f t e = Paces f t e × LivesIn f t e

-- each of the events passes, with the meter before it, if quanta of at least k units count
abbrev pub AllMetered : ℕ → (FlowMeter → Event → Type 0) → FlowMeter → List Event → Type 0
AllMetered k Passes t [] = Unit {0}
AllMetered k Passes t (e ∷ es) = Passes t e × AllMetered k Passes (next_meter k t e) es

-- the most words that are requested from a cycle's beginning to its sweep's end, if that takes this many quanta
abbrev pub traced_words : Flow → ℕ → ℕ
traced_words f quanta = quanta * f.quantum_words + f.burst

-- the number of classes of which blocks are made
abbrev pub classes_made : (ℕ → Bool) → ℕ
classes_made makes = class_sum (λ class. if makes class then 1 else 0) CLASSES

-- the most words of live objects' blocks when a cycle begins: all words of the whole pages that they may take, and of
-- one more
abbrev pub live_most : Flow → ℕ
live_most f = PAGE_WORDS * (f.live_words / LEAST_PAGE_FILL + 1)

-- The most quanta of at least k units that a cycle takes to its sweep's end, if marking takes the words of live objects
-- and of those made by then. A quantum spends k units, and each word that is made at it may be marked, too.
abbrev pub marked_quanta : Flow → ℕ → ℕ → ℕ → ℕ
marked_quanta f roots pages k =
    sweep_units roots pages (live_most f + (f.quantum_words + f.burst)) / (k - f.quantum_words) + 1

-- the most quanta of at least k units that a cycle takes to its sweep's end: no more than if marking takes the words of
-- all pages
abbrev pub sweep_quanta : Flow → ℕ → ℕ → ℕ → ℕ
sweep_quanta f roots pages k = if nat_lt f.quantum_words k
    then min (unmoved_quanta roots pages k) (marked_quanta f roots pages k) else unmoved_quanta roots pages k

-- The most units that moving spends on this many pages. It looks at every page for each class, and once more. For each
-- page it looks as often again, if it is chosen, or moves words to it. No more words are moved than live objects have and
-- are made until the next cycle begins.
abbrev pub flow_moving : Flow → ℕ → ℕ
flow_moving f pages = (CLASSES + 1 + pages) * pages
    + min (PAGE_WORDS * pages) (live_most f + f.cycle_words) * (PAGE_WORDS - pages) / PAGE_WORDS + 1

-- The most quanta of at least k units that a whole cycle takes. Some take it to its sweep's end; the others end in
-- moving, and each of these may leave 255 units.
abbrev pub flow_quanta : Flow → ℕ → ℕ → ℕ → ℕ
flow_quanta f roots pages k =
    sweep_quanta f roots pages k + quanta_for (flow_moving f pages) k

-- The pages that suffice, if a cycle takes at most this many quanta to its sweep's end. They are for live objects, and
-- for objects made from one cycle's beginning to the beginning of the second after it, and then to the end of that one's
-- sweep. Some more are for each class of which blocks are made: those that may be filled in part.
abbrev pub flow_pages : Flow → ℕ → ℕ
flow_pages f quanta = (f.live_words + (2 * f.cycle_words + traced_words f quanta)) / LEAST_PAGE_FILL
    + PARTLY_FILLED_PAGES * classes_made f.makes

-- A flow fits on this many root cells and pages, if quanta of at least k units count. To its sweep's end, a cycle makes
-- no more words than may be made until the next one. There are as many pages as the flow takes.
pub record FlowFitsOn (f : Flow) (roots pages k : ℕ) : Type 0 where
  pub traced : traced_words f (sweep_quanta f roots pages k) ≤ f.cycle_words
  pub enough : flow_pages f (sweep_quanta f roots pages k) ≤ pages

-- it fits in a heap
abbrev pub FlowFits : Flow → ℕ → HeapState → Type 0
FlowFits f k h = FlowFitsOn f (length h.roots) (length h.store.pages) k
