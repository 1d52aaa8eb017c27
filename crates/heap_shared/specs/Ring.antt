-- A shared heap with its past, its plan, and the last entries of its log.
use Rattle.std.specs.Prelude.{ℕ, ◌≡◌, ◌≢◌, ◌<◌, ◌≤◌, ◌+◌, ◌-◌, ◌*◌, ◌%◌, Bool, true, false, List, [], ◌∷◌, ◌++◌, length, slice_get, Option, Some, None, Result, Ok, Err, if◌then◌else◌, nat_le}
use Rattle.std.specs.Option.{option_map}
use Rattle.circular_buffer.specs.Buffer.{keep_last}
use Rattle.graph_heap.specs.declared.command.Command.{Command}
use Rattle.graph_heap.specs.declared.command.Reply.{Reply}
use Rattle.heap_model.specs.Event.{Course, Event, Command_done, Runs}
use Rattle.heap_model.specs.Opening.{IsOpening}
use Rattle.heap_model.specs.Settings.{settings_of, settings_by}
use Rattle.heap_model.specs.State.{HeapState}
use Rattle.space.specs.Room.{asks}
use Rattle.fragmentation.specs.Flow.{words_of}
use Rattle.paced.specs.declared.cycles.Cycles.{Cycles}
use Rattle.paced.specs.declared.figures.Figures.{Figures}
use Rattle.paced.specs.declared.pacer.AbovePlan.{AbovePlan as Above}
use Rattle.paced.specs.Cycles.{CountsCycles}
use Rattle.paced.specs.Pacing.{PacerView, PacedState, paced_by, state_by, worked, Path, KeepsPlan, MayAsk, WorksFor}
use Rattle.paced.specs.Bounds.{Prepares}
use Rattle.paced.specs.Rooms.{first_counts}
use Rattle.paced.specs.declared.logged.Logged.{Logged}
use Rattle.heap_shared.specs.declared.fault.NotPrepared.{NotPrepared}
use Rattle.heap_shared.specs.declared.fault.NotPrepared.TheVariants.{Outside, NoPlan, AbovePlan}
use Rattle.heap_shared.specs.declared.fault.NoEntry.{NoEntry}
use Rattle.heap_shared.specs.declared.fault.NoEntry.TheVariants.{NotYet, Gone}
use Rattle.heap_shared.specs.declared.shared_heap.SharedConfig.{SharedConfig}
use Rattle.paced.specs.Logged.{event_of}
use Rattle.heap_shared.specs.Past.{touched_heap, IsLed}

-- A heap with its history, the events that led to it, and how many of the last events it keeps. It has its cycles, and a pacer if
-- it keeps a plan.
pub record Ringed : Type 0 where
  pub course : Course
  pub events : List Event
  pub ring : ℕ
  pub cycles : Cycles
  pub pacer : Option PacerView

-- events lead from one heap to another; if the heap keeps a plan, they keep to it, and its pacer counts them
abbrev pub KeepsBy : Option PacerView → HeapState → List Event → Option PacerView → HeapState → Type 0
KeepsBy None h es q k = q ≡ None
KeepsBy (Some p) h es None k = ⊥
KeepsBy (Some p) h es (Some q) k = Path KeepsPlan (state_by p h) es (state_by q k)

-- a heap has kept its plan by these events since it was made, with this budget
abbrev pub HasKept : Option PacerView → ℕ → List Event → HeapState → Type 0
HasKept None budget es h = Unit {0}
HasKept (Some p) budget es h = (first : HeapState) × IsOpening first × (settings_of first ≡ settings_of h)
    × Path KeepsPlan (record { heap = first; counts = first_counts budget p.counts.plan }) es (state_by p h)

-- A heap is as it was asked for, in its settings, the number of its entries, and its plan, which it has kept. Its events led to it
-- from a heap that was just made.
pub record IsAsAsked (c : SharedConfig) (r : Ringed) : Type 0 where
  pub settings : settings_of r.course.heap ≡ settings_by c.config
  pub ring : r.ring ≡ c.ring
  pub plan : option_map (λ p. p.counts.plan) r.pacer ≡ c.plan
  pub led : IsLed r.events r.course
  pub kept : HasKept r.pacer (c.config.collector_ticks * c.config.rate) r.events r.course.heap

-- Events are done on a heap. They are the next events of its log. Its cycles are counted, and its plan is kept.
pub record Goes (r : Ringed) (es : List Event) (k : Ringed) : Type 0 where
  pub runs : Runs r.course es k.course
  pub events : k.events ≡ r.events ++ es
  pub ring : k.ring ≡ r.ring
  pub cycles : CountsCycles r.course.heap r.cycles es k.course.heap k.cycles
  pub keeps : KeepsBy r.pacer r.course.heap es k.pacer k.course.heap

-- an event is done
abbrev pub GoesBy : Ringed → Event → Ringed → Type 0
GoesBy r e k = Goes r (e ∷ []) k

-- the figures of the pacer, where there is one
abbrev pub figures_of : Ringed → Option Figures
figures_of r = option_map (λ p. p.figures) r.pacer

-- If a plan is kept, the collector works for these words as long as the plan requires, and no longer. Else it doesn't work.
abbrev pub IsWorkFor : Option PacerView → HeapState → ℕ → List Event → Type 0
IsWorkFor None h words work = work ≡ []
IsWorkFor (Some p) h words work = (words ≤ p.counts.plan.cycle_words) × (before : PacedState)
    × Path (WorksFor words) (state_by p h) work before × MayAsk before words

-- a plan is kept, and has fewer words for a whole cycle than these
abbrev pub IsAbove : Option PacerView → ℕ → Type 0
IsAbove None words = ⊥
IsAbove (Some p) words = p.counts.plan.cycle_words < words

-- A command that makes an object is done after its words were paid for. If they are more than the plan has for a whole cycle,
-- nothing is done.
abbrev pub Makes : Ringed → ℕ → Command → Result Reply Above → Ringed → Type 0
Makes r m c (Err above) k = IsAbove r.pacer (words_of (asks c)) × (k ≡ r)
Makes r m c (Ok reply) k = (work : List Event) × IsWorkFor r.pacer r.course.heap (words_of (asks c)) work
    × Goes r (work ++ Command_done m c reply ∷ []) k × (figures_of k ≡ option_map (λ f. worked f work) (figures_of r))

-- The collector works ahead for these words. It does at most one piece of the work that the plan requires for them, and says how
-- many are left.
pub record WorksAhead (r : Ringed) (words left : ℕ) (k : Ringed) : Type 0 where
  pub before : PacerView
  pub after : PacerView
  pub was : r.pacer ≡ Some before
  pub is : k.pacer ≡ Some after
  pub fits : words ≤ before.counts.plan.cycle_words
  pub prepares : Prepares (paced_by before r.course.heap r.cycles) words left (paced_by after k.course.heap k.cycles)
  pub goes : Goes r prepares.work k

-- So it is. If no plan is kept, or the words are more than the plan has for a whole cycle, nothing is done.
abbrev pub PreparesBy : Ringed → ℕ → Result ℕ NotPrepared → Ringed → Type 0
PreparesBy r words (Err Outside) k = ⊥
PreparesBy r words (Err NoPlan) k = (r.pacer ≡ None) × (k ≡ r)
PreparesBy r words (Err AbovePlan) k = IsAbove r.pacer words × (k ≡ r)
PreparesBy r words (Ok left) k = WorksAhead r words left k

-- The first pages get their words, this many pages or all, exactly if no event was done yet. Nothing else changes.
abbrev pub TouchesBy : ℕ → Ringed → Bool → Ringed → Type 0
TouchesBy pages r true k = (r.events ≡ [])
    × (k ≡ record r { course = record r.course { heap = touched_heap r.course.heap pages } })
TouchesBy pages r false k = (r.events ≢ []) × (k ≡ r)

-- the event that was entered this many events ago, 1 for the last, if it is one of the last events that the ring keeps
abbrev pub entry_ago : ℕ → List Event → ℕ → Option Event
entry_ago kept log ago = let ring = keep_last kept log in if nat_le ago (length ring) then slice_get ring (length ring - ago) else None

-- a number is a place, as places wrap, at which the log has one of the last events that are kept
abbrev pub IsKeptAt : ℕ → List Event → ℕ → ℕ → Type 0
IsKeptAt kept log place q = (q % 9223372036854775808 ≡ place % 9223372036854775808) × (q < length log) × (length log ≤ q + kept)

-- An entry at a place of the log is its event, if it is one of the last events that are kept. At the place behind the last event
-- there is none yet. Elsewhere there is none any more.
abbrev pub TellsEntry : ℕ → List Event → ℕ → Result Logged NoEntry → Type 0
TellsEntry kept log place (Ok e) = (q : ℕ) × IsKeptAt kept log place q × (slice_get log q ≡ Some (event_of e))
TellsEntry kept log place (Err NotYet) = place % 9223372036854775808 ≡ length log % 9223372036854775808
TellsEntry kept log place (Err Gone) = (place % 9223372036854775808 ≢ length log % 9223372036854775808)
    × ((q : ℕ) → ¬ IsKeptAt kept log place q)
