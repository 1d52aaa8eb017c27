-- The fields of a meter.
use Rattle.std.specs.Prelude.{◌≡◌, ℕ, ◌+◌, ◌<◌, ◌≤◌, ◌↔◌, true, false, List, [], ◌∷◌, length, min, max, slice_index, IfSome}
use Rattle.size_classes.specs.declared.class.TheConstants.{CLASSES}
use Rattle.graph_heap.specs.declared.command.Limits.{Limits}
use Rattle.graph_heap.specs.Graph.{Graph, object_of}
use Rattle.graph_heap.specs.Shape.{fits}
use Rattle.heap_model.specs.Event.{Course, Event, Quantum_done, Runs, HaveBudgets, present_of}
use Rattle.heap_model.specs.Phases.{awaits_sweep_end}
use Rattle.space.specs.Pace.{Pace, Beat, opening_beat, next_beat, in_cycle}
use Rattle.fragmentation.specs.Season.{Season, Lives, opening_season, season_after, made_since, AllKeep}
use Rattle.fragmentation.specs.Suffice.{WithinBlocks, WithinPages, pages_of, PageDemand, WithinPageDemand}
use Rattle.sizing.specs.declared.meter.Meter.{Meter}
use Rattle.sizing.specs.Counts.{MOST, AreBlocks, IsPages}
use Rattle.sizing.specs.Season.{AddsBlocks, AsksMost}
use Rattle.sizing.specs.Measured.{IsLeastPace}

-- nothing is live when a cycle begins
abbrev pub none_live : Lives
none_live n class = 0

-- the season after events, when cycles begin with this much live
abbrev pub season_at : Lives → Season → List Event → Season
season_at live s [] = s
season_at live s (e ∷ es) = season_at live (season_after live s e) es

-- the beat after events
abbrev pub beat_after : Beat → List Event → Beat
beat_after b [] = b
beat_after b (e ∷ es) = beat_after (next_beat b e) es

-- each object has the shape of one
abbrev pub AllFit : Graph → Type 0
AllFit g = (id : ℕ) → fits (object_of g.objects id).shape ≡ true

-- these blocks are requested
pub record Asks (asked : List ℕ) (old new : Meter) : Type 0 where
  pub graph : new.graph ≡ old.graph
  pub cycle_running : new.cycle_running ≡ old.cycle_running
  pub season : new.season ≡ old.season
  pub live : new.live ≡ old.live
  pub budget : new.budget ≡ old.budget
  pub most : AsksMost old.season asked old.most new.most
  pub sum : (class : ℕ) → class < CLASSES
      → slice_index new.asked class ≡ min (slice_index old.asked class + slice_index asked class) MOST
  pub busy : old.cycle_running ≡ true → (class : ℕ) → class < CLASSES
      → slice_index new.busy class ≡ max (slice_index old.busy class) (slice_index new.asked class)
  pub idle : old.cycle_running ≡ false → (class : ℕ) → class < CLASSES
      → slice_index new.idle class ≡ max (slice_index old.idle class) (slice_index new.asked class)
  pub not_busy : old.cycle_running ≡ false → new.busy ≡ old.busy
  pub not_idle : old.cycle_running ≡ true → new.idle ≡ old.idle

-- an object is allocated that needs these
pub record Allocates (blocks : List ℕ) (old new : Meter) : Type 0 where
  pub same : new ≡ record old { season = new.season }
  pub season : AddsBlocks blocks old.season new.season

-- The season and the beat of events that lead to a course.
pub record AreOf (s : Season) (b : Beat) (r : Course) : Type 0 where
  pub graph : s.graph ≡ present_of r
  pub same : b.graph ≡ present_of r
  pub cycle_running : b.cycle_running ≡ in_cycle r.heap.phase
  pub awaiting_sweep_end : s.awaiting_sweep_end ≡ awaits_sweep_end r.heap.phase
  pub last : s.last ≤ length (present_of r).objects
  pub base : s.base ≤ length (present_of r).objects
  pub swept : s.swept ≤ length (present_of r).objects
  pub number : s.number ≤ s.cycles
  pub shapes : AllFit (present_of r)

-- the meter holds this season and this beat
pub record Holds (s : Season) (b : Beat) (m : Meter) : Type 0 where
  pub graph : m.graph ≡ s.graph
  pub cycle_running : m.cycle_running ≡ b.cycle_running
  pub awaiting_sweep_end : m.season.awaiting_sweep_end ≡ s.awaiting_sweep_end
  pub last : AreBlocks m.season.since_last (made_since s.last s)
  pub base : AreBlocks m.season.since_base (made_since s.base s)
  pub swept : AreBlocks m.season.since_swept (made_since s.swept s)
  pub asked : AreBlocks m.asked b.asked

-- the meter has the most that the events needed at their pace
pub record Needs (l : Limits) (es : List Event) (m : Meter) : Type 0 where
  pub pace : Pace
  pub paces : IsLeastPace l es pace
  pub live : AreBlocks m.live pace.live
  pub busy : AreBlocks m.busy pace.busy
  pub idle : AreBlocks m.idle pace.idle
  pub budget : (k : ℕ) → HaveBudgets k es ↔ IfSome m.budget (λ budget. k ≤ budget)

-- two accounts of live objects agree when each cycle up to this one begins
abbrev pub AgreeTo : ℕ → Lives → Lives → Type 0
AgreeTo cycles lives live = (n : ℕ) → n ≤ cycles → live n ≡ lives n

-- there is no bound
abbrev pub Anything : Season → (ℕ → ℕ) → Type 0
Anything s asked = Unit {0}

-- The live blocks when the cycles of events began, and the need before the last sweep ended: any other numbers that
-- hold are no less.
pub record Lived (l : Limits) (es : List Event) (lives : Lives) (before : ℕ → ℕ) : Type 0 where
  pub least : (live : Lives) → AllKeep Anything live (opening_season l) es
      → (n class : ℕ) → class < CLASSES → lives n class ≤ live n class
  pub sooner : (live : Lives) → AllKeep Anything live (opening_season l) es
      → (class : ℕ) → class < CLASSES → before class ≤ (season_at live (opening_season l) es).before class
  pub exact : (live : Lives) → AgreeTo (season_at none_live (opening_season l) es).cycles lives live
      → (class : ℕ) → class < CLASSES → (season_at live (opening_season l) es).before class ≡ before class

-- Events keep to a bound, with the live blocks or more, if a number is at least another; and else with none.
pub record IsLeastOf
    (Q : Type 0) (Within : Q → Lives → Season → (ℕ → ℕ) → Type 0) (Least : Q → Type 0)
    (l : Limits) (es : List Event) (lives : Lives) : Type 0 where
  pub above : (live : Lives) (q : Q) → AllKeep (Within q live) live (opening_season l) es → Least q
  pub below : (live : Lives) (q : Q) → AgreeTo (season_at none_live (opening_season l) es).cycles lives live → Least q
      → AllKeep (Within q live) live (opening_season l) es

-- The numbers that the meter holds are those of the least bounds to which the events keep.
pub record Shifts (l : Limits) (es : List Event) (m : Meter) : Type 0 where
  pub lives : Lives
  pub before : ℕ → ℕ
  pub lived : Lived l es lives before
  pub last_counted : AreBlocks m.season.live_last (lives (season_at none_live (opening_season l) es).cycles)
  pub base_counted : AreBlocks m.season.live_base (lives (season_at none_live (opening_season l) es).number)
  pub before_counted : AreBlocks m.season.before before
  pub together : ℕ → ℕ
  pub together_least :
      IsLeastOf (ℕ → ℕ) WithinBlocks (λ blocks. (class : ℕ) → class < CLASSES
      → together class ≤ blocks class) l es lives
  pub together_counted : AreBlocks m.most.together together
  pub gathered : ℕ
  pub gathered_least : IsLeastOf ℕ (λ pages live. WithinPages pages) (λ pages. gathered ≤ pages) l es lives
  pub gathered_counted : IsPages m.most.gathered gathered
  pub made : ℕ
  pub made_least : IsLeastOf PageDemand (λ b live. WithinPageDemand b) (λ b. made ≤ b.made) l es lives
  pub made_counted : IsPages m.most.made made
  pub live : ℕ
  pub live_least : (live_at : Lives) (pages : ℕ) → AllKeep Anything live_at (opening_season l) es
      → ((n : ℕ) → pages_of (live_at n) ≤ pages) → live ≤ pages
  pub live_most : (n : ℕ) → pages_of (lives n) ≤ live
  pub live_counted : IsPages m.most.live live

-- The fields of a meter once these events have led to a course.
pub record Measures (l : Limits) (es : List Event) (r : Course) (m : Meter) : Type 0 where
  pub are : AreOf (season_at none_live (opening_season l) es) (beat_after (opening_beat l) es) r
  pub holds : Holds (season_at none_live (opening_season l) es) (beat_after (opening_beat l) es) m
  pub needs : Needs l es m
  pub shifts : Shifts l es m

-- each event is a quantum of a budget
abbrev pub AreQuanta : ℕ → List Event → Type 0
AreQuanta budget [] = Unit {0}
AreQuanta budget (Quantum_done units_allowed units phase ∷ es) = (units_allowed ≡ budget) × AreQuanta budget es
AreQuanta budget (e ∷ es) = ⊥

-- one or more quanta of a budget lead from a course to another
pub record Works (budget : ℕ) (quanta : List Event) (r new : Course) : Type 0 where
  pub each : AreQuanta budget quanta
  pub some : 0 < length quanta
  pub runs : Runs r quanta new
