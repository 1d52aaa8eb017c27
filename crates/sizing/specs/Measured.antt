-- The most that events needed.
use Rattle.std.specs.Prelude.{◌≡◌, ℕ, ◌*◌, ◌<◌, ◌≤◌, ◌^◌, ◌↔◌, min, slice_index, List, Option, Some, None, MatchOption}
use Rattle.graph_heap.specs.declared.command.Limits.{Limits}
use Rattle.size_classes.specs.declared.class.TheConstants.{CLASSES}
use Rattle.size_classes.specs.declared.config.Config.{Config}
use Rattle.heap_model.specs.Settings.{settings_by}
use Rattle.heap_model.specs.Event.{Event, HaveBudgets}
use Rattle.space.specs.Pace.{Pace, opening_beat, AllKeepPace}
use Rattle.space.specs.Fitting.{pace_in}
use Rattle.fragmentation.specs.Season.{Lives, opening_season, AllKeep}
use Rattle.fragmentation.specs.Suffice.{WithinBlocks, WithinPages, pages_of, PageDemand, WithinPageDemand}
use Rattle.sizing.specs.declared.needed.Needed.{Needed}
use Rattle.sizing.specs.declared.measured.Measured.{Measured}

-- Events keep to a joint demand: with some numbers of live blocks at the beginnings of cycles.
abbrev pub KeepTogether : (ℕ → ℕ) → Limits → List Event → Type 0
KeepTogether blocks l es = (live : Lives) × AllKeep (WithinBlocks blocks live) live (opening_season l) es

-- Events keep within this many pages, if each cycle gathers every class.
abbrev pub KeepGathered : ℕ → Limits → List Event → Type 0
KeepGathered pages l es = (live : Lives) × AllKeep (WithinPages pages) live (opening_season l) es

-- Events keep to a demand in pages, of live objects and of made ones.
abbrev pub KeepPageDemand : PageDemand → Limits → List Event → Type 0
KeepPageDemand b l es =
    (live : Lives) × ((n : ℕ) → pages_of (live n) ≤ b.live) × AllKeep (WithinPageDemand b) live (opening_season l) es

-- the blocks of each class that are needed together
abbrev pub together_in : Needed → ℕ → ℕ
together_in n class = slice_index n.together class

-- the pages of live objects, and of made ones
abbrev pub page_demand_in : Needed → PageDemand
page_demand_in n = record { live = n.live; made = n.made }

-- Events keep to a demand taken together, within pages, and to a demand in pages, exactly if these are at least as
-- large as the measured needs.
pub record AreLeast (l : Limits) (es : List Event) (n : Needed) : Type 0 where
  pub together : (blocks : ℕ → ℕ)
      → KeepTogether blocks l es ↔ ((class : ℕ) → class < CLASSES → together_in n class ≤ blocks class)
  pub gathered : (pages : ℕ) → KeepGathered pages l es ↔ (n.gathered ≤ pages)
  pub page_demand : (b : PageDemand) → KeepPageDemand b l es ↔ ((n.live ≤ b.live) × (n.made ≤ b.made))

-- Events keep to some numbers that can be stated.
pub record CanBeStated (l : Limits) (es : List Event) : Type 0 where
  pub blocks : ℕ → ℕ
  pub pages : ℕ
  pub page_demand : PageDemand
  pub small_blocks : (class : ℕ) → class < CLASSES → blocks class < 2 ^ 64
  pub small_pages : (pages < 2 ^ 64) × (page_demand.live < 2 ^ 64) × (page_demand.made < 2 ^ 64)
  pub together : KeepTogether blocks l es
  pub gathered : KeepGathered pages l es
  pub demanded : KeepPageDemand page_demand l es

-- one pace is at least another, in each class
abbrev pub IsPaceWithin : Pace → Pace → Type 0
IsPaceWithin p most = (class : ℕ) → class < CLASSES → (p.live class ≤ most.live class)
    × (p.busy class ≤ most.busy class) × (p.idle class ≤ most.idle class)

-- Events keep to a pace with quanta of at least k units exactly if the pace is at least this one, and the
-- quanta have that many.
abbrev pub IsLeastPace : Limits → List Event → Pace → Type 0
IsLeastPace l es p = (most : Pace) (k : ℕ)
    → AllKeepPace most k (opening_beat l) es ↔ (IsPaceWithin p most × HaveBudgets k es)

-- each quantum has at least k units exactly if k is at most this
abbrev pub IsLeastBudget : List Event → ℕ → Type 0
IsLeastBudget es budget = (k : ℕ) → HaveBudgets k es ↔ (k ≤ budget)

-- a pace that a table can state
abbrev pub IsPaceStated : Pace → Type 0
IsPaceStated p = (class : ℕ) → class < CLASSES → (p.live class < 2 ^ 32) × (p.busy class < 2 ^ 64)
    × (p.idle class < 2 ^ 64)

-- The measurements of events. They are the least numbers that the events needed, or that no numbers that can be stated
-- are as large. They are the least pace to which the events keep, or that no table states one. And they are the least
-- budget of a quantum, or that there is none.
pub record IsMeasured (l : Limits) (es : List Event) (m : Measured) : Type 0 where
  pub needed : MatchOption m.needed (CanBeStated l es → ⊥) (AreLeast l es)
  pub pace : MatchOption m.pace ((p : Pace) (k : ℕ) → IsPaceStated p → AllKeepPace p k (opening_beat l) es → ⊥)
      (λ table. IsLeastPace l es (pace_in table))
  pub budget : MatchOption m.budget ((k : ℕ) → HaveBudgets k es) (IsLeastBudget es)

-- the units that each quantum has at least, of a run with this least budget and of a configuration's schedule
abbrev pub least_units : Config → Option ℕ → ℕ
least_units c None = c.collector_ticks * c.rate
least_units c (Some least) = min least (c.collector_ticks * c.rate)

-- a configuration of the same heaps, whose schedule gives a quantum this many units
pub record HasUnits (c : Config) (units : ℕ) (slow : Config) : Type 0 where
  pub same : settings_by slow ≡ settings_by c
  pub budget : slow.collector_ticks * slow.rate ≡ units
