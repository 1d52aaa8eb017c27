-- The meaning of "pages suffice".
use Rattle.std.specs.Prelude.{◌≡◌, ◌≤◌, List, Some}
use Rattle.graph_heap.specs.declared.command.Limits.{Limits}
use Rattle.size_classes.specs.declared.config.Config.{Config}
use Rattle.heap_model.specs.State.{HeapState}
use Rattle.heap_model.specs.Settings.{settings_of, settings_by}
use Rattle.heap_model.specs.Opening.{IsOpening}
use Rattle.heap_model.specs.Event.{Course, Event, Runs}
use Rattle.heap_model.specs.ReachedFrom.{opened}
use Rattle.space.specs.declared.pace.Pace.{Pace as PaceTable}
use Rattle.space.specs.Pace.{opening_beat, AllKeepPace}
use Rattle.space.specs.Fitting.{pace_in, FitsIn}
use Rattle.space.specs.Room.{AllHaveRoom}
use Rattle.fragmentation.specs.Suffice.{demand_pages}
use Rattle.fragmentation.specs.Configured.{MovesAll}
use Rattle.sizing.specs.declared.needed.Needed.{Needed}
use Rattle.sizing.specs.declared.measured.Measured.{Measured}
use Rattle.sizing.specs.Measured.{KeepTogether, KeepGathered, KeepPageDemand, together_in, page_demand_in, least_units, HasUnits}
use Rattle.sizing.specs.Reckoned.{still_pages, moved_pages, needed_pages}

-- in every run from a new heap of a configuration for which this holds, no reply is the refusal for lack of space
abbrev pub EachFindsRoom : Config → (Limits → List Event → Type 0) → Type 0
EachFindsRoom config Keeps = (h : HeapState) (es : List Event) (new : Course) → IsOpening h
    → settings_of h ≡ settings_by config → Runs (opened h) es new → Keeps h.limits es → AllHaveRoom es

-- a run needs no more than this one: no more blocks of any class together, and no more pages if each cycle gathers every
-- class
abbrev pub NeedNoMore : Needed → Limits → List Event → Type 0
NeedNoMore n l es = KeepTogether (together_in n) l es × KeepGathered n.gathered l es

-- The runs for which these numbers of pages suffice, on any configuration that has them. If blocks are never moved, or
-- with moving as it is configured: those that need no more blocks of any class. If moving follows each sweep and may
-- empty all pages: those that need no more pages in this way, and those that keep to the demand in pages.
pub record Suffices (n : Needed) : Type 0 where
  pub still : (c : Config) → c.defrag_below ≡ 0 → still_pages n ≤ c.pages
      → EachFindsRoom c (KeepTogether (together_in n))
  pub moved : (c : Config) → moved_pages c n ≤ c.pages → EachFindsRoom c (KeepTogether (together_in n))
  pub gathered : (c : Config) → MovesAll c → n.gathered ≤ c.pages → EachFindsRoom c (KeepGathered n.gathered)
  pub page_demand : (c : Config) → MovesAll c → demand_pages (page_demand_in n) ≤ c.pages
      → EachFindsRoom c (KeepPageDemand (page_demand_in n))

-- The promise for a run with these events and measurements, on a new heap of a configuration. If the configuration has
-- the pages that it must have, no reply of this run is the refusal for lack of space, nor is a reply of any run that
-- needs no more. The same holds of the pace, with quanta of no fewer units than any had. And the numbers of pages suffice
-- on other configurations.
pub record Promises (config : Config) (es : List Event) (m : Measured) : Type 0 where
  pub needed : (n : Needed) → m.needed ≡ Some n → needed_pages config n ≤ config.pages
      → AllHaveRoom es × EachFindsRoom config (NeedNoMore n)
  pub others : (n : Needed) → m.needed ≡ Some n → Suffices n
  pub pace : (p : PaceTable) (slow : Config) → m.pace ≡ Some p → HasUnits config (least_units config m.budget) slow
      → FitsIn slow (pace_in p) slow.pages
      → AllHaveRoom es × EachFindsRoom config
      (λ l. AllKeepPace (pace_in p) (least_units config m.budget) (opening_beat l))
