-- The events for which a heap that was just made has room.
use Rattle.std.specs.Prelude.{◌≡◌, ℕ, ◌*◌, ◌≤◌, List}
use Rattle.size_classes.specs.declared.config.Config.{Config}
use Rattle.size_classes.specs.Config.{limits_of}
use Rattle.heap_model.specs.State.{HeapState}
use Rattle.heap_model.specs.Event.{Course, Event, Runs}
use Rattle.heap_model.specs.ReachedFrom.{opened}
use Rattle.heap_model.specs.Opening.{IsOpening}
use Rattle.heap_model.specs.Settings.{settings_of, settings_by}
use Rattle.space.specs.Demand.{Demand}
use Rattle.space.specs.Tally.{opening_tally, AllKeepTo}
use Rattle.space.specs.Pace.{Pace, opening_beat, AllKeepPace}
use Rattle.space.specs.Fitting.{Fits, FitsIn}
use Rattle.space.specs.Room.{AllHaveRoom}
use Rattle.fragmentation.specs.Season.{Lives, opening_season, AllKeep}
use Rattle.fragmentation.specs.Suffice.{WithinPages, WithinBlocks, pages_of, PageDemand, demand_pages, WithinPageDemand}
use Rattle.fragmentation.specs.Flow.{Flow, opening_meter, KeepsFlow, AllMetered}
use Rattle.fragmentation.specs.Configured.{MovesAll, FitsTogether, FlowFitsIn}

-- The promise of a configuration for some events: no reply is the refusal for lack of space if the events keep to a
-- limit. Any of these limits will do: a demand that fits the configuration, a pace that fits its pages, or a demand
-- taken together that fits. If moving follows each sweep and may empty all pages, so will the configuration's pages,
-- a demand in pages for which it has enough, or a flow that fits.
pub record SpaceSuffices (config : Config) (es : List Event) : Type 0 where
  pub demand : (d : Demand) → AllKeepTo d (opening_tally (limits_of config)) es → Fits config d → AllHaveRoom es
  pub pace : (p : Pace) → AllKeepPace p (config.collector_ticks * config.rate) (opening_beat (limits_of config)) es
      → FitsIn config p config.pages → AllHaveRoom es
  pub joint : (blocks : ℕ → ℕ) (live : Lives)
      → AllKeep (WithinBlocks blocks live) live (opening_season (limits_of config)) es
      → FitsTogether config blocks → AllHaveRoom es
  pub moving : (live : Lives) → MovesAll config
      → AllKeep (WithinPages config.pages) live (opening_season (limits_of config)) es → AllHaveRoom es
  pub page_demand : (b : PageDemand) (live : Lives) → MovesAll config → ((n : ℕ) → pages_of (live n) ≤ b.live)
      → AllKeep (WithinPageDemand b) live (opening_season (limits_of config)) es → demand_pages b ≤ config.pages
      → AllHaveRoom es
  pub flow : (f : Flow) → MovesAll config
      → AllMetered (config.collector_ticks * config.rate) (KeepsFlow f) (opening_meter (limits_of config)) es
      → FlowFitsIn config f → AllHaveRoom es

-- a heap of a configuration that was just made, without a history
pub record IsJustMade (config : Config) (r : Course) : Type 0 where
  pub heap : IsOpening r.heap
  pub settings : settings_of r.heap ≡ settings_by config
  pub course : r ≡ opened r.heap

-- for a heap that was just made of a configuration, space suffices for whatever events are done
abbrev pub FindsSpace : Course → Type 0
FindsSpace r = (config : Config) (es : List Event) (new : Course) → IsJustMade config r → Runs r es new
    → SpaceSuffices config es

-- space sufficed for whatever events led here from a heap that was just made, in each configuration of its settings
abbrev pub FoundSpace : Course → Type 0
FoundSpace r =
    (config : Config) (first : HeapState) (es : List Event) → settings_of r.heap ≡ settings_by config → IsOpening first
    → Runs (opened first) es r → SpaceSuffices config es
