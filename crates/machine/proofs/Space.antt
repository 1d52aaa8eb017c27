-- A heap that was just made has room for all that fits its configuration.
use Rattle.std.proofs.Common.{◌≡◌, ◌*◌, List, [], ◌∷◌, ap, ◌∙◌, sym, subst}
use Rattle.graph_heap.specs.declared.command.Limits.{Limits}
use Rattle.size_classes.specs.declared.config.Config.{Config}
use Rattle.size_classes.specs.Config.{limits_of}
use Rattle.heap_model.specs.State.{HeapState}
use Rattle.heap_model.specs.Event.{Course, Event, Runs}
use Rattle.heap_model.specs.ReachedFrom.{opened}
use Rattle.heap_model.specs.Opening.{IsOpening}
use Rattle.heap_model.specs.Settings.{HeapSettings, settings_of, settings_by}
use Rattle.heap_model.proofs.Settings.{does_settings}
use Rattle.space.specs.Tally.{opening_tally, AllKeepTo}
use Rattle.space.specs.Pace.{opening_beat, AllKeepPace}
use Rattle.space.proofs.Fittings.Configured.{demand_configured, pace_configured}
use Rattle.fragmentation.specs.Season.{opening_season, AllKeep}
use Rattle.fragmentation.specs.Suffice.{WithinPages, WithinBlocks, WithinPageDemand}
use Rattle.fragmentation.specs.Flow.{opening_meter, KeepsFlow, AllMetered}
use Rattle.fragmentation.proofs.Configured.{joint_configured, moving_configured, page_demand_configured, flow_configured}
use Rattle.machine.specs.Space.{SpaceSuffices, FindsSpace, FoundSpace}

-- from a heap of a configuration that was just made
pub space_suffices : (config : Config) (h : HeapState) (es : List Event) (new : Course) → IsOpening h → settings_of h ≡ settings_by config → Runs (opened h) es new → SpaceSuffices config es
space_suffices config h es new o same runs =
    let one = config.pages_in_range.0 in
    let limits : limits_of config ≡ h.limits = sym (ap (λ (s : HeapSettings). s.limits) same) in
    record {
      demand = λ d keeps fits. demand_configured config h o same es new d one runs (subst (λ (l : Limits). AllKeepTo d (opening_tally l) es) limits keeps) fits;
      pace = λ p keeps fits. pace_configured config h o same es new p one config.budget_in_range.0 runs (subst (λ (l : Limits). AllKeepPace p (config.collector_ticks * config.rate) (opening_beat l) es) limits keeps) fits;
      joint = λ blocks live keeps fits. joint_configured config h o same one es new live runs blocks (subst (λ (l : Limits). AllKeep (WithinBlocks blocks live) live (opening_season l) es) limits keeps) fits;
      moving = λ live moves keeps. moving_configured config h o same one es new live runs moves (subst (λ (l : Limits). AllKeep (WithinPages config.pages) live (opening_season l) es) limits keeps);
      page_demand = λ b live moves lives keeps fits. page_demand_configured config h o same one es new live runs b moves lives (subst (λ (l : Limits). AllKeep (WithinPageDemand b) live (opening_season l) es) limits keeps) fits;
      flow = λ f moves keeps fits. flow_configured config h o same one es new (λ n class. 0) runs f moves config.budget_in_range.0 (subst (λ (l : Limits). AllMetered (config.collector_ticks * config.rate) (KeepsFlow f) (opening_meter l) es) limits keeps) fits;
    }

pub finds_space : (r : Course) → FindsSpace r
finds_space r config es new made runs = space_suffices config r.heap es new made.heap made.settings (subst (λ (from : Course). Runs from es new) made.course runs)

-- events keep the settings
pub runs_settings : (es : List Event) (r new : Course) → Runs r es new → settings_of new.heap ≡ settings_of r.heap
runs_settings [] r new w = ap (λ (x : Course). settings_of x.heap) w
runs_settings (e ∷ es) r new w = runs_settings es w.0 new w.2 ∙ does_settings r e w.0 w.1

pub found_space : (r : Course) → FoundSpace r
found_space r config first es same o runs = space_suffices config first es r o (sym (runs_settings es (opened first) r runs) ∙ same) runs
