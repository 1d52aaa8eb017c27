-- The laws, in a configuration's numbers.
use Rattle.std.proofs.Common.{◌≡◌, ℕ, ◌+◌, ◌*◌, ◌<◌, ◌≤◌, inl, inr, List, length, sym, subst, arith}
use Rattle.size_classes.specs.declared.class.TheConstants.{CLASSES}
use Rattle.size_classes.specs.declared.config.TheConstants.{LEAST_BUDGET}
use Rattle.size_classes.specs.declared.config.Config.{Config}
use Rattle.heap_model.specs.State.{HeapState}
use Rattle.heap_model.specs.Settings.{settings_of, settings_by}
use Rattle.heap_model.specs.Opening.{IsOpening}
use Rattle.heap_model.specs.Event.{Course, Event, Runs}
use Rattle.heap_model.specs.ReachedFrom.{opened}
use Rattle.space.specs.Space.{pages_for, spare_of, below_of}
use Rattle.space.specs.Fitting.{spare_in, below_in}
use Rattle.space.specs.Tally.{EveryNewFindsRoom}
use Rattle.space.specs.Room.{AllHaveRoom}
use Rattle.space.proofs.Rooms.{all_have_room}
use Rattle.space.proofs.Fittings.Configured.{pages as same_pages, below as same_limit, defrag as same_defrag, some as has_some, roots as same_roots, same_spare, same_below}
use Rattle.fragmentation.specs.Season.{Lives, opening_season, AllKeep}
use Rattle.fragmentation.specs.Suffice.{GathersAll, WithinPages, WithinBlocks, pages_of, PageDemand, demand_pages, WithinPageDemand}
use Rattle.fragmentation.specs.Flow.{Flow, opening_meter, KeepsFlow, AllMetered, FlowFitsOn, FlowFits}
use Rattle.fragmentation.specs.Configured.{MovesAll, FitsTogether, FlowFitsIn}
use Rattle.fragmentation.proofs.Suffice.Joints.{joint_suffices, joint_suffices_unmoved}
use Rattle.fragmentation.proofs.Suffice.Sparses.{sparse_suffices}
use Rattle.fragmentation.proofs.Suffice.Moving.{moving_suffices}
use Rattle.fragmentation.proofs.Suffice.PageDemands.{page_demand_suffices}
use Rattle.fragmentation.proofs.Flows.Suffices.{flow_suffices}

module _ (config : Config) (h : HeapState) (o : IsOpening h) (same : settings_of h ≡ settings_by config) (one : 1 ≤ config.pages) (es : List Event) (new : Course) (live : Lives) (runs : Runs (opened h) es new) where
  some : 0 < length h.store.pages
  some = has_some config h o same one

  pages : length h.store.pages ≡ config.pages
  pages = same_pages config h o same

  spare : spare_of h ≡ spare_in config
  spare = same_spare config h o same

  below : below_of h ≡ below_in config
  below = same_below config h o same

  gathers : MovesAll config → GathersAll h
  gathers m = record {
    always = (let a = m.always in let e = same_limit config h o same in omega (arith, a, e, pages));
    all = (let a = m.all in let e = same_defrag config h o same in omega (arith, a, e, pages));
  }

  pub joint_configured : (blocks : ℕ → ℕ) → AllKeep (WithinBlocks blocks live) live (opening_season h.limits) es → FitsTogether config blocks → AllHaveRoom es
  joint_configured blocks keeps fits = all_have_room es (opened h) new runs (by_form fits)
    where
      by_form : FitsTogether config blocks → EveryNewFindsRoom es
      by_form (inl l) = joint_suffices h es new blocks live o some runs keeps (subst (λ z. pages_for blocks z CLASSES ≤ length h.store.pages) (sym spare) (omega (arith, l, pages)))
      by_form (inr (inl l)) = joint_suffices_unmoved h es new blocks live o some runs keeps (subst (λ z. pages_for blocks 0 CLASSES + z ≤ length h.store.pages) (sym below) (omega (arith, l, pages)))
      by_form (inr (inr l)) = sparse_suffices h es new blocks live o some runs keeps (omega (arith, l, spare, pages))

  pub moving_configured : MovesAll config → AllKeep (WithinPages config.pages) live (opening_season h.limits) es → AllHaveRoom es
  moving_configured moves keeps =
      all_have_room es (opened h) new runs (moving_suffices h es new live o some (gathers moves) runs (subst (λ z. AllKeep (WithinPages z) live (opening_season h.limits) es) (sym pages) keeps))

  pub page_demand_configured : (b : PageDemand) → MovesAll config → ((n : ℕ) → pages_of (live n) ≤ b.live) → AllKeep (WithinPageDemand b) live (opening_season h.limits) es → demand_pages b ≤ config.pages → AllHaveRoom es
  page_demand_configured b moves lives keeps fits = all_have_room es (opened h) new runs (page_demand_suffices h es new b live o some (gathers moves) runs lives keeps (omega (arith, fits, pages)))

  roots : length h.roots ≡ config.mutators * config.slots + config.statics
  roots = same_roots config h o same

  pub flow_configured : (f : Flow) → MovesAll config → LEAST_BUDGET ≤ config.collector_ticks * config.rate → AllMetered (config.collector_ticks * config.rate) (KeepsFlow f) (opening_meter h.limits) es → FlowFitsIn config f → AllHaveRoom es
  flow_configured f moves great keeps fits = all_have_room es (opened h) new runs (flow_suffices h es new f (config.collector_ticks * config.rate) (omega (arith, great)) o some (gathers moves) runs keeps fit)
    where
      fit : FlowFits f (config.collector_ticks * config.rate) h
      fit = subst (λ z. FlowFitsOn f z (length h.store.pages) (config.collector_ticks * config.rate)) (sym roots) (subst (λ z. FlowFitsOn f (config.mutators * config.slots + config.statics) z (config.collector_ticks * config.rate)) (sym pages) fits)
