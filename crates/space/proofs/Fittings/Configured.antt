-- The bound, in a configuration's numbers.
use Rattle.std.proofs.Common.{◌≡◌, ℕ, ◌+◌, ◌*◌, ◌<◌, ◌≤◌, Bool, true, false, ◌==◌, if◌then◌else◌, List, length, ap, ◌∙◌, sym, subst, arith}
use Rattle.std.proofs.lemmas.List.{length-replicate}
use Rattle.graph_heap.specs.Graph.{root_cells}
use Rattle.size_classes.specs.declared.config.Config.{Config}
use Rattle.size_classes.specs.declared.config.TheConstants.{LEAST_BUDGET}
use Rattle.size_classes.specs.Config.{limits_of}
use Rattle.size_classes.specs.Cycle as cycle
use Rattle.heap_model.specs.State.{HeapState}
use Rattle.heap_model.specs.Settings.{HeapSettings, settings_of, settings_by}
use Rattle.heap_model.specs.Opening.{IsOpening}
use Rattle.heap_model.specs.Phases.{awaits_sweep_end}
use Rattle.heap_model.specs.Event.{Course, Event, Runs, HaveBudgets}
use Rattle.heap_model.specs.ReachedFrom.{opened}
use Rattle.space.specs.Demand.{Demand}
use Rattle.space.specs.Tally.{opening_tally, AllKeepTo}
use Rattle.space.specs.Space.{space_for, spare_of, below_of}
use Rattle.space.specs.Pace.{Pace, in_cycle, opening_beat, AllKeepPace, moved_quanta, unmoved_quanta, demand_of}
use Rattle.space.specs.Fitting.{Fits, spare_in, below_in, moved_quanta_at, unmoved_quanta_at, moved_pages, unmoved_pages, is_unmoved, FitsIn}
use Rattle.space.specs.Lasting.{LastsAtMost}
use Rattle.space.specs.Room.{AllHaveRoom}
use Rattle.space.proofs.Rooms.{all_have_room}
use Rattle.space.proofs.Paces.Moved.{pace_keeps}
use Rattle.space.proofs.Paces.Lasting.{cycle_lasts, sweep_lasts}
use Rattle.space.proofs.Paces.Unmoved.{unmoved_suffices, unmoved_keeps}
use Rattle.space.proofs.Tally.{space_suffices}

module _ (config : Config) (h : HeapState) (o : IsOpening h) (same : settings_of h ≡ settings_by config) where
  limits : h.limits ≡ limits_of config
  limits = ap (λ (s : HeapSettings). s.limits) same

  pub pages : length h.store.pages ≡ config.pages
  pages = ap (λ (s : HeapSettings). s.pages) same

  pub below : h.defrag_below ≡ config.defrag_below
  below = ap (λ (s : HeapSettings). s.defrag_below) same

  pub defrag : h.defrag_pages ≡ config.defrag_pages
  defrag = ap (λ (s : HeapSettings). s.defrag_pages) same

  pub some : 1 ≤ config.pages → 0 < length h.store.pages
  some one = let e = pages in omega (arith, e, one)

  pub roots : length h.roots ≡ config.mutators * config.slots + config.statics
  roots = ap length o.roots ∙ length-replicate (root_cells h.limits) 0 ∙ ap root_cells limits

  pub same_quanta : moved_quanta h (config.collector_ticks * config.rate) ≡ moved_quanta_at config config.pages config.defrag_pages
  same_quanta =
      let k = config.collector_ticks * config.rate in
      ap (λ z. cycle.moved_quanta z (length h.store.pages) h.defrag_pages k) roots
      ∙ ap (λ z. cycle.moved_quanta (config.mutators * config.slots + config.statics) z h.defrag_pages k) pages
      ∙ ap (λ z. cycle.moved_quanta (config.mutators * config.slots + config.statics) config.pages z k) defrag

  pub same_unmoved : unmoved_quanta h (config.collector_ticks * config.rate) ≡ unmoved_quanta_at config config.pages
  same_unmoved =
      let k = config.collector_ticks * config.rate in
      ap (λ z. cycle.unmoved_quanta z (length h.store.pages) k) roots
      ∙ ap (λ z. cycle.unmoved_quanta (config.mutators * config.slots + config.statics) z k) pages

  pub same_spare : spare_of h ≡ spare_in config
  same_spare = ap (λ z. if z == 0 then 0 else h.defrag_pages) below ∙ ap (λ z. if config.defrag_below == 0 then 0 else z) defrag

  pub same_below : below_of h ≡ below_in config
  same_below = ap (λ z. if z == 0 then 0 else h.defrag_below) defrag ∙ ap (λ z. if config.defrag_pages == 0 then 0 else z) below

  enough : (d : Demand) → Fits config d → space_for d (spare_of h) ≤ length h.store.pages
  enough d f = subst (λ z. space_for d (spare_of h) ≤ z) (sym pages) (subst (λ z. space_for d z ≤ config.pages) (sym same_spare) f)

  pub demand_configured : (es : List Event) (new : Course) (d : Demand) → 1 ≤ config.pages → Runs (opened h) es new → AllKeepTo d (opening_tally h.limits) es → Fits config d → AllHaveRoom es
  demand_configured es new d one runs keeps fits = all_have_room es (opened h) new runs (space_suffices h es new d o (some one) runs keeps (enough d fits))

  pub pace_configured : (es : List Event) (new : Course) (p : Pace) → 1 ≤ config.pages → LEAST_BUDGET ≤ config.collector_ticks * config.rate → Runs (opened h) es new
      → AllKeepPace p (config.collector_ticks * config.rate) (opening_beat h.limits) es → FitsIn config p config.pages → AllHaveRoom es
  pace_configured es new p one great runs keeps fits = by_way (is_unmoved config p config.pages) fits
    where
      k : ℕ
      k = config.collector_ticks * config.rate

      moved : moved_pages config p config.pages ≤ config.pages → AllHaveRoom es
      moved fits = demand_configured es new (demand_of p (moved_quanta h k)) one runs (pace_keeps h es new p k great o (some one) runs keeps) (subst (λ z. Fits config (demand_of p z)) (sym same_quanta) fits)

      unmoved : unmoved_pages config p config.pages ≤ config.pages → AllHaveRoom es
      unmoved fits =
          let enough : space_for (demand_of p (unmoved_quanta h k)) 0 + below_of h ≤ length h.store.pages =
          subst (λ z. space_for (demand_of p z) 0 + below_of h ≤ length h.store.pages) (sym same_unmoved)
          (subst (λ z. space_for (demand_of p (unmoved_quanta_at config config.pages)) 0 + z ≤ length h.store.pages) (sym same_below)
          (subst (λ z. unmoved_pages config p config.pages ≤ z) (sym pages) fits)) in
          all_have_room es (opened h) new runs
          (unmoved_suffices h es new (demand_of p (unmoved_quanta h k)) o (some one) runs (unmoved_keeps h es new p k (omega (arith, great)) o (some one) runs keeps enough) enough)

      by_way : (u : Bool) → (if u then unmoved_pages config p config.pages else moved_pages config p config.pages) ≤ config.pages → AllHaveRoom es
      by_way true fits = unmoved fits
      by_way false fits = moved fits

  pub cycle_configured : (es : List Event) (new : Course) → 1 ≤ config.pages → LEAST_BUDGET ≤ config.collector_ticks * config.rate → Runs (opened h) es new
      → HaveBudgets (config.collector_ticks * config.rate) es → LastsAtMost in_cycle (moved_quanta_at config config.pages config.defrag_pages) 0 es
  cycle_configured es new one great runs enough = subst (λ most. LastsAtMost in_cycle most 0 es) same_quanta (cycle_lasts h es new (config.collector_ticks * config.rate) (omega (arith, great)) o (some one) runs enough)

  pub sweep_configured : (es : List Event) (new : Course) → 1 ≤ config.pages → LEAST_BUDGET ≤ config.collector_ticks * config.rate → Runs (opened h) es new
      → HaveBudgets (config.collector_ticks * config.rate) es → LastsAtMost awaits_sweep_end (unmoved_quanta_at config config.pages) 0 es
  sweep_configured es new one great runs enough = subst (λ most. LastsAtMost awaits_sweep_end most 0 es) same_unmoved (sweep_lasts h es new (config.collector_ticks * config.rate) (omega (arith, great)) o (some one) runs enough)
