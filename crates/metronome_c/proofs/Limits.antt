-- The limit of a configuration is that of the heaps that are made of it.
use Rattle.std.proofs.Common.{◌≡◌, ℕ, ◌+◌, ◌*◌, length, ap, ◌∙◌, sym, subst, refl}
use Rattle.std.specs.Prelude.{Option, Some, None}
use Rattle.std.proofs.lemmas.List.{length-replicate}
use Rattle.graph_heap.specs.Graph.{root_cells}
use Rattle.size_classes.specs.declared.config.Config.{Config}
use Rattle.size_classes.specs.declared.fault.ConfigFault.{ConfigFault}
use Rattle.size_classes.specs.declared.settings.Settings.{Settings}
use Rattle.size_classes.specs.declared.ranges.Ranges.TheVariants.{Library}
use Rattle.size_classes.specs.Config.{cycle_limit_of, fault_of, IsOf}
use Rattle.size_classes.specs.Cycle.{cycle_units, quanta_for}
use Rattle.heap_model.specs.State.{HeapState}
use Rattle.heap_model.specs.Settings.{HeapSettings, settings_of, settings_by}
use Rattle.heap_model.specs.Opening.{IsOpening}
use Rattle.heap_model.specs.Spent.{cycle_limit}
use Rattle.heap_model.specs.Bound.{most_quanta}
use Rattle.space.proofs.Fittings.Configured as configured
use Rattle.metronome_c.specs.declared.limit.CycleLimit.{CycleLimit}
use Rattle.metronome_c.specs.declared.status.Status.TheVariants.{Done}
use Rattle.metronome_c.specs.Limit.{limit_of, quanta_of, LimitsUnless, TellsLimit}
use Rattle.metronome_c.specs.Status.{status_number, fault_status}

module _ (c : Config) (h : HeapState) (o : IsOpening h) (same : settings_of h ≡ settings_by c) where
  roots : length h.roots ≡ c.mutators * c.slots + c.statics
  roots = ap length o.roots ∙ length-replicate (root_cells h.limits) 0 ∙ ap (λ (s : HeapSettings). root_cells s.limits) same

  pub same_units : cycle_limit_of c ≡ cycle_limit h
  same_units = sym (ap (λ z. cycle_units z (length h.store.pages) h.defrag_pages) roots
      ∙ ap (λ z. cycle_units (c.mutators * c.slots + c.statics) z h.defrag_pages) (configured.pages c h o same)
      ∙ ap (cycle_units (c.mutators * c.slots + c.statics) c.pages) (configured.defrag c h o same))

  pub same_quanta : quanta_of c ≡ most_quanta h (c.collector_ticks * c.rate)
  same_quanta = ap (λ z. quanta_for z (c.collector_ticks * c.rate)) same_units

-- C is told the limit, or the first fault of the settings
pub limit_told : (s : Settings) (c : Config) (before after : CycleLimit) (n : ℕ) → None ≡ fault_of Library s → IsOf s c → after ≡ limit_of c → n ≡ status_number Done → TellsLimit s before after n
limit_told s c before after n e is a m = subst (λ (f : Option ConfigFault). LimitsUnless f s before after n) e (c, is, a, m)

pub limit_refused : (s : Settings) (fault : ConfigFault) (before : CycleLimit) (n : ℕ) → Some fault ≡ fault_of Library s → n ≡ status_number (fault_status fault) → TellsLimit s before before n
limit_refused s fault before n e m = subst (λ (f : Option ConfigFault). LimitsUnless f s before before n) e (refl, m)
