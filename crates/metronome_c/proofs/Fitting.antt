-- A plan of settings is one of each heap that is made of them.
use Rattle.std.proofs.Common.{Bool, cond, ◌≡◌, ◌∙◌, ℕ, ◌+◌, ◌*◌, ◌≤◌, ap, sym, subst, arith, refl}
use Rattle.std.specs.Prelude.{Option, Some, None, length, pos, nat_abs}
use Rattle.std.proofs.lemmas.List.Folds.{sum_by-replicate}
use Rattle.std.proofs.Math.Nat.{mul-one}
use Rattle.size_classes.specs.declared.settings.Settings.{Settings}
use Rattle.size_classes.specs.declared.config.Config.{Config}
use Rattle.size_classes.specs.declared.fault.ConfigFault.{ConfigFault}
use Rattle.size_classes.specs.declared.fault.ConfigFault.TheVariants as faults
use Rattle.size_classes.specs.declared.ranges.Ranges.TheVariants.{Library}
use Rattle.size_classes.specs.Config.{fault_of, IsOf}
use Rattle.heap_model.specs.Opening.{IsOpening}
use Rattle.heap_model.specs.Pages.{Page, is_free, free_pages}
use Rattle.heap_model.specs.State.{HeapState}
use Rattle.fragmentation.specs.Configured.{roots_in, MovesAll, FlowFitsIn}
use Rattle.fragmentation.specs.Flow.{Flow, flow_quanta, FlowFitsOn}
use Rattle.paced.specs.declared.plan.Plan.{Plan}
use Rattle.paced.specs.Bounds.{LastsWith}
use Rattle.paced.specs.Planning.{IsLeastPages}
use Rattle.paced.specs.Rooms.{planned_flow}
use Rattle.paced.proofs.Planning.{fastest_lasts}
use Rattle.metronome_c.specs.declared.own_heap.OwnHeap.{OwnHeap}
use Rattle.metronome_c.specs.declared.planning.MetronomeFlow.{MetronomeFlow}
use Rattle.metronome_c.specs.declared.status.Status.TheVariants.{Done}
use Rattle.metronome_c.specs.Keeping.{IsUnused, CanKeep}
use Rattle.metronome_c.specs.Lifetime.{IsMadeOf}
use Rattle.metronome_c.specs.Planning.{plan_in, flow_of, Suits, SuitsSettings, flow_told, IsPlanned, plan_status, PlansUnless, TellsPlan}
use Rattle.metronome_c.specs.Status.{status_number, fault_status}

abbrev one_if : Bool → ℕ
one_if b = cond b 1 0

same : {m n : ℕ} → pos m ≡ pos n → m ≡ n
same e = ap nat_abs e

-- a heap from which histories start is unused
pub unused : (h : HeapState) → IsOpening h → IsUnused h
unused h o = record {
  idle = o.phase;
  units = o.units;
  free = ap free_pages o.pages ∙ sum_by-replicate (λ (z : Option Page). one_if (is_free z)) (length h.store.pages) None ∙ mul-one (length h.store.pages);
}

-- a fault has a status of its own
no_fault : (fault : ConfigFault) → status_number (fault_status fault) ≡ status_number Done → ⊥
no_fault (faults.OutOfRange key) e = omega (arith, e)
no_fault fault e = omega (arith, e)

module _ (s : Settings) (c d : Config) (of : IsOf s c) (is : IsOf s d) where
  -- two configurations of the same settings have the same numbers
  pages : c.pages ≡ d.pages
  pages = same (of.pages ∙ sym is.pages)

  budget : c.collector_ticks * c.rate ≡ d.collector_ticks * d.rate
  budget = ap (λ z. z * c.rate) (same (of.collector_ticks ∙ sym is.collector_ticks)) ∙ ap (λ z. d.collector_ticks * z) (same (of.rate ∙ sym is.rate))

  roots : roots_in c ≡ roots_in d
  roots = ap (λ z. z * c.slots + c.statics) (same (of.mutators ∙ sym is.mutators))
      ∙ ap (λ z. d.mutators * z + c.statics) (same (of.slots ∙ sym is.slots))
      ∙ ap (λ z. d.mutators * d.slots + z) (same (of.statics ∙ sym is.statics))

  moves : MovesAll c → MovesAll d
  moves m = record {
    always = (let e = pages in let b = same (of.defrag_below ∙ sym is.defrag_below) in let l = m.always in omega (arith, e, b, l));
    all = (let e = pages in let b = same (of.defrag_pages ∙ sym is.defrag_pages) in let l = m.all in omega (arith, e, b, l));
  }

  fits : (f : Flow) → FlowFitsIn c f → FlowFitsIn d f
  fits f w =
      subst (λ r. FlowFitsOn f r d.pages (d.collector_ticks * d.rate)) roots
      (subst (λ p. FlowFitsOn f (roots_in c) p (d.collector_ticks * d.rate)) pages
      (subst (FlowFitsOn f (roots_in c) c.pages) budget w))

  -- the plan lasts in both
  lasts : (plan : Plan) (live largest : ℕ) → LastsWith c plan live largest → LastsWith d plan live largest
  lasts plan live largest w = record {
    some = w.some;
    lasts =
        subst (λ r. plan.quantum_words * flow_quanta (planned_flow live plan) r d.pages (d.collector_ticks * d.rate) + largest ≤ plan.cycle_words) roots
        (subst (λ p. plan.quantum_words * flow_quanta (planned_flow live plan) (roots_in c) p (d.collector_ticks * d.rate) + largest ≤ plan.cycle_words) pages
        (subst (λ b. plan.quantum_words * flow_quanta (planned_flow live plan) (roots_in c) c.pages b + largest ≤ plan.cycle_words) budget w.lasts));
    small = w.small;
  }

-- a plan with room for an object leaves room for none too
without_room : (c : Config) (plan : Plan) (live largest : ℕ) → LastsWith c plan live largest → LastsWith c plan live 0
without_room c plan live largest w = record { some = w.some; lasts = (let l = w.lasts in omega (arith, l)); small = w.small }

module _ (s : Settings) (d : Config) (is : IsOf s d) (told live largest : ℕ) (before flow : MetronomeFlow) where
  -- the flow suits the configuration, and its plan leaves room for the largest object
  abbrev Leaves : MetronomeFlow → Type 0
  Leaves f = Suits d f × LastsWith d (plan_in f) f.live_words largest

  -- if a plan was told
  by_plan : (c : Config) (least : Option ℕ) (plan : Option Plan) → IsOf s c → IsPlanned c live largest plan → flow ≡ flow_told c live least plan → told ≡ status_number (plan_status plan) → told ≡ status_number Done → Leaves flow
  by_plan c least None of planned told_so status done = absurd (omega (arith, status, done))
  by_plan c least (Some plan) of planned told_so status done =
      let room = lasts s c d of is plan live largest (fastest_lasts c live largest plan planned.1.0) in
      subst Leaves (sym told_so) (
        record {
          budget = budget s c d of is;
          moves = moves s c d of is planned.0;
          fits = fits s c d of is (planned_flow live plan) planned.1.0.lasts.fits;
          lasts = without_room d plan live largest room;
        },
        room,
      )

  by_fault : (fault : Option ConfigFault) → PlansUnless fault s live largest before flow told → told ≡ status_number Done → Leaves flow
  by_fault (Some fault) tells done = absurd (no_fault fault (sym tells.1 ∙ done))
  by_fault None tells done = by_plan tells.0 tells.1 tells.2 tells.3 tells.5 tells.6 tells.7 done

  pub plan_leaves : TellsPlan s live largest before flow told → told ≡ status_number Done → Leaves flow
  plan_leaves tells done = by_fault (fault_of Library s) tells done

  pub plan_suits : TellsPlan s live largest before flow told → told ≡ status_number Done → Suits d flow
  plan_suits tells done = (plan_leaves tells done).0

-- so it is kept by a heap that was just made
pub plan_kept : (s : Settings) (h : OwnHeap) → IsMadeOf s h → (told live largest : ℕ) (before flow : MetronomeFlow) → TellsPlan s live largest before flow told → told ≡ status_number Done → CanKeep h flow
plan_kept s h made told live largest before flow tells done = record {
  unused = unused h.heap made.0;
  suits = plan_suits s h.config made.1 told live largest before flow tells done;
}

-- and it lasts there with room for the object
pub plan_lasts : (s : Settings) (h : OwnHeap) → IsMadeOf s h → (told live largest : ℕ) (before flow : MetronomeFlow) → TellsPlan s live largest before flow told → told ≡ status_number Done → LastsWith h.config (plan_in flow) flow.live_words largest
plan_lasts s h made told live largest before flow tells done = (plan_leaves s h.config made.1 told live largest before flow tells done).1

-- a flow that suits one configuration of settings suits each
pub suits_each : (s : Settings) (c : Config) (flow : MetronomeFlow) → IsOf s c → Suits c flow → SuitsSettings s flow
suits_each s c flow of suits none d is = record {
  budget = suits.budget ∙ budget s c d of is;
  moves = moves s c d of is suits.moves;
  fits = fits s c d of is (flow_of flow) suits.fits;
  lasts = lasts s c d of is (plan_in flow) flow.live_words 0 suits.lasts;
}

-- where the settings have a fault, it suits them
pub suits_faulty : (s : Settings) (fault : ConfigFault) (flow : MetronomeFlow) → Some fault ≡ fault_of Library s → SuitsSettings s flow
suits_faulty s fault flow is none = absurd (let z : Some fault ≡ None = is ∙ none in cc)

-- where they have none, it doesn't suit them if it doesn't suit their configuration
pub unsuited : (s : Settings) (c : Config) (flow : MetronomeFlow) → None ≡ fault_of Library s → IsOf s c → (Suits c flow → ⊥) → SuitsSettings s flow → ⊥
unsuited s c flow none of isnt suits = isnt (suits (sym none) c of)

-- C is told a plan, or the first fault of the settings
pub plan_told : (s : Settings) (c : Config) (live largest : ℕ) (least : Option ℕ) (plan : Option Plan) (before after : MetronomeFlow) (n : ℕ) → None ≡ fault_of Library s → IsOf s c → IsLeastPages c live largest least → IsPlanned c live largest plan
    → after ≡ flow_told c live least plan → n ≡ status_number (plan_status plan) → TellsPlan s live largest before after n
plan_told s c live largest least plan before after n e of least_is planned is told = subst (λ (f : Option ConfigFault). PlansUnless f s live largest before after n) e (c, least, plan, of, least_is, planned, is, told)

pub plan_refused : (s : Settings) (fault : ConfigFault) (live largest : ℕ) (before : MetronomeFlow) (n : ℕ) → Some fault ≡ fault_of Library s → n ≡ status_number (fault_status fault) → TellsPlan s live largest before before n
plan_refused s fault live largest before n e told = subst (λ (f : Option ConfigFault). PlansUnless f s live largest before before n) e (refl, told)
