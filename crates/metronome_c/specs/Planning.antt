-- A plan is told.
use Rattle.std.specs.Prelude.{◌≡◌, ℕ, ◌*◌, Option, Some, None}
use Rattle.size_classes.specs.declared.settings.Settings.{Settings}
use Rattle.size_classes.specs.declared.config.Config.{Config}
use Rattle.size_classes.specs.declared.fault.ConfigFault.{ConfigFault}
use Rattle.size_classes.specs.declared.ranges.Ranges.TheVariants.{Library}
use Rattle.size_classes.specs.Config.{fault_of, IsOf}
use Rattle.fragmentation.specs.Flow.{Flow}
use Rattle.fragmentation.specs.Configured.{MovesAll, FlowFitsIn}
use Rattle.paced.specs.declared.plan.Plan.{Plan}
use Rattle.paced.specs.Bounds.{LastsWith}
use Rattle.paced.specs.Planning.{IsFastest, IsLeastPages}
use Rattle.paced.specs.Rooms.{planned_flow}
use Rattle.metronome_c.specs.declared.planning.MetronomeFlow.{MetronomeFlow}
use Rattle.metronome_c.specs.declared.status.Status.{Status}
use Rattle.metronome_c.specs.declared.status.Status.TheVariants.{Done, NoPlan}
use Rattle.metronome_c.specs.Status.{status_number, fault_status}

-- the plan that C gives
abbrev pub plan_in : MetronomeFlow → Plan
plan_in f = record { quantum_words = f.quantum_words; cycle_words = f.cycle_words }

-- the flow that C gives
abbrev pub flow_of : MetronomeFlow → Flow
flow_of f = planned_flow f.live_words (plan_in f)

-- A flow suits a configuration if its quanta have the configuration's budget, each cycle moves and may empty all pages, and the
-- flow fits. The words of a cycle last until it has ended.
pub record Suits (c : Config) (flow : MetronomeFlow) : Type 0 where
  pub budget : flow.budget ≡ c.collector_ticks * c.rate
  pub moves : MovesAll c
  pub fits : FlowFitsIn c (flow_of flow)
  pub lasts : LastsWith c (plan_in flow) flow.live_words 0

-- a flow suits settings if it suits their configuration, or they have a fault
abbrev pub SuitsSettings : Settings → MetronomeFlow → Type 0
SuitsSettings s flow = fault_of Library s ≡ None → (c : Config) → IsOf s c → Suits c flow

-- the words of a plan; none where there is none
abbrev pub words_told : Option Plan → Plan
words_told (Some p) = p
words_told None = record { quantum_words = 0; cycle_words = 0 }

-- the least number of pages on which there is a plan; 0 where there is one on no number of pages
abbrev pub pages_told : Option ℕ → ℕ
pages_told (Some pages) = pages
pages_told None = 0

-- what the struct for C has of a plan of a configuration, or of none
abbrev pub flow_told : Config → ℕ → Option ℕ → Option Plan → MetronomeFlow
flow_told c live least plan = record {
  live_words = live;
  quantum_words = (words_told plan).quantum_words;
  cycle_words = (words_told plan).cycle_words;
  least_pages = pages_told least;
  budget = c.collector_ticks * c.rate;
}

-- The plan of the most words for each quantum that fits in a heap of a configuration, if the heap moves all. It leaves room for
-- an object of `largest` words.
abbrev pub IsPlanned : Config → ℕ → ℕ → Option Plan → Type 0
IsPlanned c live largest None = MovesAll c → IsFastest c live largest None
IsPlanned c live largest (Some plan) = MovesAll c × IsFastest c live largest (Some plan)

-- the status of a call that tells a plan
abbrev pub plan_status : Option Plan → Status
plan_status (Some plan) = Done
plan_status None = NoPlan

-- C is told the plan, and the least number of pages, if the settings have no fault
abbrev pub PlansUnless : Option ConfigFault → Settings → ℕ → ℕ → MetronomeFlow → MetronomeFlow → ℕ → Type 0
PlansUnless (Some fault) s live largest before after status =
    (after ≡ before) × (status ≡ status_number (fault_status fault))
PlansUnless None s live largest before after status = (c : Config) × (least : Option ℕ) × (plan : Option Plan) × IsOf s c
    × IsLeastPages c live largest least × IsPlanned c live largest plan × (after ≡ flow_told c live least plan)
    × (status ≡ status_number (plan_status plan))

-- the plan of the settings that C gives, or their first fault
abbrev pub TellsPlan : Settings → ℕ → ℕ → MetronomeFlow → MetronomeFlow → ℕ → Type 0
TellsPlan s live largest before after status = PlansUnless (fault_of Library s) s live largest before after status
