-- Promises of a heap that was paced since it was made.
use Rattle.std.specs.Prelude.{◌≡◌, ℕ, ◌*◌, Bool, true, ◌==◌, List, Option, Some, None}
use Rattle.std.specs.List.{list_any}
use Rattle.size_classes.specs.declared.config.Config.{Config}
use Rattle.size_classes.specs.Config.{limits_of}
use Rattle.heap_model.specs.State.{HeapState}
use Rattle.heap_model.specs.Event.{Course, Event, Command_done, Runs}
use Rattle.heap_model.specs.Opening.{IsOpening}
use Rattle.heap_model.specs.ReachedFrom.{opened}
use Rattle.heap_model.specs.Settings.{settings_of, settings_by}
use Rattle.space.specs.Room.{asks, AllHaveRoom}
use Rattle.fragmentation.specs.Flow.{Flow, OnlyMade, opening_meter, Paces, LivesIn, AllMetered}
use Rattle.paced.specs.declared.figures.Figures.{Figures}
use Rattle.paced.specs.declared.plan.Plan.{Plan}
use Rattle.paced.specs.Pacing.{Counts, PacerView, PacedState}

-- the flow of a plan, for live objects of this number of words at most: blocks of every class, and nothing besides the words of
-- each quantum
abbrev pub planned_flow : ℕ → Plan → Flow
planned_flow live plan = record {
  makes = λ class. true;
  live_words = live;
  quantum_words = plan.quantum_words;
  burst = 0;
  cycle_words = plan.cycle_words;
}

-- the flow of a plan if blocks are made of these classes alone
abbrev pub flow_for : (ℕ → Bool) → ℕ → Plan → Flow
flow_for makes live plan = record (planned_flow live plan) { makes = makes }

-- a class is one of these
abbrev pub among : List ℕ → ℕ → Bool
among used class = list_any (λ k. k == class) used

-- the size classes of which blocks are made: these, or all if none is given
abbrev pub made_of : Option (List ℕ) → ℕ → Bool
made_of None = λ class. true
made_of (Some used) = among used

-- a command asks for blocks of no class of which the flow makes none
abbrev pub AsksOnly : Flow → Event → Type 0
AsksOnly flow (Command_done m c reply) = OnlyMade flow (asks c)
AsksOnly flow e = Unit {0}

-- with a plan, and quanta of a budget, nothing is counted yet
abbrev pub first_counts : ℕ → Plan → Counts
first_counts budget plan = record { plan = plan; budget = budget; words = 0; quanta = 0 }

-- no work was done yet
abbrev pub no_figures : Figures
no_figures = record { quanta = 0; cycles = 0; most_quanta = 0 }

-- a pacer that was just made
abbrev pub first_pacer : ℕ → Plan → PacerView
first_pacer budget plan = record { counts = first_counts budget plan; figures = no_figures }

-- a heap of a configuration that was just made, and a pacer of its budget that has counted nothing yet
pub record IsJustPaced (config : Config) (plan : Plan) (v : PacedState) : Type 0 where
  pub heap : IsOpening v.heap
  pub settings : settings_of v.heap ≡ settings_by config
  pub counts : v.counts ≡ first_counts (config.collector_ticks * config.rate) plan

-- Events lead from one heap to another with a history, which is empty at first. They keep to the flow, and quanta of the
-- configuration's budget or a greater one count. If live objects are within the flow whenever one of the events begins a cycle,
-- no reply among them is the refusal for lack of space.
pub record FindsRoom (config : Config) (flow : Flow) (first now : HeapState) (es : List Event) : Type 0 where
  pub course : Course
  pub heap : course.heap ≡ now
  pub runs : Runs (opened first) es course
  pub paces : AllMetered (config.collector_ticks * config.rate) (Paces flow) (opening_meter (limits_of config)) es
  pub room : AllMetered (config.collector_ticks * config.rate) (LivesIn flow) (opening_meter (limits_of config)) es
      → AllHaveRoom es
