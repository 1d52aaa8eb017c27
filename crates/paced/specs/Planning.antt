-- The plan that is chosen.
use Rattle.std.specs.Prelude.{◌≡◌, ℕ, ◌+◌, ◌*◌, ◌<◌, ◌≤◌, Bool, true, Option, Some, None}
use Rattle.size_classes.specs.declared.config.Config.{Config}
use Rattle.size_classes.specs.declared.config.TheConstants.{MOST_HEAP_PAGES}
use Rattle.fragmentation.specs.Flow.{Flow, flow_quanta, FlowFitsOn}
use Rattle.fragmentation.specs.Configured.{roots_in}
use Rattle.paced.specs.declared.plan.Plan.{Plan}
use Rattle.paced.specs.Rooms.{flow_for}

-- the quanta of its schedule's budget that a cycle takes at most in a heap of a configuration with this number of pages, if a
-- flow is kept
abbrev pub quanta_on : Config → Flow → ℕ → ℕ
quanta_on c f pages = flow_quanta f (roots_in c) pages (c.collector_ticks * c.rate)

-- A flow fits in a heap of a configuration with this number of pages. A cycle has words for each quantum that it takes at most,
-- so that they last until it has ended, and for one object of `largest` words besides.
pub record LastsOn (c : Config) (f : Flow) (largest pages : ℕ) : Type 0 where
  pub fits : FlowFitsOn f (roots_in c) pages (c.collector_ticks * c.rate)
  pub lasts : f.quantum_words * quanta_on c f pages + largest ≤ f.cycle_words

-- no more words for a cycle fit on this number of pages with those that a plan has for each quantum
abbrev pub IsFullestOn : (ℕ → Bool) → Config → ℕ → ℕ → Plan → Type 0
IsFullestOn makes c live pages plan = (words : ℕ)
    → FlowFitsOn (flow_for makes live (record plan { cycle_words = words })) (roots_in c) pages (c.collector_ticks * c.rate)
    → words ≤ plan.cycle_words

-- the plan of `words` words for each quantum that has the most for a cycle, of those that fit on this number of pages; or none
-- fits
abbrev pub FillsPages : (ℕ → Bool) → Config → ℕ → ℕ → ℕ → Option Plan → Type 0
FillsPages makes c live pages words None = (plan : Plan) → plan.quantum_words ≡ words
    → FlowFitsOn (flow_for makes live plan) (roots_in c) pages (c.collector_ticks * c.rate) → ⊥
FillsPages makes c live pages words (Some plan) = (plan.quantum_words ≡ words)
    × FlowFitsOn (flow_for makes live plan) (roots_in c) pages (c.collector_ticks * c.rate)
    × IsFullestOn makes c live pages plan

-- There is a plan on this number of pages, with a word for each quantum and room for an object of `largest` words. Blocks are
-- made of these classes alone.
abbrev pub HasPlanOn : (ℕ → Bool) → Config → ℕ → ℕ → ℕ → Type 0
HasPlanOn makes c live largest pages =
    (plan : Plan) × (1 ≤ plan.quantum_words) × LastsOn c (flow_for makes live plan) largest pages

-- there is one for a configuration, on its own pages
abbrev pub HasPlan : (ℕ → Bool) → Config → ℕ → ℕ → Type 0
HasPlan makes c live largest = HasPlanOn makes c live largest c.pages

-- A plan may be chosen. It has a word for each quantum, it lasts with room for an object of `largest` words, and as many words
-- for a cycle as fit.
pub record MayChoose (makes : ℕ → Bool) (c : Config) (live largest : ℕ) (plan : Plan) : Type 0 where
  pub some : 1 ≤ plan.quantum_words
  pub lasts : LastsOn c (flow_for makes live plan) largest c.pages
  pub fullest : IsFullestOn makes c live c.pages plan

-- the plan of the most words for each quantum, of those that may be chosen; or there is no plan
abbrev pub IsFastestFor : (ℕ → Bool) → Config → ℕ → ℕ → Option Plan → Type 0
IsFastestFor makes c live largest None = HasPlan makes c live largest → ⊥
IsFastestFor makes c live largest (Some plan) = MayChoose makes c live largest plan
    × ((other : Plan) → MayChoose makes c live largest other → other.quantum_words ≤ plan.quantum_words)

-- that plan, if blocks are made of every class
abbrev pub IsFastest : Config → ℕ → ℕ → Option Plan → Type 0
IsFastest = IsFastestFor (λ class. true)

-- the least number of pages, of those that a heap may have, on which there is such a plan; or there is none on any
abbrev pub IsLeastPagesFor : (ℕ → Bool) → Config → ℕ → ℕ → Option ℕ → Type 0
IsLeastPagesFor makes c live largest None =
    (pages : ℕ) → 1 ≤ pages → pages ≤ MOST_HEAP_PAGES → HasPlanOn makes c live largest pages → ⊥
IsLeastPagesFor makes c live largest (Some least) = (1 ≤ least) × (least ≤ MOST_HEAP_PAGES)
    × HasPlanOn makes c live largest least
    × ((pages : ℕ) → 1 ≤ pages → pages < least → HasPlanOn makes c live largest pages → ⊥)

-- that number, if blocks are made of every class
abbrev pub IsLeastPages : Config → ℕ → ℕ → Option ℕ → Type 0
IsLeastPages = IsLeastPagesFor (λ class. true)

-- a configuration that has the root cells and the budget of another, however many its pages are
pub record IsResized (c resized : Config) : Type 0 where
  pub roots : roots_in resized ≡ roots_in c
  pub budget : resized.collector_ticks * resized.rate ≡ c.collector_ticks * c.rate
