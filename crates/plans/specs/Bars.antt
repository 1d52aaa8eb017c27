-- The plans as a table of a run's data.
use Rattle.std.specs.Prelude.{◌≡◌, ℕ, ◌*◌, List, [], ◌∷◌, ◌++◌, Bool, Option, Some, None, codes, decimal}
use Rattle.size_classes.specs.declared.config.Config.{Config}
use Rattle.paced.specs.declared.plan.Plan.{Plan}
use Rattle.paced.specs.Planning.{IsLeastPagesFor}
use Rattle.paced.specs.Rooms.{made_of}
use Rattle.pictures.specs.Json.{row_text, table_text}
use Rattle.plans.specs.declared.bars.PlanBar.{PlanBar}
use Rattle.plans.specs.declared.bars.PlanFigures.{PlanFigures}
use Rattle.plans.specs.Order.{OneForEach}
use Rattle.plans.specs.Report.{tenths_of, numbers_told, FastestOn}

-- the words for a quantum of a configuration's plan, and the tenths of a unit that the collector spends for each
abbrev pub figures_of : Config → Option Plan → Option PlanFigures
figures_of c None = None
figures_of c (Some plan) = Some (record {
  words = plan.quantum_words;
  tenths = tenths_of (c.collector_ticks * c.rate) plan.quantum_words;
})

-- the bar of a number of pages, of the fastest plan on as many
abbrev pub IsBar : (ℕ → Bool) → Config → ℕ → ℕ → PlanBar → Type 0
IsBar makes c live pages bar =
    (of : FastestOn makes c (record { live = live; largest = 0 }) pages) × (bar ≡ record { pages = pages; plan = figures_of of.on of.plan })

-- a bar for each of some numbers of pages that a heap may have, in rising order, each once
abbrev pub AreBars : (ℕ → Bool) → Config → ℕ → List ℕ → List PlanBar → Type 0
AreBars makes c live = OneForEach (IsBar makes c live)

-- the bars of the plans if live data has this many words: one for each number of pages that has a line in the report.
-- If size classes are given, blocks are made of these alone
pub record ArePlanBars (classes : Option (List ℕ)) (c : Config) (live : ℕ) (bars : List PlanBar) : Type 0 where
  pub least : Option ℕ
  pub is_least : IsLeastPagesFor (made_of classes) c live 0 least
  pub each : AreBars (made_of classes) c live (numbers_told c least) bars

-- the figures of a plan behind the number of pages, or that there is none
abbrev pub figures_row : ℕ → Option PlanFigures → List ℕ
figures_row pages None = row_text pages (None ∷ None ∷ [])
figures_row pages (Some plan) = row_text pages (Some plan.words ∷ Some plan.tenths ∷ [])

-- the row of a number of pages: the words for a quantum and the tenths of a unit for each word, if there is a plan
abbrev pub bar_row : PlanBar → List ℕ
bar_row bar = figures_row bar.pages bar.plan

-- the plans for this many live words
abbrev pub plans_table : ℕ → List PlanBar → List ℕ
plans_table live bars = table_text
    (codes "\"live\":\"" ++ (decimal live ++ codes "\",\n\"plans\":[[\"pages\",\"words\",\"tenths\"]")) bar_row bars

-- the plans for this many live words and all size classes, if it is said how many are live
abbrev pub PlansTable : Config → Option ℕ → List ℕ → Type 0
PlansTable c None text = text ≡ []
PlansTable c (Some live) text = (bars : List PlanBar) × ArePlanBars None c live bars × (text ≡ plans_table live bars)
