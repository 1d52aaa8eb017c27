-- The pages that suffice, in a configuration's numbers.
use Rattle.std.specs.Prelude.{ℕ, ◌+◌, ◌*◌, ◌<◌, ◌≤◌, ◌⊎◌}
use Rattle.size_classes.specs.declared.class.TheConstants.{CLASSES}
use Rattle.size_classes.specs.declared.config.Config.{Config}
use Rattle.space.specs.Space.{pages_for}
use Rattle.space.specs.Fitting.{spare_in, below_in}
use Rattle.fragmentation.specs.Suffice.{sparse_pages}
use Rattle.fragmentation.specs.Flow.{Flow, FlowFitsOn}

-- moving follows each sweep, and as many pages as there are may be emptied
pub record MovesAll (c : Config) : Type 0 where
  pub always : c.pages < c.defrag_below
  pub all : c.pages ≤ c.defrag_pages

-- There are as many pages as this many blocks of each class take, in one of three ways. The first adds, for each class,
-- as many pages as a cycle may empty. The second adds none, if enough pages stay free that moving never begins. The third
-- adds the one page of each class that may be left, and once, for all classes, as many as a cycle may empty.
abbrev pub FitsTogether : Config → (ℕ → ℕ) → Type 0
FitsTogether c blocks =
    (pages_for blocks (spare_in c) CLASSES ≤ c.pages)
    ⊎ ((pages_for blocks 0 CLASSES + below_in c ≤ c.pages)
    ⊎ (sparse_pages blocks + spare_in c ≤ c.pages))

-- the root cells of a heap of a configuration
abbrev pub roots_in : Config → ℕ
roots_in c = c.mutators * c.slots + c.statics

-- a flow fits in a configuration, if quanta of the schedule's budget count
abbrev pub FlowFitsIn : Config → Flow → Type 0
FlowFitsIn c f = FlowFitsOn f (roots_in c) c.pages (c.collector_ticks * c.rate)
