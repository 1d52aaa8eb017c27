-- Bounds of the number of pages that are enough for a trace.
use Rattle.std.specs.Prelude.{ℕ, ◌<◌, ◌≤◌, if◌then◌else◌, List, Option, Some, None}
use Rattle.size_classes.specs.declared.config.Config.{Config}
use Rattle.size_classes.specs.declared.config.TheConstants.{MOST_PAGES}
use Rattle.program.specs.declared.room.Trial.{Trial}
use Rattle.program.specs.declared.room.Bounds.{Bounds}
use Rattle.program.specs.Demand.{IsEnoughOn}

-- the configuration of a trial, if its pages were enough
abbrev pub enough_of : Trial → Option Config
enough_of t = if t.enough then Some t.config else None

-- The pages of the trial are enough, and `below` pages are too few, or are none.
pub record AreBounds (config : Config) (text : List ℕ) (b : Bounds) : Type 0 where
  pub fewer : b.below < b.found.config.pages
  pub most : b.found.config.pages ≤ MOST_PAGES
  pub enough : IsEnoughOn config text b.found.config.pages (Some b.found.config)
  pub too_few : 1 ≤ b.below → IsEnoughOn config text b.below None

-- Bounds were found, or as many pages as a file may ask for are too few.
abbrev pub BoundsOrNone : Config → List ℕ → Option Bounds → Type 0
BoundsOrNone config text None = IsEnoughOn config text MOST_PAGES None
BoundsOrNone config text (Some b) = AreBounds config text b
