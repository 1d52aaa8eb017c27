use Rattle.std.specs.Prelude.{◌≡◌, ◌-◌, ◌<◌, ◌≤◌, ◌⊎◌, None}
use Rattle.size_classes.specs.declared.config.TheConstants.{MOST_PAGES}
use Rattle.program.specs.Demand.{IsEnoughOn}
use Rattle.program.proofs.room.widen.Given as goal

-- `below` pages, fewer than are tried next, are too few; or `below` is the most.
abbrev pub invariant-loop-below : goal.invariant-loop-below
invariant-loop-below l = (1 ≤ l.pages) × (l.pages ≤ MOST_PAGES) × ((l.below < l.pages) ⊎ (l.below ≡ MOST_PAGES)) × (1 ≤ l.below → IsEnoughOn l.config l.text l.below None)

abbrev pub decreases-loop-below : goal.decreases-loop-below
decreases-loop-below l = MOST_PAGES - l.below
