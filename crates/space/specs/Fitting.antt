-- Whether a configuration has enough pages.
use Rattle.std.specs.Prelude.{◌≡◌, ℕ, ◌+◌, ◌*◌, ◌<◌, ◌≤◌, Bool, ◌==◌, nat_le, if◌then◌else◌, slice_index, Option, Some, None}
use Rattle.size_classes.specs.declared.config.Config.{Config}
use Rattle.size_classes.specs.declared.config.TheConstants.{MOST_PAGES}
use Rattle.size_classes.specs.Cycle.{moved_quanta, unmoved_quanta}
use Rattle.space.specs.declared.fitting.Needs.{Needs}
use Rattle.space.specs.declared.pace.Pace.{Pace as PaceTable}
use Rattle.space.specs.Demand.{Demand}
use Rattle.space.specs.Pace.{Pace, demand_of}
use Rattle.space.specs.Space.{space_for}

-- the pace that a table by class states
abbrev pub pace_in : PaceTable → Pace
pace_in p = record { live = slice_index p.live; busy = slice_index p.busy; idle = slice_index p.idle }

-- how many pages may be left sparse, in a heap of a configuration
abbrev pub spare_in : Config → ℕ
spare_in c = if c.defrag_below == 0 then 0 else c.defrag_pages

-- a demand fits a configuration: there are as many pages as it takes
abbrev pub Fits : Config → Demand → Type 0
Fits c d = space_for d (spare_in c) ≤ c.pages

-- below how many free pages moving follows a sweep, in a heap of a configuration; 0 if no page may be emptied
abbrev pub below_in : Config → ℕ
below_in c = if c.defrag_pages == 0 then 0 else c.defrag_below

-- the most quanta of its schedule that a cycle takes on this many pages, of which it may empty `emptied`
abbrev pub moved_quanta_at : Config → ℕ → ℕ → ℕ
moved_quanta_at c pages emptied =
    moved_quanta (c.mutators * c.slots + c.statics) pages emptied (c.collector_ticks * c.rate)

-- the quanta of its schedule that a cycle takes at most on this many pages if moving never begins
abbrev pub unmoved_quanta_at : Config → ℕ → ℕ
unmoved_quanta_at c pages = unmoved_quanta (c.mutators * c.slots + c.statics) pages (c.collector_ticks * c.rate)

-- the pages that a pace takes in a heap that has this many, with those that moving may leave sparse
abbrev pub moved_pages : Config → Pace → ℕ → ℕ
moved_pages c p pages = space_for (demand_of p (moved_quanta_at c pages c.defrag_pages)) (spare_in c)

-- the pages that a pace takes in a heap that has this many, with as many free ones as moving begins below, so that it
-- never begins
abbrev pub unmoved_pages : Config → Pace → ℕ → ℕ
unmoved_pages c p pages = space_for (demand_of p (unmoved_quanta_at c pages)) 0 + below_in c

-- whether a pace takes no more pages if moving never begins
abbrev pub is_unmoved : Config → Pace → ℕ → Bool
is_unmoved c p pages = nat_le (unmoved_pages c p pages) (moved_pages c p pages)

-- the pages that a pace takes in a heap that has this many: the fewer of the two
abbrev pub pages_needed : Config → Pace → ℕ → ℕ
pages_needed c p pages = if is_unmoved c p pages then unmoved_pages c p pages else moved_pages c p pages

-- the most quanta of a cycle, from which the number of pages is calculated
abbrev pub quanta_needed : Config → Pace → ℕ → ℕ
quanta_needed c p pages = if is_unmoved c p pages then unmoved_quanta_at c pages else moved_quanta_at c pages c.defrag_pages

-- the needs of a pace in a heap of a configuration with this many pages
pub record IsNeeded (c : Config) (p : Pace) (count : ℕ) (needs : Needs) : Type 0 where
  pub pages : needs.pages ≡ pages_needed c p count
  pub quanta : needs.quanta ≡ quanta_needed c p count

-- A pace fits in this many pages: it takes no more in a heap that has this many. With more pages a cycle takes
-- longer.
abbrev pub FitsIn : Config → Pace → ℕ → Type 0
FitsIn c p pages = pages_needed c p pages ≤ pages

-- the least number of pages, of those that a configuration file may ask for, in which a pace fits; or it fits in none
abbrev pub IsLeast : Config → Pace → Option ℕ → Type 0
IsLeast c p None = (pages : ℕ) → 1 ≤ pages → pages ≤ MOST_PAGES → FitsIn c p pages → ⊥
IsLeast c p (Some least) = (1 ≤ least) × (least ≤ MOST_PAGES) × FitsIn c p least
    × ((pages : ℕ) → 1 ≤ pages → pages < least → FitsIn c p pages → ⊥)
