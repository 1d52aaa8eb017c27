-- How many pages suffice for measured needs.
use Rattle.std.specs.Prelude.{ℕ, ◌+◌, ◌&&◌, if◌then◌else◌, min, max, nat_le, nat_lt, Bool}
use Rattle.size_classes.specs.declared.class.TheConstants.{CLASSES}
use Rattle.size_classes.specs.declared.config.Config.{Config}
use Rattle.space.specs.Space.{pages_for}
use Rattle.space.specs.Fitting.{spare_in, below_in}
use Rattle.fragmentation.specs.Suffice.{sparse_pages, demand_pages}
use Rattle.sizing.specs.declared.needed.Needed.{Needed}
use Rattle.sizing.specs.Measured.{together_in, page_demand_in}

-- the pages that suffice if blocks are never moved
abbrev pub still_pages : Needed → ℕ
still_pages n = pages_for (together_in n) 0 CLASSES

-- The pages that suffice with moving as a configuration has it: the fewest of three numbers. The first adds, for each
-- class, as many pages as a cycle may empty. The second is enough that moving never begins. The third adds the one page
-- of each class that may be left, and once as many as a cycle may empty.
abbrev pub moved_pages : Config → Needed → ℕ
moved_pages c n =
    min (pages_for (together_in n) (spare_in c) CLASSES)
    (min (still_pages n + below_in c) (sparse_pages (together_in n) + spare_in c))

-- moving follows each sweep, and as many pages as there are may be emptied
abbrev pub moves_all : Config → Bool
moves_all c = nat_lt c.pages c.defrag_below && nat_le c.pages c.defrag_pages

-- the pages that a configuration must have: those, or as many as gathering takes, if each cycle gathers every class and
-- that is fewer
abbrev pub needed_pages : Config → Needed → ℕ
needed_pages c n = if moves_all c then min (moved_pages c n) n.gathered else moved_pages c n

-- the fewest pages that suffice, without moving or with moving after each sweep, and at least the one that each heap has
abbrev pub fewest_pages : Needed → ℕ
fewest_pages n = max (min (still_pages n) (min n.gathered (demand_pages (page_demand_in n)))) 1
