-- The report of the pages that a program needs: lines of text.
use Rattle.std.specs.Prelude.{◌≡◌, ℕ, ◌+◌, ◌*◌, ◌≤◌, ◌==◌, nat_le, nat_lt, Bool, true, false, if◌then◌else◌, List, [], ◌++◌, Option, Some, None, codes, decimal}
use Rattle.size_classes.specs.declared.class.TheConstants.{CLASSES}
use Rattle.size_classes.specs.declared.config.Config.{Config}
use Rattle.size_classes.specs.declared.config.TheConstants.{MOST_PAGES}
use Rattle.size_classes.specs.Sizes.{size_of}
use Rattle.heap_model.specs.Pages.{whole_pages}
use Rattle.space.specs.Pace.{Pace}
use Rattle.space.specs.declared.pace.Pace.{Pace as PaceTable}
use Rattle.space.specs.Fitting.{pace_in, pages_needed, quanta_needed, FitsIn, IsLeast}
use Rattle.fragmentation.specs.Suffice.{demand_pages}
use Rattle.sizing.specs.declared.needed.Needed.{Needed}
use Rattle.sizing.specs.Measured.{together_in, page_demand_in}
use Rattle.sizing.specs.Reckoned.{still_pages, moved_pages, fewest_pages, needed_pages}
use Rattle.inspector.specs.ClassLines.{class_lines}
use Rattle.inspector.specs.declared.pages_needed.lines.Scope.{Scope}
use Rattle.inspector.specs.declared.pages_needed.lines.Scope.TheVariants.{Demand as By_demand, Pace as By_pace}

-- the line of a class, if its blocks are needed: its size in words, its blocks together, and the pages that they take
abbrev pub blocks_line : Needed → ℕ → List ℕ
blocks_line n class = if together_in n class == 0 then []
    else codes "size " ++ (decimal (size_of class) ++ (codes " blocks " ++ (decimal (together_in n class)
    ++ (codes " pages " ++ (decimal (whole_pages class (together_in n class)) ++ codes "\n")))))

-- how many pages suffice if blocks are never moved
abbrev pub still_line : ℕ → List ℕ
still_line pages =
    codes "without moving " ++ (decimal pages ++ codes ": for each run that needs no more blocks of any size\n")

-- how many suffice with moving as it is configured
abbrev pub moved_line : ℕ → List ℕ
moved_line pages =
    codes "as configured " ++ (decimal pages ++ codes ": for each run that needs no more blocks of any size\n")

-- how many suffice with moving after each sweep, which may empty all pages
abbrev pub gathered_line : ℕ → List ℕ
gathered_line pages =
    codes "moving after each sweep " ++ (decimal pages ++ codes ": for each run that needs no more pages so\n")

-- how many suffice with such moving, whatever the sizes of objects are
abbrev pub page_demand_line : ℕ → Needed → List ℕ
page_demand_line pages n = codes "whatever the sizes " ++ (decimal pages
    ++ (codes ": moving after each sweep, for each run of at most "
    ++ (decimal n.live ++ (codes " pages live and " ++ (decimal n.made ++ codes " made\n")))))

-- how many pages suffice in each way
abbrev pub form_lines : ℕ → ℕ → ℕ → Needed → List ℕ
form_lines still moved budgeted n =
    still_line still ++ (moved_line moved ++ (gathered_line n.gathered ++ page_demand_line budgeted n))

-- the keys to set for this many pages, if moving follows a sweep that leaves fewer than `below` free, and empties at
-- most `emptied`; the last key is there only if moving may follow
abbrev pub keys_line : ℕ → ℕ → ℕ → List ℕ
keys_line pages below emptied = codes "pages = " ++ (decimal pages ++ (codes ", defrag_below = " ++ (decimal below
    ++ (if below == 0 then codes "\n" else codes ", defrag_pages = " ++ (decimal emptied ++ codes "\n")))))

-- the keys to set for the fewest pages: those without moving, if that suffices, else those with moving after each
-- sweep. Or that these are more than a file may ask for
abbrev pub fewest_keys : ℕ → ℕ → List ℕ
fewest_keys still pages = if nat_lt MOST_PAGES pages then codes "more than a file may ask for\n"
    else keys_line pages (if nat_le still pages then 0 else pages + 1) pages

-- the fewest pages, with these keys
abbrev pub fewest_line : ℕ → ℕ → List ℕ
fewest_line still pages = codes "fewest " ++ (decimal pages ++ (codes ": " ++ fewest_keys still pages))

-- on how many pages this very trace finds room, with the keys to set for them; or that no number of them is known
abbrev pub room_line : Option Config → List ℕ
room_line (Some c) = codes "for this trace " ++ (decimal c.pages ++ (codes ": "
    ++ keys_line c.pages c.defrag_below c.defrag_pages))
room_line None = codes "for this trace: no number of pages up to 4096 is known to suffice\n"

-- the runs for which the pages suffice, if they are as many as are needed; else a run may be refused an object or not
abbrev pub verdict : Scope → Bool → List ℕ
verdict By_demand true = codes ": suffice for this run, and for each that needs no more\n"
verdict By_pace true = codes ": suffice for this run, and for each at this pace\n"
verdict scope false = codes ": may not suffice\n"

-- how many pages are needed, out of how many
abbrev pub pages_line : Scope → ℕ → ℕ → List ℕ
pages_line scope needed pages =
    codes "pages " ++ (decimal needed ++ (codes " of " ++ (decimal pages ++ verdict scope (nat_le needed pages))))

-- the whole report of a run's needs
abbrev pub needed_report : Config → Needed → List ℕ
needed_report c n =
    class_lines (blocks_line n) CLASSES
    ++ (form_lines (still_pages n) (moved_pages c n) (demand_pages (page_demand_in n)) n
    ++ (fewest_line (still_pages n) (fewest_pages n)
    ++ pages_line By_demand (needed_pages c n) c.pages))

-- the line that is printed if no table has room for the blocks
abbrev pub too_many : List ℕ
too_many = codes "more blocks than can be counted: no number of pages is known to suffice\n"

-- the report of a run's needs, if they can be stated
abbrev pub needed_told : Config → Option Needed → List ℕ
needed_told c None = too_many
needed_told c (Some n) = needed_report c n

-- the line of a class, if any of its blocks are live, or requested while a cycle runs up to the next quantum, or
-- between two cycles
abbrev pub pace_line : Pace → ℕ → List ℕ
pace_line p class = if (p.live class + p.busy class) + p.idle class == 0 then []
    else codes "size " ++ (decimal (size_of class)
    ++ (codes " live " ++ (decimal (p.live class)
    ++ (codes " busy " ++ (decimal (p.busy class)
    ++ (codes " idle " ++ (decimal (p.idle class) ++ codes "\n")))))))

-- the quanta of a cycle from which the pages are calculated, each of the schedule's units
abbrev pub quanta_line : ℕ → ℕ → List ℕ
quanta_line quanta units = codes "quanta " ++ (decimal quanta ++ (codes " units " ++ (decimal units ++ codes "\n")))

-- the least number of pages from which on a pace fits in each number that a file may ask for; or it doesn't fit in the
-- most
abbrev pub IsFrom : Config → Pace → Option ℕ → Type 0
IsFrom c p None = FitsIn c p MOST_PAGES → ⊥
IsFrom c p (Some from) =
    (1 ≤ from) × (from ≤ MOST_PAGES) × ((pages : ℕ) → from ≤ pages → pages ≤ MOST_PAGES → FitsIn c p pages)
    × ((pages : ℕ) → pages + 1 ≡ from → 1 ≤ pages → FitsIn c p pages → ⊥)

-- from how many pages on a pace fits in each number of them
abbrev pub from_line : Option ℕ → List ℕ
from_line (Some from) = codes "all from " ++ (decimal from ++ codes " to 4096 suffice\n")
from_line None = codes "4096 may not suffice\n"

-- the lines of the least number of pages in which a pace fits, and from how many on it fits in each
abbrev pub least_lines : Option ℕ → Option ℕ → List ℕ
least_lines (Some least) from = codes "least pages " ++ (decimal least ++ (codes "\n" ++ from_line from))
least_lines None from = codes "no number of pages up to 4096 is known to suffice\n"

-- all that is reported of a pace with quanta of the configuration's schedule
abbrev pub pace_report : Config → Pace → Option ℕ → Option ℕ → List ℕ
pace_report c p least from =
    class_lines (pace_line p) CLASSES ++ quanta_line (quanta_needed c p c.pages) (c.collector_ticks * c.rate)
    ++ pages_line By_pace (pages_needed c p c.pages) c.pages ++ least_lines least from

-- the report of a measured pace, or that its blocks were too many to count
abbrev pub IsPaceReport : Config → Option PaceTable → List ℕ → Type 0
IsPaceReport c None text = text ≡ too_many
IsPaceReport c (Some p) text =
    (least : Option ℕ) × (from : Option ℕ) × IsLeast c (pace_in p) least × IsFrom c (pace_in p) from
    × (text ≡ pace_report c (pace_in p) least from)
