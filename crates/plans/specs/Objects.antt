-- The report of the plans for some live objects.
use Rattle.std.specs.Prelude.{◌≡◌, ℕ, ◌*◌, ◌/◌, ◌%◌, List, [], ◌++◌, map, sum_by, Option, Some, None, codes, decimal}
use Rattle.std.specs.Int.{div_ceil}
use Rattle.std.specs.List.{concat}
use Rattle.graph_heap.specs.declared.command.Shape.TheVariants.{WordArray}
use Rattle.size_classes.specs.declared.class.TheConstants.{PAGE_WORDS}
use Rattle.size_classes.specs.declared.config.Config.{Config}
use Rattle.paced.specs.Cycles.{saturated}
use Rattle.paced.specs.Planning.{IsLeastPagesFor}
use Rattle.paced.specs.Pacing.{shape_words}
use Rattle.paced.specs.Rooms.{made_of}
use Rattle.command_line.specs.declared.job.Asked.{Asked}
use Rattle.command_line.specs.declared.job.Objects.{Objects}
use Rattle.plans.specs.Report.{IsPlansReport}

-- the words of the blocks of an object with this many cells, headers included
abbrev pub object_words : ℕ → ℕ
object_words cells = shape_words (WordArray cells)

-- the words of the blocks of some objects that have equally many cells
abbrev pub group_words : Objects → ℕ
group_words group = group.count * object_words group.cells

-- the words of the blocks of all objects
abbrev pub all_words : List Objects → ℕ
all_words groups = sum_by group_words groups

-- the number of some objects, the cells of each, and the words of the blocks of each and of all
abbrev pub group_line : Objects → List ℕ
group_line group = codes "objects " ++ (decimal group.count ++ (codes " cells " ++ (decimal group.cells
    ++ (codes " each " ++ (decimal (object_words group.cells)
    ++ (codes " words " ++ (decimal (saturated (group_words group)) ++ codes "\n")))))))

-- tenths of a megabyte, of 1048576 bytes, that this many pages have, rounded up
abbrev pub megabyte_tenths : ℕ → ℕ
megabyte_tenths pages = div_ceil (10 * (8 * PAGE_WORDS * pages)) 1048576

-- the megabytes of this many pages, if their number is said
abbrev pub megabytes_line : Option ℕ → List ℕ
megabytes_line None = []
megabytes_line (Some pages) = codes "megabytes " ++ (decimal (megabyte_tenths pages / 10)
    ++ (codes "." ++ (decimal (megabyte_tenths pages % 10) ++ codes "\n")))

-- The report of the plans for some live objects: a line for each group, the report for the words of all their blocks, and
-- the megabytes of the fewest pages with a plan. If size classes are given, blocks are made of these alone.
pub record IsObjectsReport (classes : Option (List ℕ)) (c : Config) (groups : List Objects) (largest : ℕ) (asks : List Asked)
    (text : List ℕ) : Type 0 where
  pub report : List ℕ
  pub of_words : IsPlansReport classes c (record { live = saturated (all_words groups); largest = largest }) asks report
  pub least : Option ℕ
  pub is_least : IsLeastPagesFor (made_of classes) c (saturated (all_words groups)) largest least
  pub told : text ≡ concat (map group_line groups) ++ (report ++ megabytes_line least)
