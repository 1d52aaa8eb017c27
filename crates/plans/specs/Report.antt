-- The report of the plans for a number of live words: lines of text.
use Rattle.std.specs.Prelude.{◌≡◌, ℕ, ◌+◌, ◌*◌, ◌/◌, nat_lt, if◌then◌else◌, Bool, true, List, [], ◌∷◌, ◌++◌, Option, Some, None, codes, decimal}
use Rattle.std.specs.Int.{div_ceil}
use Rattle.std.specs.List.{concat}
use Rattle.size_classes.specs.Config.{IsOnPages}
use Rattle.size_classes.specs.declared.config.Config.{Config}
use Rattle.size_classes.specs.declared.config.TheConstants.{MOST_PAGES}
use Rattle.paced.specs.declared.plan.Plan.{Plan}
use Rattle.fragmentation.specs.Flow.{classes_made}
use Rattle.paced.specs.Rooms.{among, made_of, planned_flow}
use Rattle.paced.specs.Planning.{quanta_on, IsFastestFor, IsLeastPagesFor}
use Rattle.command_line.specs.declared.job.Asked.{Asked}
use Rattle.plans.specs.declared.needs.Needs.{Needs}
use Rattle.plans.specs.Order.{OneForEach}
use Rattle.plans.specs.Waits.{waits_lines}

-- the line with the live words, the units of a quantum, and the number of size classes, if some are given
abbrev pub live_line : Config → ℕ → Option (List ℕ) → List ℕ
live_line c live None =
    codes "live " ++ (decimal live ++ (codes " units " ++ (decimal (c.collector_ticks * c.rate) ++ codes "\n")))
live_line c live (Some used) =
    codes "live " ++ (decimal live ++ (codes " units " ++ (decimal (c.collector_ticks * c.rate)
    ++ (codes " classes " ++ (decimal (classes_made (among used)) ++ codes "\n")))))

-- the fewest pages on which there is a plan, with the keys to set for them
abbrev pub fewest_line : Option ℕ → List ℕ
fewest_line None = codes "no number of pages up to 1048576 has a plan\n"
fewest_line (Some pages) = codes "fewest " ++ (decimal pages ++ (
    if nat_lt MOST_PAGES pages then codes ": more than a file may ask for\n"
    else codes ": pages = " ++ (decimal pages ++ (codes ", defrag_below = " ++ (decimal (pages + 1)
    ++ (codes ", defrag_pages = " ++ (decimal pages ++ codes "\n")))))))

-- tenths of a unit for each of these words, which cost this many units together, rounded up
abbrev pub tenths_of : ℕ → ℕ → ℕ
tenths_of units words = div_ceil (10 * units) words

-- The line of a plan on a configuration's pages, for this many live words. It has the most quanta that a cycle takes, the
-- words that may be requested at each of them and in a whole cycle, and the tenths of a unit that the collector spends
-- for each word.
abbrev pub plan_line : Config → ℕ → Option Plan → List ℕ
plan_line c live None = codes "pages " ++ (decimal c.pages ++ codes ": no plan\n")
plan_line c live (Some plan) = codes "pages " ++ (decimal c.pages
    ++ (codes " quanta " ++ (decimal (quanta_on c (planned_flow live plan) c.pages)
    ++ (codes " words " ++ (decimal plan.quantum_words
    ++ (codes " cycle " ++ (decimal plan.cycle_words
    ++ (codes " tenths " ++ (decimal (tenths_of (c.collector_ticks * c.rate) plan.quantum_words)
    ++ codes "\n")))))))))

-- The fastest plan on a number of pages, with a configuration that has as many. Every cycle moves and may empty all of
-- them, and blocks are made of these classes alone. The plan has room for live objects, and for the largest.
pub record FastestOn (makes : ℕ → Bool) (c : Config) (needs : Needs) (pages : ℕ) : Type 0 where
  pub on : Config
  pub is_on : IsOnPages c pages true on
  pub plan : Option Plan
  pub fastest : IsFastestFor makes on needs.live needs.largest plan

-- the line of a number of pages, of the fastest plan on as many, and a line for each number of words that is asked for
abbrev pub IsRow : (ℕ → Bool) → Config → Needs → List Asked → ℕ → List ℕ → Type 0
IsRow makes c needs asks pages lines = (of : FastestOn makes c needs pages)
    × (lines ≡ plan_line of.on needs.live of.plan ++ waits_lines of.on needs.live asks of.plan)

-- the lines of each of some numbers of pages that a heap may have, in rising order, each once
pub record IsTable (IsOf : ℕ → List ℕ → Type 0) (numbers text : List ℕ) : Type 0 where
  pub rows : List (List ℕ)
  pub each : OneForEach IsOf numbers rows
  pub told : text ≡ concat rows

-- the numbers of pages that have a line: the configuration's own, the fewest, and some more
abbrev pub numbers_told : Config → Option ℕ → List ℕ
numbers_told c None = c.pages ∷ []
numbers_told c (Some few) = c.pages ∷ few ∷ (few + few / 4) ∷ (few + few / 2) ∷ (2 * few) ∷ (3 * few) ∷ []

-- The report of the plans with room for these words, and for how long a program waits that asks for some words. If size
-- classes are given, blocks are made of these alone.
pub record IsPlansReport (classes : Option (List ℕ)) (c : Config) (needs : Needs) (asks : List Asked) (text : List ℕ)
    : Type 0 where
  pub least : Option ℕ
  pub is_least : IsLeastPagesFor (made_of classes) c needs.live needs.largest least
  pub rows : List ℕ
  pub table : IsTable (IsRow (made_of classes) c needs asks) (numbers_told c least) rows
  pub told : text ≡ live_line c needs.live classes ++ (fewest_line least ++ rows)

-- the number of these size classes, and the fewest pages with a plan if blocks are made of them alone
abbrev pub IsClassesLine : Config → ℕ → List ℕ → List ℕ → Type 0
IsClassesLine c live used line = (least : Option ℕ) × IsLeastPagesFor (among used) c live 0 least
    × (line ≡ codes "classes " ++ (decimal (classes_made (among used)) ++ (codes ": " ++ fewest_line least)))
