-- The plans that are written for live data.
use Rattle.std.specs.Prelude.{◌≡◌, ℕ, ◌*◌, ◌<◌, ◌≤◌, ◌⊎◌, List, Option, option_map, Result, Err}
use Rattle.size_classes.specs.declared.class.TheConstants.{PAGE_WORDS}
use Rattle.size_classes.specs.declared.config.Config.{Config}
use Rattle.size_classes.specs.declared.config.TheConstants.{MOST_HEAP_PAGES}
use Rattle.command_line.specs.declared.job.LiveData.{LiveData}
use Rattle.command_line.specs.declared.job.LiveData.TheVariants as lives
use Rattle.command_line.specs.declared.job.Objects.{Objects}
use Rattle.command_line.specs.declared.job.Program.{Program}
use Rattle.trace.specs.Streams.{Taken}
use Rattle.plans.specs.Objects.{all_words, IsObjectsReport}
use Rattle.plans.specs.Report.{IsPlansReport}
use Rattle.program.specs.declared.fault.Ending.{Ending}
use Rattle.program.specs.declared.fault.RunFault.{RunFault}
use Rattle.program.specs.Faults.{IsOfWords}
use Rattle.program.specs.Told.{ReportTold}

-- the most words that a heap may have
abbrev pub most_words : ℕ
most_words = MOST_HEAP_PAGES * PAGE_WORDS

-- The words of a run were refused, and nothing was written.
abbrev pub WordsRefused : Taken → Result Ending RunFault → Type 0
WordsRefused taken result = (fault : RunFault) × IsOfWords fault × (result ≡ Err fault) × (taken.after ≡ taken.before)

-- the size classes of which a program asks for blocks, if not for all
abbrev pub classes_of : Program → Option (List ℕ)
classes_of program = option_map (λ said. said.items) program.classes

-- A program's live objects were refused because their blocks have more words than a heap may have. Or they have no more, and
-- the report of the plans for them was written.
abbrev pub ObjectsTold : List Objects → Program → Config → Taken → Result Ending RunFault → Type 0
ObjectsTold groups program config taken result =
    ((most_words < all_words groups) × WordsRefused taken result)
    ⊎ ((all_words groups ≤ most_words)
    × ReportTold (IsObjectsReport (classes_of program) config groups program.largest program.asks.items) taken result)

-- The plans for this live data of a program were written.
abbrev pub LiveTold : LiveData → Program → Config → Taken → Result Ending RunFault → Type 0
LiveTold (lives.Words n) program config taken result =
    ReportTold (IsPlansReport (classes_of program) config (record { live = n; largest = program.largest }) program.asks.items)
    taken result
LiveTold (lives.Objects groups) program config taken result = ObjectsTold groups.items program config taken result

-- The plans for a program were written.
abbrev pub PlansTold : Program → Config → Taken → Result Ending RunFault → Type 0
PlansTold program = LiveTold program.live program
