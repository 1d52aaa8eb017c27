-- The lines of windows.
use Rattle.std.specs.Prelude.{◌≡◌, ℕ, ◌*◌, ◌/◌, ◌<◌, max, ◌⊎◌, List, ◌++◌, codes, decimal}
use Rattle.std.specs.List.{AllZip, concat}
use Rattle.size_classes.specs.declared.config.Config.{Config}
use Rattle.quanta.specs.Timetable.{Timetable, last_end}
use Rattle.mmu_report.specs.Utilisation.{IsLeast, bound_of}
use Rattle.trace.specs.declared.fault.PlayFault.TheVariants.{Write, NoMemory}
use Rattle.trace.specs.Streams.{GrowsByPart}
use Rattle.program.specs.declared.fault.RunFault.{RunFault}
use Rattle.program.specs.declared.fault.RunFault.TheVariants.{Text}

-- the ticks that have passed, up to the end of the last interval
abbrev pub span_of : Timetable → ℕ
span_of t = max t.clock (last_end t.intervals)

-- the line of a window of no tick, or of one that is longer than the time that has passed
abbrev pub no_window : ℕ → List ℕ
no_window window = codes "window " ++ (decimal window ++ codes " none\n")

-- the line of a window in which the mutators have at least `least` ticks, with the ticks that the schedule promises them,
-- and `least` as a share in thousandths
abbrev pub window_with : ℕ → ℕ → ℕ → ℕ → List ℕ
window_with window least bound permille = codes "window "
    ++ (decimal window ++ (codes " least "
    ++ (decimal least ++ (codes " bound "
    ++ (decimal bound ++ (codes " permille " ++ (decimal permille ++ codes "\n")))))))

-- The line of a window says the fewest ticks of its mutators and those that are promised, or that there is no such
-- window.
abbrev pub IsWindowLine : Config → Timetable → ℕ → List ℕ → Type 0
IsWindowLine config t window line =
    (((window ≡ 0) ⊎ (span_of t < window)) × (line ≡ no_window window))
    ⊎ ((least : ℕ) × (0 < window) × IsLeast t.intervals (span_of t) window least
    × (line ≡ window_with window least (bound_of config.collector_ticks config.mutator_ticks window)
    (1000 * least / window)))

-- The line of each window was written.
pub record AllTold (config : Config) (t : Timetable) (windows taken taken' : List ℕ) : Type 0 where
  pub lines : List (List ℕ)
  pub each : AllZip (IsWindowLine config t) windows lines
  pub written : taken' ≡ taken ++ concat lines

-- A fault came after the lines of the first windows: memory was refused, or a write failed within these lines.
pub record FirstTold (config : Config) (t : Timetable) (windows : List ℕ) (fault : RunFault)
    (taken taken' : List ℕ) : Type 0 where
  pub first : List ℕ
  pub behind : List ℕ
  pub whole : windows ≡ first ++ behind
  pub lines : List (List ℕ)
  pub each : AllZip (IsWindowLine config t) first lines
  pub written : ((fault ≡ Text NoMemory) × (taken' ≡ taken ++ concat lines))
      ⊎ ((fault ≡ Text Write) × GrowsByPart taken taken' (concat lines))
