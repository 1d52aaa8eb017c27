-- Reports of the pages that a trace needs, and of how many are enough for the trace itself.
use Rattle.std.specs.Prelude.{◌≡◌, ℕ, ◌+◌, ◌≤◌, ◌⊎◌, nat_le, Bool, true, false, List, ◌++◌, Option, Some, None, Result, Ok, Err}
use Rattle.size_classes.specs.Config.{IsOnPages}
use Rattle.size_classes.specs.declared.config.Config.{Config}
use Rattle.size_classes.specs.declared.config.TheConstants.{MOST_PAGES}
use Rattle.trace.specs.declared.fault.PlayFault.{PlayFault}
use Rattle.trace.specs.Streams.{Given, Taken}
use Rattle.sizing.specs.declared.needed.Needed.{Needed}
use Rattle.sizing.specs.declared.measured.Measured.{Measured}
use Rattle.sizing.specs.Reckoned.{needed_pages}
use Rattle.inspector.specs.NeededReport.{needed_told, room_line}
use Rattle.program.specs.declared.fault.Ending.{Ending}
use Rattle.program.specs.declared.fault.RunFault.{RunFault}
use Rattle.program.specs.Faults.{IsUnreadable}
use Rattle.program.specs.Texts.{TextMeasured, IsRest}
use Rattle.program.specs.Told.{ReportTold, ToldOf}

-- whether a configuration has enough pages for these needs; not if they are unknown
abbrev pub is_enough : Config → Option Needed → Bool
is_enough c None = false
is_enough c (Some n) = nat_le (needed_pages c n) c.pages

module _ (config : Config) (text : List ℕ) where
  -- The trace of a text was measured on this many pages, with moving or without: they are enough for its needs there, or
  -- not.
  abbrev pub Measures : Bool → ℕ → Bool → Config → Type 0
  Measures moves pages enough c = IsOnPages config pages moves c
      × (m : Measured) × TextMeasured c text (Ok m) × (is_enough c m.needed ≡ enough)

  -- This many pages are too few for the trace.
  abbrev pub AreTooFew : Bool → ℕ → Type 0
  AreTooFew moves pages = (c : Config) × Measures moves pages false c

  -- This many pages are enough in this configuration: without moving, if they are enough so, else with moving. Or they
  -- are too few either way.
  abbrev pub IsEnoughOn : ℕ → Option Config → Type 0
  IsEnoughOn pages None = AreTooFew false pages × AreTooFew true pages
  IsEnoughOn pages (Some c) = Measures false pages true c ⊎ (AreTooFew false pages × Measures true pages true c)

  -- This configuration has enough pages, and one page fewer is too few. Or as many pages as a file may ask for are too
  -- few.
  abbrev pub IsFound : Option Config → Type 0
  IsFound None = IsEnoughOn MOST_PAGES None
  IsFound (Some c) = (c.pages ≤ MOST_PAGES) × IsEnoughOn c.pages (Some c)
      × ((fewer : ℕ) → 1 ≤ fewer → fewer + 1 ≡ c.pages → IsEnoughOn fewer None)

  -- Measuring the trace on some number of pages, with moving or without, ended with this fault.
  abbrev pub FailsBy : PlayFault → Type 0
  FailsBy why = (moves : Bool) × (pages : ℕ) × (c : Config) × IsOnPages config pages moves c × TextMeasured c text (Err why)

  -- The trace was measured, and then this holds; or measuring it ended with a fault.
  abbrev pub OrFault : {A : Type 0} → (A → Type 0) → Result A PlayFault → Type 0
  OrFault Is (Ok it) = Is it
  OrFault Is (Err why) = FailsBy why

  -- Once the trace was measured on the configuration, the report says what it needs there, and how many pages are enough
  -- for it.
  abbrev pub RoomTold : Measured → Taken → Result Ending RunFault → Type 0
  RoomTold m taken result = (how : Result (Option Config) PlayFault) × OrFault IsFound how
      × ToldOf (λ found. ReportTold (λ report. report ≡ needed_told config m.needed ++ room_line found)) how taken result

  -- A trace of this text was measured on a new heap, and what it needs was reported. If the pages are enough,
  -- `TraceMeasured` promises room to this run, and to the runs that the report names. On as many pages as a line gives
  -- for a policy, it promises room to the runs that this line names. It also promises room to the run on the
  -- configuration that was found.
  abbrev pub NeededTold : Taken → Result Ending RunFault → Type 0
  NeededTold taken result =
      (how : Result Measured PlayFault) × TextMeasured config text how × ToldOf RoomTold how taken result

-- A trace was read to its end, and the pages that it needs were reported from its text. Or it couldn't be read, and
-- nothing was written.
abbrev pub DemandTold : Config → Given → Taken → Result Ending RunFault → Type 0
DemandTold config given taken result =
    ((text : List ℕ) × IsRest given text × NeededTold config text taken result)
    ⊎ ((fault : RunFault) × IsUnreadable true fault × (result ≡ Err fault) × (taken.after ≡ taken.before))
