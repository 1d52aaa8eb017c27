-- Texts that a job writes as its result.
use Rattle.std.specs.Prelude.{◌≡◌, ℕ, ◌⊎◌, List, ◌++◌, Result, Ok, Err, String, string_bytes}
use Rattle.std.specs.declared.alloc.Global.{Global}
use Rattle.trace.specs.declared.fault.PlayFault.{PlayFault}
use Rattle.trace.specs.declared.fault.PlayFault.TheVariants.{Write, NoMemory}
use Rattle.trace.specs.Streams.{Taken, GrowsByPart}
use Rattle.program.specs.declared.fault.Ending.{Ending}
use Rattle.program.specs.declared.fault.Ending.TheVariants.{Done}
use Rattle.program.specs.declared.fault.RunFault.{RunFault}
use Rattle.program.specs.declared.fault.RunFault.TheVariants.{Text}

-- A text is written, and the run ends so; or a part of it is, and a write failed.
abbrev pub TextWritten : Ending → List ℕ → Taken → Result Ending RunFault → Type 0
TextWritten last text taken (Ok ending) = (ending ≡ last) × (taken.after ≡ taken.before ++ text)
TextWritten last text taken (Err fault) = (fault ≡ Text Write) × GrowsByPart taken.before taken.after text

-- A text that was made is written, or a part of it, if a write failed. Or memory was refused for it, and nothing is
-- written.
abbrev pub MadeTextTold : {E : Type 0} → Result (String Global) E → Taken → Result Ending RunFault → Type 0
MadeTextTold (Ok text) taken result = TextWritten Done (string_bytes text) taken result
MadeTextTold (Err refused) taken (Ok ending) = ⊥
MadeTextTold (Err refused) taken (Err fault) = (fault ≡ Text NoMemory) × (taken.after ≡ taken.before)

-- A report is written: all of it, or a part, if a write failed; or nothing, if memory was refused.
abbrev pub ReportTold : (List ℕ → Type 0) → Taken → Result Ending RunFault → Type 0
ReportTold IsReport taken (Ok ending) = (text : List ℕ) × IsReport text × (ending ≡ Done)
    × (taken.after ≡ taken.before ++ text)
ReportTold IsReport taken (Err fault) =
    ((text : List ℕ) × IsReport text × (fault ≡ Text Write) × GrowsByPart taken.before taken.after text)
    ⊎ ((fault ≡ Text NoMemory) × (taken.after ≡ taken.before))

-- A fault ended the run before its report: nothing is written.
abbrev pub NothingTold : PlayFault → Taken → Result Ending RunFault → Type 0
NothingTold why taken result = (result ≡ Err (Text why)) × (taken.after ≡ taken.before)

-- Once `A` was taken of an input, this is reported of it; or a fault ended the taking.
abbrev pub ToldOf : {A : Type 0} → (A → Taken → Result Ending RunFault → Type 0) → Result A PlayFault → Taken
    → Result Ending RunFault → Type 0
ToldOf Tells (Ok it) taken result = Tells it taken result
ToldOf Tells (Err why) taken result = NothingTold why taken result
