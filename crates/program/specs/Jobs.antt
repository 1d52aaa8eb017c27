-- Plays and threads: the bytes that they read and write.
use Rattle.std.specs.Prelude.{◌≡◌, ℕ, Bool, true, false, ◌⊎◌, ◌++◌, map, replicate, Result, Ok, Err}
use Rattle.size_classes.specs.declared.config.Config.{Config}
use Rattle.trace.specs.declared.fault.PlayFault.{PlayFault}
use Rattle.trace.specs.declared.fault.PlayFault.TheVariants.{Write, NoMemory}
use Rattle.trace.specs.declared.version.Version.{Version}
use Rattle.trace.specs.Streams.{Given, Taken, GrowsByPart}
use Rattle.trace.specs.Scripts.{ReadScripts, ScriptsRead}
use Rattle.heap_server.specs.declared.play.Outcome.{Outcome}
use Rattle.heap_model.specs.Settings.{settings_by}
use Rattle.heap_server.specs.Played.{IsOutcome}
use Rattle.trace.specs.declared.player.style.Style.{Style}
use Rattle.trace.specs.declared.player.style.Style.TheVariants.{Entries}
use Rattle.trace.specs.New.{IsNew}
use Rattle.trace.specs.Player.{PlayerState}
use Rattle.trace.specs.Playing.{session, OrHeld, IsSentUpTo, Played, text_written}
use Rattle.program.specs.declared.fault.Ending.{Ending}
use Rattle.program.specs.declared.fault.Ending.TheVariants.{Done}
use Rattle.program.specs.declared.fault.RunFault.{RunFault}
use Rattle.program.specs.declared.fault.RunFault.TheVariants.{Text, NotComplete}
use Rattle.program.specs.Told.{ToldOf}

-- Memory was refused before anything was read or written.
abbrev pub NotBegun : Given → Taken → Result Ending RunFault → Type 0
NotBegun given taken result =
    (given.after ≡ given.before) × (taken.after ≡ taken.before) × (result ≡ Err (Text NoMemory))

-- the end of a run whose play ends so
abbrev pub ends_as : Result (Unit {0}) PlayFault → Result Ending RunFault
ends_as (Ok all) = Ok Done
ends_as (Err fault) = Err (Text fault)

-- A new player played a trace, and wrote each command in this style. If the sink holds bytes back, they are of
-- lines that were read at once.
abbrev pub TracePlayed : Style → Config → Given → Taken → Result Ending RunFault → Type 0
TracePlayed style config given taken result =
    NotBegun given taken result
    ⊎ ((old : PlayerState) × (new : PlayerState) × (how : Result (Unit {0}) PlayFault) × IsNew config old
    × OrHeld style taken how (Played style given (session old taken.before) (session new taken.after))
    × IsSentUpTo style given (session old taken.before) (session new taken.after) taken.sent × (result ≡ ends_as how))

-- the end of a run whose scripts and budgets were all done, or not
abbrev pub finish : Bool → Result Ending RunFault
finish true = Ok Done
finish false = Err NotComplete

-- The history of a play was written, with the version of the scripts; or a part of it, if a write failed.
abbrev pub HistoryWritten : Version → Outcome → Taken → Result Ending RunFault → Type 0
HistoryWritten version outcome taken result =
    ((result ≡ finish outcome.all) × (taken.after ≡ taken.before
    ++ text_written Entries version outcome.recorded.course.history))
    ⊎ ((result ≡ Err (Text Write)) × GrowsByPart taken.before taken.after
    (text_written Entries version outcome.recorded.course.history))

-- Threads ran scripts beside this many quanta of a budget, and the history was written. It is a merge of the scripts, if
-- all was done. Or memory was refused, and nothing was written.
abbrev pub RunAfter : ℕ → ℕ → Config → ReadScripts → Taken → Result Ending RunFault → Type 0
RunAfter turns budget config read taken result =
    ((result ≡ Err (Text NoMemory)) × (taken.after ≡ taken.before))
    ⊎ ((outcome : Outcome) × IsOutcome (settings_by config) (map (λ s. s.items) read.1.items)
    (replicate turns budget) outcome × HistoryWritten read.0 outcome taken result)

-- Scripts were read and run, and their history was written.
abbrev pub ScriptsRun : ℕ → ℕ → Config → Given → Taken → Result Ending RunFault → Type 0
ScriptsRun turns budget config given taken result =
    (how : Result ReadScripts PlayFault) × ScriptsRead given config.mutators how
    × ToldOf (RunAfter turns budget config) how taken result
