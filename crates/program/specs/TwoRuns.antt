-- The runs of a trace on two configurations, drawn together.
use Rattle.std.specs.Prelude.{◌≡◌, ◌⊎◌, ℕ, true, List, [], ◌++◌, Option, Some, None, Result, Err, String, string_bytes, codes}
use Rattle.std.specs.Borrow.{Bor}
use Rattle.std.specs.declared.alloc.Global.{Global}
use Rattle.size_classes.specs.declared.config.Config.{Config}
use Rattle.trace.specs.declared.fault.PlayFault.{PlayFault}
use Rattle.trace.specs.Streams.{Given, Taken}
use Rattle.plans.specs.Bars.{PlansTable}
use Rattle.pictures.specs.Data.{DataTold}
use Rattle.command_line.specs.declared.job.Form.{Form}
use Rattle.command_line.specs.declared.job.Form.TheVariants as forms
use Rattle.viewer.specs.declared.page.TheConstants.{HEAD, BETWEEN, FOOT}
use Rattle.program.specs.declared.configs.NamedConfig.{NamedConfig}
use Rattle.program.specs.declared.fault.Ending.{Ending}
use Rattle.program.specs.declared.fault.RunFault.{RunFault}
use Rattle.program.specs.declared.two_runs.TwoRuns.{TwoRuns}
use Rattle.program.specs.Answered.{data_before}
use Rattle.program.specs.Faults.{IsUnreadable}
use Rattle.program.specs.Names.{files_member}
use Rattle.program.specs.Texts.{ReadsText, IsRest}
use Rattle.program.specs.Told.{ReportTold, ToldOf}

-- the name of the file of a trace; standard input has this one
abbrev pub trace_name : Option (Bor (List ℕ)) → List ℕ
trace_name None = codes "-"
trace_name (Some name) = name.now

-- the members before the data of a run: the names of its files, and the plans
abbrev pub IsHeading : TwoRuns → NamedConfig → List ℕ → Type 0
IsHeading runs of text = (plans : List ℕ) × PlansTable of.config runs.live plans
    × (text ≡ files_member of.name.now (trace_name runs.trace) ++ plans)

-- the data of two runs in a form: one behind the other, or in the page that shows them
abbrev pub runs_in : Form → (head first other second : List ℕ) → List ℕ
runs_in forms.Data head first other second = data_before (data_before [] other second) head first
runs_in forms.Page head first other second =
    HEAD.now ++ data_before (BETWEEN.now ++ data_before FOOT.now other second) head first

-- the text that shows two runs, by their data
abbrev pub AreRuns : TwoRuns → List ℕ → List ℕ → List ℕ → Type 0
AreRuns runs first second text = (head : List ℕ) × (other : List ℕ) × IsHeading runs runs.first head
    × IsHeading runs runs.second other × (text ≡ runs_in runs.form head first other second)

-- The trace of this text was played on a new heap, and these are the data of the run; or a fault ended the play.
abbrev pub TextRun : Config → List ℕ → Result (String Global) PlayFault → Type 0
TextRun config text how = (given : Given) × ReadsText text given × DataTold config given how

-- Once the first run was made, the second was, and both were written; or a fault ended the second.
abbrev pub SecondTold : TwoRuns → List ℕ → String Global → Taken → Result Ending RunFault → Type 0
SecondTold runs text first taken result =
    (how : Result (String Global) PlayFault) × TextRun runs.second.config text how
    × ToldOf (λ second. ReportTold (AreRuns runs (string_bytes first) (string_bytes second))) how taken result

-- The trace of this text was played on both configurations, and both runs were written; or a fault ended the first.
abbrev pub BothTold : TwoRuns → List ℕ → Taken → Result Ending RunFault → Type 0
BothTold runs text taken result =
    (how : Result (String Global) PlayFault) × TextRun runs.first.config text how
    × ToldOf (SecondTold runs text) how taken result

-- A trace was read to its end, and its runs on two configurations were written. Or it couldn't be read, and nothing was
-- written.
abbrev pub RunsTold : TwoRuns → Given → Taken → Result Ending RunFault → Type 0
RunsTold runs given taken result =
    ((text : List ℕ) × IsRest given text × BothTold runs text taken result)
    ⊎ ((fault : RunFault) × IsUnreadable true fault × (result ≡ Err fault) × (taken.after ≡ taken.before))
