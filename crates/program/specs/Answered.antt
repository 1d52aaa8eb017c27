-- Answers to questions about an input.
use Rattle.std.specs.Prelude.{◌≡◌, ℕ, ◌⊎◌, List, [], ◌∷◌, ◌++◌, Option, codes, decimal}
use Rattle.std.specs.Prelude.{Result, Ok, Err, String, string_bytes}
use Rattle.std.specs.declared.alloc.AllocError.{AllocError}
use Rattle.std.specs.declared.alloc.Global.{Global}
use Rattle.size_classes.specs.declared.config.Config.{Config}
use Rattle.size_classes.specs.Config.{limits_of}
use Rattle.graph_heap.specs.Graph.{Graph, opening}
use Rattle.trace.specs.declared.fault.PlayFault.{PlayFault}
use Rattle.trace.specs.declared.fault.PlayFault.TheVariants.{NoMemory}
use Rattle.trace.specs.Streams.{Given, Taken}
use Rattle.trace.specs.declared.transcripts.histories.Checked.{Checked}
use Rattle.trace.specs.declared.transcripts.histories.Checked.TheVariants.{Good, Wrong}
use Rattle.trace.specs.Histories.{EntriesChecked}
use Rattle.inspector.specs.declared.cycles.cycle.Cycles.{Cycles}
use Rattle.inspector.specs.declared.cycles.text.Layout.{Layout}
use Rattle.inspector.specs.Taking.{CyclesTaken}
use Rattle.inspector.specs.CyclesText.{cycles_told}
use Rattle.inspector.specs.NeededReport.{IsPaceReport}
use Rattle.sizing.specs.declared.measured.Measured.{Measured}
use Rattle.sizing.specs.Measured.{least_units, HasUnits}
use Rattle.sizing.specs.Measuring.{TraceMeasured}
use Rattle.plans.specs.declared.live.MostLive.{MostLive}
use Rattle.plans.specs.Live.{MostLiveFound, IsRunPlans}
use Rattle.plans.specs.Bars.{PlansTable}
use Rattle.pictures.specs.Data.{DataTold}
use Rattle.command_line.specs.declared.job.Form.{Form}
use Rattle.command_line.specs.declared.job.Form.TheVariants as forms
use Rattle.viewer.specs.declared.page.TheConstants.{HEAD, FOOT}
use Rattle.program.specs.declared.answer_job.Answer.{Answer}
use Rattle.program.specs.declared.answer_job.Question.{Question}
use Rattle.program.specs.declared.answer_job.Question.TheVariants as questions
use Rattle.program.specs.declared.fault.Ending.{Ending}
use Rattle.program.specs.declared.fault.Ending.TheVariants.{Done, WrongReply}
use Rattle.program.specs.declared.fault.RunFault.{RunFault}
use Rattle.program.specs.Told.{TextWritten, ToldOf}

-- The entries of a history were checked from the opening graph heap; or memory was refused before anything was read.
abbrev pub EntriesTaken : Config → Given → Result Checked PlayFault → Type 0
EntriesTaken config given how = ((given.after ≡ given.before) × (how ≡ Err NoMemory))
    ⊎ ((new : Graph) × EntriesChecked given (opening (limits_of config)) new how)

-- the line that reports on a checked history
abbrev pub told_of : Checked → List ℕ
told_of (Good entries) = codes "ok " ++ decimal entries ++ 10 ∷ []
told_of (Wrong line) = codes "wrong at line " ++ decimal line ++ 10 ∷ []

-- how a run ends that checked a history
abbrev pub verdict : Checked → Ending
verdict (Good entries) = Done
verdict (Wrong line) = WrongReply

-- the lines of the pace of a trace, with quanta of the fewest units that any had or that the schedule gives
pub record TellsPace (config : Config) (m : Measured) (text : List ℕ) : Type 0 where
  pub slow : Config
  pub units : HasUnits config (least_units config m.budget) slow
  pub report : IsPaceReport slow m.pace text

-- The answer has this text and ending, if there is memory for the text.
abbrev pub Offers : Result (String Global) AllocError → Ending → Result Answer PlayFault → Type 0
Offers (Ok text) ending answered = answered ≡ Ok (record { text = text; ending = ending })
Offers (Err refused) ending answered = answered ≡ Err NoMemory

-- Once `A` was taken of an input, the answer says this of it, or there was no memory for the text. Or taking it ended in
-- a fault, and so does the answer.
abbrev pub AnswerOf : {A : Type 0} → (A → Answer → Type 0) → Result A PlayFault → Result Answer PlayFault → Type 0
AnswerOf Says (Ok it) (Ok answer) = Says it answer
AnswerOf Says (Ok it) (Err why) = why ≡ NoMemory
AnswerOf Says (Err why) answered = answered ≡ Err why

-- A history was checked from the opening graph heap, and the answer is its line.
abbrev pub HistoryChecked : Config → Given → Result Answer PlayFault → Type 0
HistoryChecked config given answered = (how : Result Checked PlayFault) × EntriesTaken config given how
    × AnswerOf (λ checked answer. (string_bytes answer.text ≡ told_of checked) × (answer.ending ≡ verdict checked))
    how answered

-- A trace was played on a new heap, and the answer reports the cycles of the run.
abbrev pub CyclesTold : Layout → Config → Given → Result Answer PlayFault → Type 0
CyclesTold layout config given answered = (how : Result Cycles PlayFault) × CyclesTaken config given how
    × AnswerOf (λ log answer. (string_bytes answer.text ≡ cycles_told layout log.items.items) × (answer.ending ≡ Done))
    how answered

-- A trace was measured on a new heap, and the answer reports the pages that its pace needs. If they suffice,
-- `TraceMeasured` promises room to this run, and to the runs that the answer names.
abbrev pub PaceTold : Config → Given → Result Answer PlayFault → Type 0
PaceTold config given answered = (how : Result Measured PlayFault) × TraceMeasured config given how
    × AnswerOf (λ m answer. TellsPace config m (string_bytes answer.text) × (answer.ending ≡ Done)) how answered

-- A trace was played on a new heap, and the answer reports the plans for the most words that its live objects had. It
-- also reports the fewest pages with a plan for the size classes of which it made blocks.
abbrev pub PlanTold : Config → Given → Result Answer PlayFault → Type 0
PlanTold config given answered = (how : Result MostLive PlayFault) × MostLiveFound config given how
    × AnswerOf (λ live answer. IsRunPlans config live (string_bytes answer.text) × (answer.ending ≡ Done)) how answered

-- the data of a run, with a text after them
abbrev pub data_before : List ℕ → List ℕ → List ℕ → List ℕ
data_before behind plans run =
    codes "{\n" ++ (plans ++ (run ++ (codes "\"format\":\"metronome heap\",\"version\":1}\n" ++ behind)))

-- the data of a run in a form: alone, or in the page that shows them
abbrev pub in_form : Form → List ℕ → List ℕ → List ℕ
in_form forms.Data plans run = data_before [] plans run
in_form forms.Page plans run = HEAD.now ++ data_before FOOT.now plans run

-- the data of a run in a form, with the plans for this many live words
abbrev pub IsRunText : Form → Option ℕ → Config → List ℕ → List ℕ → Type 0
IsRunText form live config run text = (plans : List ℕ) × PlansTable config live plans × (text ≡ in_form form plans run)

-- A trace was played on a new heap, and the answer is the data of the run in a form.
abbrev pub RunTold : Form → Option ℕ → Config → Given → Result Answer PlayFault → Type 0
RunTold form live config given answered = (how : Result (String Global) PlayFault) × DataTold config given how
    × AnswerOf (λ run answer. IsRunText form live config (string_bytes run) (string_bytes answer.text)
    × (answer.ending ≡ Done)) how answered

-- The answer to a question about an input is this.
abbrev pub IsAnswer : Question → Config → Given → Result Answer PlayFault → Type 0
IsAnswer questions.History config given answered = HistoryChecked config given answered
IsAnswer (questions.Cycles layout) config given answered = CyclesTold layout config given answered
IsAnswer questions.Pace config given answered = PaceTold config given answered
IsAnswer questions.Plan config given answered = PlanTold config given answered
IsAnswer (questions.Run form live) config given answered = RunTold form live config given answered

-- An answer is written.
abbrev pub AnswerWritten : Answer → Taken → Result Ending RunFault → Type 0
AnswerWritten answer taken result = TextWritten answer.ending (string_bytes answer.text) taken result

-- A question about an input was answered, and the answer was written.
abbrev pub Answered : Question → Config → Given → Taken → Result Ending RunFault → Type 0
Answered question config given taken result =
    (answered : Result Answer PlayFault) × IsAnswer question config given answered
    × ToldOf AnswerWritten answered taken result
