-- The number of failed reads and writes in a run that ends so.
use Rattle.std.proofs.Common.{◌≡◌, ℕ, ◌+◌, Bool, true, false, List, [], inl, inr, refl, sym, subst, ap, ◌∙◌}
use Rattle.std.specs.Prelude.{Result, Ok, Err}
use Rattle.std.specs.Result.{IsErrAnd}
use Rattle.graph_heap.specs.Graph.{Graph, opening}
use Rattle.size_classes.specs.declared.config.Config.{Config as Settings}
use Rattle.size_classes.specs.Config.{limits_of}
use Rattle.trace.proofs.LinesProcessed.{reached_by}
use Rattle.trace.specs.declared.fault.PlayFault.{PlayFault}
use Rattle.trace.specs.declared.fault.PlayFault.TheVariants as texts
use Rattle.trace.specs.LinesProcessed.{Reached, ProcessingEnds, reads_failed, writes_failed}
use Rattle.trace.specs.TextLine.{Text as LineText}
use Rattle.trace.specs.Streams.{Given, Taken}
use Rattle.trace.specs.declared.transcripts.histories.Checked.{Checked}
use Rattle.trace.specs.Histories.{EntriesChecked, HistoryStops}
use Rattle.trace.specs.Scripts.{ReadScripts, AreScripts, ScriptsRead, ScriptStops}
use Rattle.trace.specs.declared.player.style.Style.TheVariants.{Nothing}
use Rattle.trace.specs.Playing.{Session, session, StopsText, Played}
use Rattle.trace.specs.Surveying.{NewRun, Surveyed}
use Rattle.trace.proofs.Lines.{nothing_fails}
use Rattle.pictures.specs.Data.{TellsData}
use Rattle.pictures.specs.GraphDrawn.{GraphDrawn}
use Rattle.inspector.specs.Taking.{TellsCycles}
use Rattle.plans.specs.Live.{TellsMostLive}
use Rattle.sizing.specs.Measuring.{RunMeasured}
use Rattle.size_classes.specs.declared.fault.ConfigFault.{ConfigFault}
use Rattle.documents.specs.declared.toml_table.ReadFault.{ReadFault}
use Rattle.documents.specs.declared.toml_table.ReadFault.TheVariants as settings
use Rattle.command_line.specs.declared.job.Words.{Words}
use Rattle.program.specs.declared.fault.RunFault.{RunFault}
use Rattle.program.specs.declared.fault.RunFault.TheVariants.{Text}
use Rattle.program.specs.Configs.{IsNotRead, AreNotRead}
use Rattle.program.specs.Faults.{of_settings, IsUnreadable, failed_reads, failed_writes}
use Rattle.program.specs.Files.{KnownFile}
use Rattle.program.specs.Jobs.{finish}
use Rattle.program.specs.declared.answer_job.Answer.{Answer}
use Rattle.program.specs.declared.answer_job.Question.{Question}
use Rattle.program.specs.declared.answer_job.Question.TheVariants as questions
use Rattle.program.specs.Answered.{EntriesTaken, AnswerOf, IsAnswer}
use Rattle.program.proofs.Finishing.{failed_so}

-- A run that ends in a fault counts as many as the fault.
reads_so : {A : Type 0} (r : Result A RunFault) (why : RunFault) → IsErrAnd r (λ e. e ≡ why) → failed_reads r ≡ failed_reads {A = A} (Err why)
reads_so r why h = ap failed_reads (failed_so r why h)

writes_so : {A : Type 0} (r : Result A RunFault) (why : RunFault) → IsErrAnd r (λ e. e ≡ why) → failed_writes r ≡ failed_writes {A = A} (Err why)
writes_so r why h = ap failed_writes (failed_so r why h)

-- A fault is handed on.
pub reads_on : {A : Type 0} (r : Result A RunFault) (fault : RunFault) (old new : ℕ) → IsErrAnd r (λ e. e ≡ fault) → new ≡ old + failed_reads {A = Unit {0}} (Err fault) → new ≡ old + failed_reads r
reads_on r fault old new h e = e ∙ ap (λ n. old + n) (sym (reads_so r fault h))

pub writes_on : {A : Type 0} (r : Result A RunFault) (fault : RunFault) (old new : ℕ) → IsErrAnd r (λ e. e ≡ fault) → new ≡ old + failed_writes {A = Unit {0}} (Err fault) → new ≡ old + failed_writes r
writes_on r fault old new h e = e ∙ ap (λ n. old + n) (sym (writes_so r fault h))

-- A fault of a text is handed on.
pub reads_text : {A : Type 0} (r : Result A RunFault) (fault : PlayFault) (old new : ℕ) → IsErrAnd r (λ e. e ≡ Text fault) → new ≡ old + reads_failed {A = Unit {0}} (Err fault) → new ≡ old + failed_reads r
reads_text r fault old new h e = reads_on r (Text fault) old new h e

pub writes_text : {A : Type 0} (r : Result A RunFault) (fault : PlayFault) (old new : ℕ) → IsErrAnd r (λ e. e ≡ Text fault) → new ≡ old + writes_failed {A = Unit {0}} (Err fault) → new ≡ old + failed_writes r
writes_text r fault old new h e = writes_on r (Text fault) old new h e

-- A fault of a text in which no read failed counts no failed read.
pub text_unread : {A : Type 0} (r : Result A RunFault) (fault : PlayFault) → IsErrAnd r (λ e. e ≡ Text fault) → reads_failed {A = Unit {0}} (Err fault) ≡ 0 → failed_reads r ≡ 0
text_unread r fault h none = reads_so r (Text fault) h ∙ none

pub text_unwritten : {A : Type 0} (r : Result A RunFault) (fault : PlayFault) → IsErrAnd r (λ e. e ≡ Text fault) → writes_failed {A = Unit {0}} (Err fault) ≡ 0 → failed_writes r ≡ 0
text_unwritten r fault h none = writes_so r (Text fault) h ∙ none

-- A run that ends in a failed write counts one.
pub one_written : {A : Type 0} (r : Result A RunFault) → IsErrAnd r (λ e. e ≡ Text texts.Write) → failed_writes r ≡ 1
one_written r h = writes_so r (Text texts.Write) h

pub none_read : {A : Type 0} (r : Result A RunFault) → IsErrAnd r (λ e. e ≡ Text texts.Write) → failed_reads r ≡ 0
none_read r h = reads_so r (Text texts.Write) h

-- A run that ends for lack of memory counts no failed read.
pub memory_unread : {A : Type 0} (r : Result A RunFault) → IsErrAnd r (λ e. e ≡ Text texts.NoMemory) → failed_reads r ≡ 0
memory_unread r h = reads_so r (Text texts.NoMemory) h

pub memory_unwritten : {A : Type 0} (r : Result A RunFault) → IsErrAnd r (λ e. e ≡ Text texts.NoMemory) → failed_writes r ≡ 0
memory_unwritten r h = writes_so r (Text texts.NoMemory) h

-- A run that draws a graph counts no failed read.
pub drawn_unread : (g : Graph) (most : ℕ) (taken : Taken) (how : Result (Unit {0}) PlayFault) → GraphDrawn g most taken how → reads_failed how ≡ 0
drawn_unread g most taken (Err texts.Read) h = elim h [ ]
drawn_unread g most taken how h = refl

-- A run of scripts counts no failed read.
pub finished_unread : (all : Bool) → failed_reads (finish all) ≡ 0
finished_unread true = refl
finished_unread false = refl

pub finished_unwritten : (all : Bool) → failed_writes (finish all) ≡ 0
finished_unwritten true = refl
finished_unwritten false = refl

-- The fault of a file that can't be read is no failed write.
unreadable_written : (failed : Bool) (fault : RunFault) → IsUnreadable failed fault → failed_writes {A = Unit {0}} (Err fault) ≡ 0
unreadable_written failed (Text texts.Write) u = elim u [ ]
unreadable_written failed fault u = refl

pub unreadable_unwritten : {A : Type 0} (r : Result A RunFault) (failed : Bool) (fault : RunFault) → IsErrAnd r (λ e. e ≡ fault) → IsUnreadable failed fault → failed_writes r ≡ 0
unreadable_unwritten r failed fault h u = writes_so r fault h ∙ unreadable_written failed fault u

settings_written : (why : ReadFault ConfigFault) → failed_writes {A = Unit {0}} (Err (of_settings why)) ≡ 0
settings_written (settings.Refused why) = refl
settings_written settings.NoMemory = refl

-- The fault of configurations that weren't read is no failed write.
pub not_read_unwritten : {A : Type 0} (r : Result A RunFault) (file : KnownFile) (fault : RunFault) → IsErrAnd r (λ e. e ≡ fault) → IsNotRead file fault → failed_writes r ≡ 0
not_read_unwritten r file fault h (inl (why, read, is)) = writes_so r fault h ∙ ap (λ w. failed_writes {A = Unit {0}} (Err w)) is ∙ settings_written why
not_read_unwritten r file fault h (inr u) = unreadable_unwritten r file.failed fault h u

pub configs_unwritten : {A : Type 0} (r : Result A RunFault) (named : List ℕ → KnownFile) (words : Words) (fault : RunFault) → IsErrAnd r (λ e. e ≡ fault) → AreNotRead named words fault → failed_writes r ≡ 0
configs_unwritten r named words fault h (inl none) = not_read_unwritten r (named words.config.now) fault h none
configs_unwritten r named words fault h (inr (config, read, name, is, none)) = not_read_unwritten r (named name.now) fault h none

-- No line writes, so no write fails while lines are read.
unwritten : {A : Type 0} (how : Result A PlayFault) → (how ≡ Err texts.Write → ⊥) → writes_failed how ≡ 0
unwritten (Err texts.Write) never = absurd (never refl)
unwritten how never = refl

ends_unwritten : {S E : Type 0} (Stops : PlayFault → LineText → S → S → Type 0) → ((text : LineText) (old new : S) → Stops texts.Write text old new → ⊥) → (reached : Reached S E) (ended : Bool) (new : S) → ProcessingEnds Stops {A = Unit {0}} reached ended new (Err texts.Write) → ⊥
ends_unwritten Stops never reached ended new (inl none) = none.0
ends_unwritten Stops never reached ended new (inr (line, more, whole, is, stops)) = never _ reached.state new stops

checked_unwritten : (given : Given) (old new : Graph) (how : Result Checked PlayFault) → EntriesChecked given old new how → writes_failed how ≡ 0
checked_unwritten given old new how w =
    unwritten how (λ e. (let v = subst (EntriesChecked given old new) e w in ends_unwritten HistoryStops (λ text g k stops. stops) (reached_by v.over) given.ended new v.over.ends))

entries_unwritten : (config : Settings) (given : Given) (how : Result Checked PlayFault) → EntriesTaken config given how → writes_failed how ≡ 0
entries_unwritten config given how (inl none) = ap writes_failed none.1
entries_unwritten config given how (inr w) = checked_unwritten given (opening (limits_of config)) w.0 how w.1

pub scripts_unwritten : (given : Given) (mutators : ℕ) (how : Result ReadScripts PlayFault) → ScriptsRead given mutators how → writes_failed how ≡ 0
scripts_unwritten given mutators how (inl none) = ap writes_failed none.0
scripts_unwritten given mutators how (inr w) =
    unwritten how (λ e. (let v = subst (AreScripts given mutators) e w in ends_unwritten (ScriptStops mutators) (λ text g k stops. stops) (reached_by v.over) given.ended tt v.over.ends))

-- If nothing is written, no write fails.
nothing_cut : (given : Given) (old new : Session) → Played Nothing given old new (Err texts.Write) → ⊥
nothing_cut given old new p = ends_unwritten (StopsText Nothing) nothing_fails (reached_by p.over) given.ended new p.over.ends

pub surveyed_unwritten : {F : Type 0} (Tells : (config : Settings) (given : Given) → NewRun config given → F → Type 0) (config : Settings) (given : Given) (how : Result F PlayFault) → Surveyed Tells config given how → writes_failed how ≡ 0
surveyed_unwritten Tells config given (Err texts.Write) w = absurd (nothing_cut given (session w.0 []) w.1 w.2)
surveyed_unwritten Tells config given how w = refl

-- No write fails while a question is answered.
of_answer : {A : Type 0} (Says : A → Answer → Type 0) (how : Result A PlayFault) (answered : Result Answer PlayFault) → AnswerOf Says how answered → writes_failed how ≡ 0 → writes_failed answered ≡ 0
of_answer Says how (Ok answer) is none = refl
of_answer Says (Ok it) (Err why) is none = ap (λ (w : PlayFault). writes_failed {A = Answer} (Err w)) is
of_answer Says (Err why) (Err other) is none = ap writes_failed is ∙ none

pub answer_unwritten : (question : Question) (config : Settings) (given : Given) (answered : Result Answer PlayFault) → IsAnswer question config given answered → writes_failed answered ≡ 0
answer_unwritten questions.History config given answered w = of_answer _ w.0 answered w.2 (entries_unwritten config given w.0 w.1)
answer_unwritten (questions.Cycles layout) config given answered w = of_answer _ w.0 answered w.2 (surveyed_unwritten TellsCycles config given w.0 w.1)
answer_unwritten questions.Plan config given answered w = of_answer _ w.0 answered w.2 (surveyed_unwritten TellsMostLive config given w.0 w.1)
answer_unwritten (questions.Run form live) config given answered w = of_answer _ w.0 answered w.2 (surveyed_unwritten TellsData config given w.0 w.1)
answer_unwritten questions.Pace config given answered w = of_answer _ w.0 answered w.2 (surveyed_unwritten RunMeasured config given w.0 w.1)
