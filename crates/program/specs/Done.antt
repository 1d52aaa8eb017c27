-- The files that a job of the command line reads and writes.
use Rattle.std.specs.Prelude.{ℕ, Bool, if◌then◌else◌, Option, Some, None, Result}
use Rattle.size_classes.specs.declared.config.Config.{Config}
use Rattle.heap_model.specs.Event.{present_of}
use Rattle.trace.specs.Streams.{Given, Taken}
use Rattle.command_line.specs.declared.job.Job.{Job}
use Rattle.command_line.specs.declared.job.Drawing.{Drawing}
use Rattle.command_line.specs.declared.job.Drawing.TheVariants as drawings
use Rattle.command_line.specs.declared.job.Form.{Form}
use Rattle.command_line.specs.declared.job.Sizing.{Sizing}
use Rattle.command_line.specs.declared.job.Sizing.TheVariants.{Demand, Pace, Plan as By_plan}
use Rattle.command_line.specs.declared.job.Job.TheVariants.{Play, Check, Threads, Inspect, Cycles, Path, Mmu, Draw, Pages, Plan}
use Rattle.trace.specs.declared.player.style.Style.{Style}
use Rattle.trace.specs.declared.player.style.Style.TheVariants.{Replies, Entries}
use Rattle.command_line.specs.declared.job.Words.{Words}
use Rattle.program.specs.declared.configs.Configs.{Configs}
use Rattle.program.specs.declared.configs.NamedConfig.{NamedConfig}
use Rattle.program.specs.declared.fault.Ending.{Ending}
use Rattle.program.specs.declared.fault.Ending.TheVariants.{Done}
use Rattle.program.specs.declared.fault.RunFault.{RunFault}
use Rattle.program.specs.declared.answer_job.Question.TheVariants as questions
use Rattle.program.specs.Jobs.{TracePlayed, ScriptsRun}
use Rattle.inspector.specs.declared.cycles.text.Layout.{Layout}
use Rattle.inspector.specs.declared.cycles.text.Layout.TheVariants.{Columns, Commas}
use Rattle.program.specs.Answered.{Answered}
use Rattle.program.specs.Plans.{PlansTold}
use Rattle.pictures.specs.Events.{events_picture}
use Rattle.program.specs.Told.{ReportTold, TextWritten}
use Rattle.program.specs.Demand.{DemandTold}
use Rattle.program.specs.TwoRuns.{RunsTold}
use Rattle.program.specs.After.{AfterPlay}
use Rattle.program.specs.Telling.{HeapReported, GraphTold, TellsWhy, WindowsTold}

-- the style in which each command is written
abbrev pub style_of : Bool → Style
style_of history = if history then Entries else Replies

-- the layout of the figures of cycles
abbrev pub layout_of : Bool → Layout
layout_of csv = if csv then Commas else Columns

-- The data of a run were drawn; or those of its runs on two configurations, if it is compared.
abbrev pub RunDrawn : Words → Form → Option ℕ → Config → Option NamedConfig → Given → Taken → Result Ending RunFault
    → Type 0
RunDrawn words form live config None = Answered (questions.Run form live) config
RunDrawn words form live config (Some second) = RunsTold (record {
  first = record { name = words.config; config = config };
  second = second;
  trace = words.file;
  form = form;
  live = live;
})

-- A drawing of a run was made.
abbrev pub DrawingDone : Words → Drawing → Configs → Given → Taken → Result Ending RunFault → Type 0
DrawingDone words (drawings.Run form live) c = RunDrawn words form live c.config c.compare
DrawingDone words (drawings.Events after) c = AfterPlay (λ p. TextWritten Done (events_picture p)) after c.config
DrawingDone words (drawings.Graph after most) c = AfterPlay (λ p. GraphTold most (present_of p.course)) after c.config

-- The number of pages that suffice was reported.
abbrev pub PagesDone : Sizing → Config → Given → Taken → Result Ending RunFault → Type 0
PagesDone Demand config = DemandTold config
PagesDone Pace config = Answered questions.Pace config
PagesDone By_plan config = Answered questions.Plan config

-- A job was done, as its kind says. A plan reads no other file than the configuration.
abbrev pub JobDone : Job → Configs → Given → Taken → Result Ending RunFault → Type 0
JobDone (Play words history) c = TracePlayed (style_of history) c.config
JobDone (Check words) c = Answered questions.History c.config
JobDone (Threads words turns budget) c = ScriptsRun turns budget c.config
JobDone (Inspect words by after) c = AfterPlay (λ p. HeapReported by p.course) after c.config
JobDone (Cycles words csv) c = Answered (questions.Cycles (layout_of csv)) c.config
JobDone (Path words id after) c =
    AfterPlay (λ p. ReportTold (TellsWhy id p.course.heap (present_of p.course))) after c.config
JobDone (Mmu words windows) c = AfterPlay (λ p. WindowsTold c.config p.timetable windows.items) None c.config
JobDone (Draw words drawing) c = DrawingDone words drawing c
JobDone (Pages words by) c = PagesDone by c.config
JobDone (Plan words program) c = λ given. PlansTold program c.config
