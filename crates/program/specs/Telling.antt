-- Reports on a player.
use Rattle.std.specs.Prelude.{◌≡◌, ℕ, Bool, IsTrue, ◌↔◌, List, Result, Ok, Err}
use Rattle.size_classes.specs.declared.config.Config.{Config}
use Rattle.graph_heap.specs.Graph.{Graph}
use Rattle.heap_model.specs.Event.{Course, present_of}
use Rattle.heap_model.specs.State.{HeapState}
use Rattle.nodes.specs.Copies.{HasBlock}
use Rattle.quanta.specs.Timetable.{Timetable}
use Rattle.trace.specs.declared.fault.PlayFault.{PlayFault}
use Rattle.trace.specs.Streams.{Taken}
use Rattle.trace.specs.Player.{PlayerState}
use Rattle.pictures.specs.PathText.{PathTold}
use Rattle.inspector.specs.Filling.{sizes_told}
use Rattle.inspector.specs.ByRoot.{RootsTold}
use Rattle.inspector.specs.Report.{report_of}
use Rattle.inspector.specs.Shapes.{ShapesTold}
use Rattle.command_line.specs.declared.job.Report.{Report}
use Rattle.command_line.specs.declared.job.Report.TheVariants as reports
use Rattle.pictures.specs.Events.{events_picture}
use Rattle.pictures.specs.GraphDrawn.{GraphDrawn}
use Rattle.program.specs.declared.after.Telling.{Telling}
use Rattle.program.specs.declared.after.Telling.TheVariants as tellings
use Rattle.program.specs.declared.fault.Ending.{Ending}
use Rattle.program.specs.declared.fault.Ending.TheVariants.{Done}
use Rattle.program.specs.declared.fault.RunFault.{RunFault}
use Rattle.program.specs.declared.fault.RunFault.TheVariants.{Text}
use Rattle.program.specs.Told.{ReportTold, TextWritten}
use Rattle.program.specs.Windows.{AllTold, FirstTold}

-- A report of a heap is written, in its place in a course: page by page, by size class, by shape, or by root.
abbrev pub HeapReported : Report → Course → Taken → Result Ending RunFault → Type 0
HeapReported reports.Pages c taken result = TextWritten Done (report_of c.heap) taken result
HeapReported reports.Sizes c taken result = TextWritten Done (sizes_told c.heap) taken result
HeapReported reports.Shapes c taken result = ReportTold (ShapesTold c.heap) taken result
HeapReported reports.Roots c taken result = ReportTold (RootsTold (present_of c)) taken result

-- the end of a run whose drawing ends so
abbrev pub drawn_as : Result (Unit {0}) PlayFault → Result Ending RunFault
drawn_as (Ok drawn) = Ok Done
drawn_as (Err fault) = Err (Text fault)

-- A graph heap is drawn, with at most this many objects.
abbrev pub GraphTold : ℕ → Graph → Taken → Result Ending RunFault → Type 0
GraphTold most g taken result = (how : Result (Unit {0}) PlayFault) × GraphDrawn g most taken how
    × (result ≡ drawn_as how)

-- The text says why an object is alive in a graph heap, and whether a heap holds a block of it.
abbrev pub TellsWhy : ℕ → HeapState → Graph → List ℕ → Type 0
TellsWhy id h g text = (allocated : Bool) × (IsTrue allocated ↔ HasBlock h.store id) × PathTold g id allocated text

-- A line for each window is written, or for the first of them.
abbrev pub WindowsTold : Config → Timetable → List ℕ → Taken → Result Ending RunFault → Type 0
WindowsTold config t windows taken (Ok ending) = (ending ≡ Done) × AllTold config t windows taken.before taken.after
WindowsTold config t windows taken (Err fault) = FirstTold config t windows fault taken.before taken.after

-- A report of this kind is written.
abbrev pub Tells : Telling → Config → PlayerState → Taken → Result Ending RunFault → Type 0
Tells (tellings.Report by) config p taken result = HeapReported by p.course taken result
Tells tellings.Events config p taken result = TextWritten Done (events_picture p) taken result
Tells (tellings.Graph most) config p taken result = GraphTold most (present_of p.course) taken result
Tells (tellings.Path id) config p taken result =
    ReportTold (TellsWhy id p.course.heap (present_of p.course)) taken result
Tells (tellings.Windows windows) config p taken result = WindowsTold config p.timetable windows.now taken result
