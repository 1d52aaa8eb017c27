-- The jobs that the words of a command line ask for.
use Rattle.std.specs.Prelude.{◌≡◌, ℕ, ◌<◌, ◌≤◌, List, length, Option, None, unwrap_or, codes}
use Rattle.std.specs.List.{All}
use Rattle.std.specs.Option.{IfSome}
use Rattle.graph_heap.specs.declared.command.TheConstants.{ARRAY_CELLS}
use Rattle.size_classes.specs.declared.config.TheConstants.{LEAST_BUDGET, MOST_BUDGET}
use Rattle.command_line.specs.declared.job.Form.{Form}
use Rattle.command_line.specs.declared.job.Form.TheVariants as forms
use Rattle.command_line.specs.declared.job.Report.{Report}
use Rattle.command_line.specs.declared.job.Report.TheVariants as reports
use Rattle.command_line.specs.declared.job.Job.{Job}
use Rattle.command_line.specs.declared.job.Job.TheVariants.{Play, Check, Threads, Inspect, Cycles, Path, Mmu, Draw, Pages, Plan}
use Rattle.command_line.specs.declared.job.Drawing.{Drawing}
use Rattle.command_line.specs.declared.job.Drawing.TheVariants as drawings
use Rattle.command_line.specs.declared.job.LiveData.{LiveData}
use Rattle.command_line.specs.declared.job.LiveData.TheVariants as lives
use Rattle.command_line.specs.declared.job.Objects.{Objects}
use Rattle.command_line.specs.declared.job.Program.{Program}
use Rattle.command_line.specs.declared.job.Asked.{Asked}
use Rattle.command_line.specs.declared.job.Words.{Words}

-- a window has 1 to 1099511627776 ticks
abbrev pub IsWindow : ℕ → Type 0
IsWindow ticks = (1 ≤ ticks) × (ticks ≤ 1099511627776)

-- at most this many event lines, if their number is said
abbrev pub AreLines : Option ℕ → Type 0
AreLines after = IfSome after (λ lines. lines ≤ 4294967295)

-- the numbers of a drawing lie in their ranges
abbrev pub IsDrawable : Drawing → Type 0
IsDrawable (drawings.Run form live) = Unit {0}
IsDrawable (drawings.Events after) = AreLines after
IsDrawable (drawings.Graph after most) = AreLines after × (1 ≤ most) × (most ≤ 4294967295)

-- some objects, at least one, each with no more cells than an array may have
abbrev pub AreObjects : Objects → Type 0
AreObjects group = (1 ≤ group.count) × (group.cells ≤ ARRAY_CELLS)

-- a program asks for some words while it runs for the ticks of a window
abbrev pub MayBeAsked : Asked → Type 0
MayBeAsked asked = IsWindow asked.ticks

-- live data is a number of words, or objects that may be
abbrev pub MayBeLive : LiveData → Type 0
MayBeLive (lives.Words n) = Unit {0}
MayBeLive (lives.Objects groups) = All AreObjects groups.items

-- the numbers of a program lie in their ranges
abbrev pub IsPlannable : Program → Type 0
IsPlannable program = MayBeLive program.live × All MayBeAsked program.asks.items

-- the numbers of a job lie in their ranges
abbrev pub IsInRange : Job → Type 0
IsInRange (Threads words turns budget) = (turns ≤ 10000) × (LEAST_BUDGET ≤ budget) × (budget ≤ MOST_BUDGET)
IsInRange (Inspect words by after) = AreLines after
IsInRange (Path words id after) = AreLines after
IsInRange (Mmu words windows) = (0 < length windows.items) × All IsWindow windows.items
IsInRange (Draw words drawing) = IsDrawable drawing
IsInRange (Plan words program) = IsPlannable program
IsInRange _ = Unit {0}

-- the words of a job that name its files, and its flags
abbrev pub words_of : Job → Words
words_of (Play words history) = words
words_of (Check words) = words
words_of (Threads words turns budget) = words
words_of (Inspect words by after) = words
words_of (Cycles words csv) = words
words_of (Path words id after) = words
words_of (Mmu words windows) = words
words_of (Draw words drawing) = words
words_of (Pages words by) = words
words_of (Plan words program) = words

-- the name of a form of a run's data
abbrev pub form_name : Form → List ℕ
form_name forms.Page = codes "page"
form_name forms.Data = codes "data"

-- the name of a report of a heap
abbrev pub report_name : Report → List ℕ
report_name reports.Pages = codes "page"
report_name reports.Sizes = codes "size"
report_name reports.Shapes = codes "shape"
report_name reports.Roots = codes "root"

-- The drawing has this name. It is the run, with the plans for this many live words, and compared if another
-- configuration is named. Or it is, after this many event lines, its events, or at most this many objects of its graph.
abbrev pub IsDrawing : List ℕ → Option ℕ → Option ℕ → Option ℕ → Option (List ℕ) → Drawing → Type 0
IsDrawing name lines objects words other (drawings.Run form live) =
    (name ≡ form_name form) × (lines ≡ None) × (objects ≡ None) × (words ≡ live)
IsDrawing name lines objects words other (drawings.Events after) =
    (name ≡ codes "events") × (lines ≡ after) × (objects ≡ None) × (words ≡ None) × (other ≡ None)
IsDrawing name lines objects words other (drawings.Graph after most) =
    (name ≡ codes "graph") × (lines ≡ after) × (most ≡ unwrap_or objects 500) × (words ≡ None) × (other ≡ None)
