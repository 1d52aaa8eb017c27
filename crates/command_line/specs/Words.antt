-- The job for which a subcommand and the values of its arguments ask. clap finds these in the words of a command
-- line, by the program's rows.
use Rattle.std.specs.Prelude.{◌≡◌, ◌⊎◌, if◌then◌else◌, ℕ, Bool, true, false, List, [], ◌++◌, Option, Some, None, Ok, Err, option_map, unwrap_or, codes}
use Rattle.std.specs.Borrow.{Bor}
use Rattle.std.specs.List.{AllZip}
use Rattle.std.specs.Str.{bytes_eq}
use Rattle.std.specs.Str.Parse.{ParsesUnsigned}
use Rattle.size_classes.specs.Sizes.{size_of}
use Rattle.clap.specs.Words.{Text, Row, first_of, one_of, all_of, subcommand_of, fault_of, IsAmong}
use Rattle.clap.specs.declared.error.kind.ErrorKind.TheVariants.{DisplayHelp, DisplayVersion}
use Rattle.command_line.specs.declared.job.Job.{Job}
use Rattle.command_line.specs.declared.job.Job.TheVariants.{Play, Check, Threads, Inspect, Cycles, Path, Mmu, Draw, Pages, Plan}
use Rattle.command_line.specs.declared.job.Drawing.{Drawing}
use Rattle.command_line.specs.declared.job.LiveData.{LiveData}
use Rattle.command_line.specs.declared.job.LiveData.TheVariants as lives
use Rattle.command_line.specs.declared.job.Objects.{Objects}
use Rattle.command_line.specs.declared.job.Program.{Program}
use Rattle.command_line.specs.declared.job.Asked.{Asked}
use Rattle.command_line.specs.declared.job.Words.{Words}
use Rattle.command_line.specs.declared.job.Sizing.{Sizing}
use Rattle.command_line.specs.declared.job.Sizing.TheVariants.{Demand, Pace, Plan as By_plan}
use Rattle.command_line.specs.declared.fault.WordsFault.{WordsFault}
use Rattle.command_line.specs.declared.fault.WordsFault.TheVariants.{Help}
use Rattle.command_line.specs.Job.{IsDrawing, report_name, words_of}
use Rattle.command_line.specs.Program.{metronome}

-- the number below 2 ^ bits in a text, if there is a text with one
abbrev pub IsNumber : ℕ → Option Text → Option ℕ → Type 0
IsNumber bits None n = n ≡ None
IsNumber bits (Some text) (Some n) = ParsesUnsigned {E = Unit {0}} bits 10 text (Ok n)
IsNumber bits (Some text) None = ParsesUnsigned {E = Unit {0}} bits 10 text (Err tt)

-- a number that is 0 if it isn't said
abbrev pub IsNumberOrZero : ℕ → Option Text → ℕ → Type 0
IsNumberOrZero bits text n = (said : Option ℕ) × IsNumber bits text said × (n ≡ unwrap_or said 0)

-- a size class, by the words of its blocks
abbrev pub IsClassOf : Text → ℕ → Type 0
IsClassOf size class = IsNumber 32 (Some size) (Some (size_of class))

-- the size classes of some sizes; none if no sizes are said
abbrev pub AreClassesOf : Option (List Text) → Option (List ℕ) → Type 0
AreClassesOf None classes = classes ≡ None
AreClassesOf (Some sizes) None = ⊥
AreClassesOf (Some sizes) (Some classes) = AllZip IsClassOf sizes classes

-- two numbers, with an x between them
pub record IsPair (text : Text) (first second : ℕ) : Type 0 where
  pub before : Text
  pub behind : Text
  pub parts : text ≡ before ++ (codes "x" ++ behind)
  pub is_first : IsNumber 64 (Some before) (Some first)
  pub is_second : IsNumber 64 (Some behind) (Some second)

-- some objects: their number, an x, and the number of the cells of each
abbrev pub AreObjectsOf : Text → Objects → Type 0
AreObjectsOf text group = IsPair text group.count group.cells

-- the words for which a program asks, an x, and the ticks for which it runs
abbrev pub AreAsked : Text → Asked → Type 0
AreAsked text asked = IsPair text asked.words asked.ticks

-- the live data that is said: a number of words, or objects, and not both
abbrev pub IsLiveData : Option ℕ → Option (List Text) → LiveData → Type 0
IsLiveData words objects (lives.Words n) = (words ≡ Some n) × (objects ≡ None)
IsLiveData words None (lives.Objects groups) = ⊥
IsLiveData words (Some texts) (lives.Objects groups) = (words ≡ None) × AllZip AreObjectsOf texts groups.items

-- the program that is said: its live data, its largest object, its size classes, and the words for which it asks
pub record IsProgram (rows : List Row) (program : Program) : Type 0 where
  pub words : Option ℕ
  pub counted : IsNumber 64 (one_of (codes "live") rows) words
  pub live : IsLiveData words (all_of (codes "objects") rows) program.live
  pub largest : IsNumberOrZero 64 (one_of (codes "largest") rows) program.largest
  pub classes : AreClassesOf (all_of (codes "classes") rows) (option_map (λ c. c.items) program.classes)
  pub asks : AllZip AreAsked (unwrap_or (all_of (codes "asks") rows) []) program.asks.items

-- a flag is set if its text is true; it isn't if its text is false or there is none
abbrev pub IsFlag : Option Text → Bool → Type 0
IsFlag None set = set ≡ false
IsFlag (Some text) set = (text ≡ codes "true" → set ≡ true) × (text ≡ codes "false" → set ≡ false)

-- the base from which the pages are calculated, by the flags for the pace and for a plan
abbrev pub IsSizing : Bool → Bool → Sizing → Type 0
IsSizing pace plan Demand = (pace ≡ false) × (plan ≡ false)
IsSizing pace plan Pace = (pace ≡ true) × (plan ≡ false)
IsSizing pace plan By_plan = (pace ≡ false) × (plan ≡ true)

-- the drawing that is asked for, by its name
abbrev pub IsDrawn : List Row → Drawing → Type 0
IsDrawn rows drawing = (after : Option ℕ) × (most : Option ℕ) × (live : Option ℕ)
    × IsNumber 32 (one_of (codes "after") rows) after
    × IsNumber 32 (one_of (codes "most") rows) most × IsNumber 64 (one_of (codes "live") rows) live
    × IsDrawing (unwrap_or (first_of (codes "as") rows) []) after most live (first_of (codes "compare") rows) drawing

-- a subcommand and its arguments ask for a job
abbrev pub Asks : Text → List Row → Job → Type 0
Asks name rows (Play words history) = (name ≡ codes "play") × IsFlag (one_of (codes "history") rows) history
Asks name rows (Check words) = name ≡ codes "check"
Asks name rows (Threads words turns budget) = (name ≡ codes "threads")
    × IsNumberOrZero 32 (one_of (codes "turns") rows) turns
    × IsNumberOrZero 32 (one_of (codes "budget") rows) budget
Asks name rows (Inspect words by after) = (name ≡ codes "inspect")
    × (unwrap_or (first_of (codes "by") rows) [] ≡ report_name by)
    × IsNumber 32 (one_of (codes "after") rows) after
Asks name rows (Cycles words csv) = (name ≡ codes "cycles") × IsFlag (one_of (codes "csv") rows) csv
Asks name rows (Path words id after) = (name ≡ codes "path") × IsNumberOrZero 64 (one_of (codes "ID") rows) id
    × IsNumber 32 (one_of (codes "after") rows) after
Asks name rows (Mmu words windows) = (name ≡ codes "mmu")
    × AllZip (λ word ticks. IsNumber 64 (Some word) (Some ticks)) (unwrap_or (all_of (codes "WINDOW") rows) [])
    windows.items
Asks name rows (Pages words by) = (name ≡ codes "pages")
    × (pace : Bool) × IsFlag (one_of (codes "pace") rows) pace × (plan : Bool) × IsFlag (one_of (codes "plan") rows) plan
    × IsSizing pace plan by
Asks name rows (Plan words program) = (name ≡ codes "plan") × IsProgram rows program
Asks name rows (Draw words drawing) = (name ≡ codes "draw") × IsDrawn rows drawing

-- the argument that has the name of a subcommand's other file, if the subcommand has one
abbrev pub file_argument : Text → Option Text
file_argument name = if bytes_eq name (codes "check") then Some (codes "HISTORY")
    else if bytes_eq name (codes "threads") then Some (codes "SCRIPTS")
    else if bytes_eq name (codes "plan") then None else Some (codes "TRACE")

-- the file that an argument names; none if there is no such argument
abbrev pub NamesFile : Option Text → List Row → Option (Bor Text) → Type 0
NamesFile None rows file = file ≡ None
NamesFile (Some argument) rows None = ⊥
NamesFile (Some argument) rows (Some file) = first_of argument rows ≡ Some file.now

-- a subcommand and its arguments have these words: they name its files, and set its two flags; only `draw` has an argument
-- that names a second configuration
pub record AreWords (name : Text) (rows : List Row) (words : Words) : Type 0 where
  pub config : first_of (codes "CONFIG") rows ≡ Some words.config.now
  pub file : NamesFile (file_argument name) rows words.file
  pub compare : option_map (λ file. file.now) words.compare ≡ first_of (codes "compare") rows
  pub progress : IsFlag (one_of (codes "progress") rows) words.progress
  pub explain : IsFlag (one_of (codes "explain") rows) words.explain

-- a subcommand and its arguments ask for a job, with its words
abbrev pub AsksFor : Text → List Row → Job → Type 0
AsksFor name rows job = Asks name rows job × AreWords name rows (words_of job)

-- The words of a command line ask for a job: the program's subcommands and their arguments in them ask for it.
abbrev pub IsAskedForBy : List Text → Job → Type 0
IsAskedForBy words job = (name : Text) × (rows : List Row) × (subcommand_of metronome words ≡ Some (name, rows))
    × AsksFor name rows job

-- some words ask for a job
abbrev pub IsAskedFor : Job → Type 0
IsAskedFor job = (words : List Text) × IsAskedForBy words job

-- the words of a command line ask for help, or for the version
abbrev pub AsksForHelp : List Text → Type 0
AsksForHelp words = IsAmong DisplayHelp (fault_of metronome words) ⊎ IsAmong DisplayVersion (fault_of metronome words)

-- why words give no request is that help is given
abbrev pub IsHelp : WordsFault → Type 0
IsHelp (Help text) = Unit {0}
IsHelp fault = ⊥

-- help is given only to words that ask for it
abbrev pub HelpIsAskedFor : List Text → WordsFault → Type 0
HelpIsAskedFor words fault = IsHelp fault → AsksForHelp words
