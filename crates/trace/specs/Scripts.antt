-- The reading of scripts.
use Rattle.std.specs.Prelude.{◌≡◌, ℕ, ◌<◌, ◌≤◌, ◌==◌, if◌then◌else◌, IsTrue, ◌⊎◌, List, [], ◌∷◌, ◌++◌, map, slice_set, slice_index_or, Option, Some, None, Result, Ok, Err, IfOk, Vec, vec_len}
use Rattle.std.specs.List.{range_with_len}
use Rattle.std.specs.declared.alloc.Global.{Global}
use Rattle.graph_heap.specs.declared.command.Command.{Command}
use Rattle.trace.specs.declared.fault.LineFault.{LineFault}
use Rattle.trace.specs.declared.fault.LineFault.TheVariants as faults
use Rattle.trace.specs.declared.fault.PlayFault.{PlayFault}
use Rattle.trace.specs.declared.fault.PlayFault.TheVariants.{Line as At_line, NoMemory}
use Rattle.trace.specs.declared.line.Line.{Line}
use Rattle.trace.specs.declared.line.Line.TheVariants as lines
use Rattle.trace.specs.declared.version.Version.{Version}
use Rattle.trace.specs.LinesProcessed.{LineEffect, LinesProcessed, ProcessingEnds}
use Rattle.trace.specs.Spelling.{Spells, is_skipped}
use Rattle.trace.specs.Streams.{Given}
use Rattle.trace.specs.TextLine.{Text, IsVersionLine}

-- A line of scripts is skipped, or is a command of one of this many mutators.
abbrev pub IsOfScripts : ℕ → Line → Type 0
IsOfScripts mutators lines.Skip = Unit {0}
IsOfScripts mutators (lines.Command m c) = m < mutators
IsOfScripts mutators line = ⊥

-- a line of scripts spells this
abbrev pub DoesScript : ℕ → Version → List ℕ → Unit {0} → List Line → Unit {0} → Type 0
DoesScript mutators version text old (line ∷ []) new = Spells version text line × IsOfScripts mutators line
DoesScript mutators version text old spelled new = ⊥

-- the line that tells the version asks for nothing
abbrev pub AsksNothing : Unit {0} → Unit {0} → Type 0
AsksNothing old new = Unit {0}

-- the commands of a mutator, in the order of their lines
abbrev pub script_of : List Line → ℕ → List Command
script_of [] m = []
script_of (lines.Command k c ∷ rest) m = if k == m then c ∷ script_of rest m else script_of rest m
script_of (line ∷ rest) m = script_of rest m

-- one script for each mutator
abbrev pub scripts_of : ℕ → List Line → List (List Command)
scripts_of mutators spelled = map (script_of spelled) (range_with_len 0 mutators)

-- the lists of scripts, whatever memory they are in
abbrev pub lists_in : Vec (Vec Command Global) Global → List (List Command)
lists_in scripts = map (λ (script : Vec Command Global). script.items) scripts.items

-- the fault of a line of scripts: it is neither skipped nor a command; or its mutator isn't below the number of
-- mutators
abbrev pub ScriptLineIs : ℕ → Version → LineFault → List ℕ → Type 0
ScriptLineIs mutators version faults.NotACommand text = (¬ IsTrue (is_skipped text))
    × ((m : ℕ) (c : Command) → Spells version text (lines.Command m c) → ⊥)
ScriptLineIs mutators version faults.NoSuchMutator text = (m : ℕ) × (c : Command)
    × Spells version text (lines.Command m c) × (mutators ≤ m)
ScriptLineIs mutators version fault text = ⊥

-- a line that spells a command of one of this many mutators
abbrev pub IsCommand : ℕ → Version → List ℕ → Type 0
IsCommand mutators version text = (m : ℕ) × (c : Command) × Spells version text (lines.Command m c) × (m < mutators)

-- a fault at a line: it doesn't tell the version and is refused; or it is a command, and memory was refused
abbrev pub ScriptStops : ℕ → PlayFault → Text → Unit {0} → Unit {0} → Type 0
ScriptStops mutators (At_line k fault) text old new = (k ≡ text.number)
    × ScriptLineIs mutators text.version fault text.bytes × (¬ IsVersionLine text)
ScriptStops mutators NoMemory text old new = IsCommand mutators text.version text.bytes
ScriptStops mutators fault text old new = ⊥

-- the result of reading scripts: their version, and the commands of each mutator
abbrev pub ReadScripts : Type 0
ReadScripts = Version × Vec (Vec Command Global) Global

-- The lines of an input are scripts of this many mutators.
pub record AreScripts (given : Given) (mutators : ℕ) (result : Result ReadScripts PlayFault) : Type 0 where
  pub over : LinesProcessed (LineEffect AsksNothing (DoesScript mutators)) given tt
      (λ reached. ProcessingEnds (ScriptStops mutators) reached given.ended tt result)
  pub are : IfOk result (λ read. (read.0 ≡ over.version) × (lists_in read.1 ≡ scripts_of mutators over.events))

-- An input was read, or memory was refused before anything was read.
abbrev pub ScriptsRead : Given → ℕ → Result ReadScripts PlayFault → Type 0
ScriptsRead given mutators result = ((result ≡ Err NoMemory) × (given.after ≡ given.before))
    ⊎ AreScripts given mutators result

-- the line that asks for this
abbrev pub line_of : Option (ℕ × Command) → Line
line_of None = lines.Skip
line_of (Some asked) = lines.Command asked.0 asked.1

-- the scripts with one more command of a mutator
abbrev pub one_more : List (List Command) → ℕ → Command → List (List Command)
one_more scripts m c = slice_set scripts m (slice_index_or scripts m [] ++ c ∷ [])

-- the scripts with the command of a line
abbrev pub with_line : List (List Command) → Line → List (List Command)
with_line scripts (lines.Command m c) = one_more scripts m c
with_line scripts line = scripts

-- The outcome of one line: it tells the version of the lines after it, or its command is added.
abbrev pub LineAdded : Text → Vec (Vec Command Global) Global → Vec (Vec Command Global) Global
    → Result (Unit {0}) PlayFault → Type 0
LineAdded text old new (Ok done) =
    ((IsVersionLine text × (lists_in new ≡ lists_in old))
    ⊎ ((¬ IsVersionLine text) × ((line : Line)
    × DoesScript (vec_len old) text.version text.bytes tt (line ∷ []) tt
    × (lists_in new ≡ with_line (lists_in old) line))))
    × (vec_len new ≡ vec_len old)
LineAdded text old new (Err fault) = ScriptStops (vec_len old) fault text tt tt
