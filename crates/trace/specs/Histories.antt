-- The check of a history.
use Rattle.std.specs.Prelude.{◌≡◌, ℕ, ◌+◌, Bool, IsTrue, List, [], ◌∷◌, length, Result, Ok, Err}
use Rattle.graph_heap.specs.declared.command.Entry.{Entry}
use Rattle.graph_heap.specs.Graph.{Graph}
use Rattle.graph_heap.specs.History.{IsEntryOf, after_entry, after, IsLegal}
use Rattle.trace.specs.declared.fault.LineFault.TheVariants.{NotAnEntry}
use Rattle.trace.specs.declared.fault.PlayFault.{PlayFault}
use Rattle.trace.specs.declared.fault.PlayFault.TheVariants.{Line as At_line, NoMemory}
use Rattle.trace.specs.declared.entry.EntryLine.{EntryLine}
use Rattle.trace.specs.declared.entry.EntryLine.TheVariants as lines
use Rattle.trace.specs.declared.version.Version.{Version}
use Rattle.trace.specs.LinesProcessed.{Reached, NextThere, LineEffect, LinesProcessed, ProcessingEnds}
use Rattle.trace.specs.Spelling.{SpellsEntry}
use Rattle.trace.specs.Streams.{Given}
use Rattle.trace.specs.TextLine.{Text, IsVersionLine}
use Rattle.trace.specs.declared.transcripts.histories.Checked.{Checked}
use Rattle.trace.specs.declared.transcripts.histories.Checked.TheVariants.{Good, Wrong}
use Rattle.trace.specs.declared.transcripts.histories.Outcome.{Outcome}
use Rattle.trace.specs.declared.transcripts.histories.Outcome.TheVariants as outcomes

-- the line that tells the version does nothing to a graph heap
abbrev pub DoesNothing : Graph → Graph → Type 0
DoesNothing old new = new ≡ old

-- The effect of another line on a graph heap: it is skipped, or it is that of an entry, which is a step.
abbrev pub DoesEntry : Version → List ℕ → Graph → List Entry → Graph → Type 0
DoesEntry version text old [] new = SpellsEntry version text lines.Skip × (new ≡ old)
DoesEntry version text old (e ∷ []) new = SpellsEntry version text (lines.Entry e) × IsEntryOf old e
    × (new ≡ after_entry old e)
DoesEntry version text old (e ∷ f ∷ more) new = ⊥

-- a line is that of an entry that isn't a step
abbrev pub IsWrong : Graph → Text → Type 0
IsWrong g text = (e : Entry) × SpellsEntry text.version text.bytes (lines.Entry e) × (¬ IsEntryOf g e)

-- A fault at a line: no entry is spelled so, the line isn't skipped, and it doesn't tell the version; or memory was
-- refused at an entry.
abbrev pub HistoryStops : PlayFault → Text → Graph → Graph → Type 0
HistoryStops (At_line k NotAnEntry) text old new = (k ≡ text.number)
    × ((x : EntryLine) → SpellsEntry text.version text.bytes x → ⊥) × (¬ IsVersionLine text) × (new ≡ old)
HistoryStops NoMemory text old new = (e : Entry) × SpellsEntry text.version text.bytes (lines.Entry e) × (new ≡ old)
HistoryStops fault text old new = ⊥

-- The end of a check.
abbrev pub HistoryEnds : Bool → Graph → Result Checked PlayFault → Reached Graph Entry → Type 0
-- all lines of the input are done, and this is the number of their entries
HistoryEnds ended new (Ok (Good n)) reached = (reached.rest ≡ []) × IsTrue ended × (new ≡ reached.state)
    × (n ≡ length reached.events)
-- the entry of the next line isn't a step
HistoryEnds ended new (Ok (Wrong k)) reached = (k ≡ length reached.lines + 1)
    × NextThere reached (IsWrong reached.state) × (new ≡ reached.state)
HistoryEnds ended new (Err fault) reached = ProcessingEnds HistoryStops {A = Checked} reached ended new (Err fault)

-- A history was checked, from one graph heap to another: the entries of its lines are legal, and lead to the graph
-- heap after them.
pub record EntriesChecked (given : Given) (old new : Graph) (result : Result Checked PlayFault) : Type 0 where
  pub over : LinesProcessed (LineEffect DoesNothing DoesEntry) given old (HistoryEnds given.ended new result)
  pub legal : IsLegal old over.events
  pub leads : over.mid ≡ after old over.events

-- The outcome of one line.
abbrev pub LineChecked : Text → Graph → Graph → Result Outcome PlayFault → Type 0
LineChecked text old new (Ok outcomes.Skipped) = LineEffect DoesNothing DoesEntry text old [] new
LineChecked text old new (Ok outcomes.Done) = (e : Entry) × LineEffect DoesNothing DoesEntry text old (e ∷ []) new
LineChecked text old new (Ok outcomes.Wrong) = IsWrong old text × (new ≡ old)
LineChecked text old new (Err fault) = HistoryStops fault text old new
