-- The view of a reader of lines, and its outcomes.
use Rattle.std.specs.Prelude.{◌≡◌, ℕ, ◌+◌, ◌≤◌, Bool, true, false, IsTrue, List, [], ◌∷◌, ◌++◌, length, Result, Ok, Err}
use Rattle.trace.specs.declared.fault.PlayFault.{PlayFault}
use Rattle.trace.specs.declared.fault.PlayFault.TheVariants.{Read, Write}
use Rattle.trace.specs.declared.version.Version.{Version}
use Rattle.trace.specs.declared.version.Version.TheVariants.{First}
use Rattle.trace.specs.LinesProcessed.{NoLine}
use Rattle.trace.specs.Streams.{Given}
use Rattle.trace.specs.Lines.{IsLine, Comes}
use Rattle.trace.specs.TextLine.{Text, IsNextVersion}

-- the line handed out last, whose number is the number of lines handed out; the bytes that came and aren't handed out
-- yet; and the version of the next line
pub record Lines : Type 0 where
  pub text : Text
  pub kept : List ℕ
  pub next : Version

-- before the first line
abbrev pub no_lines : Lines
no_lines = record { text = record { bytes = []; number = 0; version = First }; kept = []; next = First }

-- the text of the bytes kept before and those that came: if a line was handed out, it is that line, its LF and the
-- bytes kept now; if none was, it is the bytes kept now
abbrev pub text_by : Result Bool PlayFault → Lines → List ℕ
text_by (Ok true) new = new.text.bytes ++ 10 ∷ new.kept
text_by (Ok false) new = new.kept
text_by (Err e) new = new.kept

-- the meaning of an outcome for the reader after it, and for whether its input has ended
abbrev pub IsOutcome : Result Bool PlayFault → Lines → Bool → Type 0
-- there is a line
IsOutcome (Ok true) new ended = IsLine new.text.bytes
-- the input has ended, and all lines were handed out
IsOutcome (Ok false) new ended = (new.kept ≡ []) × IsTrue ended
IsOutcome (Err fault) new ended = NoLine fault new.text.number new.kept ended

-- the number of lines that an outcome hands out
abbrev pub lines_by : Result Bool PlayFault → ℕ
lines_by (Ok true) = 1
lines_by (Ok false) = 0
lines_by (Err e) = 0

-- the effect of an outcome on versions: a line that is handed out has the version expected for it
abbrev pub Versions : Result Bool PlayFault → Lines → Lines → Type 0
Versions (Ok true) old new = (new.text.version ≡ old.next) × IsNextVersion new.text new.next
Versions (Ok false) old new = new.next ≡ old.next
Versions (Err e) old new = new.next ≡ old.next

-- A call for the next line, and the bytes that its source gave meanwhile. With the bytes kept before, they are the
-- line and the bytes kept after it, and fit into a buffer.
pub record ReadsLine (given : Given) (old new : Lines) (result : Result Bool PlayFault) : Type 0 where
  pub text : Comes given.before given.after old.kept (text_by result new)
  pub says : IsOutcome result new given.ended
  pub number : new.text.number ≡ old.text.number + lines_by result
  pub versions : Versions result old new
  pub small : length (text_by result new) ≤ 65536

-- the outcome, except that a failed flush before a read counts as a failed read
abbrev pub unflushed_as_unread : Result Bool PlayFault → Result Bool PlayFault
unflushed_as_unread (Err Write) = Err Read
unflushed_as_unread result = result
