-- The play of a trace.
use Rattle.std.specs.Prelude.{◌≡◌, ◌≢◌, ℕ, ◌+◌, ◌<◌, ◌≤◌, Bool, true, false, not, ◌&&◌, IsTrue, ◌⊎◌, List, [], ◌∷◌, ◌++◌, length, Option, None, Some, Result, Ok, Err}
use Rattle.std.specs.List.{flat_map, count_by}
use Rattle.std.specs.Str.{bytes_eq}
use Rattle.graph_heap.specs.declared.command.Entry.{Entry}
use Rattle.graph_heap.specs.declared.command.Reply.{Reply}
use Rattle.trace.specs.declared.line.Line.{Line}
use Rattle.trace.specs.declared.line.Line.TheVariants as lines
use Rattle.trace.specs.declared.fault.LineFault.TheVariants.{ClockSpent}
use Rattle.trace.specs.declared.fault.PlayFault.{PlayFault}
use Rattle.trace.specs.declared.fault.PlayFault.TheVariants.{Line as At_line, Read, Write, NoMemory}
use Rattle.trace.specs.declared.version.Version.{Version}
use Rattle.trace.specs.declared.version.Version.TheVariants.{Second}
use Rattle.trace.specs.LinesProcessed.{LineEffect, LinesProcessed, ProcessingEnds}
use Rattle.trace.specs.Numbered.{IsNoEvent}
use Rattle.trace.specs.Spelling.{version_line, Spells, is_skipped, reply_text, entry_line}
use Rattle.trace.specs.Streams.{Given, Taken, GrowsByPart}
use Rattle.trace.specs.TextLine.{Text, IsVersionLine}
use Rattle.heap_model.specs.Event.{Event, Command_done, Runs}
use Rattle.quanta.specs.declared.schedule.TheConstants.{CLOCK_LIMIT}
use Rattle.trace.specs.Player.{PlayerState, QuantaDue, DoesLine, entries_in}
use Rattle.trace.specs.declared.player.style.Style.{Style}
use Rattle.trace.specs.declared.player.style.Style.TheVariants.{Replies, Entries, Nothing}

-- a player, and the text that its sink has taken
pub record Session : Type 0 where
  pub player : PlayerState
  pub taken : List ℕ

-- a player with the text that its sink has taken
abbrev pub session : PlayerState → List ℕ → Session
session player taken = record { player = player; taken = taken }

-- the text written for an entry: the line of its reply, or its own line, each with LF (byte 10) after it; or nothing
abbrev pub written_line : Style → Entry → List ℕ
written_line Replies e = reply_text e.reply ++ 10 ∷ []
written_line Entries e = entry_line e ++ 10 ∷ []
written_line Nothing e = []

-- the text written for entries, one after the other
abbrev pub written_of : Style → List Entry → List ℕ
written_of style entries = flat_map (written_line style) entries

-- the text written for the line that tells the version; it is the first line of a history too
abbrev pub written_version : Version → Style → List ℕ
written_version Second Entries = version_line ++ 10 ∷ []
written_version version style = []

-- the whole text written for a trace of a version
abbrev pub text_written : Style → Version → List Entry → List ℕ
text_written style version entries = written_version version style ++ written_of style entries

-- the line that tells the version is written, and does nothing else
abbrev pub TellsVersionOf : Style → Session → Session → Type 0
TellsVersionOf style old new = (new.player ≡ old.player) × (new.taken ≡ old.taken ++ written_version Second style)

-- A line does these events, and the text for their entries is written.
abbrev pub Plays : Style → Line → Session → List Event → Session → Type 0
Plays style line old events new = DoesLine old.player line events new.player
    × (new.taken ≡ old.taken ++ written_of style (entries_in events))

-- the text spells a line, which does these events
abbrev pub PlaysText : Style → Version → List ℕ → Session → List Event → Session → Type 0
PlaysText style version text old events new = (line : Line) × Spells version text line × Plays style line old events new

-- a line of an input is played: it tells the version, or its text spells a line, which does these events
abbrev pub PlaysLine : Style → Text → Session → List Event → Session → Type 0
PlaysLine style = LineEffect (TellsVersionOf style) (PlaysText style)

-- The faults at a line of this number, and their effects.
abbrev pub Stops : Style → PlayFault → Line → ℕ → Session → Session → Type 0
-- its ticks would pass the clock's limit
Stops style (At_line k ClockSpent) (lines.Tick n) number old new = (k ≡ number)
    × (CLOCK_LIMIT < old.player.timetable.clock + n) × (new.player ≡ old.player) × (new.taken ≡ old.taken)
-- memory was refused for the command's entry, and nothing has changed
Stops style NoMemory (lines.Command m c) number old new = (new.player ≡ old.player) × (new.taken ≡ old.taken)
-- memory was refused for the interval of a quantum that is due: those before it are done, and the clock hasn't moved
Stops style NoMemory (lines.Tick n) number old new =
    ((es : List Event) × (due : ℕ) × QuantaDue (old.player.timetable.clock + n) old.player es new.player
    × (new.player.timetable.due ≡ Some due) × (due < old.player.timetable.clock + n)) × (new.taken ≡ old.taken)
-- a write of the command's line failed: the command is done, and only a beginning of the text for its entry is taken
Stops style Write (lines.Command m c) number old new =
    (reply : Reply) × DoesLine old.player (lines.Command m c) (Command_done m c reply ∷ []) new.player
    × GrowsByPart old.taken new.taken (written_line style (record { mutator = m; command = c; reply = reply }))
Stops style fault line number old new = ⊥

-- A fault at a line's text: it spells no event and doesn't tell the version; or it spells a line that has this fault;
-- or it tells the version, and the write for it failed.
abbrev pub StopsText : Style → PlayFault → Text → Session → Session → Type 0
StopsText style fault text old new =
    (IsNoEvent fault text × (new ≡ old))
    ⊎ (((line : Line) × Spells text.version text.bytes line × Stops style fault line text.number old new)
    ⊎ ((fault ≡ Write) × IsVersionLine text × (new.player ≡ old.player)
    × GrowsByPart old.taken new.taken (written_version Second style)))

-- The play of an input: its lines did these events, one after the other, the text for their entries is written, and
-- it ended so. A fault of a write belongs to the next line, which is done.
pub record Played (style : Style) (given : Given) (old new : Session)
    (result : Result (Unit {0}) PlayFault) : Type 0 where
  pub over : LinesProcessed (PlaysLine style) given old
      (λ reached. ProcessingEnds (StopsText style) reached given.ended new result)
  pub runs : Runs old.player.course over.events over.mid.player.course
  pub grows : over.mid.player.course.history ≡ old.player.course.history ++ entries_in over.events
  pub written : over.mid.taken ≡ old.taken ++ text_written style over.version (entries_in over.events)

-- the line of an event: it isn't skipped, and doesn't tell the version
abbrev pub is_event : List ℕ → Bool
is_event text = not (is_skipped text) && not (bytes_eq text version_line)

-- a line is that of an event, unless it is skipped
abbrev pub says_event : Line → Bool
says_event lines.Skip = false
says_event line = true

-- the last of the lines, if there is one, is that of an event
abbrev pub EndAtEvent : List (List ℕ) → Type 0
EndAtEvent lines = (lines ≡ [])
    ⊎ ((before : List (List ℕ)) × (last : List ℕ) × (lines ≡ before ++ last ∷ []) × IsTrue (is_event last))

-- The play of an input up to the line of its nth event.
abbrev pub PlayedFirst : ℕ → Style → Given → Session → Session → Result (Unit {0}) PlayFault → Type 0
PlayedFirst n style given old new result =
    -- there were fewer events: the whole input was played
    ((all : Played style given old new result) × (count_by is_event all.over.lines < n))
    -- The lines end at the nth event: an input that ends there was played. At most a buffer of the bytes after it was
    -- read, and none of them was looked at.
    ⊎ ((seen : List ℕ) × (more : List ℕ)
    × (first : Played style (record given { after = seen; ended = true }) old new result)
    × (given.after ≡ seen ++ more) × (length more ≤ 65536) × (first.over.rest ≡ [])
    × (count_by is_event first.over.lines ≡ n) × EndAtEvent first.over.lines × (result ≡ Ok tt))

-- if there is an n, the first n events of an input are played; if not, all
abbrev pub PlayedUpTo : Option ℕ → Style → Given → Session → Session → Result (Unit {0}) PlayFault → Type 0
PlayedUpTo None = Played
PlayedUpTo (Some n) = PlayedFirst n

-- Either the play ended so; or the sink was flushed before a read and couldn't send on all that it had taken, and the
-- play ended as if that read had failed. The sink is flushed only if the style writes something.
abbrev pub OrHeld : Style → Taken → Result (Unit {0}) PlayFault → (Result (Unit {0}) PlayFault → Type 0) → Type 0
OrHeld style taken result EndsSo = EndsSo result
    ⊎ ((result ≡ Err Write) × (style ≢ Nothing) × (taken.sent < length taken.after) × EndsSo (Err Read))

-- A front of the lines was sent on: their text, if they have any, is among the bytes that the sink sent on. At most a
-- buffer was read after these lines. The history begins with that of the front.
abbrev pub IsSentUpTo : Style → Given → Session → Session → ℕ → Type 0
IsSentUpTo style given old new sent = LinesProcessed (PlaysLine style) given old
    (λ reached. ((reached.state.taken ≡ old.taken) ⊎ (length reached.state.taken ≤ sent))
    × ((entries : List Entry) × (new.player.course.history ≡ reached.state.player.course.history ++ entries)))

-- The outcome of a line's text: whether it is that of an event, or a fault.
abbrev pub LinePlayed : Style → Text → Session → Session → Result Bool PlayFault → Type 0
LinePlayed style text old new (Ok event) =
    (es : List Event) × PlaysLine style text old es new × (event ≡ is_event text.bytes)
LinePlayed style text old new (Err fault) = StopsText style fault text old new
