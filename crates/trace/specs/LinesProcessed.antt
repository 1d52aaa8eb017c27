-- Going through the lines of an input, one after the other; the first may tell their version.
use Rattle.std.specs.Prelude.{◌≡◌, ℕ, ◌+◌, ◌<◌, ◌≤◌, Bool, IsTrue, ◌⊎◌, List, [], ◌∷◌, ◌++◌, length, take, Result, Ok, Err}
use Rattle.trace.specs.declared.fault.LineFault.TheVariants.{TooLong, NotEnded}
use Rattle.trace.specs.declared.fault.PlayFault.{PlayFault}
use Rattle.trace.specs.declared.fault.PlayFault.TheVariants.{Line as At_line, Read, Write, NoMemory}
use Rattle.trace.specs.declared.version.Version.{Version}
use Rattle.trace.specs.declared.version.Version.TheVariants.{First}
use Rattle.trace.specs.Streams.{Given}
use Rattle.trace.specs.Lines.{IsLine, NoLf, Splits}
use Rattle.trace.specs.TextLine.{Text, text_after, IsVersionLine, IsNextVersion}

-- The bytes that a source gave are these lines and a rest, of at most a buffer.
pub record LinesRead (given : Given) (lines : List (List ℕ)) (rest : List ℕ) : Type 0 where
  pub text : List ℕ
  pub came : given.after ≡ given.before ++ text
  pub splits : Splits text lines rest
  pub small : length rest ≤ 65536

-- After this many lines the rest has no further line, because of this fault.
abbrev pub NoLine : PlayFault → ℕ → List ℕ → Bool → Type 0
-- 256 bytes came, and the next byte is there and is no LF
NoLine (At_line k TooLong) count rest ended = (k ≡ count + 1) × (256 < length rest) × NoLf (take 257 rest)
-- the input has ended after at least one byte of a line and before its LF
NoLine (At_line k NotEnded) count rest ended = (k ≡ count + 1) × (0 < length rest) × IsLine rest × IsTrue ended
NoLine (At_line k _) count rest ended = ⊥
-- a read failed: the rest is a part of a line
NoLine Read count rest ended = IsLine rest
NoLine Write count rest ended = ⊥
NoLine NoMemory count rest ended = ⊥

-- The rest begins with a line for which Is holds.
abbrev pub NextLine : (List ℕ → Type 0) → List ℕ → Type 0
NextLine Is rest = (line : List ℕ) × (more : List ℕ) × (rest ≡ line ++ 10 ∷ more) × IsLine line × Is line

-- A place among the lines of an input: the lines before it are done, with these events, and lead to this state. The
-- next line would have this version, and the rest isn't done.
pub record Reached (S E : Type 0) : Type 0 where
  pub lines : List (List ℕ)
  pub version : Version
  pub events : List E
  pub state : S
  pub rest : List ℕ

-- the next line there is one for which Is holds
abbrev pub NextThere : {S E : Type 0} → Reached S E → (Text → Type 0) → Type 0
NextThere reached Is = NextLine (λ line. Is (text_after reached.lines reached.version line)) reached.rest

-- Tells old new: the effect on a state of the line that tells the version. Does version line old events new: the
-- effect of a line of a version on a state, and its events.
module _ {S E : Type 0} (Tells : S → S → Type 0) (Does : Version → List ℕ → S → List E → S → Type 0) where
  -- the effect of a line: it tells the version of the lines after it, or it is a line of its version
  abbrev pub LineEffect : Text → S → List E → S → Type 0
  LineEffect text old events new =
      (IsVersionLine text × (events ≡ []) × Tells old new)
      ⊎ ((¬ IsVersionLine text) × Does text.version text.bytes old events new)

-- Moves text old events new: the effect of a line on a state, and its events.
module _ {S E : Type 0} (Moves : Text → S → List E → S → Type 0) where
  -- the lines, one after the other, do these events, and the next is of this version
  pub data LinesDone (old : S) : List (List ℕ) → Version → List E → S → Type 0 where
    No_lines : LinesDone old [] First [] old
    One_line_more : (lines : List (List ℕ)) (version next : Version) (events more : List E) (line : List ℕ)
        (mid new : S) → LinesDone old lines version events mid → Moves (text_after lines version line) mid more new
        → IsNextVersion (text_after lines version line) next
        → LinesDone old (lines ++ line ∷ []) next (events ++ more) new

  -- The play of an input: the bytes that it gave are these lines and a rest, and the lines did these events.
  -- ProcessingEnds says why it ended there.
  pub record LinesProcessed (given : Given) (old : S) (ProcessingEnds : Reached S E → Type 0) : Type 0 where
    pub lines : List (List ℕ)
    pub version : Version
    pub events : List E
    pub mid : S
    pub rest : List ℕ
    pub read : LinesRead given lines rest
    pub done : LinesDone old lines version events mid
    pub ends : ProcessingEnds (record { lines = lines; version = version; events = events; state = mid; rest = rest })

-- Stops fault text old new: a fault comes at the line, and leaves this state.
module _ {S E : Type 0} (Stops : PlayFault → Text → S → S → Type 0) where
  -- The end of the lines, in this state.
  abbrev pub ProcessingEnds : {A : Type 0} → Reached S E → Bool → S → Result A PlayFault → Type 0
  -- all lines of the input are done
  ProcessingEnds reached ended new (Ok all) = (reached.rest ≡ []) × IsTrue ended × (new ≡ reached.state)
  -- there is no next line, or the next line leads to the fault
  ProcessingEnds reached ended new (Err fault) =
      (NoLine fault (length reached.lines) reached.rest ended × (new ≡ reached.state))
      ⊎ NextThere reached (λ text. Stops fault text reached.state new)

-- the number of failed reads
abbrev pub reads_failed : {A : Type 0} → Result A PlayFault → ℕ
reads_failed (Err Read) = 1
reads_failed _ = 0

-- the number of failed writes
abbrev pub writes_failed : {A : Type 0} → Result A PlayFault → ℕ
writes_failed (Err Write) = 1
writes_failed _ = 0
