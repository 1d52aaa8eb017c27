-- The run that an observer has seen.
use Rattle.std.specs.Prelude.{◌≡◌, ℕ, ◌<◌, ◌⊎◌, Bool, true, if◌then◌else◌, List, [], ◌∷◌, ◌++◌, length, Result, Ok, Err}
use Rattle.graph_heap.specs.declared.no_memory.NoMemory.{NoMemory}
use Rattle.size_classes.specs.declared.config.Config.{Config}
use Rattle.heap_model.specs.Event.{Course, Event}
use Rattle.heap_model.specs.State.{HeapState}
use Rattle.trace.specs.declared.line.Line.{Line}
use Rattle.trace.specs.declared.line.Line.TheVariants as lines
use Rattle.trace.specs.declared.fault.PlayFault.{PlayFault}
use Rattle.trace.specs.declared.fault.PlayFault.TheVariants.{NoMemory as Without_memory}
use Rattle.trace.specs.declared.line_handler.InputEnd.{InputEnd}
use Rattle.trace.specs.declared.version.Version.{Version}
use Rattle.trace.specs.LinesProcessed.{LinesDone, No_lines, One_line_more, LinesProcessed, NextThere}
use Rattle.trace.specs.Spelling.{Spells}
use Rattle.trace.specs.Streams.{Given}
use Rattle.trace.specs.TextLine.{Text, text_after}
use Rattle.trace.specs.declared.player.observed.Observed.{Observed}
use Rattle.trace.specs.declared.player.observer.Mark.{Mark}
use Rattle.trace.specs.declared.player.TickFault.{TickFault}
use Rattle.trace.specs.declared.player.style.Style.{Style}
use Rattle.trace.specs.declared.player.style.Style.TheVariants.{Nothing}
use Rattle.trace.specs.New.{IsNew}
use Rattle.trace.specs.Player.{PlayerState, DoesLine}
use Rattle.trace.specs.Playing.{Session, session, PlaysLine, Stops, StopsText, Played, is_event}
use Rattle.trace.specs.Steps.{Step, IsQuantum, steps_of, steps_in}
use Rattle.trace.specs.Ticking.{Ticked}

-- a heap, and the number of lines after which it was so
pub record Moment : Type 0 where
  pub line : ℕ
  pub heap : HeapState

-- the moment of a heap after this many lines
abbrev pub moment : ℕ → HeapState → Moment
moment line heap = record { line = line; heap = heap }

-- the moment after the line of an event; another line has none
abbrev pub moment_after : Text → HeapState → List Moment
moment_after text heap = if is_event text.bytes then moment text.number heap ∷ [] else []

-- the moments of a line that was played
abbrev pub moments_in : (text : Text) (old : Session) (events : List Event) (new : Session)
    → PlaysLine Nothing text old events new → List Moment
moments_in text old events new goes = moment_after text new.player.course.heap

-- Brings text old events new goes: the items that a line brings that was played.
module _ {X : Type 0}
    (Brings : (text : Text) (old : Session) (events : List Event) (new : Session)
    → PlaysLine Nothing text old events new → List X) where
  -- the items that all these lines bring, one after the other
  abbrev pub brought : {old new : Session} {lines : List (List ℕ)} {version : Version} {events : List Event}
      → LinesDone (PlaysLine Nothing) old lines version events new → List X
  brought No_lines = []
  brought (One_line_more before version next events more line mid new done goes after) =
      brought done ++ Brings (text_after before version line) mid more new goes

-- A run so far: its beginning, its steps, the moments after its lines of events, and its present place.
pub record Run : Type 0 where
  pub first : Course
  pub steps : List Step
  pub moments : List Moment
  pub now : Course

-- a run that begins here
abbrev pub run_from : Course → Run
run_from r = record { first = r; steps = []; moments = []; now = r }

-- the run after these steps, which led to a moment
abbrev pub after_steps : Run → List Step → Course → Run
after_steps run more now = record run { steps = run.steps ++ more; now = now }

-- the run after the line of an event
abbrev pub after_line : Run → ℕ → Run
after_line run number = record run { moments = run.moments ++ moment number run.now.heap ∷ [] }

-- the run of lines that were played
abbrev pub run_of : {old new : Session} {lines : List (List ℕ)} {version : Version} {events : List Event}
    → LinesDone (PlaysLine Nothing) old lines version events new → Run
run_of {old} {new} done = record {
  first = old.player.course;
  steps = brought steps_in done;
  moments = brought moments_in done;
  now = new.player.course;
}

-- the run of an input that was played to its end
abbrev pub run_by : {given : Given} {old new : Session} → Played Nothing given old new (Ok tt) → Run
run_by {new = new} played = record (run_of played.over.done) { now = new.player.course }

-- the state of a heap's collector
pub record IsMark (h : HeapState) (m : Mark) : Type 0 where
  pub phase : m.phase ≡ h.phase
  pub units : m.units ≡ h.units

-- a player with an observer
abbrev pub observed : {O : Type 0} → PlayerState → O → Observed O
observed player observer = record { player = player; observer = observer }

-- a line is done, or nothing has changed
abbrev pub IsDoneOrNot : Line → PlayerState → PlayerState → Type 0
IsDoneOrNot line old new = (new ≡ old) ⊎ ((es : List Event) × DoesLine old line es new)

-- A fault at a line's text is one of a play, or memory was refused to the observer, before the line was done or after
-- it.
abbrev pub TextStops : PlayFault → Text → PlayerState → PlayerState → Type 0
TextStops fault text old new = StopsText Nothing fault text (session old []) (session new [])
    ⊎ ((fault ≡ Without_memory) × (line : Line) × Spells text.version text.bytes line × IsDoneOrNot line old new)

-- Lines of an input are played, and memory was refused at the next.
abbrev pub RunRefused : Given → PlayerState → PlayerState → Type 0
RunRefused given old new = LinesProcessed (PlaysLine Nothing) given (session old [])
    (λ reached. NextThere reached (λ text. TextStops Without_memory text reached.state.player new))

-- Memory was refused before anything was read; or lines of an input, or all of it, were played on a new player, and
-- then memory was refused.
abbrev pub RefusedNew : Config → Given → Type 0
RefusedNew config given = (given.after ≡ given.before)
    ⊎ ((old : PlayerState) × (new : PlayerState) × IsNew config old
    × (RunRefused given old new ⊎ Played Nothing given (session old []) (session new []) (Ok tt)))

-- the fault is one with which playing an input on a new player ends; or memory was refused
abbrev pub StopsNew : Config → Given → PlayFault → Type 0
StopsNew config given Without_memory = RefusedNew config given
StopsNew config given fault = (old : PlayerState) × (new : Session)
    × Played Nothing given (session old []) new (Err fault) × IsNew config old

-- HasSeen run observer: the condition on an observer that has seen a run.
module _ {O : Type 0} (HasSeen : Run → O → Type 0) where
  -- an observer that has seen a run has also seen these next steps, which lead from one moment to another
  abbrev pub SeesSteps : Course → List Step → Course → O → O → Type 0
  SeesSteps before more after old new =
      (run : Run) → HasSeen run old → run.now ≡ before → HasSeen (after_steps run more after) new

  -- an observer that has seen a run up to a step has also seen this step
  abbrev pub SeesStep : Step → O → O → Type 0
  SeesStep s = SeesSteps s.before (s ∷ []) s.after

  -- an observer has seen a quantum of this budget
  abbrev pub SeesQuantum : ℕ → Observed O → Observed O → Type 0
  SeesQuantum budget old new = (s : Step) → IsQuantum budget s → s.before ≡ old.player.course
      → s.after ≡ new.player.course → SeesStep s old.observer new.observer

  -- an observer has seen the quantum that was due, if one was
  abbrev pub SeesDue : Observed O → Observed O → Result Bool NoMemory → Type 0
  SeesDue old new (Ok true) = SeesQuantum old.player.budget old new
  SeesDue old new other = new.observer ≡ old.observer

  -- a line of this number is done, and the observer has seen its steps
  abbrev pub LineSeen : ℕ → Line → Observed O → Observed O → Type 0
  LineSeen number line old new = (es : List Event) × (does : DoesLine old.player line es new.player)
      × SeesSteps old.player.course (steps_of number old.player line es new.player does) new.player.course
      old.observer new.observer

  -- ticks pass so, whatever the number of their line is; or they don't pass
  abbrev pub TicksSeen : ℕ → Observed O → Observed O → Result (Unit {0}) TickFault → Type 0
  TicksSeen n old new (Ok passed) = (number : ℕ) → LineSeen number (lines.Tick n) old new
  TicksSeen n old new (Err fault) = Ticked n old.player new.player (Err fault)

  -- The outcome of a line of this number, for any style and any text before it. The line stops with a fault; or, if
  -- memory may be refused to the observer, because it was, before the line was done or after it.
  abbrev pub LineObserved :
      Type 0 → Line → ℕ → Observed O → Observed O → Result (Unit {0}) PlayFault → Type 0
  LineObserved Refuses line number old new (Ok done) = LineSeen number line old new
  LineObserved Refuses line number old new (Err fault) =
      ((style : Style) (taken : List ℕ)
      → Stops style fault line number (session old.player taken) (session new.player taken))
      ⊎ ((fault ≡ Without_memory) × Refuses × IsDoneOrNot line old.player new.player)

  -- the outcome of a line's text: it is played, and the observer has seen its steps and its moment; or it stops with
  -- a fault
  abbrev pub TextObserved : Text → Observed O → Observed O → Result (Unit {0}) PlayFault → Type 0
  TextObserved text old new (Ok done) =
      (es : List Event) × (goes : PlaysLine Nothing text (session old.player []) es (session new.player []))
      × ((run : Run) → HasSeen run old.observer → run.now ≡ old.player.course
      → HasSeen (record run {
        steps = run.steps ++ steps_in text (session old.player []) es (session new.player []) goes;
        moments = run.moments ++ moment_after text new.player.course.heap;
        now = new.player.course;
      }) new.observer)
  TextObserved text old new (Err fault) = TextStops fault text old.player new.player

  -- before a line of this number the observer has seen a run that led here, with fewer lines of events
  abbrev pub IsObserved : ℕ → Observed O → Type 0
  IsObserved number o =
      (run : Run) × HasSeen run o.observer × (run.now ≡ o.player.course) × (length run.moments < number)

  -- The lines of an input are played, and the observer has seen their run, and end.lines is their number; or playing
  -- them ends with this fault; or memory was refused at a line.
  abbrev pub RunObserved : Given → Observed O → Observed O → Result InputEnd PlayFault → Type 0
  RunObserved given old new (Ok end) =
      (played : Played Nothing given (session old.player []) (session new.player []) (Ok tt))
      × HasSeen (run_by played) new.observer × (end.lines ≡ length played.over.lines)
  RunObserved given old new (Err Without_memory) = RunRefused given old.player new.player
  RunObserved given old new (Err fault) =
      Played Nothing given (session old.player []) (session new.player []) (Err fault)
