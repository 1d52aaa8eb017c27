-- The steps of the lines of an input, as an observer sees them.
use Rattle.std.proofs.Common.{◌≡◌, ◌≢◌, ℕ, ◌+◌, ◌≤◌, ◌⊎◌, inl, inr, Bool, true, false, cond, List, [], ◌∷◌, ◌++◌, length, length-append, Ok, Err, refl, ap, ◌∙◌, sym, subst, append-nil, arith}
use Rattle.std.specs.Prelude.{Option, Some, None, Result}
use Rattle.std.proofs.lemmas.List.{map-append}
use Rattle.size_classes.specs.declared.config.Config.{Config}
use Rattle.heap_model.specs.Event.{Course, Event, Quantum_done}
use Rattle.trace.specs.declared.fault.PlayFault.{PlayFault}
use Rattle.trace.specs.declared.fault.PlayFault.TheVariants.{Line as At_line, Read, Write, NoMemory as Without_memory}
use Rattle.trace.specs.declared.line.Line.{Line}
use Rattle.trace.specs.declared.line_handler.InputEnd.{InputEnd}
use Rattle.trace.specs.declared.version.Version.{Version}
use Rattle.trace.specs.Handling.{LinesHandled}
use Rattle.trace.specs.LinesProcessed.{LinesDone, No_lines, One_line_more}
use Rattle.trace.specs.Numbered.{LineRead}
use Rattle.trace.specs.Streams.{Given}
use Rattle.trace.specs.TextLine.{Text, text_after}
use Rattle.trace.proofs.Handling.{Follows, all_moved, over_all, over_stopped}
use Rattle.trace.specs.declared.player.observed.Observed.{Observed}
use Rattle.trace.specs.declared.player.style.Style.TheVariants.{Nothing}
use Rattle.trace.specs.New.{IsNew}
use Rattle.trace.specs.Observing.{Run, Moment, moment, run_from, run_of, after_steps, after_line, brought, observed, LineSeen, LineObserved, TextStops, TextObserved, RunObserved, RunRefused, StopsNew}
use Rattle.trace.specs.Player.{PlayerState, QuantaDue, None_yet, One_more, DoesLine, Skips, Commands, Goes_on, Spends, Ticks, entries_in}
use Rattle.trace.specs.Player as players
use Rattle.trace.specs.Playing.{Session, session, PlaysLine, StopsText, Played, says_event}
use Rattle.trace.specs.Steps.{Step, step, steps_due, steps_of, steps_in, events_of}
use Rattle.trace.proofs.First.{line_read, told_read}
use Rattle.trace.proofs.Lines.{ends_so, nothing_written}

-- the events of the steps of lines are those of the lines
events_more : (a b : List Step) → events_of (a ++ b) ≡ events_of a ++ events_of b
events_more a b = map-append (λ (s : Step). s.event) a b

events_due : (number until : ℕ) (p : PlayerState) (es : List Event) (q : PlayerState) (due : QuantaDue until p es q) → events_of (steps_due number until p es q due) ≡ es
events_due number until p es q None_yet = refl
events_due number until p es q (One_more fs r due units phase course w is below d) =
    let s = step number (Quantum_done r.budget units phase) r.course course in
    events_more (steps_due number until p fs r w) (s ∷ []) ∙ ap (λ l. l ++ Quantum_done r.budget units phase ∷ []) (events_due number until p fs r w)

events_line : (number : ℕ) (p : PlayerState) (line : Line) (es : List Event) (q : PlayerState) (does : DoesLine p line es q) → events_of (steps_of number p line es q does) ≡ es
events_line number p line es q Skips = refl
events_line number p line es q (Commands m c reply course d) = refl
events_line number p line es q (players.Begins course d) = refl
events_line number p line es q (Goes_on d) = refl
events_line number p line es q (Spends budget units phase course d) = refl
events_line number p line es q (Ticks n fs r small w none) = events_due number (p.timetable.clock + n) p fs r w

pub events_brought : (old new : Session) (ls : List (List ℕ)) (version : Version) (es : List Event) (done : LinesDone (PlaysLine Nothing) old ls version es new) → events_of (brought steps_in done) ≡ es
events_brought old new ls version es No_lines = refl
events_brought old new ls version es (One_line_more before v next es' more line mid new' done (inl tells) after) =
    ap events_of (append-nil (brought steps_in done)) ∙ events_brought old mid before v es' done ∙ sym (append-nil es') ∙ ap (λ l. es' ++ l) (sym tells.1)
events_brought old new ls version es (One_line_more before v next es' more line mid new' done (inr goes) after) =
    let text = text_after before v line in
    events_more (brought steps_in done) (steps_of text.number mid.player goes.1.0 more new'.player goes.1.2.0) ∙ ap (λ l. l ++ events_of (steps_of text.number mid.player goes.1.0 more new'.player goes.1.2.0)) (events_brought old mid before v es' done)
    ∙ ap (λ l. es' ++ l) (events_line text.number mid.player goes.1.0 more new'.player goes.1.2.0)

-- another fault than want of memory is one of the text
stops_text : (fault : PlayFault) (text : Text) (old new : PlayerState) → fault ≢ Without_memory → TextStops fault text old new → StopsText Nothing fault text (session old []) (session new [])
stops_text fault text old new other (inl stops) = stops
stops_text fault text old new other (inr refused) = absurd (other refused.0)

-- the outcome of a line
at_line : {None There : Type 0} → (⊥ × None) ⊎ There → There
at_line (inl none) = absurd none.0
at_line (inr there) = there

module _ {O : Type 0} (HasSeen : Run → O → Type 0) where
  -- a fault at a line that was read is one at its text
  pub text_stops : (Refuses : Type 0) (text : Text) (line : Line) (old new : Observed O) (fault : PlayFault) → LineRead text (Ok (Some line)) → LineObserved HasSeen Refuses line text.number old new (Err fault) → TextStops fault text old.player new.player
  text_stops Refuses text line old new fault read (inl stops) = inl (inr (inl (line, read.1, stops Nothing [])))
  text_stops Refuses text line old new fault read (inr refused) = inr (refused.0, line, read.1, refused.2)

  -- if memory is refused to the observer after a line, the line is done
  pub refused_after : (text : Text) (line : Line) (old : Observed O) (p : PlayerState) (mid : O) → LineRead text (Ok (Some line)) → LineSeen HasSeen text.number line old (observed p mid) → TextStops Without_memory text old.player p
  refused_after text line old p mid read seen = inr (refl, line, read.1, inr (seen.0, seen.1))

  -- no new moment, and no new step
  no_moment : (run : Run) (o : O) → HasSeen run o → HasSeen (record run { moments = run.moments ++ [] }) o
  no_moment run o has = subst (λ l. HasSeen (record run { moments = l }) o) (sym (append-nil run.moments)) has

  nothing_more : (run : Run) (now : Course) (o : O) → run.now ≡ now → HasSeen run o → HasSeen (record run { steps = run.steps ++ []; moments = run.moments ++ []; now = now }) o
  nothing_more run now o is has =
      subst (λ n. HasSeen (record run { steps = run.steps ++ []; moments = run.moments ++ []; now = n }) o) is
      (subst (λ l. HasSeen (record run { steps = l; moments = run.moments ++ [] }) o) (sym (append-nil run.steps)) (no_moment run o has))

  -- the line that tells the version
  pub version_observed : (text : Text) (o : Observed O) (read : Option Line) → LineRead text (Ok read) → ((line : Line) → read ≢ Some line) → TextObserved HasSeen text o o (Ok tt)
  version_observed text o (Some line) told none = absurd (none line refl)
  version_observed text o None told none = (
    [],
    inl (told, refl, (refl, refl)),
    λ run has now. subst (λ b. HasSeen (record run { steps = run.steps ++ []; moments = run.moments ++ cond b (moment text.number o.player.course.heap ∷ []) []; now = o.player.course }) o.observer) (told_read text told)
        (nothing_more run o.player.course o.observer now has),
  )

  -- a line that was read; its end is reported to the observer, if it is that of an event
  observed_to : (text : Text) (line : Line) (old : Observed O) (p : PlayerState) (mid new : O) (event : Bool) → LineRead text (Ok (Some line)) → LineSeen HasSeen text.number line old (observed p mid) → event ≡ says_event line
      → ((run : Run) → HasSeen run mid → run.now ≡ p.course → HasSeen (record run { moments = run.moments ++ cond event (moment text.number p.course.heap ∷ []) [] }) new) → TextObserved HasSeen text old (observed p new) (Ok tt)
  observed_to text line old p mid new event read seen is tells =
      let steps = steps_of text.number old.player line seen.0 p seen.1 in (
        seen.0,
        inr (read.0, (line, read.1, (seen.1, sym (nothing_written (entries_in seen.0))))),
        λ run has now. subst (λ b. HasSeen (record run { steps = run.steps ++ steps; moments = run.moments ++ cond b (moment text.number p.course.heap ∷ []) []; now = p.course }) new) (is ∙ line_read text.bytes text.version line read.1 read.2)
            (tells (after_steps run steps p.course) (seen.2 run has now) refl),
      )

  pub skip_observed : (text : Text) (line : Line) (old : Observed O) (p : PlayerState) (mid : O) (event : Bool) → LineRead text (Ok (Some line)) → LineSeen HasSeen text.number line old (observed p mid) → event ≡ says_event line → event ≡ false → TextObserved HasSeen text old (observed p mid) (Ok tt)
  skip_observed text line old p mid event read seen is off =
      observed_to text line old p mid mid event read seen is
      (λ run has now. subst (λ b. HasSeen (record run { moments = run.moments ++ cond b (moment text.number p.course.heap ∷ []) [] }) mid) (sym off) (no_moment run mid has))

  pub event_observed : (text : Text) (line : Line) (old : Observed O) (p : PlayerState) (mid new : O) (event : Bool) → LineRead text (Ok (Some line)) → LineSeen HasSeen text.number line old (observed p mid) → event ≡ says_event line → event ≡ true
      → ((run : Run) → HasSeen run mid → run.now ≡ p.course → HasSeen (after_line run text.number) new) → TextObserved HasSeen text old (observed p new) (Ok tt)
  event_observed text line old p mid new event read seen is on tells =
      observed_to text line old p mid new event read seen is
      (λ run has now. subst (λ b. HasSeen (record run { moments = run.moments ++ cond b (moment text.number p.course.heap ∷ []) [] }) new) (sym on)
      (subst (λ (r : Course). HasSeen (record run { moments = run.moments ++ moment text.number r.heap ∷ [] }) new) now (tells run has now)))

  at_most_one : (b : Bool) (m : Moment) (ms : List Moment) → length (ms ++ cond b (m ∷ []) []) ≤ length ms + 1
  at_most_one true m ms = (let e = length-append ms (m ∷ []) in omega (arith, e))
  at_most_one false m ms = (let e = length-append {A = Moment} ms [] in omega (arith, e))

  -- a player whose observer has seen nothing yet
  module _ (first : Observed O) (none : HasSeen (run_from first.player.course) first.observer) (given : Given) (new : Observed O) where
    abbrev state : Observed O → Session
    state o = session o.player []

    abbrev Known : (lines : List (List ℕ)) (version : Version) (events : List Event) (now : Observed O) → LinesDone (PlaysLine Nothing) (state first) lines version events (state now) → Type 0
    Known lines version events now done = HasSeen (run_of done) now.observer

    along : Follows (TextObserved HasSeen) (PlaysLine Nothing) state first Known
    along = record {
      at_first = none;
      then = λ lines version events mid done known line new handled. (handled.0, handled.1, λ next after. handled.2 (run_of done) known refl);
    }

    run_observed : (end : InputEnd) → LinesHandled (TextObserved HasSeen) given first new (Ok end) → RunObserved HasSeen given first new (Ok end)
    run_observed end handled =
        let all = all_moved (TextObserved HasSeen) (PlaysLine Nothing) state first Known along given new end handled in
        (ends_so (over_all (TextObserved HasSeen) (PlaysLine Nothing) state first Known (StopsText Nothing) (Unit {0}) given new tt all), all.knows, all.count)

    -- a text stops as its play does
    stops_so : (fault : PlayFault) → LinesHandled (TextObserved HasSeen) given first new (Err fault) → ((text : Text) (mid : Observed O) → TextStops fault text mid.player new.player → StopsText Nothing fault text (state mid) (state new)) → Played Nothing given (state first) (state new) (Err fault)
    stops_so fault handled stops =
        ends_so (over_stopped (TextObserved HasSeen) (PlaysLine Nothing) state first Known (StopsText Nothing) (Unit {0}) given new fault (λ lines version events mid done known line stopped. stops _ mid stopped) along handled)

    -- lines are done up to one at which memory was refused
    refused_so : LinesHandled (TextObserved HasSeen) given first new (Err Without_memory) → RunRefused given first.player new.player
    refused_so handled =
        let o = over_stopped (TextObserved HasSeen) (PlaysLine Nothing) state first Known (λ fault text a b. TextStops fault text a.player b.player) (Unit {0}) given new Without_memory (λ lines version events mid done known line stopped. stopped) along handled in
        record { lines = o.lines; version = o.version; events = o.events; mid = o.mid; rest = o.rest; read = o.read; done = o.done; ends = at_line o.ends }

    run_stops : (fault : PlayFault) → LinesHandled (TextObserved HasSeen) given first new (Err fault) → RunObserved HasSeen given first new (Err fault)
    run_stops Without_memory handled = refused_so handled
    run_stops (At_line k why) handled = stops_so (At_line k why) handled (λ text mid stops. stops_text (At_line k why) text mid.player new.player (λ e. cc) stops)
    run_stops Read handled = stops_so Read handled (λ text mid stops. stops_text Read text mid.player new.player (λ e. cc) stops)
    run_stops Write handled = stops_so Write handled (λ text mid stops. stops_text Write text mid.player new.player (λ e. cc) stops)

    pub all_observed : (result : Result InputEnd PlayFault) → LinesHandled (TextObserved HasSeen) given first new result → RunObserved HasSeen given first new result
    all_observed (Ok end) handled = run_observed end handled
    all_observed (Err fault) handled = run_stops fault handled

  -- a run on a new player that ends with a fault
  pub stops_new : (config : Config) (given : Given) (old new : Observed O) (fault : PlayFault) → RunObserved HasSeen given old new (Err fault) → IsNew config old.player → StopsNew config given fault
  stops_new config given old new Without_memory stops is = inr (old.player, new.player, is, inl stops)
  stops_new config given old new (At_line k why) stops is = (old.player, session new.player [], stops, is)
  stops_new config given old new Read stops is = (old.player, session new.player [], stops, is)
  stops_new config given old new Write stops is = (old.player, session new.player [], stops, is)
