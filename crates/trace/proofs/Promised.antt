-- A play leaves a heap with its history with all promises.
use Rattle.std.proofs.Common.{◌≡◌, ◌<◌, ℕ, ◌+◌, inl, inr, Bool, true, Ok, Err, List, [], ◌∷◌, ◌++◌, length, arith, ap, ◌∙◌, sym, subst}
use Rattle.std.specs.Prelude.{Option, None, Some, Result}
use Rattle.graph_heap.specs.declared.command.Entry.{Entry}
use Rattle.size_classes.specs.declared.config.Config.{Config}
use Rattle.heap_model.specs.State.{HeapState}
use Rattle.heap_model.specs.Settings.{HeapSettings}
use Rattle.heap_model.specs.Event.{Course, Event, Command_done, Runs, IsCourse}
use Rattle.heap_model.specs.ReachedFrom.{opened}
use Rattle.heap_model.proofs.Event.Kept.{opening_course}
use Rattle.machine.specs.Headline.{Holds, Follows, AlwaysHolds}
use Rattle.machine.specs.Space.{SpaceSuffices}
use Rattle.machine.proofs.Courses.{runs_then}
use Rattle.machine.proofs.Headline.{always_holds}
use Rattle.machine.proofs.Space.{space_suffices}
use Rattle.trace.specs.declared.fault.PlayFault.{PlayFault}
use Rattle.trace.specs.declared.fault.LineFault.TheVariants.{TooLong, NotEnded, NotAnEvent, NotACommand, NoSuchMutator, NotAnEntry, ClockSpent}
use Rattle.trace.specs.declared.fault.PlayFault.TheVariants.{Line as At_line, Read, Write, NoMemory}
use Rattle.trace.specs.declared.line.Line.{Line}
use Rattle.trace.specs.declared.line.Line.TheVariants as lines
use Rattle.trace.specs.LinesProcessed.{Reached, ProcessingEnds}
use Rattle.trace.specs.TextLine.{Text, text_after}
use Rattle.trace.proofs.LinesProcessed.{reached_by}
use Rattle.trace.specs.Streams.{Given, Taken}
use Rattle.trace.specs.declared.player.style.Style.{Style}
use Rattle.trace.specs.New.{IsNew, StartsWithSpace}
use Rattle.trace.specs.Player.{PlayerState}
use Rattle.trace.specs.Playing.{Session, Stops, StopsText, OrHeld, Played, PlayedUpTo}
use Rattle.trace.proofs.Lines.{due_runs, line_runs}

-- a player after some events
abbrev pub Reaches : PlayerState → PlayerState → Type 0
Reaches old new = (es : List Event) × Runs old.course es new.course

same_reached : (old new : PlayerState) → new ≡ old → Reaches old new
same_reached old new e = ([], ap (λ (p : PlayerState). p.course) e)

-- The player after a line in fault: a command of which a write failed is done, and so are the due quanta before the
-- one for which memory was refused.
line_stopped : (style : Style) (fault : PlayFault) (line : Line) (number : ℕ) (mid new : Session) → Stops style fault line number mid new → Reaches mid.player new.player
line_stopped style (At_line k ClockSpent) lines.Skip number mid new s = elim s [ ]
line_stopped style (At_line k ClockSpent) (lines.Command m c) number mid new s = elim s [ ]
line_stopped style (At_line k ClockSpent) lines.Begin number mid new s = elim s [ ]
line_stopped style (At_line k ClockSpent) (lines.Quantum b) number mid new s = elim s [ ]
line_stopped style (At_line k ClockSpent) (lines.Tick n) number mid new s = same_reached mid.player new.player s.2
line_stopped style (At_line k TooLong) line number mid new s = elim s [ ]
line_stopped style (At_line k NotEnded) line number mid new s = elim s [ ]
line_stopped style (At_line k NotAnEvent) line number mid new s = elim s [ ]
line_stopped style (At_line k NotACommand) line number mid new s = elim s [ ]
line_stopped style (At_line k NoSuchMutator) line number mid new s = elim s [ ]
line_stopped style (At_line k NotAnEntry) line number mid new s = elim s [ ]
line_stopped style Read line number mid new s = elim s [ ]
line_stopped style Write lines.Skip number mid new s = elim s [ ]
line_stopped style Write (lines.Command m c) number mid new s = (Command_done m c s.0 ∷ [], line_runs mid.player (lines.Command m c) (Command_done m c s.0 ∷ []) new.player s.1)
line_stopped style Write lines.Begin number mid new s = elim s [ ]
line_stopped style Write (lines.Quantum b) number mid new s = elim s [ ]
line_stopped style Write (lines.Tick n) number mid new s = elim s [ ]
line_stopped style NoMemory lines.Skip number mid new s = elim s [ ]
line_stopped style NoMemory (lines.Command m c) number mid new s = same_reached mid.player new.player s.0
line_stopped style NoMemory lines.Begin number mid new s = elim s [ ]
line_stopped style NoMemory (lines.Quantum b) number mid new s = elim s [ ]
line_stopped style NoMemory (lines.Tick n) number mid new s = (s.0.0, due_runs (mid.player.timetable.clock + n) mid.player s.0.0 new.player s.0.2)

text_stopped : (style : Style) (fault : PlayFault) (text : Text) (mid new : Session) → StopsText style fault text mid new → Reaches mid.player new.player
text_stopped style fault text mid new (inl none) = same_reached mid.player new.player (ap (λ (s : Session). s.player) none.1)
text_stopped style fault text mid new (inr (inl (line, spells, stops))) = line_stopped style fault line text.number mid new stops
text_stopped style fault text mid new (inr (inr told)) = same_reached mid.player new.player told.2

-- the end of a play
pub end_reached : (style : Style) (reached : Reached Session Event) (ended : Bool) (new : Session) (result : Result (Unit {0}) PlayFault) → ProcessingEnds (StopsText style) reached ended new result → Reaches reached.state.player new.player
end_reached style reached ended new (Ok all) e = same_reached reached.state.player new.player (ap (λ (s : Session). s.player) e.2)
end_reached style reached ended new (Err fault) (inl e) = same_reached reached.state.player new.player (ap (λ (s : Session). s.player) e.1)
end_reached style reached ended new (Err fault) (inr (line, more, whole, is, stops)) = text_stopped style fault (text_after reached.lines reached.version line) reached.state new stops

play_reaches : (style : Style) (given : Given) (old new : Session) (result : Result (Unit {0}) PlayFault) → Played style given old new result → Reaches old.player new.player
play_reaches style given old new result p =
    let last = end_reached style (reached_by p.over) given.ended new result p.over.ends in
    (p.over.events ++ last.0, runs_then p.over.events last.0 old.player.course p.over.mid.player.course new.player.course p.runs last.1)

-- a player after a play up to some event
pub up_to_reaches : (most : Option ℕ) (style : Style) (given : Given) (old new : Session) (result : Result (Unit {0}) PlayFault) → PlayedUpTo most style given old new result → Reaches old.player new.player
up_to_reaches None style given old new result p = play_reaches style given old new result p
up_to_reaches (Some n) style given old new result (inl (all, few)) = play_reaches style given old new result all
up_to_reaches (Some n) style given old new result (inr w) = play_reaches style (record given { after = w.0; ended = true }) old new result w.2

-- a player after a play in which a sink held something back
held_reaches : (most : Option ℕ) (style : Style) (given : Given) (old new : Session) (taken : Taken) (result : Result (Unit {0}) PlayFault) → OrHeld style taken result (PlayedUpTo most style given old new) → Reaches old.player new.player
held_reaches most style given old new taken result (inl p) = up_to_reaches most style given old new result p
held_reaches most style given old new taken result (inr held) = up_to_reaches most style given old new (Err Read) held.3

pub promised : (most : Option ℕ) (style : Style) (given : Given) (old new : Session) (taken : Taken) (result : Result (Unit {0}) PlayFault) → OrHeld style taken result (PlayedUpTo most style given old new) → AlwaysHolds old.player.course
    → Holds new.player.course × Follows old.player.course new.player.course
promised most style given old new taken result p always = let w = held_reaches most style given old new taken result p in always w.0 new.player.course w.1

-- a new player's heap is one that was just made
course_is : (h : HeapState) (history : List Entry) (place : ℕ) → history ≡ [] → place ≡ 0 → (record { heap = h; history = history; place = place }) ≡ opened h
course_is h history place e f = ap (λ z. record { heap = h; history = z; place = place }) e ∙ ap (λ z. record { heap = h; history = []; place = z }) f

new_opened : (config : Config) (p : PlayerState) → IsNew config p → p.course ≡ opened p.course.heap
new_opened config p n = course_is p.course.heap p.course.history p.course.place n.history n.place

pub starts_with_space : (p : PlayerState) → StartsWithSpace p
starts_with_space p config es new n runs = space_suffices config p.course.heap es new n.heap n.settings (subst (λ (r : Course). Runs r es new) (new_opened config p n) runs)

new_course : (config : Config) (p : PlayerState) → IsNew config p → IsCourse p.course
new_course config p n =
    let some : 0 < length p.course.heap.store.pages = (let one = config.pages_in_range.0 in let e = ap (λ (s : HeapSettings). s.pages) n.settings in omega (arith, one, e)) in
    subst IsCourse (sym (new_opened config p n)) (opening_course p.course.heap n.heap some)

-- the promises after a play on a new player
pub play_promised : (config : Config) (style : Style) (given : Given) (old new : Session) (result : Result (Unit {0}) PlayFault) (p : Played style given old new result) → IsNew config old.player → Holds new.player.course × SpaceSuffices config p.over.events
play_promised config style given old new result p n =
    let w = play_reaches style given old new result p in
    ((always_holds old.player.course (new_course config old.player n) w.0 new.player.course w.1).0, starts_with_space old.player config p.over.events p.over.mid.player.course n p.runs)
