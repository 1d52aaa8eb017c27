-- The steps of lines, as an observer sees them.
use Rattle.std.proofs.Common.{◌≡◌, ◌≢◌, ℕ, ◌+◌, ◌<◌, ◌≤◌, ◌⊎◌, inl, inr, true, List, [], ◌∷◌, ◌++◌, Ok, Err, refl, ap, ◌∙◌, sym, subst, append_assoc, append-nil}
use Rattle.std.specs.Prelude.{Some, None, Result}
use Rattle.graph_heap.specs.declared.command.Command.{Command}
use Rattle.graph_heap.specs.declared.command.Entry.{Entry}
use Rattle.graph_heap.specs.declared.no_memory.NoMemory.{NoMemory}
use Rattle.heap_model.specs.Event.{Course, Event, Command_done, Cycle_begun, Begin_refused, Quantum_done}
use Rattle.quanta.specs.declared.schedule.TheConstants.{CLOCK_LIMIT}
use Rattle.quanta.specs.Timetable.{Timetable, due_below}
use Rattle.trace.specs.declared.line.Line.{Line}
use Rattle.trace.specs.declared.line.Line.TheVariants as lines
use Rattle.trace.specs.declared.player.observed.Observed.{Observed}
use Rattle.trace.specs.declared.player.TickFault.{TickFault}
use Rattle.trace.specs.declared.player.TickFault.TheVariants as faults
use Rattle.trace.specs.Observing.{Run, after_steps, SeesSteps, SeesStep, SeesQuantum, LineSeen, TicksSeen}
use Rattle.trace.specs.Player.{PlayerState, QuantaDue, None_yet, One_more, DoesLine, Skips, Commands, Goes_on, Spends, Ticks}
use Rattle.trace.specs.Player as players
use Rattle.trace.specs.Steps.{Step, step, IsCommand, IsBegin, steps_due, steps_of}
use Rattle.trace.specs.Ticking.{Begun, Spent, DueDone}

-- a run with no new steps
no_steps : (run : Run) (now : Course) → run.now ≡ now → after_steps run [] now ≡ run
no_steps run now e = ap (λ l. record run { steps = l; now = now }) (append-nil run.steps) ∙ ap (λ n. record run { now = n }) (sym e)

module _ {O : Type 0} (HasSeen : Run → O → Type 0) where
  pub sees_none : (r : Course) (o : O) → SeesSteps HasSeen r [] r o o
  sees_none r o run seen now = subst (λ x. HasSeen x o) (sym (no_steps run r now)) seen

  pub skip_seen : (number : ℕ) (o : Observed O) → LineSeen HasSeen number lines.Skip o o
  skip_seen number o = ([], Skips, sees_none o.player.course o.observer)

  -- a command
  sees_command : (number : ℕ) (p q : PlayerState) (line : Line) (es : List Event) (m : ℕ) (c : Command) (e : Entry) (a b : O) (does : DoesLine p line es q) → line ≡ lines.Command m c → es ≡ Command_done m c e.reply ∷ [] → e.mutator ≡ m → e.command ≡ c
      → ((s : Step) → IsCommand e s → SeesStep HasSeen s a b) → SeesSteps HasSeen p.course (steps_of number p line es q does) q.course a b
  sees_command number p q line es m c e a b Skips is event mutator command sees = absurd (cc)
  sees_command number p q line es m c e a b (Commands m' c' reply course d) is event mutator command sees =
      sees (step number (Command_done m' c' reply) p.course course) ((let same : Command_done m' c' reply ≡ Command_done m c e.reply = cc in same ∙ ap (λ k. Command_done k c e.reply) (sym mutator) ∙ ap (λ k. Command_done e.mutator k e.reply) (sym command)), d)
  sees_command number p q line es m c e a b (players.Begins course d) is event mutator command sees = absurd (cc)
  sees_command number p q line es m c e a b (Goes_on d) is event mutator command sees = absurd (cc)
  sees_command number p q line es m c e a b (Spends budget units phase course d) is event mutator command sees = absurd (cc)
  sees_command number p q line es m c e a b (Ticks n fs r small w none) is event mutator command sees = absurd (cc)

  pub command_seen : (number : ℕ) (old new : Observed O) (m : ℕ) (c : Command) (e f : Entry) → f ≡ e → DoesLine old.player (lines.Command m c) (Command_done m c e.reply ∷ []) new.player → e.mutator ≡ m → e.command ≡ c
      → ((s : Step) → IsCommand f s → SeesStep HasSeen s old.observer new.observer) → LineSeen HasSeen number (lines.Command m c) old new
  command_seen number old new m c e f same does mutator command sees =
      (Command_done m c e.reply ∷ [], does, sees_command number old.player new.player (lines.Command m c) _ m c e old.observer new.observer does refl refl mutator command (subst (λ x. (s : Step) → IsCommand x s → SeesStep HasSeen s old.observer new.observer) same sees))

  -- a beginning
  sees_begin : (number : ℕ) (p q : PlayerState) (line : Line) (es : List Event) (a b : O) (does : DoesLine p line es q) → line ≡ lines.Begin
      → ((s : Step) → IsBegin number p.course s → SeesStep HasSeen s a b) → SeesSteps HasSeen p.course (steps_of number p line es q does) q.course a b
  sees_begin number p q line es a b Skips is sees = absurd (cc)
  sees_begin number p q line es a b (Commands m c reply course d) is sees = absurd (cc)
  sees_begin number p q line es a b (players.Begins course d) is sees = sees (step number Cycle_begun p.course course) (refl, refl, inl refl, d)
  sees_begin number p q line es a b (Goes_on d) is sees = sees (step number Begin_refused p.course p.course) (refl, refl, inr refl, d)
  sees_begin number p q line es a b (Spends budget units phase course d) is sees = absurd (cc)
  sees_begin number p q line es a b (Ticks n fs r small w none) is sees = absurd (cc)

  pub begin_seen : (number : ℕ) (old new : Observed O) → Begun old.player new.player → ((s : Step) → IsBegin number old.player.course s → SeesStep HasSeen s old.observer new.observer) → LineSeen HasSeen number lines.Begin old new
  begin_seen number old new begun sees =
      (begun.0, begun.1, sees_begin number old.player new.player lines.Begin begun.0 old.observer new.observer begun.1 refl sees)

  -- a quantum of a line
  pub quantum_seen : (number budget : ℕ) (old new : Observed O) → Spent old.player budget new.player → SeesQuantum HasSeen budget old new → LineSeen HasSeen number (lines.Quantum budget) old new
  quantum_seen number budget old new s sees =
      let T : PlayerState → Type 0 = λ q. (es : List Event) × (does : DoesLine old.player (lines.Quantum budget) es q)
      × SeesSteps HasSeen old.player.course (steps_of number old.player (lines.Quantum budget) es q does) q.course old.observer new.observer in
      let same : new.player.course ≡ s.2 = ap (λ (p : PlayerState). p.course) s.4 in
      subst T (sym s.4)
      (Quantum_done budget s.0 s.1 ∷ [], Spends budget s.0 s.1 s.2 s.3, sees (step number (Quantum_done budget s.0 s.1) old.player.course s.2) ((s.0, s.1, refl), s.3) refl (sym same))

  -- the quanta that are due below a time are done, and the observer has seen them
  abbrev pub QuantaSeen : ℕ → Observed O → Observed O → Type 0
  QuantaSeen until old new = (number : ℕ) → (es : List Event) × (due : QuantaDue until old.player es new.player)
      × SeesSteps HasSeen old.player.course (steps_due number until old.player es new.player due) new.player.course old.observer new.observer

  pub none_seen : (until : ℕ) (o : Observed O) → QuantaSeen until o o
  none_seen until o = λ number. ([], None_yet, sees_none o.player.course o.observer)

  -- one more quantum is done
  pub one_seen : (until : ℕ) (first old new : Observed O) → DueDone until old.player new.player (Ok true) → SeesQuantum HasSeen old.player.budget old new → QuantaSeen until first old → QuantaSeen until first new
  one_seen until first old new d sees so = λ number.
      let l = so number in
      let es = l.0 in
      let w = l.1 in
      let T : PlayerState → Type 0 = λ q. (es : List Event) × (due : QuantaDue until first.player es q)
      × SeesSteps HasSeen first.player.course (steps_due number until first.player es q due) q.course first.observer new.observer in
      let same : new.player.course ≡ d.3 = ap (λ (p : PlayerState). p.course) d.7 in
      let s = step number (Quantum_done old.player.budget d.1 d.2) old.player.course d.3 in
      subst T (sym d.7) (
        es ++ Quantum_done old.player.budget d.1 d.2 ∷ [],
        One_more es old.player d.0 d.1 d.2 d.3 w d.4 d.5 d.6,
        λ run seen now. subst (λ more. HasSeen (record run { steps = more; now = d.3 }) new.observer) (append_assoc run.steps (steps_due number until first.player es old.player w) (s ∷ []))
            (sees s ((d.1, d.2, refl), d.6) refl (sym same) (after_steps run (steps_due number until first.player es old.player w) old.player.course) (l.2 run seen now) refl),
      )

  -- quanta are done, and then the clock moves
  pub ticks_seen : (n until : ℕ) (first mid new : Observed O) (t : Timetable) → until ≤ CLOCK_LIMIT → until ≡ first.player.timetable.clock + n → mid.player.timetable.clock ≡ first.player.timetable.clock → QuantaSeen until first mid
      → due_below until mid.player.timetable.due ≡ None → new.player ≡ record mid.player { timetable = t } → t ≡ record mid.player.timetable { clock = mid.player.timetable.clock + n } → new.observer ≡ mid.observer → (number : ℕ) → LineSeen HasSeen number (lines.Tick n) first new
  ticks_seen n until first mid new t small is clock so none moves by same number =
      let T : PlayerState → Type 0 = λ q. (es : List Event) × (does : DoesLine first.player (lines.Tick n) es q)
      × SeesSteps HasSeen first.player.course (steps_of number first.player (lines.Tick n) es q does) q.course first.observer new.observer in
      let l = subst (λ u. QuantaSeen u first mid) is so number in
      let moved = moves ∙ ap (λ z. record mid.player { timetable = z }) (by ∙ ap (λ c. record mid.player.timetable { clock = c + n }) clock) in
      subst T (sym moved) (
        l.0,
        Ticks n l.0 mid.player (subst (λ u. u ≤ CLOCK_LIMIT) is small) l.1 (subst (λ u. due_below u mid.player.timetable.due ≡ None) is none),
        λ run seen now. subst (λ o. HasSeen (after_steps run (steps_due number (first.player.timetable.clock + n) first.player l.0 mid.player l.1) mid.player.course) o) (sym same) (l.2 run seen now),
      )

  -- memory is refused for the interval of a quantum
  pub ticks_refused : (n until : ℕ) (first mid new : Observed O) (why : NoMemory) → until ≡ first.player.timetable.clock + n → QuantaSeen until first mid → DueDone until mid.player new.player (Err why) → TicksSeen HasSeen n first new (Err faults.NoMemory)
  ticks_refused n until first mid new why is so d =
      let T : ℕ → PlayerState → Type 0 = λ u q. (es : List Event) × (due : ℕ) × QuantaDue u first.player es q × (q.timetable.due ≡ Some due) × (due < u) in
      let l = so 0 in
      subst (λ u. T u new.player) is (subst (T until) (sym d.3) (l.0, d.0, l.1, d.1, d.2))

  pub ticks_passed : (n : ℕ) (old new : Observed O) (r : Result (Unit {0}) TickFault) → TicksSeen HasSeen n old new r → ((why : TickFault) → r ≢ Err why) → (number : ℕ) → LineSeen HasSeen number (lines.Tick n) old new
  ticks_passed n old new (Ok passed) seen passes number = seen number
  ticks_passed n old new (Err why) seen passes number = absurd (passes why refl)

-- if memory can't be refused to the observer
pub in_silence : {A B C : Type 0} → A ⊎ (B × ⊥ × C) → A
in_silence (inl a) = a
in_silence (inr b) = absurd b.1
