-- The calls of a program are events of a heap with its history.
use Rattle.std.proofs.Common.{◌≡◌, ◌∙◌, ℕ, List, [], ◌∷◌, Ok, Err, Result, refl, ap, sym, subst}
use Rattle.std.specs.Prelude.{Option, Some, None}
use Rattle.graph_heap.specs.declared.command.Command.{Command}
use Rattle.graph_heap.specs.declared.command.Command.TheVariants as commands
use Rattle.graph_heap.specs.declared.command.Reply.{Reply}
use Rattle.size_classes.specs.declared.settings.Settings.{Settings}
use Rattle.size_classes.specs.declared.config.Config.{Config}
use Rattle.size_classes.specs.declared.fault.ConfigFault.{ConfigFault}
use Rattle.size_classes.specs.declared.ranges.Ranges.TheVariants.{Library}
use Rattle.size_classes.specs.Config.{fault_of}
use Rattle.heap_model.specs.State.{HeapState}
use Rattle.heap_model.specs.Event.{Course, Event, Command_done, IsCourse, Does, Runs}
use Rattle.heap_model.specs.ReachedFrom.{opened}
use Rattle.heap_model.proofs.Event.Kept.{does_course, opening_course}
use Rattle.space.specs.Room.{asks}
use Rattle.space.proofs.Fittings.Configured as configured
use Rattle.fragmentation.specs.Flow.{words_of}
use Rattle.machine.specs.Plan as calls
use Rattle.machine.specs.Recorded.{begin_done, quantum_done}
use Rattle.machine.proofs.Events.{command_event, begin_event, quantum_event}
use Rattle.machine.proofs.Headline.{course_holds, always_holds}
use Rattle.machine.proofs.Space.{finds_space}
use Rattle.paced.specs.declared.cycles.Cycles.{Cycles}
use Rattle.paced.specs.Cycles.{DoesOn, cycles_after, CountsCycles}
use Rattle.paced.proofs.Paths.{begin_on, quantum_on}
use Rattle.metronome_c.specs.declared.answer.Answer.{Answer}
use Rattle.metronome_c.specs.declared.collector.QuantumSpent.{QuantumSpent}
use Rattle.metronome_c.specs.declared.held.Held.TheVariants as holds
use Rattle.metronome_c.specs.declared.own_heap.OwnHeap.{OwnHeap}
use Rattle.metronome_c.specs.declared.status.Status.{Status}
use Rattle.metronome_c.specs.declared.status.Status.TheVariants.{Closed}
use Rattle.metronome_c.specs.Answer.{answer_of, answered}
use Rattle.metronome_c.specs.Asking.{AsksPaying}
use Rattle.metronome_c.specs.Calls.{Call, Command_called, Begin_called, Quantum_called, DoesCall, Calls, TellsEvent, AllTellEvents, AreEvents, IsPromised}
use Rattle.metronome_c.specs.Collecting.{BeginsOpen, SpendsOpen}
use Rattle.metronome_c.specs.Lifetime.{IsMadeOf, IsOwnOf, MakesUnless, Creates}
use Rattle.metronome_c.specs.Steps.{Steps, DoesCommand}
use Rattle.metronome_c.proofs.Outcomes.{begin_told, quantum_told}

module _ (config : Config) where
  -- a heap that keeps no plan, with its cycles
  abbrev bare : Cycles → HeapState → OwnHeap
  bare cs x = record { heap = x; config = config; pacer = None; cycles = cs }

  -- a call is one event of the heap that the handle holds, with its history
  record IsEvent (cs : Cycles) (r : Course) (call : Call) (next : Result OwnHeap Status) : Type 0 where
    pub event : Event
    pub after : Course
    pub does : Does r event after
    pub on : DoesOn r.heap event after.heap
    pub told : TellsEvent event call
    pub left : next ≡ Ok (bare (cycles_after event r.heap after.heap cs) after.heap)

  stepped : (cs : Cycles) (r : Course) (m : ℕ) (c : Command) (reply : Reply) (answer : Answer) (k : HeapState) (next : Result OwnHeap Status)
      → IsCourse r → calls.Steps r.heap m c reply k → answer ≡ answer_of reply → next ≡ Ok (bare cs k) → IsEvent cs r (Command_called m c answer) next
  stepped cs r m c reply answer k next w s told left =
      let e = command_event r m c reply k w s in
      record {
        event = Command_done m c reply;
        after = e.0;
        does = e.2;
        on = subst (λ (x : HeapState). calls.Steps r.heap m c reply x) (sym e.1) s;
        told = ap (Command_called m c) told;
        left = left ∙ ap (λ (x : HeapState). Ok (bare cs x)) (sym e.1);
      }

  step_event : (cs : Cycles) (r : Course) (m : ℕ) (c : Command) (answer : Answer) (next : Result OwnHeap Status) → IsCourse r → Steps (Ok (bare cs r.heap)) m c next answer → IsEvent cs r (Command_called m c answer) next
  step_event cs r m c answer next w s =
      let asked = s.1 in
      stepped cs r m c asked.0 answer asked.1.heap next w asked.4.1 (s.2 ∙ ap answered asked.2) (asked.3 ∙ ap Ok asked.4.0)

  -- where no plan is kept nothing is paid for
  make_event : (cs : Cycles) (r : Course) (m : ℕ) (c : Command) (answer : Answer) (next : Result OwnHeap Status) (reply : Result Reply Status) → IsCourse r
      → AsksPaying (words_of (asks c)) (λ h a k. calls.Steps h m c a k) (Ok (bare cs r.heap)) reply next → answer ≡ answered reply → IsEvent cs r (Command_called m c answer) next
  make_event cs r m c answer next (Err why) w a told = absurd a.2.1.0
  make_event cs r m c answer next (Ok reply) w a told =
      let same : a.2.0 ≡ bare cs r.heap = a.2.1 in
      stepped cs r m c reply answer a.0.heap next w (subst (λ (x : OwnHeap). calls.Steps x.heap m c reply a.0.heap) same a.2.2.1) told
      (a.1 ∙ ap Ok (a.2.2.0 ∙ ap (λ (x : OwnHeap). record x { heap = a.0.heap }) same))

  command_called : (cs : Cycles) (r : Course) (m : ℕ) (c : Command) (answer : Answer) (next : Result OwnHeap Status) → IsCourse r → DoesCommand (Ok (bare cs r.heap)) m c next answer → IsEvent cs r (Command_called m c answer) next
  command_called cs r m (commands.New dst shape) answer next w d = make_event cs r m (commands.New dst shape) answer next d.0 w d.1 d.2
  command_called cs r m c answer next w d = step_event cs r m c answer next w d

  begin_called : (cs : Cycles) (r : Course) (status : ℕ) (next : Result OwnHeap Status) → BeginsOpen (Ok (bare cs r.heap)) next status → IsEvent cs r (Begin_called status) next
  begin_called cs r status next d =
      let e = begin_event r d.0.heap d.1 d.3.2 in
      record {
        event = begin_done d.1;
        after = e.0;
        does = e.2;
        on = subst (λ (x : HeapState). DoesOn r.heap (begin_done d.1) x) (sym e.1) (begin_on r.heap d.0.heap d.1 d.3.2);
        told = begin_told d.1 status d.4;
        left = d.2 ∙ ap Ok d.3.0 ∙ ap (λ (x : HeapState). Ok (bare (cycles_after (begin_done d.1) r.heap x cs) x)) (sym e.1);
      }

  quantum_called : (cs : Cycles) (r : Course) (budget : ℕ) (before after : QuantumSpent) (status : ℕ) (next : Result OwnHeap Status) → SpendsOpen (Ok (bare cs r.heap)) budget next before after status → IsEvent cs r (Quantum_called budget before after status) next
  quantum_called cs r budget before after status next d =
      let e = quantum_event r budget d.0.heap d.1 d.3.2 in
      record {
        event = quantum_done budget d.1;
        after = e.0;
        does = e.2;
        on = subst (λ (x : HeapState). DoesOn r.heap (quantum_done budget d.1) x) (sym e.1) (quantum_on r.heap d.0.heap budget d.1 d.3.2);
        told = quantum_told budget d.1 before after status d.4 d.5;
        left = d.2 ∙ ap Ok d.3.0 ∙ ap (λ (x : HeapState). Ok (bare (cycles_after (quantum_done budget d.1) r.heap x cs) x)) (sym e.1);
      }

  call_event : (cs : Cycles) (r : Course) (call : Call) (next : Result OwnHeap Status) → IsCourse r → DoesCall (Ok (bare cs r.heap)) call next → IsEvent cs r call next
  call_event cs r (Command_called m c answer) next w d = command_called cs r m c answer next w d
  call_event cs r (Begin_called status) next w d = begin_called cs r status next d
  call_event cs r (Quantum_called budget before after status) next w d = quantum_called cs r budget before after status next d

  -- calls are events, one after the other
  record FromHere (cs : Cycles) (r : Course) (calls : List Call) (new : Result OwnHeap Status) : Type 0 where
    pub events : List Event
    pub course : Course
    pub cycles : Cycles
    pub runs : Runs r events course
    pub counts : CountsCycles r.heap cs events course.heap cycles
    pub told : AllTellEvents events calls
    pub left : new ≡ Ok (bare cycles course.heap)
    pub is : IsCourse course

  calls_from : (calls : List Call) (cs : Cycles) (r : Course) (new : Result OwnHeap Status) → IsCourse r → Calls (Ok (bare cs r.heap)) calls new → FromHere cs r calls new
  calls_from [] cs r new w d = record { events = []; course = r; cycles = cs; runs = refl; counts = (refl, refl); told = refl; left = d; is = w }
  calls_from (call ∷ calls) cs r new w d =
      let one = call_event cs r call d.0 w d.1 in
      let next : Cycles = cycles_after one.event r.heap one.after.heap cs in
      let rest = calls_from calls next one.after new (does_course r one.event one.after w one.does) (subst (λ (x : Result OwnHeap Status). Calls x calls new) one.left d.2) in
      record {
        events = one.event ∷ rest.events;
        course = rest.course;
        cycles = rest.cycles;
        runs = (one.after, one.does, rest.runs);
        counts = (one.after.heap, one.on, rest.counts);
        told = (one.told, rest.told);
        left = rest.left;
        is = rest.is;
      }

-- what was created is a heap of a configuration with the settings
made_unless : (fault : Option ConfigFault) (s : Settings) (h : OwnHeap) (status : ℕ) → MakesUnless fault (IsOwnOf s) (Ok (holds.Own h)) status → IsMadeOf s h
made_unless (Some fault) s h status m = absurd (let z : Ok (holds.Own h) ≡ Err Closed = m.0 in cc)
made_unless None s h status m = m.1

pub made_by : (s : Settings) (h : OwnHeap) (status : ℕ) → Creates IsOwnOf (Err Closed) s (Ok (holds.Own h)) status → IsMadeOf s h
made_by s h status created = made_unless (fault_of Library s) s h status created

module _ (s : Settings) (h : OwnHeap) (made : IsMadeOf s h) where
  pub is_course : IsCourse (opened h.heap)
  is_course = opening_course h.heap made.0 (configured.some h.config h.heap made.0 made.2 h.config.pages_in_range.0)

  pub promised : IsPromised s h.heap
  promised = record {
    config = h.config;
    of = made.1;
    made = record {
      heap = made.0;
      settings = made.2;
      course = refl;
    };
    holds = always_holds (opened h.heap) is_course;
    space = finds_space (opened h.heap);
  }

  -- it keeps no plan
  without : h ≡ bare h.config h.cycles h.heap
  without = ap (λ p. record h { pacer = p }) made.3

  pub are_events : (calls : List Call) (new : Result OwnHeap Status) → Calls (Ok h) calls new → AreEvents h calls new
  are_events calls new d =
      let all = calls_from h.config calls h.cycles (opened h.heap) new is_course (subst (λ (x : OwnHeap). Calls (Ok x) calls new) without d) in
      record {
        events = all.events;
        course = all.course;
        cycles = all.cycles;
        runs = all.runs;
        counts = all.counts;
        told = all.told;
        left = all.left ∙ ap (λ (x : OwnHeap). Ok (record x { heap = all.course.heap; cycles = all.cycles })) (sym without);
        holds = course_holds all.course all.is;
      }
