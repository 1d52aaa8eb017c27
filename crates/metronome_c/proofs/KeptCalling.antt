-- The calls of a program on a handle whose heap keeps a plan.
use Rattle.std.proofs.Common.{◌≡◌, ◌∙◌, ℕ, List, [], ◌∷◌, ◌++◌, Ok, Err, Result, Bool, true, false, refl, ap, sym, subst, inl, inr, arith, append-nil}
use Rattle.std.specs.Prelude.{Option, Some, None}
use Rattle.graph_heap.specs.declared.command.Command.{Command}
use Rattle.graph_heap.specs.declared.command.Command.TheVariants as commands
use Rattle.graph_heap.specs.declared.command.Shape.{Shape}
use Rattle.graph_heap.specs.declared.command.Refusal.{Refusal}
use Rattle.graph_heap.specs.declared.command.Reply.{Reply}
use Rattle.graph_heap.specs.declared.command.Reply.TheVariants as replies
use Rattle.size_classes.specs.declared.settings.Settings.{Settings}
use Rattle.size_classes.specs.declared.config.Config.{Config}
use Rattle.heap_model.specs.State.{HeapState}
use Rattle.heap_model.specs.Event.{Event, Command_done, Cycle_begun, Begin_refused, Quantum_done, Quantum_refused}
use Rattle.heap_model.specs.ReachedFrom.{opened}
use Rattle.heap_model.proofs.Event.Kept.{runs_course}
use Rattle.space.specs.Room.{asks}
use Rattle.fragmentation.specs.Flow.{words_of}
use Rattle.machine.specs.Plan as calls
use Rattle.machine.specs.Recorded.{begin_done, quantum_done}
use Rattle.machine.proofs.Headline.{course_holds}
use Rattle.paced.specs.declared.cycles.Cycles.{Cycles}
use Rattle.paced.specs.Cycles.{DoesOn, cycles_after, CountsCycles}
use Rattle.paced.specs.Pacing.{PacerView, PacedState, PacedView, paced_by, state_of, shape_words, counted, Path, KeepsPlan, MakesNothing, WorksFor, Pays}
use Rattle.paced.specs.Rooms.{IsJustPaced, first_counts, first_pacer}
use Rattle.paced.proofs.Opened.{finds_room}
use Rattle.paced.specs.Bounds.{Deed, IsDone, AreDone, without_work, events_of as deed_events}
use Rattle.paced.proofs.Deeds.{alone_deed, deeds_path, deeds_then, events_then, path_deeds, events_alone}
use Rattle.paced.proofs.Paths.{path_then, cycles_then, begin_on, quantum_on, work_paces, begin_path, quantum_path, other_path}
use Rattle.bulk.specs.declared.progress.Progress.{Progress}
use Rattle.bulk.specs.InOrder.{InOrder, DoesFront, events_of, with_refusal}
use Rattle.metronome_c.specs.declared.answer.Answer.{Answer}
use Rattle.metronome_c.specs.declared.bulk_calls.MetronomeProgress.{MetronomeProgress}
use Rattle.metronome_c.specs.declared.collector.QuantumSpent.{QuantumSpent}
use Rattle.metronome_c.specs.declared.own_heap.OwnHeap.{OwnHeap}
use Rattle.metronome_c.specs.declared.planning.MetronomeFlow.{MetronomeFlow}
use Rattle.metronome_c.specs.declared.status.Status.{Status}
use Rattle.metronome_c.specs.declared.status.Status.TheVariants.{Done}
use Rattle.metronome_c.specs.Answer.{answered, refused}
use Rattle.metronome_c.specs.Asking.{AsksPaying}
use Rattle.metronome_c.specs.BulkCalls.{progress_told, DoesList}
use Rattle.metronome_c.specs.Calls.{Call, Command_called, Begin_called, Quantum_called, TellsEvent}
use Rattle.metronome_c.specs.Collecting.{BeginsOpen, SpendsOpen}
use Rattle.metronome_c.specs.Keeping.{kept, CanKeep, KeepsHeld, keep_status, KeepsOwn}
use Rattle.metronome_c.specs.Costs.{paid_first, WasDeeds, WereDeeds}
use Rattle.metronome_c.specs.KeptCalls.{KeptCall, Called, List_called, Prepare_called, MakeNothing, DoesCommands, DoesKept, KeptCalls, AreWork, WasPiece, WasEvents, WereEvents, KeepsRoom}
use Rattle.metronome_c.specs.Preparing.{PreparesHeld}
use Rattle.metronome_c.specs.Lifetime.{IsMadeOf}
use Rattle.metronome_c.specs.Planning.{plan_in}
use Rattle.metronome_c.specs.Status.{status_number}
use Rattle.metronome_c.specs.Steps.{Steps, DoesCommand}
use Rattle.metronome_c.proofs.Calling.{is_course}
use Rattle.metronome_c.proofs.Outcomes.{begin_told, quantum_told}

-- no event is left where no reply is
none_left : (m : ℕ) (cs : List Command) → events_of m cs [] ≡ []
none_left m [] = refl
none_left m (c ∷ cs) = refl

-- a list of commands of which none makes an object keeps the plan
list_path : (m : ℕ) (cs : List Command) (rs : List Reply) (why : Option Refusal) (v : PacedState) (after : HeapState) → MakeNothing cs → InOrder m v.heap cs rs why after
    → Path KeepsPlan v (events_of m cs (with_refusal rs why)) (record v { heap = after })
list_path m [] [] None v after n i = ap (λ (x : HeapState). record v { heap = x }) i
list_path m [] [] (Some why) v after n i = absurd i
list_path m [] (q ∷ qs) why v after n i = absurd i
list_path m (c ∷ cs) [] None v after n i = absurd i
list_path m (c ∷ cs) [] (Some why) v after n i =
    subst (λ (es : List Event). Path KeepsPlan v (Command_done m c (replies.Refused why) ∷ es) (record v { heap = after })) (sym (none_left m cs)) (other_path v m c (replies.Refused why) after n.0 i)
list_path m (c ∷ cs) (q ∷ qs) None v after n i =
    path_then KeepsPlan (Command_done m c q ∷ []) (events_of m cs qs) v (record v { heap = i.0 }) (record v { heap = after }) (other_path v m c q i.0 n.0 i.1) (list_path m cs qs None (record v { heap = i.0 }) after n.1 i.3)
list_path m (c ∷ cs) (q ∷ qs) (Some why) v after n i =
    path_then KeepsPlan (Command_done m c q ∷ []) (events_of m cs (with_refusal qs (Some why))) v (record v { heap = i.0 }) (record v { heap = after }) (other_path v m c q i.0 n.0 i.1) (list_path m cs qs (Some why) (record v { heap = i.0 }) after n.1 i.3)

-- and it counts for no cycle
list_counts : (m : ℕ) (cs : List Command) (rs : List Reply) (why : Option Refusal) (h : HeapState) (c : Cycles) (after : HeapState) → InOrder m h cs rs why after
    → CountsCycles h c (events_of m cs (with_refusal rs why)) after c
list_counts m [] [] None h c after i = (i, refl)
list_counts m [] [] (Some why) h c after i = absurd i
list_counts m [] (q ∷ qs) why h c after i = absurd i
list_counts m (x ∷ cs) [] None h c after i = absurd i
list_counts m (x ∷ cs) [] (Some why) h c after i =
    subst (λ (es : List Event). CountsCycles h c (Command_done m x (replies.Refused why) ∷ es) after c) (sym (none_left m cs)) (after, i, (refl, refl))
list_counts m (x ∷ cs) (q ∷ qs) None h c after i = (i.0, i.1, list_counts m cs qs None i.0 c after i.3)
list_counts m (x ∷ cs) (q ∷ qs) (Some why) h c after i = (i.0, i.1, list_counts m cs qs (Some why) i.0 c after i.3)

-- a command that is done once its words were paid for is a deed
paid_deed : (old mid : PacedView) (m : ℕ) (c : Command) (reply : Reply) (after : HeapState) (w : Pays old (words_of (asks c)) mid) → calls.Steps mid.heap m c reply after
    → IsDone (state_of old) (record { work = w.work; event = Command_done m c reply }) (record { heap = after; counts = mid.pacer.counts })
paid_deed old mid m c reply after w steps = record { before = record { heap = mid.heap; counts = w.before }; works = w.works; may = w.may; does = steps; counts = w.counts }

-- a list that makes an object first, once that was paid for, is deeds
first_deeds : (old mid : PacedView) (m : ℕ) (c : Command) (cs : List Command) (rs : List Reply) (why : Option Refusal) (after : HeapState) (w : Pays old (words_of (asks c)) mid) → MakeNothing cs → InOrder m mid.heap (c ∷ cs) rs why after
    → AreDone (state_of old) (paid_first w.work (events_of m (c ∷ cs) (with_refusal rs why))) (record { heap = after; counts = mid.pacer.counts })
first_deeds old mid m c cs [] None after w n i = absurd i
first_deeds old mid m c cs [] (Some why) after w n i =
    let now : PacedState = record { heap = after; counts = mid.pacer.counts } in
    (now, paid_deed old mid m c (replies.Refused why) after w i, subst (λ (es : List Event). AreDone now (without_work es) now) (sym (none_left m cs)) refl)
first_deeds old mid m c cs (q ∷ qs) None after w n i =
    let next : PacedState = record { heap = i.0; counts = mid.pacer.counts } in
    (next, paid_deed old mid m c q i.0 w i.1, path_deeds (events_of m cs qs) next (record next { heap = after }) (list_path m cs qs None next after n i.3))
first_deeds old mid m c cs (q ∷ qs) (Some why) after w n i =
    let next : PacedState = record { heap = i.0; counts = mid.pacer.counts } in
    (next, paid_deed old mid m c q i.0 w i.1, path_deeds (events_of m cs (with_refusal qs (Some why))) next (record next { heap = after }) (list_path m cs qs (Some why) next after n i.3))

-- deeds without work are those before which nothing was done
none_first : (es : List Event) → without_work es ≡ paid_first [] es
none_first [] = refl
none_first (e ∷ es) = refl

events_paid : (work es : List Event) → deed_events (paid_first work es) ≡ work ++ es
events_paid work [] = events_alone work ∙ sym (append-nil work)
events_paid work (e ∷ es) = ap (λ z. work ++ e ∷ z) (events_alone es)

-- what the collector does for words is its own work
pub are_work : (words : ℕ) (es : List Event) (old new : PacedState) → Path (WorksFor words) old es new → AreWork es
are_work words [] old new p = tt
are_work words (Command_done m c reply ∷ es) old new p = absurd p.1
are_work words (Cycle_begun ∷ es) old new p = (tt, are_work words es p.0 new p.4)
are_work words (Begin_refused ∷ es) old new p = absurd p.1
are_work words (Quantum_done budget units phase ∷ es) old new p = (tt, are_work words es p.0 new p.4)
are_work words (Quantum_refused budget ∷ es) old new p = absurd p.1

module _ (config : Config) where
  -- a heap that keeps a plan
  abbrev pub held : PacedView → OwnHeap
  held v = record { heap = v.heap; config = config; pacer = Some v.pacer; cycles = v.cycles }

  -- what was done is deeds, which count for the cycles, and of which something holds
  pub record KeptBy (v : PacedView) (Tells : List Deed → Type 0) (next : Result OwnHeap Status) : Type 0 where
    pub deeds : List Deed
    pub view : PacedView
    pub left : next ≡ Ok (held view)
    pub done : AreDone (state_of v) deeds (state_of view)
    pub counts : CountsCycles v.heap v.cycles (deed_events deeds) view.heap view.cycles
    pub tells : Tells deeds

  -- nothing was done
  none_kept : (v : PacedView) (Tells : List Deed → Type 0) (next : Result OwnHeap Status) → next ≡ Ok (held v) → Tells [] → KeptBy v Tells next
  none_kept v Tells next left tells = record { deeds = []; view = v; left = left; done = refl; counts = (refl, refl); tells = tells }

  -- a call is deeds
  abbrev WasKept : PacedView → KeptCall → Result OwnHeap Status → Type 0
  WasKept v call next = KeptBy v (λ deeds. WasDeeds deeds call) next

  -- one event alone
  one_kept : (v w : PacedView) (e : Event) (call : Call) (next : Result OwnHeap Status) → next ≡ Ok (held w) → Path KeepsPlan (state_of v) (e ∷ []) (state_of w) → DoesOn v.heap e w.heap → w.cycles ≡ cycles_after e v.heap w.heap v.cycles → TellsEvent e call
      → WasKept v (Called call) next
  one_kept v w e call next left path does cycles told =
      let d : Deed = record { work = []; event = e } in
      record { deeds = d ∷ []; view = w; left = left; done = (state_of w, alone_deed (state_of v) (state_of w) e path, refl); counts = (w.heap, does, (refl, cycles)); tells = inr (d, refl, tt, told) }

  step_kept : (v : PacedView) (m : ℕ) (c : Command) (answer : Answer) (next : Result OwnHeap Status) → MakesNothing c → Steps (Ok (held v)) m c next answer → WasKept v (Called (Command_called m c answer)) next
  step_kept v m c answer next none s =
      let asked = s.1 in
      one_kept v (record v { heap = asked.1.heap }) (Command_done m c asked.0) (Command_called m c answer) next (asked.3 ∙ ap Ok asked.4.0) (other_path (state_of v) m c asked.0 asked.1.heap none asked.4.1) asked.4.1 refl (ap (Command_called m c) (s.2 ∙ ap answered asked.2))

  make_kept : (v : PacedView) (m dst : ℕ) (shape : Shape) (answer : Answer) (next : Result OwnHeap Status) (reply : Result Reply Status)
      → AsksPaying (words_of (asks (commands.New dst shape))) (λ x a k. calls.Steps x m (commands.New dst shape) a k) (Ok (held v)) reply next → answer ≡ answered reply → WasKept v (Called (Command_called m (commands.New dst shape) answer)) next
  make_kept v m dst shape answer next (Err why) a told =
      let call = Command_called m (commands.New dst shape) in
      none_kept v (λ deeds. WasDeeds deeds (Called (call answer))) next (a.1 ∙ ap Ok a.2.1.1) (inl (refl, (m, dst, shape, ap call (told ∙ ap refused a.2.0))))
  make_kept v m dst shape answer next (Ok reply) a told =
      let c = commands.New dst shape in
      let paid = a.2.1 in
      let mid : PacedView = paced_by paid.0 a.2.0.heap a.2.0.cycles in
      let same : a.2.0 ≡ held mid = paid.1 in
      let e = Command_done m c reply in
      let steps : calls.Steps a.2.0.heap m c reply a.0.heap = a.2.2.1 in
      let d : Deed = record { work = paid.3.work; event = e } in
      record {
        deeds = d ∷ [];
        view = record mid { heap = a.0.heap };
        left = a.1 ∙ ap Ok (a.2.2.0 ∙ ap (λ (x : OwnHeap). record x { heap = a.0.heap }) same);
        done = (record { heap = a.0.heap; counts = mid.pacer.counts }, paid_deed v mid m c reply a.0.heap paid.3 steps, refl);
        counts = cycles_then paid.3.work (e ∷ []) v.heap mid.heap a.0.heap v.cycles mid.cycles mid.cycles paid.3.cycles (a.0.heap, steps, (refl, refl));
        tells = inr (d, refl, are_work (words_of (asks c)) paid.3.work (state_of v) (record { heap = mid.heap; counts = paid.3.before }) paid.3.works, ap (Command_called m c) told);
      }

  command_kept : (v : PacedView) (m : ℕ) (c : Command) (answer : Answer) (next : Result OwnHeap Status) → DoesCommand (Ok (held v)) m c next answer → WasKept v (Called (Command_called m c answer)) next
  command_kept v m (commands.New dst shape) answer next d = make_kept v m dst shape answer next d.0 d.1 d.2
  command_kept v m c answer next d = step_kept v m c answer next tt d

  begin_kept : (v : PacedView) (status : ℕ) (next : Result OwnHeap Status) → BeginsOpen (Ok (held v)) next status → WasKept v (Called (Begin_called status)) next
  begin_kept v status next d =
      let e = begin_done d.1 in
      let q : PacerView = record v.pacer { counts = counted v.pacer.counts e } in
      one_kept v (paced_by q d.0.heap (cycles_after e v.heap d.0.heap v.cycles)) e (Begin_called status) next (d.2 ∙ ap Ok d.3.0) (begin_path v.pacer q v.heap d.0.heap d.1 d.3.2 refl) (begin_on v.heap d.0.heap d.1 d.3.2) refl (begin_told d.1 status d.4)

  quantum_kept : (v : PacedView) (budget : ℕ) (before after : QuantumSpent) (status : ℕ) (next : Result OwnHeap Status) → SpendsOpen (Ok (held v)) budget next before after status → WasKept v (Called (Quantum_called budget before after status)) next
  quantum_kept v budget before after status next d =
      let e = quantum_done budget d.1 in
      let q : PacerView = record v.pacer { counts = counted v.pacer.counts e } in
      one_kept v (paced_by q d.0.heap (cycles_after e v.heap d.0.heap v.cycles)) e (Quantum_called budget before after status) next (d.2 ∙ ap Ok d.3.0) (quantum_path v.pacer q v.heap d.0.heap budget d.1 d.3.2 refl) (quantum_on v.heap d.0.heap budget d.1 d.3.2) refl (quantum_told budget d.1 before after status d.4 d.5)

  list_kept : (v : PacedView) (m : ℕ) (cs : List Command) (told : MetronomeProgress) (next : Result OwnHeap Status) → MakeNothing cs → DoesList (Ok (held v)) m cs next told → WasKept v (List_called m cs told) next
  list_kept v m cs told next none d =
      let asked = d.1 in
      let done = asked.4.1 in
      let es = events_of m cs (with_refusal done.0 asked.0.refused) in
      let w : PacedView = record v { heap = asked.1.heap } in
      record {
        deeds = without_work es;
        view = w;
        left = asked.3 ∙ ap Ok asked.4.0;
        done = path_deeds es (state_of v) (state_of w) (list_path m cs done.0 asked.0.refused (state_of v) asked.1.heap none done.1.order);
        counts = subst (λ (z : List Event). CountsCycles v.heap v.cycles z asked.1.heap v.cycles) (sym (events_alone es)) (list_counts m cs done.0 asked.0.refused v.heap v.cycles asked.1.heap done.1.order);
        tells = inr ([], done.0, asked.0, none_first es, tt, done.1.done, d.2 ∙ ap progress_told asked.2);
      }

  made_kept : (v : PacedView) (m dst : ℕ) (shape : Shape) (cs : List Command) (told : MetronomeProgress) (next : Result OwnHeap Status) (progress : Result Progress Status) → MakeNothing cs
      → AsksPaying (shape_words shape) (λ x a k. DoesFront x m (commands.New dst shape ∷ cs) a k) (Ok (held v)) progress next → told ≡ progress_told progress → WasKept v (List_called m (commands.New dst shape ∷ cs) told) next
  made_kept v m dst shape cs told next (Err why) none a is =
      none_kept v (λ deeds. WasDeeds deeds (List_called m (commands.New dst shape ∷ cs) told)) next (a.1 ∙ ap Ok a.2.1.1) (inl (refl, is ∙ ap (λ (w : Status). progress_told (Err w)) a.2.0))
  made_kept v m dst shape cs told next (Ok progress) none a is =
      let c = commands.New dst shape in
      let paid = a.2.1 in
      let mid : PacedView = paced_by paid.0 a.2.0.heap a.2.0.cycles in
      let same : a.2.0 ≡ held mid = paid.1 in
      let done : DoesFront a.2.0.heap m (c ∷ cs) progress a.0.heap = a.2.2.1 in
      let es = events_of m (c ∷ cs) (with_refusal done.0 progress.refused) in
      record {
        deeds = paid_first paid.3.work es;
        view = record mid { heap = a.0.heap };
        left = a.1 ∙ ap Ok (a.2.2.0 ∙ ap (λ (x : OwnHeap). record x { heap = a.0.heap }) same);
        done = first_deeds v mid m c cs done.0 progress.refused a.0.heap paid.3 none done.1.order;
        counts = subst (λ (z : List Event). CountsCycles v.heap v.cycles z a.0.heap mid.cycles) (sym (events_paid paid.3.work es))
            (cycles_then paid.3.work es v.heap mid.heap a.0.heap v.cycles mid.cycles mid.cycles paid.3.cycles (list_counts m (c ∷ cs) done.0 progress.refused mid.heap mid.cycles a.0.heap done.1.order));
        tells = inr (paid.3.work, done.0, progress, refl, are_work (words_of (asks c)) paid.3.work (state_of v) (record { heap = mid.heap; counts = paid.3.before }) paid.3.works, done.1.done, is);
      }

  commands_kept : (v : PacedView) (m : ℕ) (cs : List Command) (told : MetronomeProgress) (next : Result OwnHeap Status) → DoesCommands (Ok (held v)) m cs next told → WasKept v (List_called m cs told) next
  commands_kept v m (commands.New dst shape ∷ cs) told next d = made_kept v m dst shape cs told next d.1.0 d.0 d.1.1 d.1.2
  commands_kept v m cs told next d = list_kept v m cs told next d.0 d.1

  prepare_kept : (v : PacedView) (words before after status : ℕ) (next : Result OwnHeap Status) (k : OwnHeap) (answer : Result ℕ Status) → next ≡ Ok k → PreparesHeld (held v) words answer k → WasKept v (Prepare_called words before after status) next
  prepare_kept v words before after status next k (Err why) at p = none_kept v (λ deeds. WasDeeds deeds (Prepare_called words before after status)) next (at ∙ ap Ok p.2) ([], refl, (tt, omega arith))
  prepare_kept v words before after status next k (Ok left) at p =
      let w : PacedView = paced_by p.0 k.heap k.cycles in
      let work = p.3.work in
      record {
        deeds = without_work work;
        view = w;
        left = at ∙ ap Ok p.1;
        done = path_deeds work (state_of v) (state_of w) (work_paces words work (state_of v) (state_of w) p.3.works);
        counts = subst (λ (z : List Event). CountsCycles v.heap v.cycles z k.heap k.cycles) (sym (events_alone work)) p.3.cycles;
        tells = (work, refl, (are_work words work (state_of v) (state_of w) p.3.works, p.3.most));
      }

  call_kept : (v : PacedView) (call : KeptCall) (next : Result OwnHeap Status) → DoesKept (Ok (held v)) call next → WasKept v call next
  call_kept v (Called (Command_called m c answer)) next d = command_kept v m c answer next d
  call_kept v (Called (Begin_called status)) next d = begin_kept v status next d
  call_kept v (Called (Quantum_called budget before after status)) next d = quantum_kept v budget before after status next d
  call_kept v (List_called m cs told) next d = commands_kept v m cs told next d
  call_kept v (Prepare_called words before after status) next d = prepare_kept v words before after status next d.0 d.1 d.2 d.3

  -- calls are deeds, one call after the other
  pub were_kept : (calls : List KeptCall) (v : PacedView) (new : Result OwnHeap Status) → KeptCalls (Ok (held v)) calls new → KeptBy v (λ deeds. WereDeeds deeds calls) new
  were_kept [] v new d = none_kept v (λ deeds. WereDeeds deeds []) new d refl
  were_kept (call ∷ calls) v new d =
      let one = call_kept v call d.0 d.1 in
      let rest = were_kept calls one.view new (subst (λ (x : Result OwnHeap Status). KeptCalls x calls new) one.left d.2) in
      record {
        deeds = one.deeds ++ rest.deeds;
        view = rest.view;
        left = rest.left;
        done = deeds_then one.deeds rest.deeds (state_of v) (state_of one.view) (state_of rest.view) one.done rest.done;
        counts = subst (λ (z : List Event). CountsCycles v.heap v.cycles z rest.view.heap rest.view.cycles) (sym (events_then one.deeds rest.deeds))
            (cycles_then (deed_events one.deeds) (deed_events rest.deeds) v.heap one.view.heap rest.view.heap v.cycles one.view.cycles rest.view.cycles one.counts rest.counts);
        tells = (one.deeds, rest.deeds, refl, one.tells, rest.tells);
      }

-- deeds of a call are its events
was_events : (call : KeptCall) (ds : List Deed) → WasDeeds ds call → WasEvents (deed_events ds) call
was_events (Called call) ds (inl w) = inl (ap deed_events w.0, w.1)
was_events (Called call) ds (inr w) = inr (w.0.work, w.0.event, ap deed_events w.1, w.2, w.3)
was_events (List_called m cs told) ds (inl w) = inl (ap deed_events w.0, w.1)
was_events (List_called m cs told) ds (inr w) = inr (w.0, w.1, w.2, ap deed_events w.3 ∙ events_paid w.0 (events_of m cs (with_refusal w.1 w.2.refused)), w.4, w.5, w.6)
was_events (Prepare_called words before after status) ds w = subst WasPiece (sym (ap deed_events w.1 ∙ events_alone w.0)) w.2

pub were_events : (calls : List KeptCall) (ds : List Deed) → WereDeeds ds calls → WereEvents (deed_events ds) calls
were_events [] ds w = ap deed_events w
were_events (call ∷ calls) ds w = (deed_events w.0, deed_events w.1, ap deed_events w.2 ∙ events_then w.0 w.1, was_events call w.0 w.3, were_events calls w.1 w.4)

module _ (h : OwnHeap) (flow : MetronomeFlow) where
  by_keeping : (k now : OwnHeap) (is : Bool) (status : ℕ) → ◌≡◌ {A = Result OwnHeap Status} (Ok k) (Ok now) → KeepsHeld h flow is now → status ≡ status_number (keep_status is) → status ≡ status_number Done
      → CanKeep h flow × ◌≡◌ {A = Result OwnHeap Status} (Ok k) (Ok (kept h flow))
  by_keeping k now true status at keeps told done = (keeps.0, at ∙ ap Ok keeps.1)
  by_keeping k now false status at keeps told done = absurd (omega (arith, told, done))

  -- if C was told that the heap keeps a flow, it can keep it, and does
  pub keeps_done : (k : OwnHeap) (status : ℕ) → KeepsOwn (Ok h) flow (Ok k) status → status ≡ status_number Done → CanKeep h flow × ◌≡◌ {A = Result OwnHeap Status} (Ok k) (Ok (kept h flow))
  keeps_done k status keeps done = by_keeping k keeps.0 keeps.1 status keeps.2 keeps.3 keeps.4 done

-- a heap that keeps a flow from here on, with its pacer
abbrev pub first_view : OwnHeap → MetronomeFlow → PacedView
first_view h flow = paced_by (first_pacer flow.budget (plan_in flow)) h.heap h.cycles

pub just_paced : (s : Settings) (h : OwnHeap) → IsMadeOf s h → (flow : MetronomeFlow) → CanKeep h flow → IsJustPaced h.config (plan_in flow) (state_of (first_view h flow))
just_paced s h made flow can = record {
  heap = made.0;
  settings = made.2;
  counts = ap (λ (b : ℕ). first_counts b (plan_in flow)) can.suits.budget;
}

module _ (s : Settings) (h : OwnHeap) (made : IsMadeOf s h) (flow : MetronomeFlow) (calls : List KeptCall) (new : Result OwnHeap Status) where
  -- with a plan that can be kept
  room_kept : CanKeep h flow → KeptCalls (Ok (kept h flow)) calls new → KeepsRoom h flow calls new
  room_kept can d =
      let v = first_view h flow in
      let all = were_kept h.config calls v new d in
      let just = just_paced s h made flow can in
      let events = deed_events all.deeds in
      let found = finds_room h.config (plan_in flow) flow.live_words (state_of v) (state_of all.view) events just can.suits.moves can.suits.fits (deeds_path all.deeds (state_of v) (state_of all.view) all.done) in
      record {
        events = events;
        left = held h.config all.view;
        is_left = all.left;
        were = were_events calls all.deeds all.tells;
        room = found;
        counts = all.counts;
        holds = course_holds found.course (runs_course events (opened h.heap) found.course (is_course s h made) found.runs);
      }

  pub keeps_room : (k : OwnHeap) (status : ℕ) → KeepsOwn (Ok h) flow (Ok k) status → status ≡ status_number Done → KeptCalls (Ok k) calls new → KeepsRoom h flow calls new
  keeps_room k status keeps done d =
      let can = keeps_done h flow k status keeps done in
      room_kept can.0 (subst (λ (x : Result OwnHeap Status). KeptCalls x calls new) can.1 d)
