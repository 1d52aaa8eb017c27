-- What is done on a paced heap are events of a heap with its history, which keep to a flow.
use Prim.Native.Nat.{zero}
use Rattle.std.proofs.Common.{◌≡◌, ◌≢◌, ℕ, suc, ◌+◌, ◌*◌, ◌≤◌, Bool, true, false, if◌then◌else◌, nat_le, Ok, List, [], ◌∷◌, ap, ◌∙◌, sym, subst, arith, refl}
use Rattle.std.proofs.Math.Nat.{mul-le-mul_right}
use Rattle.graph_heap.specs.declared.command.Command.{Command}
use Rattle.graph_heap.specs.declared.command.Reply.{Reply}
use Rattle.heap_model.specs.declared.phase.Phase.{Phase}
use Rattle.heap_model.specs.declared.phase.Phase.TheVariants as phases
use Rattle.heap_model.specs.State.{HeapState}
use Rattle.heap_model.specs.Phases.{awaits_sweep_end}
use Rattle.heap_model.specs.Left.{LeavesCycle}
use Rattle.heap_model.specs.Event.{Course, Event, Command_done, Cycle_begun, Begin_refused, Quantum_done, Quantum_refused, Does, Runs, IsCourse, present_of}
use Rattle.heap_model.proofs.Event.Kept.{enters_graph, begins_present, collects_present, does_course}
use Rattle.space.specs.Demand.{asked_for}
use Rattle.space.specs.Pace.{in_cycle}
use Rattle.space.specs.Room.{asks}
use Rattle.space.proofs.Rooms.{asks_less}
use Rattle.space.proofs.Paces.Pacing.{command_left}
use Rattle.space.proofs.Paces.Moved.{chain_tracing}
use Rattle.fragmentation.specs.Flow.{words_of, FlowMeter, next_meter, Paces, AllMetered}
use Rattle.fragmentation.proofs.Flows.Words.{words_more}
use Rattle.machine.specs.Plan.{Steps}
use Rattle.machine.proofs.Events.{command_event, begin_event, quantum_event}
use Rattle.paced.specs.declared.plan.Plan.{Plan}
use Rattle.paced.specs.Cycles.{saturated, DoesOn}
use Rattle.paced.specs.Pacing.{Counts, PacedState, counted, Path, MayAsk, KeepsPlan}
use Rattle.paced.specs.Rooms.{planned_flow}

-- an event on a heap is one of each history that leads to the heap
pub event_does : (r : Course) (h after : HeapState) (e : Event) → IsCourse r → r.heap ≡ h → DoesOn h e after → (new : Course) × (new.heap ≡ after) × Does r e new
event_does r h after (Command_done m c reply) w at d = command_event r m c reply after w (subst (λ x. Steps x m c reply after) (sym at) d)
event_does r h after Cycle_begun w at d = begin_event r after (Ok tt) (subst (λ x. DoesOn x Cycle_begun after) (sym at) d)
event_does r h after Begin_refused w at d = (r, at ∙ sym d.1, (subst (λ (x : HeapState). x.phase ≢ phases.Idle) (sym at) d.0, refl))
event_does r h after (Quantum_done budget units phase) w at d = quantum_event r budget after (Ok (record { units = units; phase = phase })) (subst (λ x. DoesOn x (Quantum_done budget units phase) after) (sym at) d)
event_does r h after (Quantum_refused budget) w at d = (r, at ∙ sym d.1, (d.0, refl))

pub path_runs : (Passes : PacedState → Event → Type 0) (es : List Event) (r : Course) (old new : PacedState) → IsCourse r → r.heap ≡ old.heap → Path Passes old es new → (k : Course) × (k.heap ≡ new.heap) × Runs r es k
path_runs Passes [] r old new w at p = (r, at ∙ ap (λ (v : PacedState). v.heap) (sym p), refl)
path_runs Passes (e ∷ es) r old new w at p =
    let x = event_does r old.heap p.0.heap e w at p.2 in
    let y = path_runs Passes es x.0 p.0 new (does_course r e x.0 w x.2) x.1 p.4 in
    (y.0, y.1, (x.0, x.2, y.2))

awaits_runs : (p : Phase) → awaits_sweep_end p ≡ true → in_cycle p ≡ true
awaits_runs phases.Idle a = absurd (cc)
awaits_runs (phases.Roots next) a = refl
awaits_runs (phases.Marking part cell) a = refl
awaits_runs (phases.Sweeping page block) a = refl
awaits_runs (phases.Moving m) a = absurd (cc)

module _ (plan : Plan) (live k : ℕ) where
  -- What is kept: what the pacer goes by is as strict as the meter, whose quanta allow the words that it counts.
  pub record IsKept (r : Course) (v : PacedState) (t : FlowMeter) : Type 0 where
    pub course : IsCourse r
    pub heap : r.heap ≡ v.heap
    pub graph : t.graph ≡ present_of r
    pub awaiting : t.awaiting_sweep_end ≡ awaits_sweep_end r.heap.phase
    pub fewer : t.words ≤ v.counts.words
    pub plan_is : v.counts.plan ≡ plan
    pub budget_is : v.counts.budget ≡ k
    pub quanta : v.counts.quanta ≤ t.quanta
    pub cycle : v.counts.words ≤ plan.cycle_words
    pub allowed : t.awaiting_sweep_end ≡ true → v.counts.words ≤ (t.quanta + 1) * plan.quantum_words

  -- one event more
  pub record Goes (r : Course) (v new : PacedState) (t : FlowMeter) (e : Event) : Type 0 where
    pub course : Course
    pub does : Does r e course
    pub kept : IsKept course new (next_meter k t e)
    pub paces : Paces (planned_flow live plan) t e

  module _ (r : Course) (v new : PacedState) (t : FlowMeter) (i : IsKept r v t) where
    command_goes : (m : ℕ) (c : Command) (reply : Reply) → MayAsk v (words_of (asks c)) → Steps v.heap m c reply new.heap → new.counts ≡ counted v.counts (Command_done m c reply) → Goes r v new t (Command_done m c reply)
    command_goes m c reply may d counts = record {
      course = x.0;
      does = x.2;
      kept = record {
        course = does_course r e x.0 i.course x.2;
        heap = x.1;
        graph = enters_graph r x.0 m c reply i.course x.2 t.graph i.graph;
        awaiting = i.awaiting ∙ ap awaits_sweep_end (sym left.phase);
        fewer = (let l = i.fewer in let a = asked in let n = now in omega (arith, l, a, n));
        plan_is = ap (λ (z : Counts). z.plan) counts ∙ i.plan_is;
        budget_is = ap (λ (z : Counts). z.budget) counts ∙ i.budget_is;
        quanta = (let l = i.quanta in let q = ap (λ (z : Counts). z.quanta) counts in omega (arith, l, q));
        cycle = (let l = cycle words refl in let n = now in omega (arith, l, n));
        allowed = λ on. (let l = allowed on words refl in let n = now in omega (arith, l, n));
      };
      paces = (paced t.awaiting_sweep_end refl, λ class l none. absurd (cc));
    }
      where
        e : Event
        e = Command_done m c reply

        words : ℕ
        words = words_of (asks c)

        x : (k : Course) × (k.heap ≡ new.heap) × Does r e k
        x = event_does r v.heap new.heap e i.course i.heap d

        left : LeavesCycle r.heap x.0.heap
        left = command_left r x.0 m c reply x.2

        now : new.counts.words ≡ v.counts.words + words
        now = ap (λ (z : Counts). z.words) counts

        asked : words_of (asked_for t.graph m c) ≤ words
        asked = words_more (asked_for t.graph m c) (asks c) (λ class l. asks_less t.graph m c class)

        cycle : (n : ℕ) → n ≡ words → v.counts.words + n ≤ plan.cycle_words
        cycle zero at = let l = i.cycle in omega (arith, l)
        cycle (suc n) at = let l = may.cycle (omega (arith, at)) in let p = ap (λ (z : Plan). z.cycle_words) i.plan_is in omega (arith, l, p, at)

        allowed : t.awaiting_sweep_end ≡ true → (n : ℕ) → n ≡ words → v.counts.words + n ≤ (t.quanta + 1) * plan.quantum_words
        allowed on zero at = let l = i.allowed on in omega (arith, l)
        allowed on (suc n) at =
            let l = may.quanta (omega (arith, at)) (subst (λ (z : HeapState). in_cycle z.phase ≡ true) i.heap (awaits_runs r.heap.phase (sym i.awaiting ∙ on))) in
            let p = ap (λ (z : Plan). (v.counts.quanta + 1) * z.quantum_words) i.plan_is in
            let f = i.quanta in
            let q : v.counts.quanta + 1 ≤ t.quanta + 1 = omega (arith, f) in
            let m = mul-le-mul_right plan.quantum_words q in
            omega (arith, l, p, m, at)

        paced : (b : Bool) → t.awaiting_sweep_end ≡ b → t.words + words_of (asked_for t.graph m c) ≤ (if b then (t.quanta + 1) * plan.quantum_words + 0 else plan.cycle_words)
        paced true at = let l = allowed at words refl in let f = i.fewer in let a = asked in omega (arith, l, f, a)
        paced false at = let l = cycle words refl in let f = i.fewer in let a = asked in omega (arith, l, f, a)

    begin_goes : DoesOn v.heap Cycle_begun new.heap → new.counts ≡ counted v.counts Cycle_begun → Goes r v new t Cycle_begun
    begin_goes d counts = record {
      course = x.0;
      does = x.2;
      kept = record {
        course = does_course r Cycle_begun x.0 i.course x.2;
        heap = x.1;
        graph = i.graph ∙ sym (begins_present r x.0 x.2);
        awaiting = ap (λ (z : HeapState). awaits_sweep_end z.phase) (sym x.2.heap);
        fewer = omega arith;
        plan_is = ap (λ (z : Counts). z.plan) counts ∙ i.plan_is;
        budget_is = ap (λ (z : Counts). z.budget) counts ∙ i.budget_is;
        quanta = (let q = ap (λ (z : Counts). z.quanta) counts in omega (arith, q));
        cycle = (let n = none in omega (arith, n));
        allowed = λ on. (let n = none in omega (arith, n));
      };
      paces = tt;
    }
      where
        x : (k : Course) × (k.heap ≡ new.heap) × Does r Cycle_begun k
        x = event_does r v.heap new.heap Cycle_begun i.course i.heap d

        none : new.counts.words ≡ 0
        none = ap (λ (z : Counts). z.words) counts

    quantum_goes : (budget units : ℕ) (phase : Phase) → DoesOn v.heap (Quantum_done budget units phase) new.heap → new.counts ≡ counted v.counts (Quantum_done budget units phase) → Goes r v new t (Quantum_done budget units phase)
    quantum_goes budget units phase d counts = record {
      course = x.0;
      does = x.2;
      kept = record {
        course = does_course r e x.0 i.course x.2;
        heap = x.1;
        graph = i.graph ∙ sym (collects_present r x.0 budget units phase i.course x.2);
        awaiting = sym (ap awaits_sweep_end x.2.ends);
        fewer = (let l = i.fewer in let n = now in omega (arith, l, n));
        plan_is = ap (λ (z : Counts). z.plan) counts ∙ i.plan_is;
        budget_is = ap (λ (z : Counts). z.budget) counts ∙ i.budget_is;
        quanta = (let l = counted_less (nat_le k budget) in let q = is in omega (arith, l, q));
        cycle = (let l = i.cycle in let n = now in omega (arith, l, n));
        allowed = λ on. (let l = allowed_more (nat_le k budget) (i.awaiting ∙ was (ap awaits_sweep_end x.2.ends ∙ on)) in let n = now in omega (arith, l, n));
      };
      paces = tt;
    }
      where
        e : Event
        e = Quantum_done budget units phase

        x : (k : Course) × (k.heap ≡ new.heap) × Does r e k
        x = event_does r v.heap new.heap e i.course i.heap d

        now : new.counts.words ≡ v.counts.words
        now = ap (λ (z : Counts). z.words) counts

        is : new.counts.quanta ≡ (if nat_le k budget then saturated (v.counts.quanta + 1) else v.counts.quanta)
        is = ap (λ (z : Counts). z.quanta) counts ∙ ap (λ b. if nat_le b budget then saturated (v.counts.quanta + 1) else v.counts.quanta) i.budget_is

        -- a sweep that hasn't ended hadn't before
        was : awaits_sweep_end x.0.heap.phase ≡ true → awaits_sweep_end r.heap.phase ≡ true
        was on = chain_tracing r.heap x.0.heap units x.2.turn.chain on

        -- a quantum that the pacer counts is one of the meter's
        counted_less : (b : Bool) → (if b then saturated (v.counts.quanta + 1) else v.counts.quanta) ≤ (if b then t.quanta + 1 else t.quanta)
        counted_less true = let f = i.quanta in omega (arith, f)
        counted_less false = i.quanta

        allowed_more : (b : Bool) → t.awaiting_sweep_end ≡ true → v.counts.words ≤ ((if b then t.quanta + 1 else t.quanta) + 1) * plan.quantum_words
        allowed_more true on =
            let l = i.allowed on in
            let q : t.quanta + 1 ≤ t.quanta + 1 + 1 = omega arith in
            let m = mul-le-mul_right plan.quantum_words q in
            omega (arith, l, m)
        allowed_more false on = i.allowed on

    -- what is refused changes nothing
    refused_kept : new.heap ≡ v.heap → new.counts ≡ v.counts → IsKept r new t
    refused_kept same counts = subst (λ z. IsKept r z t) (sym (both new.heap v.heap new.counts v.counts same counts)) i
      where
        both : (a b : HeapState) (p q : Counts) → a ≡ b → p ≡ q → (let x : PacedState = record { heap = a; counts = p } in let y : PacedState = record { heap = b; counts = q } in x ≡ y)
        both a b p q e f = ap (λ z. record { heap = z; counts = p }) e ∙ ap (λ z. record { heap = b; counts = z }) f

  pub goes : (e : Event) (r : Course) (v new : PacedState) (t : FlowMeter) → IsKept r v t → KeepsPlan v e → DoesOn v.heap e new.heap → new.counts ≡ counted v.counts e → Goes r v new t e
  goes (Command_done m c reply) r v new t i may d counts = command_goes r v new t i m c reply may d counts
  goes Cycle_begun r v new t i may d counts = begin_goes r v new t i d counts
  goes Begin_refused r v new t i may d counts = record {
    course = r;
    does = (subst (λ (z : HeapState). z.phase ≢ phases.Idle) (sym i.heap) d.0, refl);
    kept = refused_kept r v new t i d.1 counts;
    paces = tt;
  }
  goes (Quantum_done budget units phase) r v new t i may d counts = quantum_goes r v new t i budget units phase d counts
  goes (Quantum_refused budget) r v new t i may d counts = record { course = r; does = (d.0, refl); kept = refused_kept r v new t i d.1 counts; paces = tt }

  -- events that keep the plan keep to its flow
  pub record Follows (r : Course) (t : FlowMeter) (es : List Event) (now : HeapState) : Type 0 where
    pub course : Course
    pub heap : course.heap ≡ now
    pub runs : Runs r es course
    pub paces : AllMetered k (Paces (planned_flow live plan)) t es

  pub follows : (es : List Event) (r : Course) (v new : PacedState) (t : FlowMeter) → IsKept r v t → Path KeepsPlan v es new → Follows r t es new.heap
  follows [] r v new t i p = record { course = r; heap = i.heap ∙ ap (λ (z : PacedState). z.heap) (sym p); runs = refl; paces = tt }
  follows (e ∷ es) r v new t i p =
      let x = goes e r v p.0 t i p.1 p.2 p.3 in
      let y = follows es x.course p.0 new (next_meter k t e) x.kept p.4 in
      record { course = y.course; heap = y.heap; runs = (x.course, x.does, y.runs); paces = (x.paces, y.paces) }
