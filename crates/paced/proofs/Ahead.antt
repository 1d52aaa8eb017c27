-- Words that may be asked for stay so: what is paid for ahead is free later.
use Rattle.std.proofs.Common.{◌≡◌, ℕ, ◌+◌, ◌-◌, ◌*◌, ◌^◌, ◌≤◌, true, if◌then◌else◌, nat_le, List, [], ◌∷◌, ◌++◌, ap, ◌∙◌, sym, subst, arith, refl}
use Rattle.std.specs.List.{AllByRecursion}
use Rattle.std.proofs.Math.Nat.{mul-le-mul_right}
use Rattle.size_classes.specs.declared.config.Config.{Config}
use Rattle.graph_heap.specs.declared.command.Command.{Command}
use Rattle.graph_heap.specs.declared.command.Reply.{Reply}
use Rattle.heap_model.specs.State.{HeapState}
use Rattle.heap_model.specs.Left.{LeavesCycle}
use Rattle.heap_model.specs.Event.{Event, Command_done, Cycle_begun, Begin_refused, Quantum_done, Quantum_refused}
use Rattle.heap_model.specs.ReachedFrom.{opened}
use Rattle.space.specs.Pace.{in_cycle}
use Rattle.space.proofs.Paces.Pacing.{command_left}
use Rattle.fragmentation.specs.Flow.{opening_meter}
use Rattle.machine.specs.Plan.{Steps}
use Rattle.paced.specs.declared.plan.Plan.{Plan}
use Rattle.paced.specs.Cycles.{saturated, DoesOn}
use Rattle.paced.specs.Pacing.{Counts, PacedState, counted, Path, MayAsk, KeepsPlan, WorksFor}
use Rattle.paced.specs.Rooms.{IsJustPaced}
use Rattle.paced.specs.Bounds.{words_in, Deed, AreDone, words_asked, BeginsNone, IsFree}
use Rattle.paced.proofs.Paths.{path_then}
use Rattle.paced.proofs.Running.{event_does}
use Rattle.paced.proofs.Opened.{kept as opening_kept}
use Rattle.paced.proofs.Reached.{comes, quantum_runs, more_quanta, few_saturated}
use Rattle.paced.proofs.Deeds.{none_works, may_keep}

module _ (config : Config) (plan : Plan) (old : PacedState) (o : IsJustPaced config plan old) where
  -- some events led here, and no more quanta were counted than 64 bits hold
  record Led (v : PacedState) : Type 0 where
    pub events : List Event
    pub path : Path KeepsPlan old events v
    pub saturates : v.counts.quanta ≤ 2 ^ 64 - 1

  few_after : (v : PacedState) (e : Event) (t : Counts) → t ≡ counted v.counts e → v.counts.quanta ≤ 2 ^ 64 - 1 → t.quanta ≤ 2 ^ 64 - 1
  few_after v (Command_done m c reply) t is l = let q : t.quanta ≡ v.counts.quanta = ap (λ (z : Counts). z.quanta) is in omega (arith, q, l)
  few_after v Cycle_begun t is l = let q : t.quanta ≡ 0 = ap (λ (z : Counts). z.quanta) is in omega (arith, q)
  few_after v Begin_refused t is l = let q : t.quanta ≡ v.counts.quanta = ap (λ (z : Counts). z.quanta) is in omega (arith, q, l)
  few_after v (Quantum_done budget units phase) t is l =
      let q : t.quanta ≡ (if nat_le v.counts.budget budget then saturated (v.counts.quanta + 1) else v.counts.quanta) = ap (λ (z : Counts). z.quanta) is in
      let a = few_saturated (nat_le v.counts.budget budget) v.counts.quanta l in
      omega (arith, q, a)
  few_after v (Quantum_refused budget) t is l = let q : t.quanta ≡ v.counts.quanta = ap (λ (z : Counts). z.quanta) is in omega (arith, q, l)

  led_next : (v new : PacedState) (e : Event) → Led v → KeepsPlan v e → DoesOn v.heap e new.heap → new.counts ≡ counted v.counts e → Led new
  led_next v new e l keeps does counts = record {
    events = l.events ++ e ∷ [];
    path = path_then KeepsPlan l.events (e ∷ []) old v new l.path (new, keeps, does, counts, refl);
    saturates = few_after v e new.counts counts l.saturates;
  }

  led_path : (es : List Event) (v new : PacedState) → Led v → Path KeepsPlan v es new → Led new
  led_path [] v new l p = subst Led (sym p) l
  led_path (e ∷ es) v new l p = led_path es p.0 new (led_next v p.0 e l p.1 p.2 p.3) p.4

  led_first : Led old
  led_first = record { events = []; path = refl; saturates = (let q : old.counts.quanta ≡ 0 = ap (λ (z : Counts). z.quanta) o.counts in omega (arith, q)) }

  command_phase : (v : PacedState) (after : HeapState) (m : ℕ) (c : Command) (reply : Reply) → Led v → Steps v.heap m c reply after → in_cycle after.phase ≡ true → in_cycle v.heap.phase ≡ true
  command_phase v after m c reply l d on =
      let come = comes plan 0 (config.collector_ticks * config.rate) l.events (opened old.heap) old v (opening_meter old.heap.limits) (opening_kept (λ class. true) config plan 0 old old [] o) l.path in
      let x = event_does come.course v.heap after (Command_done m c reply) come.kept.course come.kept.heap d in
      let left : LeavesCycle come.course.heap x.0.heap = command_left come.course x.0 m c reply x.2 in
      ap (λ (z : HeapState). in_cycle z.phase) (sym come.kept.heap) ∙ ap in_cycle (sym left.phase) ∙ ap (λ (z : HeapState). in_cycle z.phase) x.1 ∙ on

  -- fewer words may be asked for too
  may_fewer : (v : PacedState) (words fewer : ℕ) → MayAsk v words → fewer ≤ words → MayAsk v fewer
  may_fewer v words fewer may l = record {
    cycle = λ some. (let a = may.cycle (omega (arith, l, some)) in omega (arith, a, l));
    quanta = λ some on. (let a = may.quanta (omega (arith, l, some)) on in omega (arith, a, l));
  }

  -- after an event, what is left may still be asked for
  may_after : (e : Event) (v new : PacedState) (words : ℕ) → Led v → BeginsNone (record { work = []; event = e }) → MayAsk v (words_in e + words) → DoesOn v.heap e new.heap → new.counts ≡ counted v.counts e → MayAsk new words
  may_after (Command_done m c reply) v new words l b may d counts = record {
    cycle = λ some. (let a = may.cycle (omega (arith, some)) in let n = ap (λ (z : Counts). z.words) counts in let p = ap (λ (z : Counts). z.plan.cycle_words) counts in omega (arith, a, n, p));
    quanta = λ some on. (
        let a = may.quanta (omega (arith, some)) (command_phase v new.heap m c reply l d on) in
        let n = ap (λ (z : Counts). z.words) counts in
        let q : (new.counts.quanta + 1) * new.counts.plan.quantum_words ≡ (v.counts.quanta + 1) * v.counts.plan.quantum_words = ap (λ (z : Counts). (z.quanta + 1) * z.plan.quantum_words) counts in
        omega (arith, a, n, q)
        );
  }
  may_after Cycle_begun v new words l b may d counts = absurd b
  may_after Begin_refused v new words l b may d counts = record {
    cycle = λ some. (let a = may.cycle (omega (arith, some)) in let n = ap (λ (z : Counts). z.words) counts in let p = ap (λ (z : Counts). z.plan.cycle_words) counts in omega (arith, a, n, p));
    quanta = λ some on. (
        let a = may.quanta (omega (arith, some)) (ap (λ (z : HeapState). in_cycle z.phase) (sym d.1) ∙ on) in
        let n = ap (λ (z : Counts). z.words) counts in
        let q : (new.counts.quanta + 1) * new.counts.plan.quantum_words ≡ (v.counts.quanta + 1) * v.counts.plan.quantum_words = ap (λ (z : Counts). (z.quanta + 1) * z.plan.quantum_words) counts in
        omega (arith, a, n, q)
        );
  }
  may_after (Quantum_done budget units phase) v new words l b may d counts = record {
    cycle = λ some. (let a = may.cycle (omega (arith, some)) in let n = ap (λ (z : Counts). z.words) counts in let p = ap (λ (z : Counts). z.plan.cycle_words) counts in omega (arith, a, n, p));
    quanta = λ some on. (
        let a = may.quanta (omega (arith, some)) (quantum_runs v.heap new.heap budget units d.1 on) in
        let n = ap (λ (z : Counts). z.words) counts in
        let q : new.counts.quanta ≡ (if nat_le v.counts.budget budget then saturated (v.counts.quanta + 1) else v.counts.quanta) = ap (λ (z : Counts). z.quanta) counts in
        let x = more_quanta (nat_le v.counts.budget budget) v.counts.quanta l.saturates in
        let y = mul-le-mul_right v.counts.plan.quantum_words (let z : v.counts.quanta + 1 ≤ new.counts.quanta + 1 = omega (arith, x, q) in z) in
        let p : (new.counts.quanta + 1) * new.counts.plan.quantum_words ≡ (new.counts.quanta + 1) * v.counts.plan.quantum_words = ap (λ (z : Counts). (new.counts.quanta + 1) * z.plan.quantum_words) counts in
        omega (arith, a, n, y, p)
        );
  }
  may_after (Quantum_refused budget) v new words l b may d counts = record {
    cycle = λ some. (let a = may.cycle (omega (arith, some)) in let n = ap (λ (z : Counts). z.words) counts in let p = ap (λ (z : Counts). z.plan.cycle_words) counts in omega (arith, a, n, p));
    quanta = λ some on. (
        let a = may.quanta (omega (arith, some)) (ap (λ (z : HeapState). in_cycle z.phase) (sym d.1) ∙ on) in
        let n = ap (λ (z : Counts). z.words) counts in
        let q : (new.counts.quanta + 1) * new.counts.plan.quantum_words ≡ (v.counts.quanta + 1) * v.counts.plan.quantum_words = ap (λ (z : Counts). (z.quanta + 1) * z.plan.quantum_words) counts in
        omega (arith, a, n, q)
        );
  }

  free : (ds : List Deed) (v new : PacedState) (words : ℕ) → Led v → MayAsk v words → AreDone v ds new → AllByRecursion BeginsNone ds → words_asked ds ≤ words → AllByRecursion IsFree ds
  free [] v new words l may done none few = tt
  free (d ∷ ds) v new words l may done none few =
      let one = done.1 in
      let first : MayAsk v (words_in d.event) = may_fewer v words (words_in d.event) may (omega (arith, few)) in
      let empty = none_works d.work (words_in d.event) v one.before first one.works in
      let same : one.before ≡ v = subst (λ w. Path (WorksFor (words_in d.event)) v w one.before) empty one.works in
      let does : DoesOn v.heap d.event done.0.heap = subst (λ (z : PacedState). DoesOn z.heap d.event done.0.heap) same one.does in
      let counts : done.0.counts ≡ counted v.counts d.event = subst (λ (z : PacedState). done.0.counts ≡ counted z.counts d.event) same one.counts in
      let rest : MayAsk v (words_in d.event + (words - words_in d.event)) = may_fewer v words (words_in d.event + (words - words_in d.event)) may (omega (arith, few)) in
      let later = may_after d.event v done.0 (words - words_in d.event) l none.0 rest does counts in
      (empty, free ds done.0 new (words - words_in d.event) (led_next v done.0 d.event l (may_keep d.event v first) does counts) later done.2 none.1 (omega (arith, few)))

  pub ahead_free : (es : List Event) (mid new : PacedState) (words : ℕ) (ds : List Deed) → Path KeepsPlan old es mid → MayAsk mid words → AreDone mid ds new → AllByRecursion BeginsNone ds → words_asked ds ≤ words → AllByRecursion IsFree ds
  ahead_free es mid new words ds path may done none few = free ds mid new words (led_path es old mid led_first path) may done none few
