-- A run that keeps to a flow, from one event to the next.
use Rattle.std.proofs.Common.{◌≡◌, ℕ, ◌+◌, ◌*◌, ◌<◌, ◌≤◌, Bool, true, false, nat_le, if◌then◌else◌, length, drop, ap, ◌∙◌, sym, subst, arith, refl}
use Rattle.std.proofs.lemmas.List.{drop_all}
use Rattle.std.proofs.lemmas.Bool.{leb-true}
use Rattle.graph_heap.specs.declared.command.Command.{Command}
use Rattle.graph_heap.specs.declared.command.Reply.{Reply}
use Rattle.graph_heap.specs.declared.command.Change.{Change}
use Rattle.graph_heap.specs.Graph.{Graph, changed}
use Rattle.size_classes.specs.declared.class.TheConstants.{CLASSES}
use Rattle.heap_model.specs.declared.phase.Phase.{Phase}
use Rattle.heap_model.specs.State.{HeapState}
use Rattle.heap_model.specs.Settings.{settings_of}
use Rattle.heap_model.specs.Spent.{cycle_limit}
use Rattle.heap_model.specs.Left.{LeavesCycle}
use Rattle.heap_model.specs.Event.{Course, Event, Command_done, Cycle_begun, Begin_refused, Quantum_done, Quantum_refused, Enters, Begins, Collects, Does, IsCourse, present_of, snapshot_of, room_for, change_by}
use Rattle.heap_model.proofs.Event.Freed.{objects_stay}
use Rattle.heap_model.proofs.QuantumSpending.Quanta.{chain_units}
use Rattle.heap_model.proofs.Settings.{does_settings}
use Rattle.heap_model.proofs.Event.Kept.{enters_graph, enters_present, begins_present, collects_present, does_course}
use Rattle.space.specs.Demand.{blocks_of, asked_for}
use Rattle.heap_model.specs.Phases.{awaits_sweep_end}
use Rattle.space.proofs.Paces.Pacing.{more_since, command_less, command_left}
use Rattle.space.proofs.Paces.Spending.{limit_stays, all_spent}
use Rattle.space.proofs.Paces.Moved.{chain_tracing}
use Rattle.fragmentation.specs.Season.{Season, Lives, made_since, season_swept, season_after}
use Rattle.fragmentation.specs.Suffice.{WithinPages}
use Rattle.fragmentation.specs.Flow.{words_of, Flow, FlowMeter, next_meter, OnlyMade, Paces, traced_words, flow_pages, live_most, sweep_quanta}
use Rattle.fragmentation.proofs.Suffice.PageDemands.{drop_less}
use Rattle.fragmentation.proofs.Flows.Kept.{FitsFlow, words_since, SweepsWithin, IsFlowing}
use Rattle.fragmentation.proofs.Flows.Spending.{sweeps_more, same_roots, sweeps_chain}
use Rattle.fragmentation.proofs.Season.{BeginsWithin, counted_does}
use Rattle.fragmentation.proofs.Flows.Quanta.{times_next, Flows, marks, asked_few}
use Rattle.fragmentation.proofs.Flows.Words.{words_fit, words_more, words_both, words_none}

is_most : (a b : ℕ) → nat_le a b ≡ true → a ≤ b
is_most a b e = leb-true a b e

not_true : (b : Bool) → b ≡ true → b ≡ false → ⊥
not_true b p q = cc

-- how many quanta that count were done after one more
abbrev quanta_after : ℕ → ℕ → ℕ → ℕ
quanta_after k budget n = if nat_le k budget then n + 1 else n

module _ (h : HeapState) (f : Flow) (k : ℕ) (great : 0 < k) (live : Lives) (lives : (n : ℕ) → FitsFlow f (live n)) (traced : traced_words f (sweep_quanta f (length h.roots) (length h.store.pages) k) ≤ f.cycle_words) where
  abbrev most : ℕ
  most = sweep_quanta f (length h.roots) (length h.store.pages) k

  -- no blocks of other classes were made since later either
  none_since : (s : Season) (count : ℕ) → OnlyMade f (made_since 0 s) → OnlyMade f (made_since count s)
  none_since s count none class l e = let d = drop_less 0 count s.graph.objects class (omega arith) in let z = none class l e in omega (arith, d, z)

  -- a command that keeps to the flow keeps within its pages
  pub flow_within : (r : Course) (s : Season) (t : FlowMeter) (m : ℕ) (c : Command) (reply : Reply) → Flows h f k great live lives traced r s t → Paces f t (Command_done m c reply) → WithinPages (flow_pages f most) s (asked_for s.graph m c)
  flow_within r s t m c reply v keeps =
      let a : words_of (asked_for t.graph m c) ≡ words_of (asked_for s.graph m c) = ap (λ z. words_of (asked_for z m c)) (i.same ∙ sym i.graph) in
      let b = words_both (made_since s.swept s) (asked_for s.graph m c) in
      let z = by_tracing t.awaiting_sweep_end refl i.total (asked_few h f k great live lives traced r s t v (words_of (asked_for t.graph m c)) keeps.0) in
      words_fit s.before (live i.earlier.number) i.earlier.made (λ class. made_since s.swept s class + asked_for s.graph m c class) f.makes f.live_words (2 * f.cycle_words + traced_words f most) i.earlier.few none (lives i.earlier.number).few (omega (arith, b, z, a))
    where
      i : IsFlowing h f k live r s t
      i = v.flowing

      none : (class : ℕ) → class < CLASSES → f.makes class ≡ false → (s.before class ≡ 0) × (made_since s.swept s class + asked_for s.graph m c class ≡ 0)
      none class l e =
          let n = i.earlier.few class l in
          let x = (lives i.earlier.number).only class l e in
          let y = i.earlier.only class l e in
          let v = none_since s s.swept i.only class l e in
          let u = keeps.1 class l e in
          let q : asked_for t.graph m c class ≡ asked_for s.graph m c class = ap (λ z. asked_for z m c class) (i.same ∙ sym i.graph) in
          (omega (arith, n, x, y), omega (arith, v, u, q))

      by_tracing : (o : Bool) → t.awaiting_sweep_end ≡ o → words_of i.earlier.made + words_since s.swept s ≤ (if o then 2 * f.cycle_words + t.words else f.cycle_words + t.words)
          → t.words + words_of (asked_for t.graph m c) ≤ (if o then traced_words f most else f.cycle_words)
          → words_of i.earlier.made + words_since s.swept s + words_of (asked_for t.graph m c) ≤ 2 * f.cycle_words + traced_words f most
      by_tracing true e l n = omega (arith, l, n)
      by_tracing false e l n = omega (arith, l, n)

  flow_command : (r new : Course) (s : Season) (t : FlowMeter) (m : ℕ) (c : Command) (reply : Reply) → Flows h f k great live lives traced r s t → Paces f t (Command_done m c reply) → Enters r m c reply new
      → IsFlowing h f k live new (season_after live s (Command_done m c reply)) (next_meter k t (Command_done m c reply))
  flow_command r new s t m c reply v keeps e = record {
    graph = enters_graph r new m c reply w e s.graph i.graph;
    same = enters_graph r new m c reply w e t.graph i.same;
    awaiting_sweep_end = i.awaiting_sweep_end ∙ ap awaits_sweep_end (sym left.phase);
    alike = i.alike ∙ ap awaits_sweep_end (sym left.phase);
    limit = limit_stays r (Command_done m c reply) new e ∙ i.limit;
    settings = does_settings r (Command_done m c reply) new e ∙ i.settings;
    spent = λ on. (let x = i.spent (sym (ap awaits_sweep_end left.phase) ∙ on) in let u = left.units in omega (arith, x, u));
    last = (let l = i.last in let q = longer in omega (arith, l, q));
    base = (let l = i.base in let q = longer in omega (arith, l, q));
    swept = (let l = i.swept in let q = longer in omega (arith, l, q));
    words = within t.awaiting_sweep_end (asked_few h f k great live lives traced r s t v asked keeps.0);
    paced = λ on. allowed t.awaiting_sweep_end on keeps.0;
    sweeping = sweeps_more r.heap new.heap (live_most f + t.words) (live_most f + (t.words + asked)) left.units left.phase roots (omega arith) i.sweeping;
    since_last = (let l = i.since_last in let q = more s.last i.last in omega (arith, l, q));
    since_base = (let q = more s.base i.base in with_more t.awaiting_sweep_end f.cycle_words 0 i.since_base q);
    earlier = i.earlier;
    only = λ class l u. (let x = each 0 (omega arith) class in let y = i.only class l u in let z = keeps.1 class l u in omega (arith, x, y, z));
    total = (let q = more s.swept i.swept in with_all t.awaiting_sweep_end i.total q);
  }
    where
      w : IsCourse r
      w = v.course

      i : IsFlowing h f k live r s t
      i = v.flowing

      g : Graph
      g = present_of r

      roots : length new.heap.roots ≡ length r.heap.roots
      roots = same_roots h new.heap (limit_stays r (Command_done m c reply) new e ∙ i.limit) (does_settings r (Command_done m c reply) new e ∙ i.settings) ∙ sym (same_roots h r.heap i.limit i.settings)

      change : Change
      change = change_by (room_for r.heap c) g m c

      left : LeavesCycle r.heap new.heap
      left = command_left r new m c reply e

      asked : ℕ
      asked = words_of (asked_for t.graph m c)

      next : Season
      next = season_after live s (Command_done m c reply)

      is : next.graph ≡ changed g change
      is = enters_graph r new m c reply w e s.graph i.graph ∙ enters_present r new m c reply w e

      within : (b : Bool) → t.words + asked ≤ (if b then traced_words f most else f.cycle_words) → t.words + asked ≤ f.cycle_words
      within true l = omega (arith, l, traced)
      within false l = l

      allowed : (b : Bool) → b ≡ true → t.words + asked ≤ (if b then (t.quanta + 1) * f.quantum_words + f.burst else f.cycle_words) → t.words + asked ≤ (t.quanta + 1) * f.quantum_words + f.burst
      allowed true on l = l
      allowed false on l = absurd (cc)

      count : length s.graph.objects ≡ length g.objects
      count = ap (λ (z : Graph). length z.objects) i.graph

      longer : length s.graph.objects ≤ length next.graph.objects
      longer = let o = objects_stay g change in let x : length next.graph.objects ≡ length (changed g change).objects = ap (λ (z : Graph). length z.objects) is in omega (arith, o, x, count)

      each : (start : ℕ) → start ≤ length s.graph.objects → (class : ℕ) → made_since start next class ≤ made_since start s class + asked_for t.graph m c class
      each start low class =
          let a = more_since g change start class (omega (arith, low, count)) in
          let d = command_less r.heap g m c class in
          let x : made_since start next class ≡ blocks_of (drop start (changed g change).objects) class = ap (λ (z : Graph). blocks_of (drop start z.objects) class) is in
          let v : made_since start s class ≡ blocks_of (drop start g.objects) class = ap (λ (z : Graph). blocks_of (drop start z.objects) class) i.graph in
          let u : asked_for t.graph m c class ≡ asked_for g m c class = ap (λ z. asked_for z m c class) i.same in
          omega (arith, a, d, x, v, u)

      more : (start : ℕ) → start ≤ length s.graph.objects → words_since start next ≤ words_since start s + asked
      more start low =
          let l = words_more (made_since start next) (λ class. made_since start s class + asked_for t.graph m c class) (λ class small. each start low class) in
          let b = words_both (made_since start s) (asked_for t.graph m c) in
          omega (arith, l, b)

      with_more : (b : Bool) (x y : ℕ) → words_since s.base s ≤ (if b then x + t.words else t.words) → words_since s.base next ≤ words_since s.base s + asked → words_since s.base next ≤ (if b then x + (t.words + asked) else t.words + asked)
      with_more true x y l q = omega (arith, l, q)
      with_more false x y l q = omega (arith, l, q)

      with_all : (b : Bool) → words_of i.earlier.made + words_since s.swept s ≤ (if b then 2 * f.cycle_words + t.words else f.cycle_words + t.words) → words_since s.swept next ≤ words_since s.swept s + asked
          → words_of i.earlier.made + words_since s.swept next ≤ (if b then 2 * f.cycle_words + (t.words + asked) else f.cycle_words + (t.words + asked))
      with_all true l q = omega (arith, l, q)
      with_all false l q = omega (arith, l, q)

  none_made : (s : Season) → words_since (length s.graph.objects) s ≡ 0
  none_made s = words_none _ (λ class l. ap (λ z. blocks_of z class) (drop_all (length s.graph.objects) s.graph.objects (omega arith)))

  flow_begins : (r new : Course) (s : Season) (t : FlowMeter) → IsFlowing h f k live r s t → Begins r new → IsFlowing h f k live new (season_after live s Cycle_begun) (next_meter k t Cycle_begun)
  flow_begins r new s t i e = record {
    graph = i.graph ∙ sym (begins_present r new e);
    same = i.same ∙ sym (begins_present r new e);
    awaiting_sweep_end = ap (λ (z : HeapState). awaits_sweep_end z.phase) (sym e.heap);
    alike = ap (λ (z : HeapState). awaits_sweep_end z.phase) (sym e.heap);
    limit = limit_stays r Cycle_begun new e ∙ i.limit;
    settings = does_settings r Cycle_begun new e ∙ i.settings;
    spent = λ on. omega arith;
    last = omega arith;
    base = i.base;
    swept = i.swept;
    words = omega arith;
    paced = λ on. omega arith;
    sweeping = subst (λ (z : HeapState). SweepsWithin z (live_most f + 0) z.phase) (sym e.heap) tt;
    since_last = (let z = none_made s in omega (arith, z));
    since_base = by_base t.awaiting_sweep_end off i.since_base;
    earlier = i.earlier;
    only = i.only;
    total = by_total t.awaiting_sweep_end off i.total;
  }
    where
      off : t.awaiting_sweep_end ≡ false
      off = i.awaiting_sweep_end ∙ ap awaits_sweep_end e.idle

      by_base : (b : Bool) → b ≡ false → words_since s.base s ≤ (if b then f.cycle_words + t.words else t.words) → words_since s.base s ≤ f.cycle_words + 0
      by_base true z l = absurd (cc)
      by_base false z l = let x = i.words in omega (arith, l, x)

      by_total : (b : Bool) → b ≡ false → words_of i.earlier.made + words_since s.swept s ≤ (if b then 2 * f.cycle_words + t.words else f.cycle_words + t.words) → words_of i.earlier.made + words_since s.swept s ≤ 2 * f.cycle_words + 0
      by_total true z l = absurd (cc)
      by_total false z l = let x = i.words in omega (arith, l, x)

  flow_quantum : (r new : Course) (budget units : ℕ) (phase : Phase) (s : Season) (t : FlowMeter) → Flows h f k great live lives traced r s t → Collects r budget units phase new
      → IsFlowing h f k live new (season_after live s (Quantum_done budget units phase)) (next_meter k t (Quantum_done budget units phase))
  flow_quantum r new budget units phase s t v q = by_phase (awaits_sweep_end phase) refl
    where
      w : IsCourse r
      w = v.course

      i : IsFlowing h f k live r s t
      i = v.flowing

      present : present_of new ≡ present_of r
      present = collects_present r new budget units phase w q

      out_phase : awaits_sweep_end new.heap.phase ≡ awaits_sweep_end phase
      out_phase = ap awaits_sweep_end q.ends

      limit : cycle_limit new.heap ≡ cycle_limit h
      limit = limit_stays r (Quantum_done budget units phase) new q ∙ i.limit

      settings : settings_of new.heap ≡ settings_of h
      settings = does_settings r (Quantum_done budget units phase) new q ∙ i.settings

      -- a sweep that hasn't ended hadn't before
      was : awaits_sweep_end new.heap.phase ≡ true → awaits_sweep_end r.heap.phase ≡ true
      was now = chain_tracing r.heap new.heap units q.turn.chain now

      -- up to the sweep's end each quantum spends its units
      spends : (b : Bool) → awaits_sweep_end phase ≡ b → awaits_sweep_end new.heap.phase ≡ true → quanta_after k budget t.quanta * k ≤ new.heap.units
      spends false e now = absurd (not_true _ now (out_phase ∙ e))
      spends true e now = by_count (nat_le k budget) refl
        where
          u : new.heap.units ≡ r.heap.units + units
          u = chain_units r.heap new.heap units q.turn.chain

          by_count : (c : Bool) → nat_le k budget ≡ c → (if c then t.quanta + 1 else t.quanta) * k ≤ new.heap.units
          by_count false c = let x = i.spent (was now) in omega (arith, x, u)
          by_count true c =
              let x = i.spent (was now) in
              let l = all_spent r.heap new.heap budget units q.turn (λ m y. not_true _ now (ap awaits_sweep_end y)) (λ y. not_true _ now (ap awaits_sweep_end y)) in
              let z = times_next t.quanta k in
              let enough = is_most k budget c in
              omega (arith, x, u, l, z, enough)

      -- more quanta allow no fewer words
      more : t.awaiting_sweep_end ≡ true → t.words ≤ (quanta_after k budget t.quanta + 1) * f.quantum_words + f.burst
      more on = by_count (nat_le k budget)
        where
          by_count : (c : Bool) → t.words ≤ ((if c then t.quanta + 1 else t.quanta) + 1) * f.quantum_words + f.burst
          by_count false = i.paced on
          by_count true = let l = i.paced on in let m = times_next (t.quanta + 1) f.quantum_words in omega (arith, l, m)

      swept : SweepsWithin new.heap (live_most f + t.words) new.heap.phase
      swept = (sweeps_chain (present_of r) (snapshot_of r) (live_most f + t.words) (marks h f k great live lives traced r s t v) r.heap new.heap units w.represents v.counted.tidy i.sweeping q.turn.chain).0

      -- No sweep ends.
      stays : (b : Bool) → t.awaiting_sweep_end ≡ b → awaits_sweep_end phase ≡ b → IsFlowing h f k live new s (record t { awaiting_sweep_end = b; quanta = quanta_after k budget t.quanta })
      stays b at e = record {
        graph = i.graph ∙ sym present;
        same = i.same ∙ sym present;
        awaiting_sweep_end = sym (out_phase ∙ e);
        alike = i.alike ∙ sym i.awaiting_sweep_end ∙ at ∙ sym (out_phase ∙ e);
        limit = limit;
        settings = settings;
        spent = spends b e;
        last = i.last;
        base = i.base;
        swept = i.swept;
        words = i.words;
        paced = λ on. more (at ∙ on);
        sweeping = swept;
        since_last = i.since_last;
        since_base = subst (λ b. words_since s.base s ≤ (if b then f.cycle_words + t.words else t.words)) at i.since_base;
        earlier = i.earlier;
        only = i.only;
        total = subst (λ b. words_of i.earlier.made + words_since s.swept s ≤ (if b then 2 * f.cycle_words + t.words else f.cycle_words + t.words)) at i.total;
      }

      -- A flow goes on at the end of a sweep.
      ends : t.awaiting_sweep_end ≡ true → awaits_sweep_end phase ≡ false → IsFlowing h f k live new (season_swept live s) (record t { awaiting_sweep_end = false; quanta = quanta_after k budget t.quanta })
      ends at e = record {
        graph = i.graph ∙ sym present;
        same = i.same ∙ sym present;
        awaiting_sweep_end = sym (out_phase ∙ e);
        alike = sym (out_phase ∙ e);
        limit = limit;
        settings = settings;
        spent = λ o. absurd (not_true _ o (out_phase ∙ e));
        last = i.last;
        base = i.last;
        swept = omega arith;
        words = i.words;
        paced = λ on. absurd (cc);
        sweeping = swept;
        since_last = i.since_last;
        since_base = i.since_last;
        earlier = record { made = made_since s.base s; number = s.number; few = λ class l. omega arith; only = none_since s s.base i.only };
        only = i.only;
        total = (let z = none_made s in let b = subst (λ b. words_since s.base s ≤ (if b then f.cycle_words + t.words else t.words)) at i.since_base in omega (arith, z, b));
      }

      by_tracing : (b : Bool) → s.awaiting_sweep_end ≡ b → awaits_sweep_end phase ≡ false → IsFlowing h f k live new (if b then season_swept live s else s) (record t { awaiting_sweep_end = false; quanta = quanta_after k budget t.quanta })
      by_tracing true y e = ends (i.awaiting_sweep_end ∙ sym i.alike ∙ y) e
      by_tracing false y e = stays false (i.awaiting_sweep_end ∙ sym i.alike ∙ y) e

      by_phase : (b : Bool) → awaits_sweep_end phase ≡ b → IsFlowing h f k live new (if b then s else (if s.awaiting_sweep_end then season_swept live s else s)) (record t { awaiting_sweep_end = b; quanta = quanta_after k budget t.quanta })
      by_phase true e = stays true (i.awaiting_sweep_end ∙ was (out_phase ∙ e)) e
      by_phase false e = by_tracing s.awaiting_sweep_end refl e

  -- A flow goes on by one event.
  pub flows_next : (r new : Course) (e : Event) (s : Season) (t : FlowMeter) → Flows h f k great live lives traced r s t → Paces f t e → BeginsWithin live s e → Does r e new → Flows h f k great live lives traced new (season_after live s e) (next_meter k t e)
  flows_next r new e s t w paces lives does = record {
    course = does_course r e new w.course does;
    counted = counted_does live r e new s w.course w.counted lives does;
    flowing = by_event e paces does;
  }
    where
      by_event : (e : Event) → Paces f t e → Does r e new → IsFlowing h f k live new (season_after live s e) (next_meter k t e)
      by_event (Command_done m c reply) paces does = flow_command r new s t m c reply w paces does
      by_event Cycle_begun paces does = flow_begins r new s t w.flowing does
      by_event Begin_refused paces does = subst (λ z. IsFlowing h f k live z s t) (sym does.1) w.flowing
      by_event (Quantum_done budget units phase) paces does = flow_quantum r new budget units phase s t w does
      by_event (Quantum_refused budget) paces does = subst (λ z. IsFlowing h f k live z s t) (sym does.1) w.flowing
