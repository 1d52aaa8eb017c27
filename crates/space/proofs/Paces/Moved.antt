-- If moving may begin, only the quanta that end in it leave units of their budgets.
use Rattle.std.proofs.Common.{◌≡◌, ◌≢◌, ℕ, ◌+◌, ◌-◌, ◌*◌, ◌/◌, ◌<◌, ◌≤◌, inl, inr, Bool, true, false, if◌then◌else◌, List, length, ap, ◌∙◌, sym, subst, arith, refl}
use Rattle.std.proofs.lemmas.Nat.{le-div}
use Rattle.std.proofs.Math.Nat.{mul-le-mul_right}
use Rattle.graph_heap.specs.declared.command.Command.{Command}
use Rattle.graph_heap.specs.declared.command.Reply.{Reply}
use Rattle.graph_heap.specs.Graph.{Graph}
use Rattle.size_classes.specs.declared.class.TheConstants.{CLASSES}
use Rattle.heap_model.specs.declared.phase.Phase.{Phase}
use Rattle.heap_model.specs.declared.phase.Phase.TheVariants as phases
use Rattle.heap_model.specs.declared.phase.Moving.{Moving}
use Rattle.heap_model.specs.declared.phase.Moving.TheVariants as moves
use Rattle.heap_model.specs.State.{HeapState}
use Rattle.heap_model.specs.Opening.{IsOpening}
use Rattle.heap_model.specs.Settings.{HeapSettings, settings_of}
use Rattle.heap_model.specs.Spent.{IsWithin, cycle_limit, swept_units, moving_work}
use Rattle.heap_model.specs.Represents.{Represents}
use Rattle.heap_model.specs.Action.{Action, Scans_root, Ends_roots, Scans_header, Scans_cell, Ends_marking, Frees_block, Passes_block, Closes_page, Ends_sweep, Looks_at_page, Chooses_page, Chooses_none, Moves_block, Ends_moving, Chain, Nothing_done, Then}
use Rattle.heap_model.specs.Event.{Course, Event, Command_done, Cycle_begun, Begin_refused, Quantum_done, Quantum_refused, Enters, Collects, Does, Runs, IsCourse, present_of, snapshot_of, room_for, change_by}
use Rattle.heap_model.specs.ReachedFrom.{opened}
use Rattle.heap_model.specs.Left.{LeavesCycle}
use Rattle.heap_model.proofs.Spent.Actions.{moving_bound}
use Rattle.heap_model.proofs.Settings.{does_settings}
use Rattle.heap_model.proofs.Represents.{represents_chain, idle_chain}
use Rattle.heap_model.proofs.QuantumSpending.Quanta.{chain_units}
use Rattle.heap_model.proofs.QuantumSpending.Costs.{turn_left}
use Rattle.heap_model.proofs.Left.{change_left}
use Rattle.heap_model.proofs.Change.Changed.{represents_changed}
use Rattle.heap_model.proofs.Event.Kept.{founded, present_row, opening_course}
use Rattle.heap_model.specs.Phases.{awaits_sweep_end}
use Rattle.space.specs.Tally.{opening_tally, AllKeepTo}
use Rattle.space.specs.Pace.{Pace, Beat, opening_beat, in_cycle, KeepsPace, AllKeepPace, moving_units, moved_quanta, demand_of}
use Rattle.space.proofs.Paces.Pacing.{idle_phase, quanta_after, runs_keep, opening_paced}
use Rattle.space.proofs.Paces.Spending.{limit_stays, same_swept, swept_kept, all_spent, few_quanta}
use Rattle.space.proofs.Paces.Shifted.{at_units, chain_at, change_at, represents_at}

pub next_times : (n d : ℕ) → (n + 1) * d ≡ n * d + d
next_times n d = grind arith

-- a running cycle moves, if it is past the end of its sweep
pub a_move : (q : Phase) → in_cycle q ≡ true → awaits_sweep_end q ≡ false → (m : Moving) × (q ≡ phases.Moving m)
a_move phases.Idle on off = absurd (cc)
a_move (phases.Roots next) on off = absurd (cc)
a_move (phases.Marking part cell) on off = absurd (cc)
a_move (phases.Sweeping page block) on off = absurd (cc)
a_move (phases.Moving m) on off = (m, refl)

not_tracing : (q : Phase) → awaits_sweep_end q ≡ true → (m : Moving) → q ≡ phases.Moving m → ⊥
not_tracing q on m e = let z : true ≡ false = sym on ∙ ap awaits_sweep_end e in cc

-- no action goes back before the end of the sweep
action_tracing : (h after : HeapState) (cost : ℕ) → Action h cost after → awaits_sweep_end after.phase ≡ true → awaits_sweep_end h.phase ≡ true
action_tracing h after cost (Scans_root next k e l sh) on = ap awaits_sweep_end e
action_tracing h after cost (Ends_roots next e l) on = ap awaits_sweep_end e
action_tracing h after cost (Scans_header part cell x front back e f n) on = ap awaits_sweep_end e
action_tracing h after cost (Scans_cell part cell new k e l w sh) on = ap awaits_sweep_end e
action_tracing h after cost (Ends_marking part cell e f n) on = ap awaits_sweep_end e
action_tracing h after cost (Frees_block page block p new e f was unmarked w pages) on = ap awaits_sweep_end e
action_tracing h after cost (Passes_block page block p e f l marked) on = ap awaits_sweep_end e
action_tracing h after cost (Closes_page page block new e l f w pages) on = ap awaits_sweep_end e
action_tracing h after cost (Ends_sweep page block e l) on = ap awaits_sweep_end e
action_tracing h after cost (Looks_at_page class page best chosen at few more) on = absurd (cc)
action_tracing h after cost (Chooses_page class page best chosen c p new at few last is good there w pages) on = absurd (cc)
action_tracing h after cost (Chooses_none class page best chosen at few last is) on = absurd (cc)
action_tracing h after cost (Moves_block class page block chosen i to j p q new e at evacuating next place there empty w pages) on = absurd (cc)
action_tracing h after cost (Ends_moving done) on = absurd (cc)

pub chain_tracing : (h after : HeapState) (spent : ℕ) → Chain h spent after → awaits_sweep_end after.phase ≡ true → awaits_sweep_end h.phase ≡ true
chain_tracing h after spent Nothing_done on = on
chain_tracing h after spent (Then u cost j k linked chain links action) on = chain_tracing h j u chain (action_tracing (record j { store = linked }) k cost action on)

-- in moving no more is spent than before it, on looks, and on the words that were moved
moving_spent : (h : HeapState) (m : Moving) → h.phase ≡ phases.Moving m → IsWithin h h.phase → h.units ≤ swept_units h + (h.defrag_pages + CLASSES) * length h.store.pages + moving_work h
moving_spent h (moves.Pass class page best chosen) e w =
    let v = subst (λ z. IsWithin h z) e w in
    let a = v.0 in let f = v.1 in let q = v.2 in let d = v.3 in
    let m = next_times (chosen + class) (length h.store.pages) in
    let l : chosen + class + 1 ≤ h.defrag_pages + CLASSES = omega (arith, f, d) in
    let n = mul-le-mul_right (length h.store.pages) l in
    omega (arith, a, q, m, n)
moving_spent h (moves.Emptying class page block chosen) e w =
    let v = subst (λ z. IsWithin h z) e w in
    let a = v.0 in let f = v.1 in let d = v.2 in
    let l : chosen + class ≤ h.defrag_pages + CLASSES = omega (arith, f, d) in
    let n = mul-le-mul_right (length h.store.pages) l in
    omega (arith, a, n)

-- So the units spent are at most those before moving and in it.
moving_high : (h : HeapState) (present snapshot : Graph) → Represents h present snapshot → (m : Moving) → h.phase ≡ phases.Moving m → h.units ≤ swept_units h + moving_units h
moving_high h present snapshot w m e =
    let s = moving_spent h m e w.within in
    let b = moving_bound h present snapshot w.pages w.consistent in
    omega (arith, s, b)

-- a heap that moves may have spent as much as a sweep leaves at most
fresh_within : (h : HeapState) (m : Moving) → IsWithin h h.phase → h.phase ≡ phases.Moving m → IsWithin (at_units (swept_units h) h) h.phase
fresh_within h (moves.Pass class page best chosen) w e = subst (λ z. IsWithin (at_units (swept_units h) h) z) (sym e) (let v = subst (λ z. IsWithin h z) e w in (omega arith, v.1, v.2, v.3))
fresh_within h (moves.Emptying class page block chosen) w e = subst (λ z. IsWithin (at_units (swept_units h) h) z) (sym e) (let v = subst (λ z. IsWithin h z) e w in (omega arith, v.1, v.2))

-- While blocks are moved one quantum more than `more` ended in moving, and each of these spent k - 255 units at least, counted from
-- the most that a sweep leaves.
pub record HasMoved (k : ℕ) (h : HeapState) (r : Course) (ended more units : ℕ) : Type 0 where
  pub one : ended ≡ more + 1
  pub spent : swept_units h + more * (k - 255) ≤ units
  pub within : IsWithin (at_units units r.heap) r.heap.phase

-- the first quantum that ends in moving
pub first_moved : (k : ℕ) (h : HeapState) (r : Course) (m : Moving) → swept_units r.heap ≡ swept_units h → IsWithin r.heap r.heap.phase → r.heap.phase ≡ phases.Moving m → HasMoved k h r 1 0 (swept_units r.heap)
first_moved k h r m same within e = record { one = refl; spent = omega (arith, same); within = fresh_within r.heap m within e }

-- one more, which spends k - 255 units at least
pub next_moved : (k : ℕ) (h : HeapState) (r new : Course) (ended more units budget spends : ℕ) (phase : Phase) → IsCourse r → HasMoved k h r ended more units → Collects r budget spends phase new → k - 255 ≤ spends → HasMoved k h new (ended + 1) (more + 1) (units + spends)
next_moved k h r new ended more units budget spends phase w v q enough = record {
  one = (let o = v.one in omega (arith, o));
  spent = (let a = v.spent in let x = next_times more (k - 255) in omega (arith, a, x, enough));
  within = (represents_chain (at_units units r.heap) (at_units (units + spends) new.heap) spends (present_of r) (snapshot_of r)
      (represents_at units r.heap (present_of r) (snapshot_of r) w.represents v.within) (chain_at units r.heap new.heap spends q.turn.chain)).within;
}

-- what a command leaves of that
pub command_moved : (k : ℕ) (h : HeapState) (r new : Course) (m : ℕ) (c : Command) (reply : Reply) (ended more units : ℕ) → IsCourse r → HasMoved k h r ended more units → Enters r m c reply new → HasMoved k h new ended more units
command_moved k h r new m c reply ended more units w v does = record {
  one = v.one;
  spent = v.spent;
  within = (represents_changed (at_units units r.heap) (at_units units new.heap) (present_of r) (snapshot_of r) (change_by (room_for r.heap c) (present_of r) m c) (represents_at units r.heap (present_of r) (snapshot_of r) w.represents v.within)
      (founded (present_of r) (room_for r.heap c) m c (present_row r.heap (present_of r) (snapshot_of r) w.represents.consistent)) (change_at units r.heap new.heap (present_of r) _ does.change)).within;
}

-- The invariant: each of n quanta spent at least k units, except for 255 of each that ended in moving.
pub record IsSpent (k : ℕ) (h : HeapState) (r : Course) (n : ℕ) : Type 0 where
  pub limit : cycle_limit r.heap ≡ cycle_limit h
  pub settings : settings_of r.heap ≡ settings_of h
  pub ended : ℕ
  pub more : ℕ
  pub units : ℕ
  pub spent : in_cycle r.heap.phase ≡ true → n * k ≤ r.heap.units + 255 * ended
  pub none : awaits_sweep_end r.heap.phase ≡ true → ended ≡ 0
  pub moved : in_cycle r.heap.phase ≡ true → awaits_sweep_end r.heap.phase ≡ false → HasMoved k h r ended more units

-- with no cycle running there is nothing to keep
pub idle_spent : (k : ℕ) (h : HeapState) (r : Course) (n : ℕ) → cycle_limit r.heap ≡ cycle_limit h → settings_of r.heap ≡ settings_of h → in_cycle r.heap.phase ≡ false → IsSpent k h r n
idle_spent k h r n limit settings off = record {
  limit = limit;
  settings = settings;
  ended = 0;
  more = 0;
  units = 0;
  spent = λ on. absurd (let z : true ≡ false = sym on ∙ off in cc);
  none = λ on. refl;
  moved = λ on past. absurd (let z : true ≡ false = sym on ∙ off in cc);
}

-- a quantum's budget is at least k
abbrev pub HasBudget : ℕ → Event → Type 0
HasBudget k (Quantum_done budget units phase) = k ≤ budget
HasBudget k _ = Unit {0}

-- the number of quanta of a running cycle after one more event, if n were done before it; if no cycle runs, any number
abbrev pub Counts : Course → Event → ℕ → ℕ → Type 0
Counts r Cycle_begun n to = to ≡ 0
Counts r (Quantum_done budget units phase) n to = in_cycle r.heap.phase ≡ true → to ≡ n + 1
Counts r _ n to = to ≡ n

module _ (h : HeapState) (k : ℕ) (great : 256 ≤ k) where
  pub spent_few : (r : Course) (n : ℕ) → IsCourse r → IsSpent k h r n → in_cycle r.heap.phase ≡ true → n + 1 ≤ moved_quanta h k
  spent_few r n w i on = by_sweep (awaits_sweep_end r.heap.phase) refl
    where
      same : swept_units r.heap ≡ swept_units h
      same = same_swept h r.heap i.limit i.settings

      same_moving : moving_units r.heap ≡ moving_units h
      same_moving =
          let pages : length r.heap.store.pages ≡ length h.store.pages = ap (λ (s : HeapSettings). s.pages) i.settings in
          let defrag : r.heap.defrag_pages ≡ h.defrag_pages = ap (λ (s : HeapSettings). s.defrag_pages) i.settings in
          ap (λ z. (z + CLASSES) * length r.heap.store.pages + 2048 * length r.heap.store.pages + 1) defrag ∙ ap (λ z. (h.defrag_pages + CLASSES) * z + 2048 * z + 1) pages

      by_sweep : (b : Bool) → awaits_sweep_end r.heap.phase ≡ b → n + 1 ≤ (swept_units h + moving_units h + 255 * (moving_units h / (k - 255) + 1)) / k + 1
      by_sweep true e =
          let l = swept_kept r.heap (present_of r) (snapshot_of r) w.represents e in
          let s = i.spent on in
          let z = i.none e in
          few_quanta k (swept_units h + moving_units h + 255 * (moving_units h / (k - 255) + 1)) n (n * k) (omega (arith, great)) (omega arith) (let some : n * k ≤ swept_units h = omega (arith, l, s, z, same) in omega (arith, some))
      by_sweep false e =
          let m = a_move r.heap.phase on e in
          let v = i.moved on e in
          let l = moving_high r.heap (present_of r) (snapshot_of r) w.represents m.0 m.1 in
          let u = moving_high (at_units i.units r.heap) (present_of r) (snapshot_of r) (represents_at i.units r.heap (present_of r) (snapshot_of r) w.represents v.within) m.0 m.1 in
          let a = v.spent in
          let few : i.more ≤ moving_units h / (k - 255) = le-div i.more (moving_units h) (k - 255) (omega (arith, great)) (let x : i.more * (k - 255) ≤ moving_units r.heap = omega (arith, u, a, same) in subst (λ z. i.more * (k - 255) ≤ z) same_moving x) in
          let s = i.spent on in
          let o = v.one in
          few_quanta k (swept_units h + moving_units h + 255 * (moving_units h / (k - 255) + 1)) n (n * k) (omega (arith, great)) (omega arith) (let some : n * k ≤ swept_units h + moving_units h + 255 * (i.more + 1) = omega (arith, l, s, o, same, same_moving) in omega (arith, some, few))

  -- a quantum with a cycle running, which doesn't end it
  quantum_on : (r new : Course) (budget spends : ℕ) (phase : Phase) (n : ℕ) → IsCourse r → IsSpent k h r n → k ≤ budget → Collects r budget spends phase new → cycle_limit new.heap ≡ cycle_limit h → settings_of new.heap ≡ settings_of h
      → in_cycle r.heap.phase ≡ true → in_cycle new.heap.phase ≡ true → (b c : Bool) → awaits_sweep_end r.heap.phase ≡ b → awaits_sweep_end new.heap.phase ≡ c → IsSpent k h new (n + 1)
  quantum_on r new budget spends phase n w i enough q limit settings on stays = by_sweep
    where
      away : new.heap.phase ≢ phases.Idle
      away idle = let z : true ≡ false = sym stays ∙ ap in_cycle idle in cc

      after : Represents new.heap (present_of r) (snapshot_of r)
      after = represents_chain r.heap new.heap spends (present_of r) (snapshot_of r) w.represents q.turn.chain

      total : new.heap.units ≡ r.heap.units + spends
      total = chain_units r.heap new.heap spends q.turn.chain

      left : budget < spends + 256
      left = elim (turn_left r.heap new.heap budget spends after.pages q.turn) [
        | inl e ↦ absurd (away e)
        | inr l ↦ l
      ]

      more : (ended : ℕ) → i.ended ≡ ended → (n + 1) * k ≤ new.heap.units + 255 * (ended + 1)
      more ended e = let s = i.spent on in let x = next_times n k in omega (arith, s, x, total, left, enough, e)

      by_sweep : (b c : Bool) → awaits_sweep_end r.heap.phase ≡ b → awaits_sweep_end new.heap.phase ≡ c → IsSpent k h new (n + 1)
      by_sweep true true e f = record {
        limit = limit;
        settings = settings;
        ended = 0;
        more = 0;
        units = 0;
        spent = λ on1. (let s = i.spent on in let z = i.none e in let x = next_times n k in let l = all_spent r.heap new.heap budget spends q.turn (not_tracing new.heap.phase f) away in omega (arith, s, z, x, l, total, enough));
        none = λ on1. refl;
        moved = λ on1 past. absurd (let z : true ≡ false = sym f ∙ past in cc);
      }
      by_sweep true false e f =
          let m = a_move new.heap.phase stays f in
          let same = same_swept h new.heap limit settings in
          record {
            limit = limit;
            settings = settings;
            ended = 1;
            more = 0;
            units = swept_units new.heap;
            spent = λ on1. more 0 (i.none e);
            none = λ on1. absurd (let z : true ≡ false = sym on1 ∙ f in cc);
            moved = λ on1 past. first_moved k h new m.0 same after.within m.1;
          }
      by_sweep false true e f = absurd (let z : true ≡ false = sym (chain_tracing r.heap new.heap spends q.turn.chain f) ∙ e in cc)
      by_sweep false false e f = record {
        limit = limit;
        settings = settings;
        ended = i.ended + 1;
        more = i.more + 1;
        units = i.units + spends;
        spent = λ on1. more i.ended refl;
        none = λ on1. absurd (let z : true ≡ false = sym on1 ∙ f in cc);
        moved = λ on1 past. next_moved k h r new i.ended i.more i.units budget spends phase w (i.moved on e) q (omega (arith, left, enough));
      }

  spent_command : (r new : Course) (m : ℕ) (c : Command) (reply : Reply) (n : ℕ) → IsCourse r → IsSpent k h r n → cycle_limit new.heap ≡ cycle_limit h → settings_of new.heap ≡ settings_of h → LeavesCycle r.heap new.heap → Enters r m c reply new → IsSpent k h new n
  spent_command r new m c reply n w i limit settings left does = record {
    limit = limit;
    settings = settings;
    ended = i.ended;
    more = i.more;
    units = i.units;
    spent = λ on. (let s = i.spent (sym (ap in_cycle left.phase) ∙ on) in let u = left.units in omega (arith, s, u));
    none = λ on. i.none (sym (ap awaits_sweep_end left.phase) ∙ on);
    moved = λ on past. command_moved k h r new m c reply i.ended i.more i.units w (i.moved (sym (ap in_cycle left.phase) ∙ on) (sym (ap awaits_sweep_end left.phase) ∙ past)) does;
  }

  pub spent_next : (r : Course) (e : Event) (new : Course) (n to : ℕ) → IsCourse r → IsSpent k h r n → HasBudget k e → Counts r e n to → Does r e new → IsSpent k h new to
  spent_next r (Command_done m c reply) new n to w i enough same does =
      subst (IsSpent k h new) (sym same) (spent_command r new m c reply n w i (limit_stays r (Command_done m c reply) new does ∙ i.limit) (does_settings r (Command_done m c reply) new does ∙ i.settings)
      (change_left r.heap new.heap (present_of r) (change_by (room_for r.heap c) (present_of r) m c) does.change) does)
  spent_next r Cycle_begun new n to w i enough same does = record {
    limit = limit_stays r Cycle_begun new does ∙ i.limit;
    settings = does_settings r Cycle_begun new does ∙ i.settings;
    ended = 0;
    more = 0;
    units = 0;
    spent = λ on. subst (λ z. z * k ≤ new.heap.units + 255 * 0) (sym same) (omega arith);
    none = λ on. refl;
    moved = λ on past. absurd (let z : true ≡ false = sym (ap (λ (z : HeapState). awaits_sweep_end z.phase) does.heap) ∙ past in cc);
  }
  spent_next r Begin_refused new n to w i enough same does = subst (IsSpent k h new) (sym same) (subst (λ z. IsSpent k h z n) (sym does.1) i)
  spent_next r (Quantum_done budget units phase) new n to w i enough same does = by_on (in_cycle r.heap.phase) (in_cycle new.heap.phase) refl refl
    where
      limit : cycle_limit new.heap ≡ cycle_limit h
      limit = limit_stays r (Quantum_done budget units phase) new does ∙ i.limit

      settings : settings_of new.heap ≡ settings_of h
      settings = does_settings r (Quantum_done budget units phase) new does ∙ i.settings

      by_on : (b c : Bool) → in_cycle r.heap.phase ≡ b → in_cycle new.heap.phase ≡ c → IsSpent k h new to
      by_on true true e f = subst (IsSpent k h new) (sym (same e))
          (quantum_on r new budget units phase n w i enough does limit settings e f (awaits_sweep_end r.heap.phase) (awaits_sweep_end new.heap.phase) refl refl)
      by_on true false e f = idle_spent k h new to limit settings f
      by_on false c e f =
          let still = idle_chain r.heap new.heap units does.turn.chain (idle_phase r.heap.phase e) in
          idle_spent k h new to limit settings (ap (λ (z : HeapState). in_cycle z.phase) still.0 ∙ e)
  spent_next r (Quantum_refused budget) new n to w i enough same does = subst (IsSpent k h new) (sym same) (subst (λ z. IsSpent k h z n) (sym does.1) i)

pub pace_keeps : (h : HeapState) (es : List Event) (new : Course) (p : Pace) (k : ℕ) → 256 ≤ k → IsOpening h → 0 < length h.store.pages → Runs (opened h) es new → AllKeepPace p k (opening_beat h.limits) es → AllKeepTo (demand_of p (moved_quanta h k)) (opening_tally h.limits) es
pace_keeps h es new p k great o some runs keeps =
    runs_keep p k (moved_quanta h k) (λ r t n. IsSpent k h r n) (λ r t n. spent_few h k great r n)
    (λ r e new t b n w i keeps to does. spent_next h k great r e new n (quanta_after r e n) w i (pace_budget p k b e keeps) (counted r e n) does)
    es (opened h) new (opening_tally h.limits) (opening_beat h.limits) 0 (opening_course h o some) (idle_spent k h (opened h) 0 refl refl (ap in_cycle o.phase)) (opening_paced h p (moved_quanta h k) o) runs keeps
  where
    pace_budget : (p : Pace) (k : ℕ) (b : Beat) (e : Event) → KeepsPace p k b e → HasBudget k e
    pace_budget p k b (Quantum_done budget units phase) keeps = keeps
    pace_budget p k b _ keeps = tt

    counted : (r : Course) (e : Event) (n : ℕ) → Counts r e n (quanta_after r e n)
    counted r (Command_done m c reply) n = refl
    counted r Cycle_begun n = refl
    counted r Begin_refused n = refl
    counted r (Quantum_done budget units phase) n = λ on. ap (λ z. if z then n + 1 else n) on
    counted r (Quantum_refused budget) n = refl
