-- How many quanta a cycle takes in a run that keeps to a flow.
use Rattle.std.proofs.Common.{◌≡◌, ℕ, ◌+◌, ◌-◌, ◌*◌, ◌/◌, ◌<◌, ◌≤◌, ◌⊎◌, inl, inr, Bool, true, false, nat_le, if◌then◌else◌, List, [], ◌∷◌, length, ap, ◌∙◌, sym, subst, arith, refl}
use Rattle.std.specs.Prelude.{min}
use Rattle.std.proofs.lemmas.Nat.{le-div}
use Rattle.std.proofs.lemmas.Bool.{le-leb, leb-true}
use Rattle.std.proofs.Math.Nat.{le-min, mul-le-mul_left, mul-le-mul_right, lt-div-mul-add}
use Rattle.size_classes.specs.declared.class.TheConstants.{CLASSES, PAGE_WORDS}
use Rattle.heap_model.specs.declared.phase.Phase.{Phase}
use Rattle.heap_model.specs.declared.phase.Phase.TheVariants as phases
use Rattle.heap_model.specs.declared.phase.Moving.{Moving}
use Rattle.heap_model.specs.declared.phase.Moving.TheVariants as moves
use Rattle.heap_model.specs.State.{HeapState}
use Rattle.heap_model.specs.Phases.{awaits_sweep_end}
use Rattle.heap_model.specs.Settings.{HeapSettings}
use Rattle.heap_model.specs.Spent.{IsWithin, swept_units, moving_work}
use Rattle.heap_model.specs.Opening.{IsOpening}
use Rattle.heap_model.specs.ReachedFrom.{opened}
use Rattle.heap_model.specs.Event.{Course, Event, Command_done, Cycle_begun, Begin_refused, Quantum_done, Quantum_refused, Collects, Does, Runs, IsCourse, HaveBudgets, present_of, snapshot_of, room_for, change_by}
use Rattle.heap_model.proofs.Represents.{idle_chain}
use Rattle.heap_model.proofs.Spent.Actions.{moving_bound}
use Rattle.heap_model.proofs.QuantumSpending.Costs.{turn_left}
use Rattle.space.specs.Pace.{in_cycle}
use Rattle.space.specs.Lasting.{LastsAtMost}
use Rattle.space.proofs.Paces.Pacing.{idle_phase, command_left}
use Rattle.space.proofs.Paces.Spending.{same_swept}
use Rattle.space.proofs.Paces.Shifted.{at_units, chain_at}
use Rattle.space.proofs.Paces.Moved.{HasMoved, a_move, first_moved, next_moved, command_moved}
use Rattle.fragmentation.specs.Season.{Season, Lives, opening_season, season_after}
use Rattle.fragmentation.specs.Flow.{Flow, FlowMeter, opening_meter, next_meter, meter_after, KeepsFlow, AllMetered, traced_words, live_most, sweep_quanta, flow_moving, flow_quanta}
use Rattle.fragmentation.proofs.Flows.Kept.{FitsFlow}
use Rattle.fragmentation.proofs.Flows.Moving.{moving_few}
use Rattle.space.specs.Counts.{evacuating_pages}
use Rattle.fragmentation.proofs.Flows.Targets.{target_words, targets_few, Leaves, Receives, leaves_chain, leaves_none, receives_chain, gets_change, leaves_gets, receives_gets}
use Rattle.fragmentation.proofs.Flows.Quanta.{Flows, needs_few, quanta_few}
use Rattle.fragmentation.proofs.Flows.Flowing.{flows_next}
use Rattle.fragmentation.proofs.Flows.Suffices.{AllFlow, live, lives, opening_flows, flow_all}

-- Some pages are chosen, and each takes a look at every page. Words are moved to the others: no more than they have,
-- and no more than there are.
share : (pages chosen moved words : ℕ) → moved + PAGE_WORDS * chosen ≤ PAGE_WORDS * pages → moved ≤ words + 1 → chosen * pages + moved ≤ pages * pages + words * (PAGE_WORDS - pages) / PAGE_WORDS + 1
share pages chosen moved words room few = by_size (order pages PAGE_WORDS)
  where
    order : (a b : ℕ) → (a ≤ b) ⊎ (b ≤ a)
    order a b = grind arith

    turned : (p c : ℕ) → c ≤ p → c * p + p * (p - c) ≡ p * p
    turned p c l = joined p c (p - c) (omega (arith, l))
      where
        spread : (p c d : ℕ) → c * p + p * d ≡ p * (c + d)
        spread p c d = grind arith

        joined : (p c d : ℕ) → p ≡ c + d → c * p + p * d ≡ p * p
        joined p c d e = spread p c d ∙ ap (λ z. p * z) (sym e)

    split : (p d m : ℕ) → p + d ≡ PAGE_WORDS → PAGE_WORDS * m ≡ p * m + d * m
    split p d m e = ap (λ z. z * m) (sym e) ∙ spread p d m
      where
        spread : (p d m : ℕ) → (p + d) * m ≡ p * m + d * m
        spread p d m = grind arith

    swapped : (p n : ℕ) → p * (PAGE_WORDS * n) ≡ PAGE_WORDS * (p * n)
    swapped p n = grind arith

    more : (d w : ℕ) → d * (w + 1) ≡ w * d + d
    more d w = grind arith

    by_size : (pages ≤ PAGE_WORDS) ⊎ (PAGE_WORDS ≤ pages) → chosen * pages + moved ≤ pages * pages + words * (PAGE_WORDS - pages) / PAGE_WORDS + 1
    by_size (inl l) =
        let t = turned pages chosen (omega (arith, room)) in
        let s = split pages (PAGE_WORDS - pages) moved (omega (arith, l)) in
        let a = mul-le-mul_left pages (let z : moved ≤ PAGE_WORDS * (pages - chosen) = omega (arith, room) in z) in
        let b = swapped pages (pages - chosen) in
        let c = mul-le-mul_left (PAGE_WORDS - pages) few in
        let e = more (PAGE_WORDS - pages) words in
        let d : words * (PAGE_WORDS - pages) < words * (PAGE_WORDS - pages) / PAGE_WORDS * PAGE_WORDS + PAGE_WORDS = lt-div-mul-add (omega arith) in
        omega (arith, t, s, a, b, c, e, d, l)
    by_size (inr l) =
        let t = turned pages chosen (omega (arith, room)) in
        let a = mul-le-mul_right (pages - chosen) l in
        omega (arith, t, a, room)

-- what was moved is the same with other units
moved_at : (h : HeapState) (units : ℕ) → moving_work (at_units units h) ≡ moving_work h
unfolding moving_work
moved_at h units = refl

-- if a quantum is the first to end in moving, nothing is counted yet
first_receives : (h new : HeapState) (m : Moving) → new.phase ≡ phases.Moving m → swept_units new ≡ swept_units h → Receives (swept_units h) (at_units (swept_units new) new) new.phase
first_receives h new m e same = subst (Receives (swept_units h) (at_units (swept_units new) new)) (sym e) (by_place m)
  where
    by_place : (m : Moving) → Receives (swept_units h) (at_units (swept_units new) new) (phases.Moving m)
    by_place (moves.Pass class page best chosen) = omega (arith, same)
    by_place (moves.Emptying class page block chosen) = omega (arith, same)

both : (a b p : ℕ) → (a + b) * p ≡ a * p + b * p
both a b p = grind arith

four : (a p : ℕ) → (a + 1 + p) * p ≡ a * p + p + p * p
four a p = grind arith

module _ (h : HeapState) (f : Flow) (k : ℕ) (great : 256 ≤ k) (some : 0 < k) (lived : Lives) (lives_few : (n : ℕ) → FitsFlow f (lived n)) (traced : traced_words f (sweep_quanta f (length h.roots) (length h.store.pages) k) ≤ f.cycle_words) where
  abbrev most : ℕ
  most = sweep_quanta f (length h.roots) (length h.store.pages) k

  abbrev moving : ℕ
  moving = flow_moving f (length h.store.pages)

  abbrev IsKept : Course → Season → FlowMeter → Type 0
  IsKept r s t = Flows h f k some lived lives_few traced r s t

  -- no more than `most` quanta were done up to the first that ended in moving, which `more` others did
  pub record HasGone (r : Course) (t : FlowMeter) : Type 0 where
    pub more : ℕ
    pub units : ℕ
    pub has : HasMoved k h r (more + 1) more units
    pub leaves : Leaves r.heap.store.pages r.heap.phase
    pub receives : Receives (swept_units h) (at_units units r.heap) r.heap.phase
    pub few : t.quanta ≤ most + more

  -- so it is if a cycle runs whose sweep has ended
  abbrev Goes : Course → FlowMeter → Type 0
  Goes r t = in_cycle r.heap.phase ≡ true → awaits_sweep_end r.heap.phase ≡ false → HasGone r t

  -- no more end in moving than it takes
  more_few : (r : Course) (s : Season) (t : FlowMeter) → IsKept r s t → (m : Moving) → r.heap.phase ≡ phases.Moving m → (g : HasGone r t) → g.more ≤ moving / (k - 255)
  more_few r s t w m e g = le-div g.more moving (k - 255) (omega (arith, great)) (by_place m e)
    where
      pages : length r.heap.store.pages ≡ length h.store.pages
      pages = ap (λ (z : HeapSettings). z.pages) w.flowing.settings

      same : swept_units r.heap ≡ swept_units h
      same = same_swept h r.heap w.flowing.limit w.flowing.settings

      spent : swept_units h + g.more * (k - 255) ≤ g.units
      spent = g.has.spent

      words : ℕ
      words = min (PAGE_WORDS * length h.store.pages) (live_most f + f.cycle_words)

      moved : moving_work r.heap ≤ min (PAGE_WORDS * length h.store.pages) (live_most f + f.cycle_words) + 1
      moved =
          let all = moving_bound r.heap (present_of r) (snapshot_of r) w.course.represents.pages w.course.represents.consistent in
          let live_words = moving_few r.heap (present_of r) (snapshot_of r) w.course.represents (ap awaits_sweep_end e) w.counted.tidy (lived s.cycles) w.counted.begun.live w.counted.begun.kept in
          let needs = needs_few h f k some lived lives_few traced r s t w in
          let made = w.flowing.words in
          let least : moving_work r.heap - 1 ≤ min (PAGE_WORDS * length h.store.pages) (live_most f + f.cycle_words) = le-min (omega (arith, all, pages)) (omega (arith, live_words, needs, made)) in
          omega (arith, least)

      targets : target_words r.heap.store.pages + PAGE_WORDS * evacuating_pages r.heap.store.pages ≤ PAGE_WORDS * length h.store.pages
      targets = let t = targets_few r.heap.store.pages w.course.represents.pages in omega (arith, t, pages)

      -- what is spent besides looks for a class is a share of the pages
      shared : (chosen class page : ℕ) → chosen ≤ evacuating_pages r.heap.store.pages → class ≤ CLASSES → page ≤ length h.store.pages → g.units ≤ swept_units h + (chosen + class) * length h.store.pages + page + target_words r.heap.store.pages
          → g.units ≤ swept_units h + (chosen + class) * length h.store.pages + page + moving_work r.heap → g.more * (k - 255) ≤ moving
      shared chosen class page leaves small last receives within =
          let x : ℕ = g.units - (swept_units h + (chosen + class) * length h.store.pages + page) in
          let u = share (length h.store.pages) chosen (g.units - (swept_units h + (chosen + class) * length h.store.pages + page)) (min (PAGE_WORDS * length h.store.pages) (live_most f + f.cycle_words))
          (let t = targets in omega (arith, receives, t, leaves)) (let v = moved in omega (arith, within, v)) in
          let d = both chosen class (length h.store.pages) in
          let c = mul-le-mul_right (length h.store.pages) small in
          let a = spent in
          let o = four CLASSES (length h.store.pages) in
          omega (arith, u, d, c, a, last, o)

      by_place : (m : Moving) → r.heap.phase ≡ phases.Moving m → g.more * (k - 255) ≤ moving
      by_place (moves.Pass class page best chosen) e =
          let v = subst (λ z. IsWithin (at_units g.units r.heap) z) e g.has.within in
          let l = subst (Leaves r.heap.store.pages) e g.leaves in
          let n = subst (Receives (swept_units h) (at_units g.units r.heap)) e g.receives in
          let p = pages in
          let x = ap (λ z. (chosen + class) * z) p in
          let a = v.0 in
          let b = v.2 in
          let s = same in
          let q = moved_at r.heap g.units in
          shared chosen class page l v.1 (omega (arith, b, p)) (omega (arith, n, x)) (omega (arith, a, x, s, q))
      by_place (moves.Emptying class page block chosen) e =
          let v = subst (λ z. IsWithin (at_units g.units r.heap) z) e g.has.within in
          let l = subst (Leaves r.heap.store.pages) e g.leaves in
          let n = subst (Receives (swept_units h) (at_units g.units r.heap)) e g.receives in
          let x = ap (λ z. (chosen + class) * z) pages in
          let a = v.0 in
          let b = v.1 in
          let s = same in
          let q = moved_at r.heap g.units in
          shared chosen class 0 l (omega (arith, b)) (omega arith) (omega (arith, n, x)) (omega (arith, a, x, s, q))

  -- a whole cycle takes no more quanta
  cycle_few : (r : Course) (s : Season) (t : FlowMeter) → IsKept r s t → Goes r t → in_cycle r.heap.phase ≡ true → t.quanta + 1 ≤ flow_quanta f (length h.roots) (length h.store.pages) k
  cycle_few r s t w g on = by_sweep (awaits_sweep_end r.heap.phase) refl
    where
      by_sweep : (b : Bool) → awaits_sweep_end r.heap.phase ≡ b → t.quanta + 1 ≤ most + (moving / (k - 255) + 1)
      by_sweep true e = let q = quanta_few h f k some lived lives_few traced r s t w (w.flowing.awaiting_sweep_end ∙ e) in omega (arith, q)
      by_sweep false e =
          let m = a_move r.heap.phase on e in
          let x = g on e in
          let few = x.few in
          let more = more_few r s t w m.0 m.1 x in
          omega (arith, few, more)

  -- a sweep ends after no more
  sweep_few : (r : Course) (s : Season) (t : FlowMeter) → IsKept r s t → Goes r t → awaits_sweep_end r.heap.phase ≡ true → t.quanta + 1 ≤ most
  sweep_few r s t w g on = quanta_few h f k some lived lives_few traced r s t w (w.flowing.awaiting_sweep_end ∙ on)

  counts : (budget n : ℕ) → k ≤ budget → (if nat_le k budget then n + 1 else n) ≡ n + 1
  counts budget n l = ap (λ b. if b then n + 1 else n) (le-leb k budget l)

  -- A quantum that ends in moving, and needn't spend anything.
  any_moved : (r new : Course) (more units budget spends : ℕ) (phase : Phase) → IsCourse r → HasMoved k h r (more + 1) more units → Collects r budget spends phase new → HasMoved k h new (more + 1) more (units + spends)
  any_moved r new more units budget spends phase w v q = record {
    one = refl;
    spent = (let a = v.spent in omega (arith, a));
    within = next.within;
  }
    where
      -- how much is spent matters to no pages
      loose : HasMoved 255 h r (more + 1) more units
      loose = record { one = refl; spent = (let a = v.spent in let z : more * (255 - 255) ≡ 0 = none more in omega (arith, a, z)); within = v.within }
        where
          none : (n : ℕ) → n * (255 - 255) ≡ 0
          none n = grind arith

      next : HasMoved 255 h new (more + 1 + 1) (more + 1) (units + spends)
      next = next_moved 255 h r new (more + 1) more units budget spends phase w loose q (omega arith)

  goes_quantum : (r new : Course) (budget units : ℕ) (phase : Phase) (s : Season) (t : FlowMeter) → IsKept r s t → Goes r t → Collects r budget units phase new → IsKept new (season_after lived s (Quantum_done budget units phase)) (next_meter k t (Quantum_done budget units phase))
      → Goes new (next_meter k t (Quantum_done budget units phase))
  goes_quantum r new budget units phase s t w g q v on past = by_on (in_cycle r.heap.phase) (awaits_sweep_end r.heap.phase) refl refl
    where
      m : (m : Moving) × (new.heap.phase ≡ phases.Moving m)
      m = a_move new.heap.phase on past

      spends : k ≤ budget → k - 255 ≤ units
      spends enough = elim (turn_left r.heap new.heap budget units v.course.represents.pages q.turn) [
        | inl e ↦ absurd (let z : false ≡ true = sym (ap in_cycle e) ∙ on in cc)
        | inr l ↦ omega (arith, l, enough)
      ]

      by_on : (b c : Bool) → in_cycle r.heap.phase ≡ b → awaits_sweep_end r.heap.phase ≡ c → HasGone new (next_meter k t (Quantum_done budget units phase))
      by_on false c x y =
          let still = idle_chain r.heap new.heap units q.turn.chain (idle_phase r.heap.phase x) in
          absurd (let z : false ≡ true = sym x ∙ sym (ap (λ (z : HeapState). in_cycle z.phase) still.0) ∙ on in cc)
      by_on true true x y =
          let l = quanta_few h f k some lived lives_few traced r s t w (w.flowing.awaiting_sweep_end ∙ y) in
          record {
            more = 0;
            units = swept_units new.heap;
            has = first_moved k h new m.0 (same_swept h new.heap v.flowing.limit v.flowing.settings) v.course.represents.within m.1;
            leaves = leaves_chain r.heap new.heap units (leaves_none r.heap.store.pages r.heap.phase y) q.turn.chain;
            receives = first_receives h new.heap m.0 m.1 (same_swept h new.heap v.flowing.limit v.flowing.settings);
            few = once (nat_le k budget) l;
          }
        where
          once : (b : Bool) → t.quanta + 1 ≤ most → (if b then t.quanta + 1 else t.quanta) ≤ most + 0
          once true l = omega (arith, l)
          once false l = omega (arith, l)
      by_on true false i j = by_size (nat_le k budget) refl
        where
          x : HasGone r t
          x = g i j

          leaves : Leaves new.heap.store.pages new.heap.phase
          leaves = leaves_chain r.heap new.heap units x.leaves q.turn.chain

          receives : Receives (swept_units h) (at_units (x.units + units) new.heap) new.heap.phase
          receives = receives_chain (swept_units h) (at_units x.units r.heap) (at_units (x.units + units) new.heap) units j x.receives (chain_at x.units r.heap new.heap units q.turn.chain)

          by_size : (b : Bool) → nat_le k budget ≡ b → HasGone new (next_meter k t (Quantum_done budget units phase))
          by_size true e = record {
            more = x.more + 1;
            units = x.units + units;
            has = next_moved k h r new (x.more + 1) x.more x.units budget units phase w.course x.has q (spends (leb-true k budget e));
            leaves = leaves;
            receives = receives;
            few = (let l = x.few in let c : (if nat_le k budget then t.quanta + 1 else t.quanta) ≡ t.quanta + 1 = ap (λ b. if b then t.quanta + 1 else t.quanta) e in omega (arith, l, c));
          }
          by_size false e = record {
            more = x.more;
            units = x.units + units;
            has = any_moved r new x.more x.units budget units phase w.course x.has q;
            leaves = leaves;
            receives = receives;
            few = (let l = x.few in let c : (if nat_le k budget then t.quanta + 1 else t.quanta) ≡ t.quanta = ap (λ b. if b then t.quanta + 1 else t.quanta) e in omega (arith, l, c));
          }

  goes_next : (r new : Course) (e : Event) (s : Season) (t : FlowMeter) → IsKept r s t → Goes r t → Does r e new → IsKept new (season_after lived s e) (next_meter k t e) → Goes new (next_meter k t e)
  goes_next r new (Command_done m c reply) s t w g does v on past =
      let left = command_left r new m c reply does in
      let x = g (sym (ap in_cycle left.phase) ∙ on) (sym (ap awaits_sweep_end left.phase) ∙ past) in
      let gets = gets_change r.heap new.heap (present_of r) (change_by (room_for r.heap c) (present_of r) m c) does.change in
      record {
        more = x.more;
        units = x.units;
        has = command_moved k h r new m c reply (x.more + 1) x.more x.units w.course x.has does;
        leaves = subst (Leaves new.heap.store.pages) (sym left.phase) (leaves_gets r.heap.store.pages new.heap.store.pages r.heap.phase gets x.leaves);
        receives = subst (Receives (swept_units h) (at_units x.units new.heap)) (sym left.phase) (receives_gets (swept_units h) (at_units x.units r.heap) (at_units x.units new.heap) r.heap.phase gets refl x.receives);
        few = x.few;
      }
  goes_next r new Cycle_begun s t w g does v on past = absurd (let z : true ≡ false = sym (ap (λ (z : HeapState). awaits_sweep_end z.phase) does.heap) ∙ past in cc)
  goes_next r new Begin_refused s t w g does v on past = subst (λ z. Goes z t) (sym does.1) g on past
  goes_next r new (Quantum_done budget units phase) s t w g does v on past = goes_quantum r new budget units phase s t w g does v on past
  goes_next r new (Quantum_refused budget) s t w g does v on past = subst (λ z. Goes z t) (sym does.1) g on past

  -- after events, a cycle that runs has had fewer quanta than it takes
  pub gone_after : (es : List Event) (r new : Course) (s : Season) (t : FlowMeter) → IsKept r s t → Goes r t → Runs r es new → AllFlow f k lived s t es → in_cycle new.heap.phase ≡ true
      → (meter_after k t es).quanta + 1 ≤ flow_quanta f (length h.roots) (length h.store.pages) k
  gone_after [] r new s t w g runs all on = cycle_few r s t w g (ap (λ (z : Course). in_cycle z.heap.phase) (sym runs) ∙ on)
  gone_after (e ∷ es) r new s t w g runs all on =
      let v = flows_next h f k some lived lives_few traced r runs.0 e s t w all.0 all.1 runs.1 in
      gone_after es runs.0 new _ _ v (goes_next r runs.0 e s t w g runs.1 v) runs.2 all.2 on

  -- phases of a kind last at most `bound` quanta in every run, if they do at each place of it
  module _ (is_such : Phase → Bool) (bound : ℕ) (few : (r : Course) (s : Season) (t : FlowMeter) → IsKept r s t → Goes r t → is_such r.heap.phase ≡ true → t.quanta + 1 ≤ bound) where
    pub all_last : (es : List Event) (r new : Course) (s : Season) (t : FlowMeter) → IsKept r s t → Goes r t → Runs r es new → AllFlow f k lived s t es → HaveBudgets k es → LastsAtMost is_such bound t.quanta es
    all_last [] r new s t w g runs all enough = tt
    all_last (Command_done m c reply ∷ es) r new s t w g runs all enough =
        let e = Command_done m c reply in
        let v = flows_next h f k some lived lives_few traced r runs.0 e s t w all.0 all.1 runs.1 in
        all_last es runs.0 new _ _ v (goes_next r runs.0 e s t w g runs.1 v) runs.2 all.2 enough
    all_last (Cycle_begun ∷ es) r new s t w g runs all enough =
        let v = flows_next h f k some lived lives_few traced r runs.0 Cycle_begun s t w all.0 all.1 runs.1 in
        all_last es runs.0 new _ _ v (goes_next r runs.0 Cycle_begun s t w g runs.1 v) runs.2 all.2 enough
    all_last (Begin_refused ∷ es) r new s t w g runs all enough =
        let v = flows_next h f k some lived lives_few traced r runs.0 Begin_refused s t w all.0 all.1 runs.1 in
        all_last es runs.0 new _ _ v (goes_next r runs.0 Begin_refused s t w g runs.1 v) runs.2 all.2 enough
    all_last (Quantum_done budget units phase ∷ es) r new s t w g runs all enough =
        let e = Quantum_done budget units phase in
        let v = flows_next h f k some lived lives_few traced r runs.0 e s t w all.0 all.1 runs.1 in
        let x = goes_next r runs.0 e s t w g runs.1 v in
        let is = counts budget t.quanta enough.0 in (
          λ on. (let l = few runs.0 _ _ v x (ap is_such runs.1.ends ∙ on) in omega (arith, l, is)),
          subst (λ n. LastsAtMost is_such bound n es) is (all_last es runs.0 new _ _ v x runs.2 all.2 enough.1),
        )
    all_last (Quantum_refused budget ∷ es) r new s t w g runs all enough =
        let v = flows_next h f k some lived lives_few traced r runs.0 (Quantum_refused budget) s t w all.0 all.1 runs.1 in
        all_last es runs.0 new _ _ v (goes_next r runs.0 (Quantum_refused budget) s t w g runs.1 v) runs.2 all.2 enough

module _ (h : HeapState) (es : List Event) (new : Course) (f : Flow) (k : ℕ) (great : 256 ≤ k) (some : 0 < k) (o : IsOpening h) (pages : 0 < length h.store.pages) (runs : Runs (opened h) es new) (keeps : AllMetered k (KeepsFlow f) (opening_meter h.limits) es)
    (traced : traced_words f (sweep_quanta f (length h.roots) (length h.store.pages) k) ≤ f.cycle_words) (enough : HaveBudgets k es) where
  none_moves : in_cycle h.phase ≡ true → awaits_sweep_end h.phase ≡ false → HasGone h f k great some (live h es f k some o pages keeps traced) (lives h es f k some o pages keeps traced) traced (opened h) (opening_meter h.limits)
  none_moves on past = absurd (let z : false ≡ true = sym (ap in_cycle o.phase) ∙ on in cc)

  pub sweeps_last : LastsAtMost awaits_sweep_end (sweep_quanta f (length h.roots) (length h.store.pages) k) 0 es
  sweeps_last = all_last h f k great some _ (lives h es f k some o pages keeps traced) traced awaits_sweep_end (sweep_quanta f (length h.roots) (length h.store.pages) k) (sweep_few h f k great some _ (lives h es f k some o pages keeps traced) traced) es (opened h) new (opening_season h.limits) (opening_meter h.limits)
      (opening_flows h es f k some o pages keeps traced) none_moves runs (flow_all h es f k some o pages keeps traced) enough

  pub cycles_last : LastsAtMost in_cycle (flow_quanta f (length h.roots) (length h.store.pages) k) 0 es
  cycles_last = all_last h f k great some _ (lives h es f k some o pages keeps traced) traced in_cycle (flow_quanta f (length h.roots) (length h.store.pages) k) (cycle_few h f k great some _ (lives h es f k some o pages keeps traced) traced) es (opened h) new (opening_season h.limits) (opening_meter h.limits)
      (opening_flows h es f k some o pages keeps traced) none_moves runs (flow_all h es f k some o pages keeps traced) enough

module _ (h : HeapState) (es : List Event) (new : Course) (f : Flow) (k : ℕ) (great : 256 ≤ k) (some : 0 < k) (o : IsOpening h) (pages : 0 < length h.store.pages) (runs : Runs (opened h) es new) (keeps : AllMetered k (KeepsFlow f) (opening_meter h.limits) es)
    (traced : traced_words f (sweep_quanta f (length h.roots) (length h.store.pages) k) ≤ f.cycle_words) where
  none_gone : in_cycle h.phase ≡ true → awaits_sweep_end h.phase ≡ false → HasGone h f k great some (live h es f k some o pages keeps traced) (lives h es f k some o pages keeps traced) traced (opened h) (opening_meter h.limits)
  none_gone on past = absurd (let z : false ≡ true = sym (ap in_cycle o.phase) ∙ on in cc)

  -- a cycle that runs has had fewer quanta that count than it takes at most
  pub counted_few : in_cycle new.heap.phase ≡ true → (meter_after k (opening_meter h.limits) es).quanta < flow_quanta f (length h.roots) (length h.store.pages) k
  counted_few on = let l = gone_after h f k great some _ (lives h es f k some o pages keeps traced) traced es (opened h) new (opening_season h.limits) (opening_meter h.limits)
      (opening_flows h es f k some o pages keeps traced) none_gone runs (flow_all h es f k some o pages keeps traced) on in omega (arith, l)
