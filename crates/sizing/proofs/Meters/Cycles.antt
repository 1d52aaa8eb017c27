-- The fields of a meter after a beginning and after quanta.
use Rattle.std.proofs.Common.{◌≡◌, ℕ, ◌<◌, ◌≤◌, ◌↔◌, Bool, true, false, if◌then◌else◌, List, [], ◌∷◌, ◌++◌, length, max, arith, refl, ap, ◌∙◌, sym, subst}
use Rattle.std.proofs.Math.Seq.{drop-length}
use Rattle.std.specs.Prelude.{IfSome, slice_index}
use Rattle.graph_heap.specs.declared.command.Limits.{Limits}
use Rattle.graph_heap.specs.Graph.{Graph}
use Rattle.graph_heap.specs.Reach.{Reaches}
use Rattle.graph_heap.specs.Reaching.{AreReached}
use Rattle.size_classes.specs.declared.class.TheConstants.{CLASSES}
use Rattle.heap_model.specs.State.{HeapState}
use Rattle.heap_model.specs.Event.{Course, Event, Cycle_begun, Begins, IsCourse, HaveBudgets, present_of, snapshot_of}
use Rattle.heap_model.proofs.Event.Kept.{begins_present}
use Rattle.heap_model.proofs.Agreements.Implied.{consistent_agrees}
use Rattle.space.specs.Demand.{LiveWithin, blocks_of, blocks_by}
use Rattle.heap_model.specs.Phases.{awaits_sweep_end}
use Rattle.space.specs.Pace.{Pace, Beat, opening_beat, in_cycle}
use Rattle.fragmentation.specs.Season.{Season, Lives, opening_season, season_after, season_swept, made_since, AllKeep}
use Rattle.sizing.specs.declared.meter.Meter.{Meter}
use Rattle.sizing.specs.declared.season.Season.{Season as Counted}
use Rattle.sizing.specs.Counts.{AreBlocks}
use Rattle.sizing.specs.Season.{IsBegun, IsSwept, LivesMost}
use Rattle.sizing.specs.Meter.{season_at, none_live, beat_after, AllFit, AreOf, Holds, Needs, Shifts, Measures, Works}
use Rattle.sizing.proofs.Counts.Counting.{are_max, are_same}
use Rattle.sizing.proofs.Measures.Events.{beat_append, pace_more, Least, pace_live, pace_same, quanta_pace, quanta_budgets, budgets_append}
use Rattle.sizing.proofs.Meters.Living.{live_least}
use Rattle.sizing.proofs.Meters.Quanta.{quanta_beat, quanta_present}
use Rattle.sizing.proofs.Meters.Seasons.{season_append, alike, rested, quanta_season, quanta_keep}
use Rattle.sizing.proofs.Meters.Shifting.{shifts_still, shifts_swept, shifts_begun}

-- a beginning
module _ (l : Limits) (es : List Event) (r new : Course) (old fin : Meter) (v : Measures l es r old) (w : IsCourse r) (e : Begins r new) where
  abbrev begin_season : Season
  begin_season = season_at none_live (opening_season l) es

  abbrev begin_beat : Beat
  begin_beat = beat_after (opening_beat l) es

  pub begin_graph : old.graph ≡ present_of r
  begin_graph = v.holds.graph ∙ v.are.graph

  pub begin_fits : AllFit old.graph
  begin_fits = subst AllFit (sym begin_graph) v.are.shapes

  given_in : (z : Graph) → z ≡ present_of r → (id : ℕ) → Reaches z id → id ≤ length z.objects
  given_in z s id = subst (λ y. Reaches y id → id ≤ length y.objects) (sym s) (λ reach. ((consistent_agrees r.heap (present_of r) (snapshot_of r) w.represents.consistent).given id reach).below)

  module _ (ids : List ℕ) (all : AreReached old.graph ids) (blocks : List ℕ) (a : AreBlocks blocks (blocks_by old.graph ids)) where
    abbrev needed_now : ℕ → ℕ
    needed_now = blocks_by old.graph ids

    live_in : (z : Graph) → z ≡ present_of r → (most : ℕ → ℕ) → LiveWithin z most ↔ Least needed_now most
    live_in z s most = subst (λ y. LiveWithin y most ↔ Least needed_now most) (begin_graph ∙ sym s) (live_least old.graph ids most all (given_in old.graph begin_graph))

    abbrev begin_pace : Pace
    begin_pace = record { live = λ class. max (v.needs.pace.live class) (needed_now class); busy = v.needs.pace.busy; idle = v.needs.pace.idle }

    -- each season, whatever else is said to be live
    within : (live : Lives) (most : ℕ → ℕ) → LiveWithin (season_at live (opening_season l) es).graph most ↔ Least needed_now most
    within live most = live_in (season_at live (opening_season l) es).graph ((alike live (opening_season l) es).graph ∙ v.are.graph) most

    pub begun_measures : fin ≡ record old { live = fin.live; season = fin.season; most = fin.most; asked = fin.asked; cycle_running = true } → ((class : ℕ) → class < CLASSES → slice_index fin.live class ≡ max (slice_index old.live class) (slice_index blocks class))
        → IsBegun blocks old.season fin.season → LivesMost blocks old.most fin.most → AreBlocks fin.asked (λ class. 0) → Measures l (es ++ Cycle_begun ∷ []) new fin
    begun_measures same raised begun most none_asked = record {
      are = subst (λ x. AreOf x (beat_after (opening_beat l) (es ++ Cycle_begun ∷ [])) new) (sym (season_append none_live (opening_season l) es (Cycle_begun ∷ []))) (subst (λ x. AreOf (season_after none_live begin_season Cycle_begun) x new) (sym (beat_append (opening_beat l) es (Cycle_begun ∷ []))) (record {
        graph = v.are.graph ∙ sym (begins_present r new e);
        same = v.are.same ∙ sym (begins_present r new e);
        cycle_running = sym (ap (λ (h : HeapState). in_cycle h.phase) e.heap);
        awaiting_sweep_end = sym (ap (λ (h : HeapState). awaits_sweep_end h.phase) e.heap);
        last = (let x : length begin_season.graph.objects ≡ length (present_of new).objects = ap (λ (z : Graph). length z.objects) (v.are.graph ∙ sym (begins_present r new e)) in omega (arith, x));
        base = (let q = v.are.base in let x : length (present_of new).objects ≡ length (present_of r).objects = ap (λ (z : Graph). length z.objects) (begins_present r new e) in omega (arith, q, x));
        swept = (let q = v.are.swept in let x : length (present_of new).objects ≡ length (present_of r).objects = ap (λ (z : Graph). length z.objects) (begins_present r new e) in omega (arith, q, x));
        number = (let q = v.are.number in omega (arith, q));
        shapes = subst AllFit (sym (begins_present r new e)) v.are.shapes;
      }));
      holds = subst (λ x. Holds x (beat_after (opening_beat l) (es ++ Cycle_begun ∷ [])) fin) (sym (season_append none_live (opening_season l) es (Cycle_begun ∷ []))) (subst (λ x. Holds (season_after none_live begin_season Cycle_begun) x fin) (sym (beat_append (opening_beat l) es (Cycle_begun ∷ []))) (record {
        graph = ap (λ (x : Meter). x.graph) same ∙ v.holds.graph;
        cycle_running = ap (λ (x : Meter). x.cycle_running) same;
        awaiting_sweep_end = ap (λ (x : Counted). x.awaiting_sweep_end) begun.same;
        last = are_same fin.season.since_last _ _ (λ class low. ap (λ xs. blocks_of xs class) (drop-length begin_season.graph.objects)) begun.none;
        base = subst (λ y. AreBlocks y (made_since begin_season.base begin_season)) (sym (ap (λ (x : Counted). x.since_base) begun.same)) v.holds.base;
        swept = subst (λ y. AreBlocks y (made_since begin_season.swept begin_season)) (sym (ap (λ (x : Counted). x.since_swept) begun.same)) v.holds.swept;
        asked = none_asked;
      }));
      needs = record {
        pace = begin_pace;
        paces = pace_more l es (Cycle_begun ∷ []) v.needs.pace begin_pace (λ q. Least needed_now q.live) v.needs.paces
            (λ q k. (λ h. ((live_in begin_beat.graph v.are.same q.live).0 h.0, tt), λ h. ((live_in begin_beat.graph v.are.same q.live).1 h.0, tt))) (pace_live v.needs.pace needed_now);
        live = are_max old.live blocks fin.live v.needs.pace.live needed_now v.needs.live a raised;
        busy = subst (λ y. AreBlocks y v.needs.pace.busy) (sym (ap (λ (x : Meter). x.busy) same)) v.needs.busy;
        idle = subst (λ y. AreBlocks y v.needs.pace.idle) (sym (ap (λ (x : Meter). x.idle) same)) v.needs.idle;
        budget = λ k. (
            let p = budgets_append k es (Cycle_begun ∷ []) in
            let q = v.needs.budget k in
            subst (λ o. HaveBudgets k (es ++ Cycle_begun ∷ []) ↔ IfSome o (λ budget. k ≤ budget)) (sym (ap (λ (x : Meter). x.budget) same)) (λ h. q.0 (p.0 h).0, λ h. p.1 (q.1 h, tt))
            );
      };
      shifts = shifts_begun l es old fin v.shifts needed_now blocks a within v.are.number begun most;
    }

-- quanta
module _ (l : Limits) (es qs : List Event) (r new : Course) (old fin : Meter) (budget : ℕ) (v : Measures l es r old) (w : IsCourse r) (works : Works budget qs r new) where
  abbrev work_season : Season
  work_season = season_at none_live (opening_season l) es

  abbrev work_beat : Beat
  work_beat = beat_after (opening_beat l) es

  present : present_of new ≡ present_of r
  present = quanta_present budget qs r new works.each w works.runs

  -- each season, whatever is said to be live, traces as the heap does
  season_is : (live : Lives) → (season_at live (season_at live (opening_season l) es) qs ≡ rested live (awaits_sweep_end new.heap.phase) (season_at live (opening_season l) es)) × ((rested live (awaits_sweep_end new.heap.phase) (season_at live (opening_season l) es)).awaiting_sweep_end ≡ awaits_sweep_end new.heap.phase)
  season_is live = quanta_season live budget qs (season_at live (opening_season l) es) r new works.each works.runs ((alike live (opening_season l) es).awaiting_sweep_end ∙ v.are.awaiting_sweep_end)

  beat_is : (beat_after work_beat qs ≡ (if work_beat.cycle_running then record work_beat { cycle_running = in_cycle new.heap.phase; asked = λ class. 0 } else work_beat)) × ((beat_after work_beat qs).cycle_running ≡ in_cycle new.heap.phase)
  beat_is = quanta_beat budget qs work_beat r new works.each works.some works.runs v.are.cycle_running

  -- while a sweep's end is awaited, and if none was, a season stays; else its sweep has ended
  season_by : (P : Season → Type 0) → (awaits_sweep_end new.heap.phase ≡ true → P work_season) → (awaits_sweep_end new.heap.phase ≡ false → work_season.awaiting_sweep_end ≡ false → P work_season)
      → (awaits_sweep_end new.heap.phase ≡ false → work_season.awaiting_sweep_end ≡ true → P (season_swept none_live work_season)) → P (season_at none_live work_season qs)
  season_by P on off ends = subst P (sym (season_is none_live).0) (by (awaits_sweep_end new.heap.phase) refl work_season.awaiting_sweep_end refl)
    where
      by : (o : Bool) → awaits_sweep_end new.heap.phase ≡ o → (t : Bool) → work_season.awaiting_sweep_end ≡ t → P (if o then work_season else (if t then season_swept none_live work_season else work_season))
      by true e t f = on e
      by false e true f = ends e f
      by false e false f = off e f

  beat_by : (P : Beat → Type 0) → (work_beat.cycle_running ≡ true → P (record work_beat { cycle_running = in_cycle new.heap.phase; asked = λ class. 0 })) → (work_beat.cycle_running ≡ false → P work_beat) → P (beat_after work_beat qs)
  beat_by P on off = subst P (sym beat_is.0) (by work_beat.cycle_running refl)
    where
      by : (o : Bool) → work_beat.cycle_running ≡ o → P (if o then record work_beat { cycle_running = in_cycle new.heap.phase; asked = λ class. 0 } else work_beat)
      by true e = on e
      by false e = off e

  same_count : length (present_of new).objects ≡ length (present_of r).objects
  same_count = ap (λ (z : Graph). length z.objects) present

  season_graph : (season_at none_live work_season qs).graph ≡ present_of new
  season_graph = season_by (λ s. s.graph ≡ present_of new) (λ on. v.are.graph ∙ sym present) (λ off still. v.are.graph ∙ sym present) (λ off on. v.are.graph ∙ sym present)

  are_worked : AreOf (season_at none_live work_season qs) (beat_after work_beat qs) new
  are_worked = record {
    graph = season_graph;
    same = beat_by (λ b. b.graph ≡ present_of new) (λ on. v.are.same ∙ sym present) (λ off. v.are.same ∙ sym present);
    cycle_running = beat_is.1;
    awaiting_sweep_end = ap (λ (s : Season). s.awaiting_sweep_end) (season_is none_live).0 ∙ (season_is none_live).1;
    last = (let x = same_count in let q = v.are.last in season_by (λ s. s.last ≤ length (present_of new).objects) (λ on. omega (arith, q, x)) (λ off still. omega (arith, q, x)) (λ off on. omega (arith, q, x)));
    base = (let x = same_count in let p = v.are.last in let q = v.are.base in season_by (λ s. s.base ≤ length (present_of new).objects) (λ on. omega (arith, q, x)) (λ off still. omega (arith, q, x)) (λ off on. omega (arith, p, x)));
    swept = (let x = same_count in let q = v.are.swept in let g : length work_season.graph.objects ≡ length (present_of r).objects = ap (λ (z : Graph). length z.objects) v.are.graph in
        season_by (λ s. s.swept ≤ length (present_of new).objects) (λ on. omega (arith, q, x)) (λ off still. omega (arith, q, x)) (λ off on. omega (arith, g, x)));
    number = (let q = v.are.number in season_by (λ s. s.number ≤ s.cycles) (λ on. q) (λ off still. q) (λ off on. omega arith));
    shapes = subst AllFit (sym present) v.are.shapes;
  }

  -- what the counts of a season add up to
  record Rests : Type 0 where
    traces : awaits_sweep_end new.heap.phase ≡ true → fin.season ≡ old.season
    stays : old.season.awaiting_sweep_end ≡ false → fin.season ≡ old.season
    ends : awaits_sweep_end new.heap.phase ≡ false → old.season.awaiting_sweep_end ≡ true → IsSwept old.season fin.season

  carried_by : (n : Season → ℕ) (list : Counted → List ℕ) → Rests → AreBlocks (list old.season) (made_since (n work_season) work_season) → (awaits_sweep_end new.heap.phase ≡ false → work_season.awaiting_sweep_end ≡ true → AreBlocks (list fin.season) (made_since (n (season_swept none_live work_season)) (season_swept none_live work_season)))
      → AreBlocks (list fin.season) (made_since (n (season_at none_live work_season qs)) (season_at none_live work_season qs))
  carried_by n list rests allocated ended = season_by (λ s. AreBlocks (list fin.season) (made_since (n s) s))
      (λ on. subst (λ (y : Counted). AreBlocks (list y) (made_since (n work_season) work_season)) (sym (rests.traces on)) allocated)
      (λ off still. subst (λ (y : Counted). AreBlocks (list y) (made_since (n work_season) work_season)) (sym (rests.stays (v.holds.awaiting_sweep_end ∙ still))) allocated)
      ended

  free : (Bound : Season → (ℕ → ℕ) → Type 0) (live : Lives) → AllKeep Bound live (season_at live (opening_season l) es) qs
  free Bound live = quanta_keep Bound live (season_at live (opening_season l) es) budget qs works.each

  shifts_worked : Rests → fin.most ≡ old.most → Shifts l (es ++ qs) fin
  shifts_worked rests most = by (awaits_sweep_end new.heap.phase) refl work_season.awaiting_sweep_end refl
    where
      stays_so : (o t : Bool) → awaits_sweep_end new.heap.phase ≡ o → work_season.awaiting_sweep_end ≡ t → ((s : Season) (live : Lives) → s.awaiting_sweep_end ≡ t → (if o then s else (if s.awaiting_sweep_end then season_swept live s else s)) ≡ s)
          → fin.season ≡ old.season → Shifts l (es ++ qs) fin
      stays_so o t e f still same = shifts_still l es qs old fin v.shifts free
          (λ live. (season_is live).0 ∙ ap (λ b. rested live b (season_at live (opening_season l) es)) e ∙ still (season_at live (opening_season l) es) live ((alike live (opening_season l) es).awaiting_sweep_end ∙ f)) same most

      by : (o : Bool) → awaits_sweep_end new.heap.phase ≡ o → (t : Bool) → work_season.awaiting_sweep_end ≡ t → Shifts l (es ++ qs) fin
      by true e t f = stays_so true t e f (λ s live g. refl) (rests.traces e)
      by false e false f = stays_so false false e f (λ s live g. ap (λ b. if b then season_swept live s else s) g) (rests.stays (v.holds.awaiting_sweep_end ∙ f))
      by false e true f = shifts_swept l es qs old fin v.shifts free
          (λ live. (
          let s = season_at live (opening_season l) es in
          (season_is live).0 ∙ ap (λ b. rested live b s) e ∙ ap (λ b. if b then season_swept live s else s) ((alike live (opening_season l) es).awaiting_sweep_end ∙ f)
          )) v.are.number v.holds.base (rests.ends e (v.holds.awaiting_sweep_end ∙ f)) most

  pub quanta_measure : fin ≡ record old { cycle_running = fin.cycle_running; season = fin.season; asked = fin.asked; budget = fin.budget }
      → (awaits_sweep_end new.heap.phase ≡ true → fin.season ≡ old.season) → (old.season.awaiting_sweep_end ≡ false → fin.season ≡ old.season) → (awaits_sweep_end new.heap.phase ≡ false → old.season.awaiting_sweep_end ≡ true → IsSwept old.season fin.season)
      → (old.cycle_running ≡ true → (fin.cycle_running ≡ in_cycle new.heap.phase) × AreBlocks fin.asked (λ class. 0)) → (old.cycle_running ≡ false → (fin.cycle_running ≡ old.cycle_running) × (fin.asked ≡ old.asked))
      → ((k : ℕ) → IfSome fin.budget (λ n. k ≤ n) ↔ (IfSome old.budget (λ n. k ≤ n) × (k ≤ budget))) → Measures l (es ++ qs) new fin
  quanta_measure same traces stays ends on off least = record {
    are = subst (λ x. AreOf x (beat_after (opening_beat l) (es ++ qs)) new) (sym (season_append none_live (opening_season l) es qs)) (subst (λ x. AreOf (season_at none_live work_season qs) x new) (sym (beat_append (opening_beat l) es qs)) are_worked);
    holds = subst (λ x. Holds x (beat_after (opening_beat l) (es ++ qs)) fin) (sym (season_append none_live (opening_season l) es qs)) (subst (λ x. Holds (season_at none_live work_season qs) x fin) (sym (beat_append (opening_beat l) es qs)) (record {
      graph = ap (λ (x : Meter). x.graph) same ∙ season_by (λ s. old.graph ≡ s.graph) (λ z. v.holds.graph) (λ z y. v.holds.graph) (λ z y. v.holds.graph);
      cycle_running = beat_by (λ b. fin.cycle_running ≡ b.cycle_running) (λ z. (on (v.holds.cycle_running ∙ z)).0) (λ z. (off (v.holds.cycle_running ∙ z)).0 ∙ v.holds.cycle_running);
      awaiting_sweep_end = season_by (λ s. fin.season.awaiting_sweep_end ≡ s.awaiting_sweep_end) (λ z. ap (λ (y : Counted). y.awaiting_sweep_end) (traces z) ∙ v.holds.awaiting_sweep_end) (λ z y. ap (λ (y : Counted). y.awaiting_sweep_end) (stays (v.holds.awaiting_sweep_end ∙ y)) ∙ v.holds.awaiting_sweep_end)
          (λ z y. ap (λ (y : Counted). y.awaiting_sweep_end) (ends z (v.holds.awaiting_sweep_end ∙ y)).same);
      last = carried_by (λ s. s.last) (λ (y : Counted). y.since_last) rests v.holds.last (λ z y. subst (λ x. AreBlocks x (made_since work_season.last work_season)) (sym (ap (λ (y : Counted). y.since_last) (ends z (v.holds.awaiting_sweep_end ∙ y)).same)) v.holds.last);
      base = carried_by (λ s. s.base) (λ (y : Counted). y.since_base) rests v.holds.base (λ z y. subst (λ x. AreBlocks x (made_since work_season.last work_season)) (sym (ap (λ (y : Counted). y.since_base) (ends z (v.holds.awaiting_sweep_end ∙ y)).same)) v.holds.last);
      swept = carried_by (λ s. s.swept) (λ (y : Counted). y.since_swept) rests v.holds.swept (λ z y. are_same fin.season.since_swept _ _ (λ class low. ap (λ xs. blocks_of xs class) (drop-length work_season.graph.objects)) (ends z (v.holds.awaiting_sweep_end ∙ y)).none);
      asked = beat_by (λ b. AreBlocks fin.asked b.asked) (λ z. (on (v.holds.cycle_running ∙ z)).1) (λ z. subst (λ y. AreBlocks y work_beat.asked) (sym (off (v.holds.cycle_running ∙ z)).1) v.holds.asked);
    }));
    needs = subst (Needs l (es ++ qs)) (sym same) (record {
      pace = v.needs.pace;
      paces = pace_more l es qs v.needs.pace v.needs.pace (λ q. Unit {0}) v.needs.paces
          (λ q k. (λ h. (tt, (quanta_pace q k work_beat budget qs works.each).0 h), λ h. (quanta_pace q k work_beat budget qs works.each).1 h.1)) (pace_same v.needs.pace);
      live = v.needs.live;
      busy = v.needs.busy;
      idle = v.needs.idle;
      budget = λ k. (
          let p = budgets_append k es qs in
          let q = quanta_budgets k budget qs works.each works.some in
          let n = v.needs.budget k in
          let f = least k in
          (λ h. (let x = p.0 h in f.1 (n.0 x.0, q.0 x.1)), λ h. (let x = f.0 h in p.1 (n.1 x.0, q.1 x.1)))
          );
    });
    shifts = shifts_worked rests (ap (λ (x : Meter). x.most) same);
  }
    where
      rests : Rests
      rests = record { traces = traces; stays = stays; ends = ends }
