-- The fields of a meter after each event.
use Rattle.std.proofs.Common.{◌≡◌, ℕ, ◌+◌, ◌<◌, ◌≤◌, ◌↔◌, ◌⊎◌, inl, inr, Bool, true, false, if◌then◌else◌, List, [], ◌∷◌, ◌++◌, length, drop, max, arith, refl, ap, ◌∙◌, sym, subst}
use Rattle.std.specs.Prelude.{None, IfSome}
use Rattle.graph_heap.specs.declared.command.Limits.{Limits}
use Rattle.graph_heap.specs.declared.command.Command.{Command}
use Rattle.graph_heap.specs.declared.command.Reply.{Reply}
use Rattle.graph_heap.specs.declared.command.Entry.{Entry}
use Rattle.graph_heap.specs.declared.command.Change.{Change}
use Rattle.graph_heap.specs.Graph.{Graph, opening, changed, root_cells}
use Rattle.graph_heap.specs.Effect.{next_of}
use Rattle.graph_heap.specs.History.{after_entry, IsEntryOf}
use Rattle.heap_model.specs.State.{HeapState}
use Rattle.heap_model.specs.Opening.{IsOpening}
use Rattle.heap_model.specs.ReachedFrom.{opened}
use Rattle.heap_model.specs.Event.{Course, Event, Command_done, Begin_refused, Enters, IsCourse, HaveBudgets, present_of, snapshot_of, room_for, change_by}
use Rattle.heap_model.proofs.Left.{change_left}
use Rattle.heap_model.proofs.Event.Freed.{objects_stay}
use Rattle.heap_model.proofs.Event.Kept.{founded, present_row, enters_step, enters_present}
use Rattle.space.specs.Demand.{blocks_of, asked_by, asked_for}
use Rattle.heap_model.specs.Phases.{awaits_sweep_end}
use Rattle.space.specs.Pace.{Pace, Beat, AllKeepPace, opening_beat, next_beat, in_cycle}
use Rattle.space.proofs.Paces.Pacing.{more_since}
use Rattle.fragmentation.specs.Season.{Season, opening_season, season_after, made_since}
use Rattle.fragmentation.proofs.Suffice.Paging.{pages_none}
use Rattle.sizing.specs.declared.meter.Meter.{Meter}
use Rattle.sizing.specs.declared.season.Season.{Season as Counted}
use Rattle.sizing.specs.Counts.{AreBlocks}
use Rattle.sizing.specs.Season.{IsNothing, AsksMost}
use Rattle.sizing.specs.Measured.{IsPaceWithin}
use Rattle.sizing.specs.Meter.{season_at, none_live, beat_after, AllFit, Asks, Allocates, AreOf, Holds, Needs, Shifts, Measures}
use Rattle.sizing.proofs.Counts.Counting.{are_sum, are_max, are_same}
use Rattle.sizing.proofs.Measures.Events.{beat_append, pace_more, Least, pace_busy, pace_idle, pace_same, budgets_append}
use Rattle.sizing.proofs.Meters.Seasons.{season_append}
use Rattle.sizing.proofs.Meters.Shifting.{shifts_still}
use Rattle.sizing.proofs.Meters.Asking.{shifts_command}
use Rattle.sizing.proofs.Meters.Making.{grown, not_grown, fit_after, fit_opening}

-- The meter starts before the first event.
opening_shifts : (l : Limits) (m : Meter) → AreBlocks m.season.live_last (λ class. 0) → AreBlocks m.season.live_base (λ class. 0) → AreBlocks m.season.before (λ class. 0) → IsNothing m.most → Shifts l [] m
opening_shifts l m last base before n = record {
  lives = none_live;
  before = λ class. 0;
  lived = record { least = λ live k n class low. omega arith; sooner = λ live k class low. omega arith; exact = λ live a class low. refl };
  last_counted = last;
  base_counted = base;
  before_counted = before;
  together = λ class. 0;
  together_least = record { above = λ live q k class low. omega arith; below = λ live q a k. tt };
  together_counted = n.together;
  gathered = 0;
  gathered_least = record { above = λ live q k. omega arith; below = λ live q a k. tt };
  gathered_counted = (let e = n.gathered in omega (arith, e));
  made = 0;
  made_least = record { above = λ live q k. omega arith; below = λ live q a k. tt };
  made_counted = (let e = n.made in omega (arith, e));
  live = 0;
  live_least = λ live pages k most. omega arith;
  live_most = λ n. subst (λ z. z ≤ 0) (sym pages_none) (omega arith);
  live_counted = (let e = n.live in omega (arith, e));
}

pub opening_measures : (h : HeapState) (m : Meter) → IsOpening h → m.graph ≡ opening h.limits → m.cycle_running ≡ false → m.budget ≡ None → m.season.awaiting_sweep_end ≡ false
    → AreBlocks m.season.live_last (λ class. 0) × AreBlocks m.season.live_base (λ class. 0) × AreBlocks m.season.before (λ class. 0)
    → AreBlocks m.season.since_last (λ class. 0) × AreBlocks m.season.since_base (λ class. 0) × AreBlocks m.season.since_swept (λ class. 0)
    → IsNothing m.most → AreBlocks m.asked (λ class. 0) → AreBlocks m.live (λ class. 0) → AreBlocks m.busy (λ class. 0) → AreBlocks m.idle (λ class. 0) → Measures h.limits [] (opened h) m
opening_measures h m o graph off none still lives since nothing asked live busy idle = record {
  are = record {
    graph = refl;
    same = refl;
    cycle_running = sym (ap in_cycle o.phase);
    awaiting_sweep_end = sym (ap awaits_sweep_end o.phase);
    last = omega arith;
    base = omega arith;
    swept = omega arith;
    number = omega arith;
    shapes = fit_opening h.limits;
  };
  holds = record { graph = graph; cycle_running = off; awaiting_sweep_end = still; last = since.0; base = since.1; swept = since.2; asked = asked };
  needs = record {
    pace = record { live = λ class. 0; busy = λ class. 0; idle = λ class. 0 };
    paces = λ q k. (λ w. (λ class l. (omega arith, omega arith, omega arith), tt), λ w. tt);
    live = live;
    busy = busy;
    idle = idle;
    budget = λ k. subst (λ o. Unit {0} ↔ IfSome o (λ b. k ≤ b)) (sym none) (λ w. tt, λ w. tt);
  };
  shifts = opening_shifts h.limits m lives.0 lives.1 lives.2 nothing;
}

pub not_more : (more : Bool) (a b : ℕ) → (a < b → more ≡ true) → more ≡ false → b ≤ a
not_more more a b up off = elim (le_or b a) [
  | inl h ↦ h
  | inr h ↦ absurd (let z : true ≡ false = sym (up h) ∙ off in cc)
]
  where
    le_or : (x y : ℕ) → (x ≤ y) ⊎ (y < x)
    le_or x y = grind arith

-- a meter that counted the requested blocks steps as its graph did
pub noted_steps : (old done noted : Meter) (x : Entry) → noted.graph ≡ done.graph → (IsEntryOf old.graph x → done ≡ record old { graph = after_entry old.graph x }) → IsEntryOf old.graph x
    → noted ≡ record noted { graph = after_entry old.graph x }
noted_steps old done noted x same stepped is = ap (λ (g : Graph). record noted { graph = g }) (same ∙ ap (λ (y : Meter). y.graph) (stepped is))

-- requested blocks that are counted after the entry was done are counted as before it
pub asks_before : (asked : List ℕ) (old done noted : Meter) → done ≡ record old { graph = done.graph } → Asks asked done noted → Asks asked old (record noted { graph = old.graph })
asks_before asked old done noted same asks = let s = subst (λ (x : Meter). Asks asked x noted) same asks in record {
  graph = refl;
  cycle_running = s.cycle_running;
  season = s.season;
  live = s.live;
  budget = s.budget;
  most = s.most;
  sum = s.sum;
  busy = s.busy;
  idle = s.idle;
  not_busy = s.not_busy;
  not_idle = s.not_idle;
}

-- a command
module _ (l : Limits) (es : List Event) (r new : Course) (m : ℕ) (c : Command) (reply : Reply) (old : Meter) (v : Measures l es r old) (w : IsCourse r) (e : Enters r m c reply new) where
  abbrev g : Graph
  g = present_of r

  abbrev t : Season
  t = season_at none_live (opening_season l) es

  abbrev b : Beat
  b = beat_after (opening_beat l) es

  abbrev entry : Entry
  entry = record { mutator = m; command = c; reply = reply }

  abbrev change : Change
  change = change_by (room_for r.heap c) g m c

  abbrev event : Event
  event = Command_done m c reply

  phase_stays : new.heap.phase ≡ r.heap.phase
  phase_stays = let q = change_left r.heap new.heap g change e.change in q.phase

  steps : after_entry g entry ≡ changed g change
  steps = (enters_step r new m c reply w e).1 ∙ (unfold next_of in refl)

  -- the graph heap before and after
  meter_graph : old.graph ≡ g
  meter_graph = v.holds.graph ∙ v.are.graph

  meter_row : length old.graph.roots ≡ root_cells old.graph.limits
  meter_row = subst (λ (z : Graph). length z.roots ≡ root_cells z.limits) (sym meter_graph) (present_row r.heap g (snapshot_of r) w.represents.consistent)

  after_is : (z : Graph) → z ≡ g → after_entry z entry ≡ changed g change
  after_is z s = ap (λ y. after_entry y entry) s ∙ steps

  into : (z : Graph) → z ≡ g → after_entry z entry ≡ present_of new
  into z s = after_is z s ∙ sym (enters_present r new m c reply w e)

  longer : length g.objects ≤ length (present_of new).objects
  longer =
      let o = objects_stay g change in
      let x : length (present_of new).objects ≡ length (changed g change).objects = ap (λ (z : Graph). length z.objects) (enters_present r new m c reply w e) in
      omega (arith, o, x)

  are_command : AreOf (season_after none_live t event) (next_beat b event) new
  are_command = record {
    graph = into t.graph v.are.graph;
    same = into b.graph v.are.same;
    cycle_running = v.are.cycle_running ∙ ap in_cycle (sym phase_stays);
    awaiting_sweep_end = v.are.awaiting_sweep_end ∙ ap awaits_sweep_end (sym phase_stays);
    last = (let q = v.are.last in let o = longer in omega (arith, q, o));
    base = (let q = v.are.base in let o = longer in omega (arith, q, o));
    swept = (let q = v.are.swept in let o = longer in omega (arith, q, o));
    number = v.are.number;
    shapes = subst AllFit (sym (enters_present r new m c reply w e)) (fit_after g change v.are.shapes (founded g (room_for r.heap c) m c (present_row r.heap g (snapshot_of r) w.represents.consistent)));
  }

  asked_same : (z : Graph) → z ≡ g → (class : ℕ) → asked_for z m c class ≡ asked_for g m c class
  asked_same z s class = ap (λ y. asked_for y m c class) s

  -- what the objects need since a place
  since : (n class : ℕ) → n ≤ length g.objects → blocks_of (drop n (after_entry t.graph entry).objects) class ≡ blocks_of (drop n t.graph.objects) class + asked_by change class
  since n class low =
      let a = more_since g change n class low in
      let x : blocks_of (drop n (after_entry t.graph entry).objects) class ≡ blocks_of (drop n (changed g change).objects) class = ap (λ (z : Graph). blocks_of (drop n z.objects) class) (after_is t.graph v.are.graph) in
      let y : blocks_of (drop n t.graph.objects) class ≡ blocks_of (drop n g.objects) class = ap (λ (z : Graph). blocks_of (drop n z.objects) class) v.are.graph in
      omega (arith, a, x, y)

  module _ (asked : List ℕ) (by_row : length old.graph.roots ≡ root_cells old.graph.limits → AreBlocks asked (asked_for old.graph m c)) (mid : Meter) (s : Asks asked old mid) where
    a : AreBlocks asked (asked_for old.graph m c)
    a = by_row meter_row

    asked_is : AreBlocks asked (asked_for t.graph m c)
    asked_is = are_same asked (asked_for old.graph m c) (asked_for t.graph m c) (λ class low. ap (λ z. asked_for z m c class) (sym v.holds.graph)) a

    asked_beat : AreBlocks asked (asked_for b.graph m c)
    asked_beat = are_same asked (asked_for old.graph m c) (asked_for b.graph m c) (λ class low. ap (λ z. asked_for z m c class) (v.are.same ∙ sym meter_graph)) a

    abbrev now : ℕ → ℕ
    now class = b.asked class + asked_for b.graph m c class

    now_counted : AreBlocks mid.asked now
    now_counted = are_sum old.asked asked mid.asked b.asked (asked_for b.graph m c) v.holds.asked asked_beat s.sum

    budgets : (k : ℕ) → HaveBudgets k (es ++ event ∷ []) ↔ IfSome mid.budget (λ budget. k ≤ budget)
    budgets k =
        let p = budgets_append k es (event ∷ []) in
        let q = v.needs.budget k in
        subst (λ o. HaveBudgets k (es ++ event ∷ []) ↔ IfSome o (λ budget. k ≤ budget)) (sym s.budget) (λ h. q.0 (p.0 h).0, λ h. p.1 (q.1 h, tt))

    -- what a pace gives while a cycle is running, or while none is
    abbrev given : Bool → Pace → ℕ → ℕ
    given o q class = if o then q.busy class else q.idle class

    keeps_by : (o : Bool) → b.cycle_running ≡ o → (q : Pace) (k : ℕ) → AllKeepPace q k b (event ∷ []) ↔ (Least now (given o q) × HaveBudgets k (event ∷ []))
    keeps_by o is q k = (λ h. ((λ class low. subst (λ y. now class ≤ given y q class) is (h.0 class low)), tt), λ h. ((λ class low. subst (λ y. now class ≤ given y q class) (sym is) (h.0 class low)), tt))

    needs_with : (o : Bool) → b.cycle_running ≡ o → (busy idle : ℕ → ℕ) → ((q : Pace) → (IsPaceWithin v.needs.pace q × Least now (given o q)) ↔ IsPaceWithin (record { live = v.needs.pace.live; busy = busy; idle = idle }) q)
        → AreBlocks mid.busy busy → AreBlocks mid.idle idle → Needs l (es ++ event ∷ []) mid
    needs_with o is busy idle both are_busy are_idle =
        let pace_new : Pace = record { live = v.needs.pace.live; busy = busy; idle = idle } in
        record {
          pace = pace_new;
          paces = pace_more l es (event ∷ []) v.needs.pace pace_new (λ q. Least now (given o q)) v.needs.paces (keeps_by o is) both;
          live = subst (λ z. AreBlocks z v.needs.pace.live) (sym s.live) v.needs.live;
          busy = are_busy;
          idle = are_idle;
          budget = budgets;
        }

    needs_by : (o : Bool) → b.cycle_running ≡ o → Needs l (es ++ event ∷ []) mid
    needs_by true on =
        needs_with true on (λ class. max (v.needs.pace.busy class) (now class)) v.needs.pace.idle (pace_busy v.needs.pace now)
        (are_max old.busy mid.asked mid.busy v.needs.pace.busy now v.needs.busy now_counted (s.busy (v.holds.cycle_running ∙ on)))
        (subst (λ z. AreBlocks z v.needs.pace.idle) (sym (s.not_idle (v.holds.cycle_running ∙ on))) v.needs.idle)
    needs_by false off =
        needs_with false off v.needs.pace.busy (λ class. max (v.needs.pace.idle class) (now class)) (pace_idle v.needs.pace now)
        (subst (λ z. AreBlocks z v.needs.pace.busy) (sym (s.not_busy (v.holds.cycle_running ∙ off))) v.needs.busy)
        (are_max old.idle mid.asked mid.idle v.needs.pace.idle now v.needs.idle now_counted (s.idle (v.holds.cycle_running ∙ off)))

    needs_now : Needs l (es ++ event ∷ []) mid
    needs_now = needs_by b.cycle_running refl

    module _ (step : Meter) (by_entry : IsEntryOf mid.graph entry → step ≡ record mid { graph = after_entry mid.graph entry }) where
      z : step ≡ record mid { graph = after_entry mid.graph entry }
      z = by_entry (subst (λ x. IsEntryOf x entry) (sym (s.graph ∙ meter_graph)) (enters_step r new m c reply w e).0)

      step_graph : step.graph ≡ after_entry t.graph entry
      step_graph = ap (λ (x : Meter). x.graph) z ∙ ap (λ x. after_entry x entry) (s.graph ∙ v.holds.graph)

      grows_by : (length mid.graph.objects < length step.graph.objects) → length g.objects < length (changed g change).objects
      grows_by more =
          let x : length mid.graph.objects ≡ length g.objects = ap (λ (y : Graph). length y.objects) (s.graph ∙ meter_graph) in
          let y : length step.graph.objects ≡ length (changed g change).objects = ap (λ (y : Graph). length y.objects) (step_graph ∙ after_is t.graph v.are.graph) in
          omega (arith, x, y, more)

      stays_by : (length step.graph.objects ≤ length mid.graph.objects) → length (changed g change).objects ≤ length g.objects
      stays_by less =
          let x : length mid.graph.objects ≡ length g.objects = ap (λ (y : Graph). length y.objects) (s.graph ∙ meter_graph) in
          let y : length step.graph.objects ≡ length (changed g change).objects = ap (λ (y : Graph). length y.objects) (step_graph ∙ after_is t.graph v.are.graph) in
          omega (arith, x, y, less)

      needs_step : Needs l (es ++ event ∷ []) step
      needs_step = subst (Needs l (es ++ event ∷ [])) (sym z) (record {
        pace = needs_now.pace;
        paces = needs_now.paces;
        live = needs_now.live;
        busy = needs_now.busy;
        idle = needs_now.idle;
        budget = needs_now.budget;
      })

      measured_by : (fin : Meter) → Holds (season_after none_live t event) (next_beat b event) fin → Needs l (es ++ event ∷ []) fin → Shifts l (es ++ event ∷ []) fin → Measures l (es ++ event ∷ []) new fin
      measured_by fin h n w = record {
        are = subst (λ x. AreOf x (beat_after (opening_beat l) (es ++ event ∷ [])) new) (sym (season_append none_live (opening_season l) es (event ∷ []))) (subst (λ x. AreOf (season_after none_live t event) x new) (sym (beat_append (opening_beat l) es (event ∷ []))) are_command);
        holds = subst (λ x. Holds x (beat_after (opening_beat l) (es ++ event ∷ [])) fin) (sym (season_append none_live (opening_season l) es (event ∷ []))) (subst (λ x. Holds (season_after none_live t event) x fin) (sym (beat_append (opening_beat l) es (event ∷ []))) h);
        needs = n;
        shifts = w;
      }

      -- the counts are those from before
      season_stays : step.season ≡ old.season
      season_stays = ap (λ (x : Meter). x.season) z ∙ s.season

      shifts_by : (fin : Meter) → fin.most ≡ step.most → fin.season.live_last ≡ step.season.live_last → fin.season.live_base ≡ step.season.live_base → fin.season.before ≡ step.season.before → Shifts l (es ++ event ∷ []) fin
      shifts_by fin most last base before =
          let to : mid.most ≡ fin.most = sym (most ∙ ap (λ (x : Meter). x.most) z) in
          shifts_command l es m c reply old fin v.shifts v.are.number asked asked_is v.holds.base v.holds.swept (subst (AsksMost old.season asked old.most) to s.most)
          (last ∙ ap (λ (x : Counted). x.live_last) season_stays) (base ∙ ap (λ (x : Counted). x.live_base) season_stays) (before ∙ ap (λ (x : Counted). x.before) season_stays)

      allocated_before : (n : ℕ) (list : Counted → List ℕ) → AreBlocks (list old.season) (made_since n t) → AreBlocks (list step.season) (made_since n t)
      allocated_before n list h = subst (λ y. AreBlocks (list y) (made_since n t)) (sym season_stays) h

      -- an object was allocated
      pub allocated_measures : (fin : Meter) → length mid.graph.objects < length step.graph.objects → Allocates asked step fin → Measures l (es ++ event ∷ []) new fin
      allocated_measures fin more al = measured_by fin (record {
        graph = ap (λ (x : Meter). x.graph) al.same ∙ step_graph;
        cycle_running = ap (λ (x : Meter). x.cycle_running) (al.same) ∙ ap (λ (x : Meter). x.cycle_running) z ∙ s.cycle_running ∙ v.holds.cycle_running;
        awaiting_sweep_end = ap (λ (x : Counted). x.awaiting_sweep_end) (al.season.same) ∙ ap (λ (x : Counted). x.awaiting_sweep_end) season_stays ∙ v.holds.awaiting_sweep_end;
        last = counts t.last fin.season.since_last v.are.last (are_sum step.season.since_last asked fin.season.since_last (made_since t.last t) (asked_for t.graph m c) (allocated_before t.last (λ (x : Counted). x.since_last) v.holds.last) asked_is al.season.last);
        base = counts t.base fin.season.since_base v.are.base (are_sum step.season.since_base asked fin.season.since_base (made_since t.base t) (asked_for t.graph m c) (allocated_before t.base (λ (x : Counted). x.since_base) v.holds.base) asked_is al.season.base);
        swept = counts t.swept fin.season.since_swept v.are.swept (are_sum step.season.since_swept asked fin.season.since_swept (made_since t.swept t) (asked_for t.graph m c) (allocated_before t.swept (λ (x : Counted). x.since_swept) v.holds.swept) asked_is al.season.swept);
        asked = subst (λ y. AreBlocks y now) (sym (ap (λ (x : Meter). x.asked) al.same ∙ ap (λ (x : Meter). x.asked) z)) now_counted;
      }) (subst (Needs l (es ++ event ∷ [])) (sym al.same) (record {
        pace = needs_step.pace;
        paces = needs_step.paces;
        live = needs_step.live;
        busy = needs_step.busy;
        idle = needs_step.idle;
        budget = needs_step.budget;
      })) (shifts_by fin (ap (λ (x : Meter). x.most) al.same) (ap (λ (x : Counted). x.live_last) al.season.same) (ap (λ (x : Counted). x.live_base) al.season.same) (ap (λ (x : Counted). x.before) al.season.same))
        where
          counts : (n : ℕ) (allocated : List ℕ) → n ≤ length (present_of r).objects → AreBlocks allocated (λ class. made_since n t class + asked_for t.graph m c class) → AreBlocks allocated (blocks_of (drop n (after_entry t.graph entry).objects))
          counts n allocated low h = are_same allocated _ _ (λ class small. since n class low ∙ ap (λ x. blocks_of (drop n t.graph.objects) class + x) (grown (room_for r.heap c) g m c class (grows_by more) ∙ sym (asked_same t.graph v.are.graph class))) h

      -- none was
      pub kept_measures : length step.graph.objects ≤ length mid.graph.objects → Measures l (es ++ event ∷ []) new step
      kept_measures less = measured_by step (record {
        graph = step_graph;
        cycle_running = ap (λ (x : Meter). x.cycle_running) z ∙ s.cycle_running ∙ v.holds.cycle_running;
        awaiting_sweep_end = ap (λ (x : Counted). x.awaiting_sweep_end) season_stays ∙ v.holds.awaiting_sweep_end;
        last = counts t.last step.season.since_last v.are.last (allocated_before t.last (λ (x : Counted). x.since_last) v.holds.last);
        base = counts t.base step.season.since_base v.are.base (allocated_before t.base (λ (x : Counted). x.since_base) v.holds.base);
        swept = counts t.swept step.season.since_swept v.are.swept (allocated_before t.swept (λ (x : Counted). x.since_swept) v.holds.swept);
        asked = subst (λ y. AreBlocks y now) (sym (ap (λ (x : Meter). x.asked) z)) now_counted;
      }) needs_step (shifts_by step refl refl refl refl)
        where
          counts : (n : ℕ) (allocated : List ℕ) → n ≤ length (present_of r).objects → AreBlocks allocated (made_since n t) → AreBlocks allocated (blocks_of (drop n (after_entry t.graph entry).objects))
          counts n allocated low h = are_same allocated _ _ (λ class small. (let x = since n class low in let y = not_grown (room_for r.heap c) g m c class (stays_by less) in omega (arith, x, y))) h

pub goes_on_measures : (l : Limits) (es : List Event) (r : Course) (m : Meter) → Measures l es r m → Measures l (es ++ Begin_refused ∷ []) r m
goes_on_measures l es r m v = record {
  are = subst (λ x. AreOf x (beat_after (opening_beat l) (es ++ Begin_refused ∷ [])) r) (sym (season_append none_live (opening_season l) es (Begin_refused ∷ [])))
      (subst (λ x. AreOf (season_at none_live (opening_season l) es) x r) (sym (beat_append (opening_beat l) es (Begin_refused ∷ []))) v.are);
  holds = subst (λ x. Holds x (beat_after (opening_beat l) (es ++ Begin_refused ∷ [])) m) (sym (season_append none_live (opening_season l) es (Begin_refused ∷ [])))
      (subst (λ x. Holds (season_at none_live (opening_season l) es) x m) (sym (beat_append (opening_beat l) es (Begin_refused ∷ []))) v.holds);
  needs = record {
    pace = v.needs.pace;
    paces = pace_more l es (Begin_refused ∷ []) v.needs.pace v.needs.pace (λ q. Unit {0}) v.needs.paces (λ q k. (λ h. (tt, tt), λ h. (tt, tt))) (pace_same v.needs.pace);
    live = v.needs.live;
    busy = v.needs.busy;
    idle = v.needs.idle;
    budget = λ k. (let p = budgets_append k es (Begin_refused ∷ []) in let q = v.needs.budget k in (λ h. q.0 (p.0 h).0, λ h. p.1 (q.1 h, tt)));
  };
  shifts = shifts_still l es (Begin_refused ∷ []) m m v.shifts (λ Bound live. (tt, tt)) (λ live. refl) refl refl;
}
