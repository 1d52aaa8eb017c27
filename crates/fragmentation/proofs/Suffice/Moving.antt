-- No new object is refused in a run that keeps within its pages, if each cycle gathers every class.
use Rattle.std.proofs.Common.{◌≡◌, ℕ, ◌+◌, ◌*◌, ◌<◌, ◌≤◌, ◌⊎◌, inl, inr, Bool, true, false, if◌then◌else◌, List, length, drop, ap, ◌∙◌, sym, subst, arith, refl, mul-zero}
use Rattle.std.proofs.lemmas.List.{drop_all}
use Rattle.size_classes.specs.declared.class.TheConstants.{CLASSES}
use Rattle.size_classes.specs.Sizes.{blocks_in}
use Rattle.graph_heap.specs.declared.command.Command.{Command}
use Rattle.graph_heap.specs.declared.command.Reply.{Reply}
use Rattle.graph_heap.specs.declared.command.Change.{Change}
use Rattle.graph_heap.specs.Graph.{Object, Graph, opening}
use Rattle.graph_heap.specs.Effect.{reply_of}
use Rattle.heap_model.specs.declared.phase.Phase.{Phase}
use Rattle.heap_model.specs.declared.phase.Phase.TheVariants as phases
use Rattle.heap_model.specs.Pages.{ArePages, free_blocks, whole_pages}
use Rattle.heap_model.specs.State.{HeapState}
use Rattle.heap_model.specs.Opening.{IsOpening}
use Rattle.heap_model.specs.Settings.{HeapSettings, settings_of}
use Rattle.heap_model.specs.Event.{Course, Event, Command_done, Cycle_begun, Begin_refused, Quantum_done, Quantum_refused, Enters, Begins, Collects, Does, Runs, IsCourse, present_of, snapshot_of, room_for, change_by}
use Rattle.heap_model.specs.ReachedFrom.{opened}
use Rattle.heap_model.proofs.Settings.{does_settings, change_settings}
use Rattle.heap_model.proofs.Event.Kept.{begins_present, collects_present, opening_course}
use Rattle.space.specs.Demand.{blocks_of, asked_for, asked_by}
use Rattle.heap_model.specs.Phases.{awaits_sweep_end}
use Rattle.space.specs.Tally.{FindsRoom, NewFindsRoom, EveryNewFindsRoom}
use Rattle.space.specs.Counts.{is_of, main_blocks, used_pages}
use Rattle.space.proofs.Counts.{class_sum_le}
use Rattle.space.proofs.Paces.Pacing.{more_since}
use Rattle.space.proofs.Tally.{rest_only}
use Rattle.fragmentation.specs.Tight.{IsTight}
use Rattle.fragmentation.specs.Gathering.{IsGathering}
use Rattle.fragmentation.specs.Season.{Season, Lives, opening_season, made_since, needed_since, season_swept, season_after, Keeps, AllKeep}
use Rattle.fragmentation.specs.Suffice.{gathered_pages, season_pages, WithinPages, GathersAll}
use Rattle.fragmentation.proofs.Tight.IsFew.{IsFew, few_pages}
use Rattle.fragmentation.proofs.Tight.IsLeftover.{IsLeftover}
use Rattle.fragmentation.proofs.Suffice.Paging.{whole_more}
use Rattle.fragmentation.proofs.Tight.FewTaken.{few_room}
use Rattle.fragmentation.proofs.Gathering.Steps.{gather_change}
use Rattle.fragmentation.proofs.Tight.Growing.{leftover_change, leftover_more, few_made}
use Rattle.fragmentation.proofs.Tight.Few.{not_both}
use Rattle.fragmentation.proofs.Tight.Actions.{IsGoing, gathers_settings, Advances, Behind, came_chain, out_chain, few_change}
use Rattle.fragmentation.proofs.Season.{IsCounted, allocated_since, counted_allocated, objects_then, needed_more, all_find_room, command_room, count_none, opening_counted, opening_settled}

-- There is room for a command.
module _ (h : HeapState) (g : Graph) (s : Season) (first made : ℕ → ℕ) (a : ArePages h.store.pages) (w : IsFew h.store.pages h.phase first made) (same : s.graph ≡ g)
    (most : (k : ℕ) → k < CLASSES → first k ≤ gathered_pages k (s.before k)) (since : (k : ℕ) → made k ≡ made_since s.swept s k) where
  season_more : (need asked : ℕ → ℕ) → ((k : ℕ) → need k ≤ asked k) → few_pages first (λ k. made k + need k) CLASSES ≤ season_pages s asked
  season_more need asked less = class_sum_le (λ k. first k + whole_pages k (made k + need k)) (λ k. gathered_pages k (s.before k) + whole_pages k (made_since s.swept s k + asked k)) CLASSES (λ k l. (
      let x = most k l in
      let y = since k in
      let z = less k in
      let p = whole_more k (made k + need k) (made_since s.swept s k + asked k) l (omega (arith, y, z)) in
      omega (arith, x, p)))

  season_room : (m : ℕ) (c : Command) → season_pages s (asked_for s.graph m c) ≤ length h.store.pages → FindsRoom c (reply_of (room_for h c) g m c) × (change_by (room_for h c) g m c ≡ change_by true g m c)
  season_room m c fits = command_room h g m c (λ need e. few_room h.store.pages h.phase first made need a w (
      let l = season_more need (asked_for s.graph m c) (λ k. (let x = e k in let y : asked_for s.graph m c k ≡ asked_for g m c k = ap (λ z. asked_for z m c k) same in omega (arith, x, y))) in
      omega (arith, l, fits)))

left_same : (r : Course) (need more : ℕ → ℕ) → ((k : ℕ) → need k ≡ more k) → IsLeftover r.heap.store r.heap.phase need → IsLeftover r.heap.store r.heap.phase more
left_same r need more e w = leftover_more r.heap.store r.heap.phase need more (λ k l. (let x = e k in omega (arith, x))) w

-- The invariant beside the counts: since the last sweep's end, when each class was gathered, only made objects open
-- pages.
module _ (live : Lives) (pages : ℕ) where
  pub record IsMoving (r : Course) (s : Season) : Type 0 where
    pub room : pages ≤ length r.heap.store.pages
    pub gathering : IsGathering r.heap.store.pages (length r.heap.store.pages) r.heap.phase
    pub all : GathersAll r.heap
    pub first : ℕ → ℕ
    pub most : (class : ℕ) → class < CLASSES → first class ≤ gathered_pages class (s.before class)
    pub few : IsFew r.heap.store.pages r.heap.phase first (λ class. blocks_of (drop s.swept (present_of r).objects) class)
    pub left : IsLeftover r.heap.store r.heap.phase (needed_since live s)

  moving_command : (r new : Course) (m : ℕ) (c : Command) (reply : Reply) (s : Season) → IsCourse r → IsCounted r s live → IsMoving r s → WithinPages pages s (asked_for s.graph m c) → Enters r m c reply new
      → IsMoving new (season_after live s (Command_done m c reply)) × FindsRoom c reply
  moving_command r new m c reply s w i k fits e = (
    record {
      room = (let x = k.room in let y : length new.heap.store.pages ≡ length r.heap.store.pages = ap (λ (z : HeapSettings). z.pages) (change_settings r.heap new.heap g made e.change) in omega (arith, x, y));
      gathering = gather_change r.heap new.heap g made k.gathering e.change;
      all = gathers_settings r.heap new.heap (change_settings r.heap new.heap g made e.change) k.all;
      first = k.first;
      most = k.most;
      few = few_made new.heap.store.pages new.heap.phase k.first _ _ more_made (few_change r.heap new.heap g made k.first _ w.represents.placed e.change k.few);
      left = leftover_change r.heap new.heap g made (needed_since live s) (needed_since live (season_after live s (Command_done m c reply))) w.represents.pages (λ n l. (let x = more n in omega (arith, x))) (λ n l. (let x = more n in let y = counted_allocated r s live w i n l in omega (arith, x, y))) e.change k.left;
    },
    subst (FindsRoom c) (sym e.replies) (season_room r.heap g s k.first (λ n. blocks_of (drop s.swept g.objects) n) w.represents.pages k.few i.graph k.most (λ n. ap (λ (z : Graph). blocks_of (drop s.swept z.objects) n) (sym i.graph)) m c (let x = k.room in omega (arith, x, fits))).0,
  )
    where
      g : Graph
      g = present_of r

      made : Change
      made = change_by (room_for r.heap c) g m c

      more : (n : ℕ) → needed_since live (season_after live s (Command_done m c reply)) n ≡ needed_since live s n + asked_by made n
      more = needed_more r new m c reply s live w i e

      more_made : (n : ℕ) → blocks_of (drop s.swept g.objects) n + asked_by made n ≡ blocks_of (drop s.swept (present_of new).objects) n
      more_made n = sym (ap (λ z. blocks_of (drop s.swept z) n) (objects_then r new m c reply s live w i e) ∙ more_since g made s.swept n i.swept)

  moving_begins : (r new : Course) (s : Season) → IsMoving r s → Begins r new → IsMoving new (season_after live s Cycle_begun)
  moving_begins r new s k b = record {
    room = subst (λ (z : HeapState). pages ≤ length z.store.pages) (sym b.heap) k.room;
    gathering = subst (λ (z : HeapState). IsGathering z.store.pages (length z.store.pages) z.phase) (sym b.heap) tt;
    all = gathers_settings r.heap new.heap (ap settings_of b.heap) k.all;
    first = k.first;
    most = k.most;
    few = subst (λ (z : HeapState). IsFew z.store.pages z.phase k.first (λ class. blocks_of (drop s.swept (present_of new).objects) class)) (sym b.heap)
        (few_made r.heap.store.pages _ k.first _ _ (λ n. ap (λ (z : Graph). blocks_of (drop s.swept z.objects) n) (sym (begins_present r new b))) (record { few = k.few.few; fair = fair; still = still }));
    left = subst (λ (z : HeapState). IsLeftover z.store z.phase (needed_since live s)) (sym b.heap) (subst (λ z. IsLeftover r.heap.store z (needed_since live s)) b.idle k.left);
  }
    where
      idle : IsFew r.heap.store.pages phases.Idle k.first (λ class. blocks_of (drop s.swept (present_of r).objects) class)
      idle = subst (λ z. IsFew r.heap.store.pages z k.first (λ class. blocks_of (drop s.swept (present_of r).objects) class)) b.idle k.few

      fair : (class : ℕ) → class < CLASSES → blocks_in class * used_pages r.heap.store.pages class + 0 ≤ blocks_in class * k.first class + blocks_of (drop s.swept (present_of r).objects) class + free_blocks r.heap.store.pages class
      fair = idle.fair

      still : false ≡ false → (class : ℕ) → class < CLASSES → IsTight r.heap.store.pages class ⊎ (used_pages r.heap.store.pages class ≤ k.first class)
      still = idle.still

-- no object is made by a quantum
none_since : (objects : List Object) (class : ℕ) → blocks_of (drop (length objects) objects) class ≡ 0
none_since objects class = ap (λ z. blocks_of z class) (drop_all (length objects) objects (omega arith))

module _ (live : Lives) (pages : ℕ) (r new : Course) (budget units : ℕ) (phase : Phase) (s : Season) (w : IsCourse r) (i : IsCounted r s live) (k : IsMoving live pages r s) (q : Collects r budget units phase new) where
  abbrev g : Graph
  g = present_of r

  present : present_of new ≡ g
  present = collects_present r new budget units phase w q

  going : IsGoing r.heap g (snapshot_of r)
  going = record { represents = w.represents; tidy = i.tidy; gathering = k.gathering; all = k.all }

  -- what was needed since the last cycle began
  abbrev resting : ℕ → ℕ
  resting class = live s.cycles class + blocks_of (drop (length (snapshot_of r).objects) g.objects) class

  counted : (j : HeapState) → IsGoing j g (snapshot_of r) → awaits_sweep_end j.phase ≡ false → (class : ℕ) → class < CLASSES → main_blocks j.store.pages class ≤ resting class
  counted j y off class l =
      allocated_since j.store g.objects (snapshot_of r) (live s.cycles) i.begun.live y.represents.pages y.tidy i.begun.kept (rest_only j g (snapshot_of r) i.begun.live.ids y.represents off i.begun.live.reached) class l

  out_phase : awaits_sweep_end new.heap.phase ≡ awaits_sweep_end phase
  out_phase = ap awaits_sweep_end q.ends

  abbrev made : ℕ → ℕ
  made class = blocks_of (drop s.swept g.objects) class

  made_now : (class : ℕ) → made class ≡ blocks_of (drop s.swept (present_of new).objects) class
  made_now class = ap (λ (z : Graph). blocks_of (drop s.swept z.objects) class) (sym present)

  same_count : length new.heap.store.pages ≡ length r.heap.store.pages
  same_count = ap (λ (z : HeapSettings). z.pages) (does_settings r (Quantum_done budget units phase) new q)

  -- what is kept in any season, if its few pages and what is left are known
  kept : IsGoing new.heap g (snapshot_of r) → (t : Season) (first : ℕ → ℕ) → ((class : ℕ) → class < CLASSES → first class ≤ gathered_pages class (t.before class)) → IsFew new.heap.store.pages new.heap.phase first (λ class. blocks_of (drop t.swept (present_of new).objects) class)
      → IsLeftover new.heap.store new.heap.phase (needed_since live t) → IsMoving live pages new t
  kept y t first most few left = record { room = (let x = k.room in omega (arith, x, same_count)); gathering = y.gathering; all = y.all; first = first; most = most; few = few; left = left }

  -- the sweep of a running cycle hasn't ended before
  module _ (on : s.awaiting_sweep_end ≡ true) where
    abbrev Came : Type 0
    Came = IsGoing new.heap g (snapshot_of r) × (Advances true new.heap k.first made (needed_since live s) ⊎ Behind new.heap (needed_since live s) resting)

    came : Came
    came = came_chain g (snapshot_of r) k.first made (needed_since live s) resting counted r.heap new.heap units going q.turn.chain (inl (record { awaiting_sweep_end = sym i.awaiting_sweep_end ∙ on; few = k.few; left = k.left }))

    goes_on : IsGoing new.heap g (snapshot_of r) → Advances true new.heap k.first made (needed_since live s) → IsMoving live pages new s
    goes_on y b = kept y s k.first k.most (few_made new.heap.store.pages new.heap.phase k.first made _ made_now b.few) b.left

    ends : IsGoing new.heap g (snapshot_of r) → Behind new.heap (needed_since live s) resting → IsMoving live pages new (season_swept live s)
    ends y b =
        kept y (season_swept live s) b.first b.most
        (few_made new.heap.store.pages new.heap.phase b.first _ _ (λ class. sym (ap (λ z. blocks_of (drop z (present_of new).objects) class) (ap (λ (z : Graph). length z.objects) (i.graph ∙ sym present)) ∙ none_since (present_of new).objects class)) b.stage.few)
        (leftover_more new.heap.store new.heap.phase resting (needed_since live (season_swept live s)) (λ class l. (let x : made_since s.last s class ≡ blocks_of (drop (length (snapshot_of r).objects) g.objects) class = ap (λ z. made_since z s class) i.last ∙ ap (λ (z : Graph). blocks_of (drop (length (snapshot_of r).objects) z.objects) class) i.graph in omega (arith, x))) b.stage.left)

    by_end : Came → (t : Bool) → awaits_sweep_end phase ≡ t → IsMoving live pages new (if t then s else (if s.awaiting_sweep_end then season_swept live s else s))
    by_end (y, inl b) true e = goes_on y b
    by_end (y, inl b) false e = absurd (not_both _ b.awaiting_sweep_end (out_phase ∙ e))
    by_end (y, inr b) true e = absurd (not_both _ (out_phase ∙ e) b.stage.awaiting_sweep_end)
    by_end (y, inr b) false e = subst (λ z. IsMoving live pages new (if z then season_swept live s else s)) (sym on) (ends y b)

  -- it has ended before
  module _ (off : s.awaiting_sweep_end ≡ false) where
    rest_same : (class : ℕ) → needed_since live s class ≡ resting class
    rest_same class =
        let z = i.rested off in
        let a : live s.number class ≡ live s.cycles class = ap (λ n. live n class) z.1 in
        let b : made_since s.base s class ≡ blocks_of (drop (length (snapshot_of r).objects) g.objects) class = ap (λ n. made_since n s class) (z.0 ∙ i.last) ∙ ap (λ (z : Graph). blocks_of (drop (length (snapshot_of r).objects) z.objects) class) i.graph in
        omega (arith, a, b)

    out : IsGoing new.heap g (snapshot_of r) × Advances false new.heap k.first made resting
    out = out_chain g (snapshot_of r) k.first made (needed_since live s) resting counted r.heap new.heap units going q.turn.chain (record { awaiting_sweep_end = sym i.awaiting_sweep_end ∙ off; few = k.few; left = left_same r (needed_since live s) resting rest_same k.left })

    rests : IsMoving live pages new s
    rests = kept out.0 s k.first k.most (few_made new.heap.store.pages new.heap.phase k.first made _ made_now out.1.few) (left_same new resting (needed_since live s) (λ class. sym (rest_same class)) out.1.left)

    by_out : (t : Bool) → awaits_sweep_end phase ≡ t → IsMoving live pages new (if t then s else (if s.awaiting_sweep_end then season_swept live s else s))
    by_out true e = absurd (not_both _ (out_phase ∙ e) out.1.awaiting_sweep_end)
    by_out false e = subst (λ z. IsMoving live pages new (if z then season_swept live s else s)) (sym off) rests

  by_start : (b : Bool) → s.awaiting_sweep_end ≡ b → IsMoving live pages new (season_after live s (Quantum_done budget units phase))
  by_start true on = by_end on (came on) (awaits_sweep_end phase) refl
  by_start false off = by_out off (awaits_sweep_end phase) refl

  moving_quantum : IsMoving live pages new (season_after live s (Quantum_done budget units phase))
  moving_quantum = by_start s.awaiting_sweep_end refl

pub moving_step : (live : Lives) (pages : ℕ) (r : Course) (e : Event) (new : Course) (s : Season) → IsCourse r → IsCounted r s live → IsMoving live pages r s → Keeps (WithinPages pages) live s e → Does r e new → IsMoving live pages new (season_after live s e) × NewFindsRoom e
moving_step live pages r (Command_done m c reply) new s w i k keeps does = moving_command live pages r new m c reply s w i k keeps does
moving_step live pages r Cycle_begun new s w i k keeps does = (moving_begins live pages r new s k does, tt)
moving_step live pages r Begin_refused new s w i k keeps does = (subst (λ z. IsMoving live pages z s) (sym does.1) k, tt)
moving_step live pages r (Quantum_done budget units phase) new s w i k keeps does = (moving_quantum live pages r new budget units phase s w i k does, tt)
moving_step live pages r (Quantum_refused budget) new s w i k keeps does = (subst (λ z. IsMoving live pages z s) (sym does.1) k, tt)

-- The run begins in an opening heap.
pub opening_moving : (h : HeapState) (live : Lives) (pages : ℕ) → IsOpening h → 0 < length h.store.pages → GathersAll h → pages ≤ length h.store.pages → IsMoving live pages (opened h) (opening_season h.limits)
opening_moving h live pages o some all room = record {
  room = room;
  gathering = subst (IsGathering h.store.pages (length h.store.pages)) (sym o.phase) tt;
  all = all;
  first = λ class. 0;
  most = λ class l. omega arith;
  few = subst (λ p. IsFew h.store.pages p (λ class. 0) (λ class. blocks_of (drop 0 (opening h.limits).objects) class)) (sym o.phase) (record {
    few = λ class l. (let u = used_none class in omega (arith, u));
    fair = λ class l. (let u : blocks_in class * used_pages h.store.pages class ≡ blocks_in class * 0 = ap (λ z. blocks_in class * z) (used_none class) in let z : blocks_in class * 0 ≡ 0 = mul-zero (blocks_in class) in omega (arith, u, z));
    still = λ e class l. inr (let u = used_none class in omega (arith, u));
  });
  left = subst (λ p. IsLeftover h.store p (needed_since live (opening_season h.limits))) (sym o.phase) (λ class l. opening_settled h o some class _);
}
  where
    used_none : (class : ℕ) → used_pages h.store.pages class ≡ 0
    used_none class = count_none h o some (is_of class) refl

pub moving_suffices : (h : HeapState) (es : List Event) (new : Course) (live : Lives) → IsOpening h → 0 < length h.store.pages → GathersAll h → Runs (opened h) es new → AllKeep (WithinPages (length h.store.pages)) live (opening_season h.limits) es → EveryNewFindsRoom es
moving_suffices h es new live o some all runs keeps =
    let n = length h.store.pages in
    all_find_room (WithinPages n) live (IsMoving live n) (moving_step live n) es (opened h) new (opening_season h.limits) (opening_course h o some) (opening_counted h o some live) (opening_moving h live n o some all (omega arith)) runs keeps
