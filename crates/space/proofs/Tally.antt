-- No new object is refused in a run that keeps to its demand.
use Rattle.std.proofs.Common.{◌≡◌, ℕ, ◌+◌, ◌*◌, ◌/◌, ◌<◌, ◌≤◌, inl, inr, Bool, true, false, if◌then◌else◌, List, [], ◌∷◌, Option, Some, None, Result, Ok, Err, length, drop, take, ap, ◌∙◌, sym, subst, arith, refl, mul-zero}
use Rattle.std.specs.Prelude.{count_by, sum_by}
use Rattle.std.proofs.lemmas.List.Folds.{sum_by-replicate}
use Rattle.std.proofs.Math.Seq.{take-length}
use Rattle.size_classes.specs.declared.class.TheConstants.{CLASSES}
use Rattle.graph_heap.specs.declared.command.Shape.{Shape}
use Rattle.graph_heap.specs.declared.command.Command.{Command}
use Rattle.graph_heap.specs.declared.command.Command.TheVariants as commands
use Rattle.graph_heap.specs.declared.command.Reply.{Reply}
use Rattle.graph_heap.specs.declared.command.Refusal.{Refusal}
use Rattle.graph_heap.specs.declared.command.Change.{Change}
use Rattle.graph_heap.specs.Shape.{fits}
use Rattle.graph_heap.specs.Graph.{Object, Graph, object_of, opening, changed}
use Rattle.graph_heap.specs.Reach.{Reaches}
use Rattle.graph_heap.specs.Effect.{settled, reply_of, slot_at, fitting, next_identity, admitted}
use Rattle.graph_heap.specs.History.{after, had_room}
use Rattle.size_classes.specs.Need.{needed}
use Rattle.heap_model.specs.declared.phase.Phase.{Phase}
use Rattle.heap_model.specs.declared.phase.Phase.TheVariants as phases
use Rattle.heap_model.specs.Pages.{Page, ArePages, page_at, has_room}
use Rattle.heap_model.specs.Store.{is_allocated, record_of}
use Rattle.heap_model.specs.Core.{Resting}
use Rattle.heap_model.specs.Cut.{view}
use Rattle.heap_model.specs.Collector.{contains, In_idle, In_moves}
use Rattle.heap_model.specs.State.{HeapState, seen, collector_of, progress_of, is_evacuating}
use Rattle.heap_model.specs.Agreement.{Consistent}
use Rattle.heap_model.specs.Opening.{IsOpening}
use Rattle.heap_model.specs.Action.{Chain, Nothing_done, Then}
use Rattle.heap_model.specs.Represents.{Represents}
use Rattle.heap_model.specs.Settings.{HeapSettings}
use Rattle.heap_model.specs.Change.{DoesChange}
use Rattle.heap_model.specs.Event.{Course, Event, Command_done, Cycle_begun, Begin_refused, Quantum_done, Quantum_refused, Enters, Begins, Collects, Does, Runs, IsCourse, present_of, snapshot_of, room_for, change_by}
use Rattle.heap_model.specs.ReachedFrom.{opened}
use Rattle.heap_model.proofs.State.{behind}
use Rattle.heap_model.proofs.Store.Allocated.{allocated_block}
use Rattle.heap_model.proofs.Collector.Coherence.{stage_at}
use Rattle.heap_model.proofs.Swept.{allocated_kept}
use Rattle.heap_model.proofs.Represents.{represents_chain}
use Rattle.heap_model.proofs.Grey.Relinked.{represents_relinked}
use Rattle.heap_model.proofs.Settings.{change_settings}
use Rattle.heap_model.proofs.Marks.{action_count}
use Rattle.heap_model.proofs.Opening.{page_none}
use Rattle.heap_model.proofs.Agreements.Implied.{consistent_agrees}
use Rattle.heap_model.proofs.Event.Kept.{enters_graph, enters_present, enters_snapshot, begins_present, collects_limits, collects_present, does_course, opening_course}
use Rattle.space.specs.Demand.{Demand, LiveWithin, blocks_of, blocks_for, asked_for, asked_by}
use Rattle.heap_model.specs.Phases.{awaits_sweep_end}
use Rattle.space.specs.Tally.{Tally, opening_tally, after_event, KeepsTo, AllKeepTo, FindsRoom, NewFindsRoom, EveryNewFindsRoom}
use Rattle.space.specs.Space.{pages_for, space_for, spare_of}
use Rattle.space.specs.Counts.{is_of, main_blocks, evacuating_pages, IsBounded}
use Rattle.space.specs.Placement.{MayEvacuate, MaySpare, HasBoundedPages, IsTidy, KeepsOnly, KeepsShapes}
use Rattle.space.proofs.Counts.{one_if, bounded_room}
use Rattle.space.proofs.Space.{bounded_pages, bounded_action, bounded_same}
use Rattle.space.proofs.Placement.Tidying.{shrinks_keeps, tidy_same, only_less}
use Rattle.space.proofs.Placement.Acting.{tidy_action, only_action}
use Rattle.space.proofs.Placement.Changing.{tidy_change, only_change, bounded_change, shapes_kept, shapes_then}
use Rattle.space.proofs.Placement.Census.{census}
use Rattle.space.proofs.Rooms.{IsOther, new_effect, admitted_other, slot_other, fitting_other, next_other}

-- in idle and moving, only what is kept has a main copy
pub resting : (h : HeapState) (present snapshot : Graph) (c : Consistent h present snapshot) → awaits_sweep_end h.phase ≡ false → Resting (seen h) (view present) (view snapshot) c.parts.at
resting h present snapshot c off = by_phase h.phase refl off
  where
    by_phase : (p : Phase) → h.phase ≡ p → awaits_sweep_end p ≡ false → Resting (seen h) (view present) (view snapshot) c.parts.at
    by_phase phases.Idle e z = stage_at (collector_of h) (view present) (view snapshot) c.parts In_idle (ap (progress_of h.store.pages) e)
    by_phase (phases.Roots next) e z = absurd (cc)
    by_phase (phases.Marking part cell) e z = absurd (cc)
    by_phase (phases.Sweeping page block) e z = absurd (cc)
    by_phase (phases.Moving m) e z = (stage_at (collector_of h) (view present) (view snapshot) c.parts In_moves (ap (progress_of h.store.pages) e)).0

pub rest_only : (h : HeapState) (present snapshot : Graph) (ids : List ℕ) → Represents h present snapshot → awaits_sweep_end h.phase ≡ false → ((id : ℕ) → Reaches snapshot id → contains ids id ≡ true) → KeepsOnly h.store (length snapshot.objects) ids
rest_only h present snapshot ids st off reached b l main small =
    let c = st.consistent in
    let r = resting h present snapshot c off in
    let allocated_x : (seen h).allocated (b + 1) ≡ true = behind true (λ z. is_allocated h.store z) b ∙ l in
    let forward : (seen h).forward (b + 1) ≡ b + 1 = behind 0 (λ z. (record_of h.store z).forward + 1) b ∙ ap (λ z. z + 1) main in
    let k = allocated_kept h present snapshot c b (r.kept (b + 1) allocated_x) (sym forward ∙ r.forward (b + 1) allocated_x) in
    elim k.0 [
      | inl reach ↦ reached (record_of h.store b).identity reach
      | inr late ↦ absurd (let q = late.0 in omega (arith, q, small))
    ]

-- through a chain of actions
pub record Went (h after : HeapState) (objects : List Object) (blocks : ℕ → ℕ) (spare : ℕ) : Type 0 where
  pub tidy : IsTidy after.store objects
  pub bounded : HasBoundedPages after blocks spare
  pub count : length after.store.pages ≡ length h.store.pages

pub chain_went : (h after : HeapState) (spent : ℕ) (present snapshot : Graph) (objects : List Object) (blocks : ℕ → ℕ) (spare : ℕ) → Represents h present snapshot → IsTidy h.store objects → HasBoundedPages h blocks spare → Chain h spent after → Went h after objects blocks spare
chain_went h after spent g s objects blocks spare st tidy bounded Nothing_done = record { tidy = tidy; bounded = bounded; count = refl }
chain_went h after spent g s objects blocks spare st tidy bounded (Then u cost j k linked chain links action) =
    let w = chain_went h j u g s objects blocks spare st tidy bounded chain in
    let i : HeapState = record j { store = linked } in
    let si = represents_relinked j linked links g s (represents_chain h j u g s st chain) in
    record {
      tidy = tidy_action i k cost g s objects si action (tidy_same j.store linked objects (shrinks_keeps j.store linked links.blocks) links.pages w.tidy);
      bounded = bounded_action i k cost blocks spare si.pages si.closed (bounded_same j i blocks spare w.bounded (record { most = refl; below = refl }) links.pages w.bounded.evacuating) action;
      count = action_count i k cost action ∙ ap length links.pages ∙ w.count;
    }

pub chain_only : (h after : HeapState) (spent base : ℕ) (ids : List ℕ) → Chain h spent after → awaits_sweep_end after.phase ≡ true → KeepsOnly h.store base ids → KeepsOnly after.store base ids
chain_only h after spent base ids Nothing_done t w = w
chain_only h after spent base ids (Then u cost j k linked chain links action) t w =
    only_action (record j { store = linked }) k cost base ids action t (λ on. only_less j.store linked base ids (shrinks_keeps j.store linked links.blocks) (chain_only h j u base ids chain on w))

pub change_count : (h after : HeapState) (g : Graph) (c : Change) → DoesChange h g c after → length after.store.pages ≡ length h.store.pages
change_count h after g c does = ap (λ (s : HeapSettings). s.pages) (change_settings h after g c does)

-- with room for what it needs, a new object isn't refused for lack of space
pub new_has_room : (l : Result (Unit {0}) Refusal) (s : Result ℕ Refusal) (f : Result Shape Refusal) (n : Result ℕ Refusal) (shape : Shape) → IsOther l → IsOther s → IsOther f → IsOther n → (room : Bool)
    → (((k : ℕ) → asked_by (settled (new_effect l s f n shape true)).1 k ≡ needed shape k) → room ≡ true)
    → (had_room (settled (new_effect l s f n shape room)).0 ≡ true) × ((settled (new_effect l s f n shape room)).1 ≡ (settled (new_effect l s f n shape true)).1)
new_has_room (Err e) s f n shape z a b c room h = (z, refl)
new_has_room (Ok l) (Err e) f n shape z a b c room h = (a, refl)
new_has_room (Ok l) (Ok d) (Err e) n shape z a b c room h = (b, refl)
new_has_room (Ok l) (Ok d) (Ok o) (Err e) shape z a b c room h = (c, refl)
new_has_room (Ok l) (Ok d) (Ok o) (Ok id) shape z a b c true h = (refl, refl)
new_has_room (Ok l) (Ok d) (Ok o) (Ok id) shape z a b c false h = absurd (let y : false ≡ true = h (λ k. refl) in cc)

module _ (h : HeapState) (g : Graph) (blocks : ℕ → ℕ) (spare : ℕ) (w : ArePages h.store.pages) (b : IsBounded h.store.pages blocks spare) (room : pages_for blocks spare CLASSES ≤ length h.store.pages) where
  pub command_has_room : (m : ℕ) (c : Command) → ((k : ℕ) → k < CLASSES → main_blocks h.store.pages k + asked_for g m c k ≤ blocks k) → FindsRoom c (reply_of (room_for h c) g m c) × (change_by (room_for h c) g m c ≡ change_by true g m c)
  unfolding reply_of
  command_has_room m (commands.New dst shape) asks =
      new_has_room (admitted g m (commands.New dst shape)) (slot_at g.limits m dst) (fitting shape) (next_identity g) shape
      (admitted_other g m (commands.New dst shape)) (slot_other g.limits m dst) (fitting_other shape) (next_other g)
      (has_room h.store.pages (needed shape))
      (λ same. bounded_room h.store.pages blocks (needed shape) spare w b room (λ k l. (let a = asks k l in let e = same k in omega (arith, a, e))))
  command_has_room m _ asks = (tt, refl)

-- The invariant of a course and its tally: among the objects that existed when the cycle began whose sweep ended last,
-- those with a main copy need no more than live ones may.
pub record IsTracked (r : Course) (t : Tally) (d : Demand) (spare : ℕ) : Type 0 where
  graph : t.graph ≡ present_of r
  last : t.last ≡ length (snapshot_of r).objects
  live : LiveWithin (snapshot_of r) d.live
  kept_last : KeepsShapes (snapshot_of r).objects (present_of r).objects
  first : List Object
  ids : List ℕ
  base : t.base ≡ length first
  within : (class : ℕ) → class < CLASSES → sum_by (λ id. needed (object_of first id).shape class) ids ≤ d.live class
  kept : KeepsShapes first (present_of r).objects
  only : KeepsOnly r.heap.store (length first) ids
  tidy : IsTidy r.heap.store (present_of r).objects
  pub bounded : HasBoundedPages r.heap (blocks_for d) spare
  pages : space_for d spare ≤ length r.heap.store.pages

pub shapes_same : (xs ys : List Object) → ys ≡ xs → KeepsShapes xs ys
shapes_same xs ys e = subst (KeepsShapes xs) (sym e) (record { more = omega arith; shape = λ id l. refl })

pub shapes_into : (xs ys zs : List Object) → zs ≡ ys → KeepsShapes xs ys → KeepsShapes xs zs
shapes_into xs ys zs e k = subst (KeepsShapes xs) (sym e) k

tracked_command : (r new : Course) (m : ℕ) (c : Command) (reply : Reply) (t : Tally) (d : Demand) (spare : ℕ) → IsCourse r → IsTracked r t d spare → KeepsTo d t (Command_done m c reply) → Enters r m c reply new
    → IsTracked new (after_event t (Command_done m c reply)) d spare × FindsRoom c reply
tracked_command r new m c reply t d spare w k keeps e = (
  record {
    graph = enters_graph r new m c reply w e t.graph k.graph;
    last = k.last ∙ ap (λ (z : Graph). length z.objects) (sym (enters_snapshot r new m c reply w e));
    live = subst (λ z. LiveWithin z d.live) (sym (enters_snapshot r new m c reply w e)) k.live;
    kept_last = subst (λ z. KeepsShapes z.objects (present_of new).objects) (sym (enters_snapshot r new m c reply w e)) (shapes_into _ _ _ objects (shapes_then _ _ _ k.kept_last (shapes_kept g change)));
    first = k.first;
    ids = k.ids;
    base = k.base;
    within = k.within;
    kept = shapes_into _ _ _ objects (shapes_then _ _ _ k.kept (shapes_kept g change));
    only = only_change r.heap new.heap g change (length k.first) k.ids next_identity_is k.kept.more e.change k.only;
    tidy = subst (IsTidy new.heap.store) (sym objects) (tidy_change r.heap new.heap g change next_identity_is e.change k.tidy);
    bounded = bounded_change r.heap new.heap g change (blocks_for d) spare w.represents.pages (λ n l. (let a = asks n l in let same = ap (λ z. asked_by z n) finds.1 in omega (arith, a, same))) e.change k.bounded;
    pages = (let p = k.pages in let l = change_count r.heap new.heap g change e.change in omega (arith, p, l));
  },
  subst (FindsRoom c) (sym e.replies) finds.0,
)
  where
    g : Graph
    g = present_of r

    change : Change
    change = change_by (room_for r.heap c) g m c

    present : present_of new ≡ changed g change
    present = enters_present r new m c reply w e

    objects : (present_of new).objects ≡ (changed g change).objects
    objects = ap (λ (z : Graph). z.objects) present

    next_identity_is : r.heap.next ≡ length g.objects + 1
    next_identity_is = (consistent_agrees r.heap g (snapshot_of r) w.represents.consistent).next

    asks : (n : ℕ) → n < CLASSES → main_blocks r.heap.store.pages n + asked_for g m c n ≤ blocks_for d n
    asks n l =
        let counted = census r.heap.store w.represents.pages n g.objects k.tidy k.first k.ids k.kept k.only in
        let a = keeps n l in
        let live = k.within n l in
        let asked : asked_for t.graph m c n ≡ asked_for g m c n = ap (λ z. asked_for z m c n) k.graph in
        let allocated : blocks_of (drop t.base t.graph.objects) n ≡ blocks_of (drop (length k.first) g.objects) n = ap (λ z. blocks_of (drop z t.graph.objects) n) k.base ∙ ap (λ (z : Graph). blocks_of (drop (length k.first) z.objects) n) k.graph in
        omega (arith, counted, a, live, asked, allocated)

    finds : FindsRoom c (reply_of (room_for r.heap c) g m c) × (change_by (room_for r.heap c) g m c ≡ change_by true g m c)
    finds = command_has_room r.heap g (blocks_for d) spare w.represents.pages (bounded_pages r.heap (blocks_for d) spare k.bounded) k.pages m c asks

tracked_begins : (r new : Course) (t : Tally) (d : Demand) (spare : ℕ) → IsCourse r → IsTracked r t d spare → LiveWithin t.graph d.live → Begins r new → IsTracked new (after_event t Cycle_begun) d spare
tracked_begins r new t d spare w k live b = record {
  graph = k.graph ∙ sym present;
  last = ap (λ (z : Graph). length z.objects) (k.graph ∙ sym snapshot);
  live = subst (λ z. LiveWithin z d.live) (k.graph ∙ sym snapshot) live;
  kept_last = shapes_same _ _ (ap (λ (z : Graph). z.objects) (present ∙ sym snapshot));
  first = k.first;
  ids = k.ids;
  base = k.base;
  within = k.within;
  kept = shapes_into _ _ _ (ap (λ (z : Graph). z.objects) present) k.kept;
  only = subst (λ (z : HeapState). KeepsOnly z.store (length k.first) k.ids) (sym b.heap) k.only;
  tidy = subst (λ (z : HeapState). IsTidy z.store (present_of new).objects) (sym b.heap) (subst (λ (z : Graph). IsTidy r.heap.store z.objects) (sym present) k.tidy);
  bounded = subst (λ z. HasBoundedPages z (blocks_for d) spare) (sym b.heap) (bounded_same r.heap _ (blocks_for d) spare k.bounded (record { most = refl; below = refl }) refl (let q = bounded_pages r.heap (blocks_for d) spare k.bounded in q.evacuating));
  pages = subst (λ (z : HeapState). space_for d spare ≤ length z.store.pages) (sym b.heap) k.pages;
}
  where
    present : present_of new ≡ present_of r
    present = begins_present r new b

    snapshot : snapshot_of new ≡ present_of r
    snapshot =
        let limits : new.heap.limits ≡ r.heap.limits = ap (λ (z : HeapState). z.limits) b.heap in
        let all : take new.place new.history ≡ r.history = ap (λ z. take z new.history) b.place ∙ ap (take (length r.history)) b.history ∙ take-length r.history in
        ap (λ z. after (opening z) (take new.place new.history)) limits ∙ ap (after (opening r.heap.limits)) all

tracked_quantum : (r new : Course) (budget units : ℕ) (phase : Phase) (t : Tally) (d : Demand) (spare : ℕ) → IsCourse r → IsTracked r t d spare → Collects r budget units phase new → IsTracked new (after_event t (Quantum_done budget units phase)) d spare
tracked_quantum r new budget units phase t d spare w k q = by_tracing (awaits_sweep_end phase) refl
  where
    present : present_of new ≡ present_of r
    present = collects_present r new budget units phase w q

    snapshot : snapshot_of new ≡ snapshot_of r
    snapshot =
        let limits = collects_limits r new budget units phase w q in
        let front : take new.place new.history ≡ take r.place r.history = ap (λ z. take z new.history) q.place ∙ ap (take r.place) q.history in
        ap (λ z. after (opening z) (take new.place new.history)) limits ∙ ap (after (opening r.heap.limits)) front

    went : Went r.heap new.heap (present_of r).objects (blocks_for d) spare
    went = chain_went r.heap new.heap units (present_of r) (snapshot_of r) (present_of r).objects (blocks_for d) spare w.represents k.tidy k.bounded q.turn.chain

    represents : Represents new.heap (present_of r) (snapshot_of r)
    represents = represents_chain r.heap new.heap units (present_of r) (snapshot_of r) w.represents q.turn.chain

    live : LiveWithin (snapshot_of new) d.live
    live = subst (λ z. LiveWithin z d.live) (sym snapshot) k.live

    kept_last : KeepsShapes (snapshot_of new).objects (present_of new).objects
    kept_last = subst (λ (z : Graph). KeepsShapes z.objects (present_of new).objects) (sym snapshot) (shapes_into _ _ _ (ap (λ (z : Graph). z.objects) present) k.kept_last)

    tidy : IsTidy new.heap.store (present_of new).objects
    tidy = subst (λ (z : Graph). IsTidy new.heap.store z.objects) (sym present) went.tidy

    pages : space_for d spare ≤ length new.heap.store.pages
    pages = let p = k.pages in let c = went.count in omega (arith, p, c)

    last : t.last ≡ length (snapshot_of new).objects
    last = k.last ∙ ap (λ (z : Graph). length z.objects) (sym snapshot)

    by_tracing : (b : Bool) → awaits_sweep_end phase ≡ b → IsTracked new (if b then t else record t { base = t.last }) d spare
    by_tracing true on = record {
      graph = k.graph ∙ sym present;
      last = last;
      live = live;
      kept_last = kept_last;
      first = k.first;
      ids = k.ids;
      base = k.base;
      within = k.within;
      kept = shapes_into _ _ _ (ap (λ (z : Graph). z.objects) present) k.kept;
      only = chain_only r.heap new.heap units (length k.first) k.ids q.turn.chain (ap awaits_sweep_end q.ends ∙ on) k.only;
      tidy = tidy;
      bounded = went.bounded;
      pages = pages;
    }
    by_tracing false off = record {
      graph = k.graph ∙ sym present;
      last = last;
      live = live;
      kept_last = kept_last;
      first = (snapshot_of r).objects;
      ids = k.live.ids;
      base = k.last;
      within = k.live.blocks;
      kept = shapes_into _ _ _ (ap (λ (z : Graph). z.objects) present) k.kept_last;
      only = rest_only new.heap (present_of r) (snapshot_of r) k.live.ids represents (ap awaits_sweep_end q.ends ∙ off) k.live.reached;
      tidy = tidy;
      bounded = went.bounded;
      pages = pages;
    }

pub tracked_does : (r : Course) (e : Event) (new : Course) (t : Tally) (d : Demand) (spare : ℕ) → IsCourse r → IsTracked r t d spare → KeepsTo d t e → Does r e new → IsTracked new (after_event t e) d spare × NewFindsRoom e
tracked_does r (Command_done m c reply) new t d spare w k keeps does = tracked_command r new m c reply t d spare w k keeps does
tracked_does r Cycle_begun new t d spare w k keeps does = (tracked_begins r new t d spare w k keeps does, tt)
tracked_does r Begin_refused new t d spare w k keeps does = (subst (λ z. IsTracked z t d spare) (sym does.1) k, tt)
tracked_does r (Quantum_done budget units phase) new t d spare w k keeps does = (tracked_quantum r new budget units phase t d spare w k does, tt)
tracked_does r (Quantum_refused budget) new t d spare w k keeps does = (subst (λ z. IsTracked z t d spare) (sym does.1) k, tt)

pub runs_find_room : (es : List Event) (r new : Course) (t : Tally) (d : Demand) (spare : ℕ) → IsCourse r → IsTracked r t d spare → Runs r es new → AllKeepTo d t es → EveryNewFindsRoom es
runs_find_room [] r new t d spare w k runs keeps = tt
runs_find_room (e ∷ es) r new t d spare w k runs keeps =
    let s = tracked_does r e runs.0 t d spare w k keeps.0 runs.1 in
    (s.1, runs_find_room es runs.0 new (after_event t e) d spare (does_course r e runs.0 w runs.1) s.0 runs.2 keeps.1)

-- The run begins in an opening heap.
module _ (h : HeapState) (o : IsOpening h) (some : 0 < length h.store.pages) where
  none_allocated : (b : ℕ) → is_allocated h.store b ≡ true → ⊥
  none_allocated b l = let q = allocated_block h.store b l in let z : None ≡ Some q.0 = sym (ap (λ y. page_at y (b / 2048)) o.pages ∙ page_none (length h.store.pages) (b / 2048)) ∙ q.2.page in cc

  count_none : (p : Option Page → Bool) → p None ≡ false → count_by p h.store.pages ≡ 0
  count_none p e = ap (count_by p) o.pages ∙ sum_by-replicate (λ z. one_if (p z)) (length h.store.pages) None ∙ ap (λ z. length h.store.pages * one_if z) e ∙ mul-zero (length h.store.pages)

  course : IsCourse (opened h)
  course = opening_course h o some

  none_reached : (id : ℕ) → Reaches (opening h.limits) id → ⊥
  unfolding Reaches
  none_reached id r = let g = (consistent_agrees h (opening h.limits) (opening h.limits) course.represents.consistent).given id r in let l = g.below in let p = r.0 in omega (arith, l, p)

  pub opening_tracked : (d : Demand) (spare : ℕ) → MaySpare h (blocks_for d) spare → space_for d spare ≤ length h.store.pages → IsTracked (opened h) (opening_tally h.limits) d spare
  opening_tracked d spare may fits = record {
    graph = refl;
    last = refl;
    live = record { ids = []; reached = λ id r. absurd (none_reached id r); blocks = λ class l. omega arith };
    kept_last = record { more = omega arith; shape = λ id l. refl };
    first = [];
    ids = [];
    base = refl;
    within = λ class l. omega arith;
    kept = record { more = omega arith; shape = λ id l. refl };
    only = λ b l. absurd (none_allocated b l);
    tidy = record {
      class = λ b l. absurd (none_allocated b l);
      part = λ b l. absurd (none_allocated b l);
      given = λ b l. absurd (none_allocated b l);
      shape = λ b l. absurd (none_allocated b l);
      one = λ a b l. absurd (none_allocated a l);
      one_old = λ a b l. absurd (none_allocated a l);
      old = λ b l. absurd (none_allocated b l);
    };
    bounded = record {
      used = λ class l. (let z = count_none (is_of class) refl in omega (arith, z));
      evacuating = subst (MayEvacuate spare h.defrag_pages (evacuating_pages h.store.pages)) (sym o.phase) (let z = count_none is_evacuating refl in omega (arith, z));
      same = may;
    };
    pages = fits;
  }

pub space_suffices : (h : HeapState) (es : List Event) (new : Course) (d : Demand) → IsOpening h → 0 < length h.store.pages → Runs (opened h) es new → AllKeepTo d (opening_tally h.limits) es → space_for d (spare_of h) ≤ length h.store.pages → EveryNewFindsRoom es
space_suffices h es new d o some runs keeps fits = runs_find_room es (opened h) new (opening_tally h.limits) d (spare_of h) (course h o some) (opening_tracked h o some d (spare_of h) (inl refl) fits) runs keeps
