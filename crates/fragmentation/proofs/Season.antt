-- The counts of each course by its events, and a run that keeps to a bound.
use Rattle.std.proofs.Common.{◌≡◌, ℕ, ◌+◌, ◌*◌, ◌/◌, ◌<◌, ◌≤◌, Bool, true, false, if◌then◌else◌, List, [], ◌∷◌, Option, Some, None, length, drop, take, ap, ◌∙◌, sym, subst, arith, rules, refl, mul-zero}
use Rattle.std.specs.Prelude.{count_by}
use Rattle.std.proofs.lemmas.List.Folds.{sum_by-replicate}
use Rattle.std.proofs.Math.Seq.{take-length}
use Rattle.size_classes.specs.declared.class.TheConstants.{CLASSES}
use Rattle.graph_heap.specs.declared.command.Command.{Command}
use Rattle.graph_heap.specs.declared.command.Command.TheVariants as commands
use Rattle.graph_heap.specs.declared.command.Reply.{Reply}
use Rattle.graph_heap.specs.declared.command.Change.{Change}
use Rattle.graph_heap.specs.Graph.{Object, Graph, opening, changed}
use Rattle.graph_heap.specs.Reach.{Reaches}
use Rattle.graph_heap.specs.Effect.{reply_of, slot_at, fitting, next_identity, admitted}
use Rattle.graph_heap.specs.History.{after}
use Rattle.size_classes.specs.Need.{needed}
use Rattle.heap_model.specs.declared.phase.Phase.{Phase}
use Rattle.heap_model.specs.Pages.{Page, ArePages, page_at, has_room}
use Rattle.heap_model.specs.Store.{Store, is_allocated}
use Rattle.heap_model.specs.State.{HeapState}
use Rattle.heap_model.specs.Opening.{IsOpening}
use Rattle.heap_model.specs.Represents.{Represents}
use Rattle.heap_model.specs.Action.{Chain, Nothing_done, Then}
use Rattle.heap_model.specs.Event.{Course, Event, Command_done, Cycle_begun, Begin_refused, Quantum_done, Quantum_refused, Enters, Begins, Collects, Does, Runs, IsCourse, present_of, snapshot_of, room_for, change_by}
use Rattle.heap_model.specs.ReachedFrom.{opened}
use Rattle.heap_model.proofs.Store.Allocated.{allocated_block}
use Rattle.heap_model.proofs.Represents.{represents_chain}
use Rattle.heap_model.proofs.Grey.Relinked.{represents_relinked}
use Rattle.heap_model.proofs.Opening.{page_none}
use Rattle.heap_model.proofs.Agreements.Implied.{consistent_agrees}
use Rattle.heap_model.proofs.Left.{change_left}
use Rattle.heap_model.proofs.Event.Kept.{enters_graph, enters_present, enters_snapshot, begins_present, collects_limits, collects_present, does_course, opening_course}
use Rattle.space.specs.Demand.{LiveWithin, blocks_of, asked_for, asked_by}
use Rattle.heap_model.specs.Phases.{awaits_sweep_end}
use Rattle.space.specs.Tally.{FindsRoom, NewFindsRoom, EveryNewFindsRoom}
use Rattle.space.specs.Counts.{stays, main_blocks}
use Rattle.space.specs.Placement.{IsTidy, KeepsOnly, KeepsShapes}
use Rattle.space.proofs.Counts.{one_if}
use Rattle.space.proofs.Placement.Tidying.{shrinks_keeps, tidy_same}
use Rattle.space.proofs.Placement.Acting.{tidy_action}
use Rattle.space.proofs.Placement.Changing.{tidy_change, only_change, shapes_kept, shapes_then}
use Rattle.space.proofs.Placement.Census.{census}
use Rattle.space.proofs.Paces.Pacing.{more_since}
use Rattle.space.proofs.Rooms.{admitted_other, slot_other, fitting_other, next_other}
use Rattle.space.proofs.Tally.{rest_only, chain_only, new_has_room, shapes_same, shapes_into}
use Rattle.fragmentation.specs.Season.{Season, Lives, opening_season, made_since, needed_since, season_swept, season_after, Keeps, AllKeep}
use Rattle.fragmentation.specs.Tight.{staying_pages}
use Rattle.fragmentation.proofs.Tight.IsLeftover.{evacuates, IsSettled}
use Rattle.fragmentation.proofs.Tight.Actions.{chain_out}

-- The objects that existed when a cycle began: the present objects begin with them, and those that were live need at
-- most this many blocks.
pub record WasLive (r : Course) (origin : Graph) (most : ℕ → ℕ) : Type 0 where
  pub live : LiveWithin origin most
  pub kept : KeepsShapes origin.objects (present_of r).objects

-- among the first `count` objects, which existed then, only those that were live have a main copy
pub record HasOnly (r : Course) (count : ℕ) (most : ℕ → ℕ) : Type 0 where
  pub origin : Graph
  pub base : count ≡ length origin.objects
  pub was : WasLive r origin most
  pub only : KeepsOnly r.heap.store (length origin.objects) was.live.ids

-- Among the objects that existed when the cycle began whose sweep ended last, the ones with a main copy need no more
-- than live ones did.
pub record IsCounted (r : Course) (s : Season) (live : Lives) : Type 0 where
  pub graph : s.graph ≡ present_of r
  pub awaiting_sweep_end : s.awaiting_sweep_end ≡ awaits_sweep_end r.heap.phase
  pub last : s.last ≡ length (snapshot_of r).objects
  pub begun : WasLive r (snapshot_of r) (live s.cycles)
  pub based : HasOnly r s.base (live s.number)
  pub rested : s.awaiting_sweep_end ≡ false → (s.base ≡ s.last) × (s.number ≡ s.cycles)
  pub swept : s.swept ≤ length (present_of r).objects
  pub tidy : IsTidy r.heap.store (present_of r).objects

-- the main copies are no more than what was live, and what was made since
pub allocated_since : (s : Store) (objects : List Object) (origin : Graph) (most : ℕ → ℕ) (live : LiveWithin origin most) → ArePages s.pages → IsTidy s objects → KeepsShapes origin.objects objects → KeepsOnly s (length origin.objects) live.ids
    → (class : ℕ) → class < CLASSES → main_blocks s.pages class ≤ most class + blocks_of (drop (length origin.objects) objects) class
allocated_since s objects origin most live a tidy kept only class l =
    let x = census s a class objects tidy origin.objects live.ids kept only in
    let y = live.blocks class l in
    omega (arith, x, y)

pub counted_allocated : (r : Course) (s : Season) (live : Lives) → IsCourse r → IsCounted r s live → (class : ℕ) → class < CLASSES → main_blocks r.heap.store.pages class ≤ needed_since live s class
counted_allocated r s live w k class l =
    let o = k.based in
    let x = allocated_since r.heap.store (present_of r).objects o.origin (live s.number) o.was.live w.represents.pages k.tidy o.was.kept o.only class l in
    let d : made_since s.base s class ≡ blocks_of (drop (length o.origin.objects) (present_of r).objects) class = ap (λ z. made_since z s class) o.base ∙ ap (λ (z : Graph). blocks_of (drop (length o.origin.objects) z.objects) class) k.graph in
    omega (arith, x, d)

-- The graph heap at present keeps its objects.
module _ (r new : Course) (shapes : KeepsShapes (present_of r).objects (present_of new).objects) where
  abbrev was_live : (origin : Graph) (most : ℕ → ℕ) → WasLive r origin most → WasLive new origin most
  was_live origin most w = record { live = w.live; kept = shapes_then _ _ _ w.kept shapes }

  has_only : (base : ℕ) (most : ℕ → ℕ) → ((n : ℕ) (ids : List ℕ) → n ≤ length (present_of r).objects → KeepsOnly r.heap.store n ids → KeepsOnly new.heap.store n ids) → HasOnly r base most → HasOnly new base most
  has_only base most only w = record {
    origin = w.origin;
    base = w.base;
    was = was_live w.origin most w.was;
    only = only (length w.origin.objects) w.was.live.ids w.was.kept.more w.only;
  }

  no_fewer : (n : ℕ) → n ≤ length (present_of r).objects → n ≤ length (present_of new).objects
  no_fewer n l = let m = shapes.more in omega (arith, l, m)

-- what a command makes
module _ (r new : Course) (m : ℕ) (c : Command) (reply : Reply) (s : Season) (live : Lives) (w : IsCourse r) (k : IsCounted r s live) (e : Enters r m c reply new) where
  abbrev pub change : Change
  change = change_by (room_for r.heap c) (present_of r) m c

  pub objects_then : (present_of new).objects ≡ (changed (present_of r) change).objects
  objects_then = ap (λ (z : Graph). z.objects) (enters_present r new m c reply w e)

  next_identity_is : r.heap.next ≡ length (present_of r).objects + 1
  next_identity_is = (consistent_agrees r.heap (present_of r) (snapshot_of r) w.represents.consistent).next

  shapes : KeepsShapes (present_of r).objects (present_of new).objects
  shapes = shapes_into _ _ _ objects_then (shapes_kept (present_of r) change)

  pub counted_command : IsCounted new (season_after live s (Command_done m c reply)) live
  counted_command = record {
    graph = enters_graph r new m c reply w e s.graph k.graph;
    awaiting_sweep_end = k.awaiting_sweep_end ∙ ap awaits_sweep_end (sym (change_left r.heap new.heap (present_of r) change e.change).phase);
    last = k.last ∙ ap (λ (z : Graph). length z.objects) (sym (enters_snapshot r new m c reply w e));
    begun = subst (λ z. WasLive new z (live s.cycles)) (sym (enters_snapshot r new m c reply w e)) (was_live r new shapes _ _ k.begun);
    based = has_only r new shapes _ _ (λ n ids l o. only_change r.heap new.heap (present_of r) change n ids next_identity_is l e.change o) k.based;
    rested = k.rested;
    swept = no_fewer r new shapes s.swept k.swept;
    tidy = subst (IsTidy new.heap.store) (sym objects_then) (tidy_change r.heap new.heap (present_of r) change next_identity_is e.change k.tidy);
  }

  pub made_more : (count class : ℕ) → count ≤ length (present_of r).objects → made_since count (season_after live s (Command_done m c reply)) class ≡ made_since count s class + asked_by change class
  made_more count class low =
      let a : made_since count (season_after live s (Command_done m c reply)) class ≡ blocks_of (drop count (changed (present_of r) change).objects) class = ap (λ (z : Graph). blocks_of (drop count z.objects) class) counted_command.graph ∙ ap (λ z. blocks_of (drop count z) class) objects_then in
      let b = more_since (present_of r) change count class low in
      let d : made_since count s class ≡ blocks_of (drop count (present_of r).objects) class = ap (λ (z : Graph). blocks_of (drop count z.objects) class) k.graph in
      omega (arith, a, b, d)

  pub base_low : s.base ≤ length (present_of r).objects
  base_low = let b = k.based.base in let x = k.based.was.kept.more in omega (arith, b, x)

  pub needed_more : (class : ℕ) → needed_since live (season_after live s (Command_done m c reply)) class ≡ needed_since live s class + asked_by change class
  needed_more class = let x = made_more s.base class base_low in omega (arith, x)

-- a cycle begins
counted_begins : (r new : Course) (s : Season) (live : Lives) → IsCourse r → IsCounted r s live → LiveWithin s.graph (live (s.cycles + 1)) → Begins r new → IsCounted new (season_after live s Cycle_begun) live
counted_begins r new s live w k lives b = record {
  graph = k.graph ∙ sym present;
  awaiting_sweep_end = ap (λ (z : HeapState). awaits_sweep_end z.phase) (sym b.heap);
  last = ap (λ (z : Graph). length z.objects) (k.graph ∙ sym snapshot);
  begun = subst (λ z. WasLive new z (live (s.cycles + 1))) (sym snapshot) (record { live = subst (λ z. LiveWithin z (live (s.cycles + 1))) k.graph lives; kept = shapes });
  based = has_only r new shapes _ _ (λ n ids l o. subst (λ (z : HeapState). KeepsOnly z.store n ids) (sym b.heap) o) k.based;
  rested = λ e. absurd (cc);
  swept = no_fewer r new shapes s.swept k.swept;
  tidy = subst (λ (z : HeapState). IsTidy z.store (present_of new).objects) (sym b.heap) (subst (λ (z : Graph). IsTidy r.heap.store z.objects) (sym present) k.tidy);
}
  where
    present : present_of new ≡ present_of r
    present = begins_present r new b

    shapes : KeepsShapes (present_of r).objects (present_of new).objects
    shapes = shapes_same _ _ (ap (λ (z : Graph). z.objects) present)

    snapshot : snapshot_of new ≡ present_of r
    snapshot = ap (after (opening new.heap.limits)) (ap (λ z. take z new.history) (b.place ∙ ap length (sym b.history)) ∙ take-length new.history) ∙ present

-- A quantum keeps blocks at their proper places.
chain_tidy : (h after : HeapState) (spent : ℕ) (present snapshot : Graph) → Represents h present snapshot → Chain h spent after → IsTidy h.store present.objects → IsTidy after.store present.objects
chain_tidy h after spent g s st Nothing_done w = w
chain_tidy h after spent g s st (Then u cost j k linked chain links action) w =
    tidy_action (record j { store = linked }) k cost g s g.objects (represents_relinked j linked links g s (represents_chain h j u g s st chain)) action
    (tidy_same j.store linked g.objects (shrinks_keeps j.store linked links.blocks) links.pages (chain_tidy h j u g s st chain w))

counted_quantum : (r new : Course) (budget units : ℕ) (phase : Phase) (s : Season) (live : Lives) → IsCourse r → IsCounted r s live → Collects r budget units phase new → IsCounted new (season_after live s (Quantum_done budget units phase)) live
counted_quantum r new budget units phase s live w k q = by_phase (awaits_sweep_end phase) refl
  where
    present : present_of new ≡ present_of r
    present = collects_present r new budget units phase w q

    snapshot : snapshot_of new ≡ snapshot_of r
    snapshot = let l = collects_limits r new budget units phase w q in let p = q.place in let h = q.history in cc

    shapes : KeepsShapes (present_of r).objects (present_of new).objects
    shapes = shapes_same _ _ (ap (λ (z : Graph). z.objects) present)

    out_phase : awaits_sweep_end new.heap.phase ≡ awaits_sweep_end phase
    out_phase = ap awaits_sweep_end q.ends

    -- in a season that has come as far, and counts from such a base
    counted : (z : Season) → z.graph ≡ s.graph → z.awaiting_sweep_end ≡ awaits_sweep_end phase → z.last ≡ s.last → z.cycles ≡ s.cycles → z.swept ≤ length (present_of r).objects → (z.awaiting_sweep_end ≡ false → (z.base ≡ z.last) × (z.number ≡ z.cycles)) → HasOnly new z.base (live z.number) → IsCounted new z live
    counted z graph t l c swept rested based = record {
      graph = graph ∙ k.graph ∙ sym present;
      awaiting_sweep_end = t ∙ sym out_phase;
      last = l ∙ k.last ∙ ap (λ (y : Graph). length y.objects) (sym snapshot);
      begun = subst (λ y. WasLive new (snapshot_of new) (live y)) (sym c) (subst (λ y. WasLive new y (live s.cycles)) (sym snapshot) (was_live r new shapes _ _ k.begun));
      based = based;
      rested = rested;
      swept = no_fewer r new shapes z.swept swept;
      tidy = subst (λ (y : Graph). IsTidy new.heap.store y.objects) (sym present) (chain_tidy r.heap new.heap units (present_of r) (snapshot_of r) w.represents q.turn.chain k.tidy);
    }

    on : awaits_sweep_end phase ≡ true → s.awaiting_sweep_end ≡ true → IsCounted new s live
    on e t = counted s refl (t ∙ sym e) refl refl k.swept k.rested (has_only r new shapes _ _ (λ n ids l o. chain_only r.heap new.heap units n ids q.turn.chain (out_phase ∙ e) o) k.based)

    -- In idle and in moving, no sweep's end is awaited.
    off : (z : Season) → z.graph ≡ s.graph → z.awaiting_sweep_end ≡ false → z.last ≡ s.last → z.cycles ≡ s.cycles → z.base ≡ s.last → z.number ≡ s.cycles → z.swept ≤ length (present_of r).objects → awaits_sweep_end phase ≡ false → IsCounted new z live
    off z graph t l c b n swept e = counted z graph (t ∙ sym e) l c swept (λ y. (b ∙ sym l, n ∙ sym c)) (subst (λ y. HasOnly new z.base (live y)) (sym n) (record {
      origin = snapshot_of r;
      base = b ∙ k.last;
      was = was_live r new shapes _ _ k.begun;
      only = rest_only new.heap (present_of r) (snapshot_of r) k.begun.live.ids (represents_chain r.heap new.heap units (present_of r) (snapshot_of r) w.represents q.turn.chain) (out_phase ∙ e) k.begun.live.reached;
    }))

    traced : awaits_sweep_end phase ≡ true → s.awaiting_sweep_end ≡ true
    traced e = by_start s.awaiting_sweep_end refl
      where
        by_start : (b : Bool) → s.awaiting_sweep_end ≡ b → s.awaiting_sweep_end ≡ true
        by_start true t = t
        by_start false t = absurd (let z = chain_out r.heap new.heap units q.turn.chain (sym k.awaiting_sweep_end ∙ t) in let y : false ≡ true = sym z ∙ out_phase ∙ e in cc)

    by_tracing : (b : Bool) → s.awaiting_sweep_end ≡ b → awaits_sweep_end phase ≡ false → IsCounted new (if b then season_swept live s else s) live
    by_tracing true t e = off (season_swept live s) refl refl refl refl refl refl (let x : length s.graph.objects ≡ length (present_of r).objects = ap (λ (z : Graph). length z.objects) k.graph in omega (arith, x)) e
    by_tracing false t e = let z = k.rested t in off s refl t refl refl z.0 z.1 k.swept e

    by_phase : (b : Bool) → awaits_sweep_end phase ≡ b → IsCounted new (if b then s else (if s.awaiting_sweep_end then season_swept live s else s)) live
    by_phase true e = on e (traced e)
    by_phase false e = by_tracing s.awaiting_sweep_end refl e

-- if the event begins a cycle, what is live needs no more than was said
abbrev pub BeginsWithin : Lives → Season → Event → Type 0
BeginsWithin live s Cycle_begun = LiveWithin s.graph (live (s.cycles + 1))
BeginsWithin live s _ = Unit {0}

pub counted_does : (live : Lives) (r : Course) (e : Event) (new : Course) (s : Season) → IsCourse r → IsCounted r s live → BeginsWithin live s e → Does r e new → IsCounted new (season_after live s e) live
counted_does live r (Command_done m c reply) new s w k lives does = counted_command r new m c reply s live w k does
counted_does live r Cycle_begun new s w k lives does = counted_begins r new s live w k lives does
counted_does live r Begin_refused new s w k lives does = subst (λ z. IsCounted z s live) (sym does.1) k
counted_does live r (Quantum_done budget units phase) new s w k lives does = counted_quantum r new budget units phase s live w k does
counted_does live r (Quantum_refused budget) new s w k lives does = subst (λ z. IsCounted z s live) (sym does.1) k

-- a run that keeps to a bound, if what else is kept lets each new object find room
module _ (Bound : Season → (ℕ → ℕ) → Type 0) (live : Lives) (Kept : Course → Season → Type 0)
    (step : (r : Course) (e : Event) (new : Course) (s : Season) → IsCourse r → IsCounted r s live → Kept r s → Keeps Bound live s e → Does r e new → Kept new (season_after live s e) × NewFindsRoom e) where
  begins_within : (s : Season) (e : Event) → Keeps Bound live s e → BeginsWithin live s e
  begins_within s (Command_done m c reply) keeps = tt
  begins_within s Cycle_begun keeps = keeps
  begins_within s Begin_refused keeps = tt
  begins_within s (Quantum_done budget units phase) keeps = tt
  begins_within s (Quantum_refused budget) keeps = tt

  pub all_find_room : (es : List Event) (r new : Course) (s : Season) → IsCourse r → IsCounted r s live → Kept r s → Runs r es new → AllKeep Bound live s es → EveryNewFindsRoom es
  all_find_room [] r new s w k kept runs keeps = tt
  all_find_room (e ∷ es) r new s w k kept runs keeps =
      let x = step r e runs.0 s w k kept keeps.0 runs.1 in
      (x.1, all_find_room es runs.0 new (season_after live s e) (does_course r e runs.0 w runs.1) (counted_does live r e runs.0 s w k (begins_within s e keeps.0) runs.1) x.0 runs.2 keeps.1)

-- with room for what it asks for, a command makes all that it would
pub command_room : (h : HeapState) (g : Graph) (m : ℕ) (c : Command) → ((need : ℕ → ℕ) → ((k : ℕ) → asked_for g m c k ≡ need k) → has_room h.store.pages need ≡ true) → FindsRoom c (reply_of (room_for h c) g m c) × (change_by (room_for h c) g m c ≡ change_by true g m c)
unfolding reply_of
command_room h g m (commands.New dst shape) room =
    new_has_room (admitted g m (commands.New dst shape)) (slot_at g.limits m dst) (fitting shape) (next_identity g) shape
    (admitted_other g m (commands.New dst shape)) (slot_other g.limits m dst) (fitting_other shape) (next_other g)
    (has_room h.store.pages (needed shape)) (room (needed shape))
command_room h g m _ room = (tt, refl)

-- The season begins in an opening heap.
module _ (h : HeapState) (o : IsOpening h) (some : 0 < length h.store.pages) where
  pub none_allocated : (b : ℕ) → is_allocated h.store b ≡ true → ⊥
  none_allocated b l = let q = allocated_block h.store b l in let z : None ≡ Some q.0 = sym (ap (λ y. page_at y (b / 2048)) o.pages ∙ page_none (length h.store.pages) (b / 2048)) ∙ q.2.page in cc

  pub count_none : (p : Option Page → Bool) → p None ≡ false → count_by p h.store.pages ≡ 0
  count_none p e = ap (count_by p) o.pages ∙ sum_by-replicate (λ z. one_if (p z)) (length h.store.pages) None ∙ ap (λ z. length h.store.pages * one_if z) e ∙ mul-zero (length h.store.pages)

  none_reached : (id : ℕ) → Reaches (opening h.limits) id → ⊥
  unfolding Reaches
  none_reached id r = let g = (consistent_agrees h (opening h.limits) (opening h.limits) (opening_course h o some).represents.consistent).given id r in let l = g.below in let p = r.0 in omega (arith, l, p)

  live_none : (most : ℕ → ℕ) → WasLive (opened h) (opening h.limits) most
  live_none most = record { live = record { ids = []; reached = λ id r. absurd (none_reached id r); blocks = λ class l. omega arith }; kept = shapes_same _ _ refl }

  pub opening_counted : (live : Lives) → IsCounted (opened h) (opening_season h.limits) live
  opening_counted live = record {
    graph = refl;
    awaiting_sweep_end = ap awaits_sweep_end (sym o.phase);
    last = refl;
    begun = live_none (live 0);
    based = record { origin = opening h.limits; base = refl; was = live_none (live 0); only = λ b l. absurd (none_allocated b l) };
    rested = λ e. (refl, refl);
    swept = omega arith;
    tidy = search (rules, none_allocated);
  }

  leave_none : (class : ℕ) → evacuates class (page_at h.store.pages (length h.store.pages)) ≡ true → ⊥
  leave_none class on = let z : page_at h.store.pages (length h.store.pages) ≡ None = ap (λ y. page_at y (length h.store.pages)) o.pages ∙ page_none (length h.store.pages) (length h.store.pages) in let y : false ≡ true = sym (ap (evacuates class) z) ∙ on in cc

  pub opening_settled : (class need : ℕ) → IsSettled h.store class need
  opening_settled class need = record {
    page = length h.store.pages;
    left = record { only = λ b x. absurd (none_allocated b x.allocated); some = λ on. absurd (leave_none class on) };
    few = (let s : staying_pages h.store.pages class ≡ 0 = count_none (stays class) refl in let z = one_none (evacuates class (page_at h.store.pages (length h.store.pages))) (leave_none class) in omega (arith, s, z));
  }
    where
      number : Bool → ℕ
      number b = if b then 1 else 0

      one_none : (b : Bool) → (b ≡ true → ⊥) → number b ≡ 0
      one_none true n = absurd (n refl)
      one_none false n = refl
