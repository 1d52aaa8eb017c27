-- No new object is refused in a run that keeps to a demand taken together.
use Rattle.std.proofs.Common.{◌≡◌, ℕ, ◌+◌, ◌<◌, ◌≤◌, inl, true, List, length, ap, sym, subst, arith, refl}
use Rattle.size_classes.specs.declared.class.TheConstants.{CLASSES}
use Rattle.graph_heap.specs.Graph.{Graph}
use Rattle.graph_heap.specs.Effect.{reply_of}
use Rattle.graph_heap.specs.declared.command.Command.{Command}
use Rattle.graph_heap.specs.declared.command.Reply.{Reply}
use Rattle.graph_heap.specs.declared.command.Change.{Change}
use Rattle.heap_model.specs.declared.phase.Phase.{Phase}
use Rattle.heap_model.specs.Pages.{ArePages, has_room}
use Rattle.heap_model.specs.State.{HeapState, is_evacuating}
use Rattle.heap_model.specs.Represents.{Represents}
use Rattle.heap_model.specs.Action.{Chain}
use Rattle.heap_model.specs.Change.{DoesChange}
use Rattle.heap_model.specs.Opening.{IsOpening}
use Rattle.heap_model.specs.Event.{Course, Event, Command_done, Cycle_begun, Begin_refused, Quantum_done, Quantum_refused, Enters, Begins, Collects, Does, Runs, IsCourse, present_of, snapshot_of, room_for, change_by}
use Rattle.heap_model.specs.ReachedFrom.{opened}
use Rattle.heap_model.proofs.Event.Kept.{opening_course}
use Rattle.space.specs.Demand.{asked_for, asked_by}
use Rattle.space.specs.Tally.{FindsRoom, NewFindsRoom, EveryNewFindsRoom}
use Rattle.space.specs.Counts.{is_of, main_blocks, evacuating_pages}
use Rattle.space.specs.Space.{pages_for, spare_of, below_of}
use Rattle.space.specs.Placement.{MayEvacuate, MaySpare, HasBoundedPages}
use Rattle.space.proofs.Counts.{bounded_room}
use Rattle.space.proofs.Space.{bounded_pages, bounded_same}
use Rattle.space.proofs.Placement.Changing.{bounded_change}
use Rattle.space.proofs.Tally.{Went, chain_went, change_count}
use Rattle.space.proofs.Paces.Unmoved.{may_none}
use Rattle.fragmentation.specs.Season.{Season, Lives, opening_season, season_after, Keeps, AllKeep}
use Rattle.fragmentation.specs.Suffice.{WithinBlocks}
use Rattle.fragmentation.proofs.Season.{IsCounted, counted_allocated, all_find_room, command_room, count_none, opening_counted}

-- what a command asks for, with the main copies, is within this many blocks
pub within_blocks : (r : Course) (s : Season) (live : Lives) (blocks : ℕ → ℕ) (m : ℕ) (c : Command) → IsCourse r → IsCounted r s live → WithinBlocks blocks live s (asked_for s.graph m c) → (class : ℕ) → class < CLASSES → main_blocks r.heap.store.pages class + asked_for (present_of r) m c class ≤ blocks class
within_blocks r s live blocks m c w k keeps class l =
    let x = counted_allocated r s live w k class l in
    let a = keeps class l in
    let asked : asked_for s.graph m c class ≡ asked_for (present_of r) m c class = ap (λ z. asked_for z m c class) k.graph in
    omega (arith, x, a, asked)

-- the pages stay within their bound
pub bounded_begins : (r new : Course) (blocks : ℕ → ℕ) (spare : ℕ) → Begins r new → HasBoundedPages r.heap blocks spare → HasBoundedPages new.heap blocks spare
bounded_begins r new blocks spare b k = subst (λ z. HasBoundedPages z blocks spare) (sym b.heap) (bounded_same r.heap _ blocks spare k (record { most = refl; below = refl }) refl (let q = bounded_pages r.heap blocks spare k in q.evacuating))

pub bounded_opening : (h : HeapState) (blocks : ℕ → ℕ) (spare : ℕ) → IsOpening h → 0 < length h.store.pages → MaySpare h blocks spare → HasBoundedPages h blocks spare
bounded_opening h blocks spare o some may = record {
  used = λ class l. (let z = count_none h o some (is_of class) refl in omega (arith, z));
  evacuating = subst (MayEvacuate spare h.defrag_pages (evacuating_pages h.store.pages)) (sym o.phase) (let z = count_none h o some is_evacuating refl in omega (arith, z));
  same = may;
}

-- The invariant of a heap beside its bounded pages, whatever it does; with it, `enough` pages have room.
pub record KeepsRoom (blocks : ℕ → ℕ) (spare enough : ℕ) (Kept : HeapState → Type 0) : Type 0 where
  pub room : (h : HeapState) → ArePages h.store.pages → HasBoundedPages h blocks spare → Kept h → enough ≤ length h.store.pages
      → (need : ℕ → ℕ) → ((k : ℕ) → k < CLASSES → main_blocks h.store.pages k + need k ≤ blocks k) → has_room h.store.pages need ≡ true
  pub change : (h after : HeapState) (g : Graph) (c : Change) → ArePages h.store.pages → ((k : ℕ) → k < CLASSES → main_blocks h.store.pages k + asked_by c k ≤ blocks k) → DoesChange h g c after → Kept h → Kept after
  pub begins : (r new : Course) → Begins r new → Kept r.heap → Kept new.heap
  pub chain : (h after : HeapState) (spent : ℕ) (present snapshot : Graph) → Represents h present snapshot → Chain h spent after → Kept h → Kept after

module _ (live : Lives) (blocks : ℕ → ℕ) (spare enough : ℕ) (Kept : HeapState → Type 0) (keeping : KeepsRoom blocks spare enough Kept) where
  record IsJoint (r : Course) (s : Season) : Type 0 where
    bounded : HasBoundedPages r.heap blocks spare
    pages : enough ≤ length r.heap.store.pages
    kept : Kept r.heap

  joint_command : (r new : Course) (m : ℕ) (c : Command) (reply : Reply) (s : Season) → IsCourse r → IsCounted r s live → IsJoint r s → WithinBlocks blocks live s (asked_for s.graph m c) → Enters r m c reply new
      → IsJoint new (season_after live s (Command_done m c reply)) × FindsRoom c reply
  joint_command r new m c reply s w i k keeps e = (
    record {
      bounded = bounded_change r.heap new.heap g _ blocks spare w.represents.pages fits e.change k.bounded;
      pages = (let p = k.pages in let l = change_count r.heap new.heap g _ e.change in omega (arith, p, l));
      kept = keeping.change r.heap new.heap g _ w.represents.pages fits e.change k.kept;
    },
    subst (FindsRoom c) (sym e.replies) finds.0,
  )
    where
      g : Graph
      g = present_of r

      asks : (n : ℕ) → n < CLASSES → main_blocks r.heap.store.pages n + asked_for g m c n ≤ blocks n
      asks = within_blocks r s live blocks m c w i keeps

      finds : FindsRoom c (reply_of (room_for r.heap c) g m c) × (change_by (room_for r.heap c) g m c ≡ change_by true g m c)
      finds = command_room r.heap g m c (λ need same. keeping.room r.heap w.represents.pages k.bounded k.kept k.pages need (λ n l. (let x = asks n l in let y = same n in omega (arith, x, y))))

      fits : (n : ℕ) → n < CLASSES → main_blocks r.heap.store.pages n + asked_by (change_by (room_for r.heap c) g m c) n ≤ blocks n
      fits n l = let x = asks n l in let y = ap (λ z. asked_by z n) finds.1 in omega (arith, x, y)

  joint_begins : (r new : Course) (s : Season) → IsJoint r s → Begins r new → IsJoint new (season_after live s Cycle_begun)
  joint_begins r new s k b = record {
    bounded = bounded_begins r new blocks spare b k.bounded;
    pages = subst (λ (z : HeapState). enough ≤ length z.store.pages) (sym b.heap) k.pages;
    kept = keeping.begins r new b k.kept;
  }

  joint_quantum : (r new : Course) (budget units : ℕ) (phase : Phase) (s : Season) → IsCourse r → IsCounted r s live → IsJoint r s → Collects r budget units phase new → IsJoint new (season_after live s (Quantum_done budget units phase))
  joint_quantum r new budget units phase s w i k q = record {
    bounded = went.bounded;
    pages = (let p = k.pages in let c = went.count in omega (arith, p, c));
    kept = keeping.chain r.heap new.heap units (present_of r) (snapshot_of r) w.represents q.turn.chain k.kept;
  }
    where
      went : Went r.heap new.heap (present_of r).objects blocks spare
      went = chain_went r.heap new.heap units (present_of r) (snapshot_of r) (present_of r).objects blocks spare w.represents i.tidy k.bounded q.turn.chain

  joint_step : (r : Course) (e : Event) (new : Course) (s : Season) → IsCourse r → IsCounted r s live → IsJoint r s → Keeps (WithinBlocks blocks live) live s e → Does r e new → IsJoint new (season_after live s e) × NewFindsRoom e
  joint_step r (Command_done m c reply) new s w i k keeps does = joint_command r new m c reply s w i k keeps does
  joint_step r Cycle_begun new s w i k keeps does = (joint_begins r new s k does, tt)
  joint_step r Begin_refused new s w i k keeps does = (subst (λ z. IsJoint z s) (sym does.1) k, tt)
  joint_step r (Quantum_done budget units phase) new s w i k keeps does = (joint_quantum r new budget units phase s w i k does, tt)
  joint_step r (Quantum_refused budget) new s w i k keeps does = (subst (λ z. IsJoint z s) (sym does.1) k, tt)

  -- so no new object is refused in a run that keeps to these blocks
  pub joint_runs : (h : HeapState) (es : List Event) (new : Course) → IsOpening h → 0 < length h.store.pages → Runs (opened h) es new → AllKeep (WithinBlocks blocks live) live (opening_season h.limits) es → MaySpare h blocks spare → Kept h → enough ≤ length h.store.pages → EveryNewFindsRoom es
  joint_runs h es new o some runs keeps may kept fits =
      all_find_room (WithinBlocks blocks live) live IsJoint joint_step es (opened h) new (opening_season h.limits) (opening_course h o some) (opening_counted h o some live)
      (record { bounded = bounded_opening h blocks spare o some may; pages = fits; kept = kept }) runs keeps

-- bounded pages have room by themselves
bounded_keeps : (blocks : ℕ → ℕ) (spare : ℕ) → KeepsRoom blocks spare (pages_for blocks spare CLASSES) (λ h. Unit {0})
bounded_keeps blocks spare = record {
  room = λ h a b kept fits need asks. bounded_room h.store.pages blocks need spare a (bounded_pages h blocks spare b) fits asks;
  change = λ h after g c a fits does kept. tt;
  begins = λ r new b kept. tt;
  chain = λ h after spent present snapshot w chain kept. tt;
}

pub joint_suffices : (h : HeapState) (es : List Event) (new : Course) (blocks : ℕ → ℕ) (live : Lives) → IsOpening h → 0 < length h.store.pages → Runs (opened h) es new → AllKeep (WithinBlocks blocks live) live (opening_season h.limits) es → pages_for blocks (spare_of h) CLASSES ≤ length h.store.pages → EveryNewFindsRoom es
joint_suffices h es new blocks live o some runs keeps fits = joint_runs live blocks (spare_of h) _ _ (bounded_keeps blocks (spare_of h)) h es new o some runs keeps (inl refl) tt fits

pub joint_suffices_unmoved : (h : HeapState) (es : List Event) (new : Course) (blocks : ℕ → ℕ) (live : Lives) → IsOpening h → 0 < length h.store.pages → Runs (opened h) es new → AllKeep (WithinBlocks blocks live) live (opening_season h.limits) es → pages_for blocks 0 CLASSES + below_of h ≤ length h.store.pages → EveryNewFindsRoom es
joint_suffices_unmoved h es new blocks live o some runs keeps fits = joint_runs live blocks 0 _ _ (bounded_keeps blocks 0) h es new o some runs keeps (may_none h blocks fits) tt (omega (arith, fits))
