-- While blocks are moved, what reads as a name goes on to read as that name.
use Rattle.std.proofs.Common.{◌≡◌, ◌≢◌, ℕ, ◌+◌, inl, inr, ◌⊎◌, true, false, ◌==◌, ap, ◌∙◌, sym, subst, refl, arith}
use Rattle.graph_heap.specs.Graph.{Graph}
use Rattle.heap_model.specs.declared.phase.Phase.{Phase}
use Rattle.heap_model.specs.declared.phase.Phase.TheVariants as phases
use Rattle.heap_model.specs.declared.phase.Moving.{Moving as Place}
use Rattle.heap_model.specs.declared.phase.Moving.TheVariants as moves
use Rattle.heap_model.specs.Store.{is_allocated, address_of}
use Rattle.heap_model.specs.Core.{Name, PartGraph, Heap, Base, Resting}
use Rattle.heap_model.specs.Agree.{Reads}
use Rattle.heap_model.specs.Cut.{view}
use Rattle.heap_model.specs.State.{HeapState, seen, collector_of}
use Rattle.heap_model.specs.Collector.{Coherent}
use Rattle.heap_model.specs.Action.{Action, Scans_root, Ends_roots, Scans_header, Scans_cell, Ends_marking, Frees_block, Passes_block, Closes_page, Ends_sweep, Looks_at_page, Chooses_page, Chooses_none, Moves_block, Ends_moving}
use Rattle.heap_model.specs.Represents.{Represents}
use Rattle.heap_model.proofs.Core.Same.{SameBlocks}
use Rattle.heap_model.proofs.Core.Edits.{move}
use Rattle.heap_model.proofs.Action.Collecting.{at_phase, keeps_seen}
use Rattle.heap_model.proofs.Action.Moving.{move_seen}
use Rattle.heap_model.proofs.State.{behind}
use Rattle.heap_model.proofs.Represents.{represents_action}

-- if the collector rests between moves, each allocated block reads as its own name, and as no other
reads_own : (h : Heap) (g s : PartGraph) (at : Name → ℕ) → Base h g s at → Resting h g s at → (x : ℕ) → h.allocated x ≡ true → Reads h x (h.name x)
reads_own h g s at b r x l =
    let k = r.kept x l in
    let f = r.forward x l in
    record {
      allocated = l;
      main = record {
        allocated = ap h.allocated f ∙ b.allocated (h.name x) k;
        forward = ap h.forward f ∙ b.main (h.name x) k ∙ sym f;
        name = ap h.name f ∙ b.name (h.name x) k;
      };
    }

reads_one : (h : Heap) (g s : PartGraph) (at : Name → ℕ) → Base h g s at → Resting h g s at → (x : ℕ) (n : Name) → Reads h x n → h.name x ≡ n
reads_one h g s at b r x n w = sym (b.name (h.name x) (r.kept x w.allocated)) ∙ ap h.name (sym (r.forward x w.allocated)) ∙ w.main.name

-- whether blocks are moved, or no cycle is running
abbrev Rests : Phase → Type 0
Rests p = (p ≡ phases.Idle) ⊎ ((place : Place) × (p ≡ phases.Moving place))

-- some main copy for each part, by which the heap rests
pub record AtRest (h : Heap) (g s : PartGraph) : Type 0 where
  pub at : Name → ℕ
  pub base : Base h g s at
  pub rests : Resting h g s at

at_rest : (h : HeapState) (g s : PartGraph) → Coherent (collector_of h) g s → Rests h.phase → AtRest (seen h) g s
at_rest h g s c (inl e) = let d = at_phase h phases.Idle g s e c in record { at = d.at; base = d.base; rests = d.stage }
at_rest h g s c (inr m) = let d = at_phase h (phases.Moving m.0) g s m.1 c in record { at = d.at; base = d.base; rests = d.stage.0 }

-- the same blocks are allocated under the same names, and perhaps more
abbrev KeepsNames : Heap → Heap → Type 0
KeepsNames h k = (x : ℕ) → h.allocated x ≡ true → (k.allocated x ≡ true) × (k.name x ≡ h.name x)

same_names : (h : Heap) → KeepsNames h h
same_names h x l = (l, refl)

kept_names : (h k : Heap) → SameBlocks h k → KeepsNames h k
kept_names h k e x l = (e.allocated x ∙ l, e.says.name x l)

-- a block copied to a free one
moved_names : (h k : Heap) (x y : ℕ) → h.allocated y ≡ false → SameBlocks (move h x y) k → KeepsNames h k
moved_names h k x y free e z l =
    let apart : (z == y) ≡ false = (let ne : z ≢ y = λ q. let t : true ≡ false = sym l ∙ ap h.allocated q ∙ free in cc in grind arith) in
    let allocated : (move h x y).allocated z ≡ true = rw apart l in
    let name : (move h x y).name z ≡ h.name z = rw apart refl in
    (e.allocated z ∙ allocated, e.says.name z allocated ∙ name)

moves_on : (h after : HeapState) (cost : ℕ) (place : Place) → h.phase ≡ phases.Moving place → Action h cost after → Rests after.phase × KeepsNames (seen h) (seen after)
moves_on h after cost place e (Scans_root next k f l sh) = absurd (let z : phases.Roots next ≡ phases.Moving place = sym f ∙ e in cc)
moves_on h after cost place e (Ends_roots next f l) = absurd (let z : phases.Roots next ≡ phases.Moving place = sym f ∙ e in cc)
moves_on h after cost place e (Scans_header part cell x front back f w g) = absurd (let z : phases.Marking part cell ≡ phases.Moving place = sym f ∙ e in cc)
moves_on h after cost place e (Scans_cell part cell new k f l w sh) = absurd (let z : phases.Marking part cell ≡ phases.Moving place = sym f ∙ e in cc)
moves_on h after cost place e (Ends_marking part cell f w g) = absurd (let z : phases.Marking part cell ≡ phases.Moving place = sym f ∙ e in cc)
moves_on h after cost place e (Frees_block page block p new f at was unmarked w pages) = absurd (let z : phases.Sweeping page block ≡ phases.Moving place = sym f ∙ e in cc)
moves_on h after cost place e (Passes_block page block p f at l marked) = absurd (let z : phases.Sweeping page block ≡ phases.Moving place = sym f ∙ e in cc)
moves_on h after cost place e (Closes_page page block new f l at w pages) = absurd (let z : phases.Sweeping page block ≡ phases.Moving place = sym f ∙ e in cc)
moves_on h after cost place e (Ends_sweep page block f l) = absurd (let z : phases.Sweeping page block ≡ phases.Moving place = sym f ∙ e in cc)
moves_on h after cost place e (Looks_at_page class page best chosen at few more) = (inr (moves.Pass class (page + 1) _ chosen, refl), same_names (seen h))
moves_on h after cost place e (Chooses_page class page best chosen c p new at few last is good there w pages) = (inr (moves.Emptying class c.page 0 (chosen + 1), refl), kept_names (seen h) _ (keeps_seen h new w))
moves_on h after cost place e (Chooses_none class page best chosen at few last is) = (inr (moves.Pass (class + 1) 0 _ chosen, refl), same_names (seen h))
moves_on h after cost place e (Moves_block class page block chosen i to j p q new f at evacuating next there into free w pages) = (
  inr (moves.Emptying class page (i + 1) chosen, refl),
  moved_names (seen h) _ _ (address_of p.class to j + 1) (behind true (λ z. is_allocated h.store z) (address_of p.class to j) ∙ w.free) (move_seen h new (address_of p.class page i) (address_of p.class to j) w),
)
moves_on h after cost place e (Ends_moving done) = (inl refl, same_names (seen h))

-- an address that read as a name goes on to read as it, even if nothing reaches it any more
pub reads_stay : (h after : HeapState) (cost : ℕ) (present snapshot : Graph) (place : Place) (x : ℕ) (n : Name) → Represents h present snapshot → h.phase ≡ phases.Moving place → Action h cost after
    → Reads (seen h) x n → Reads (seen after) x n
reads_stay h after cost present snapshot place x n w e action reads =
    let on = moves_on h after cost place e action in
    let old = at_rest h (view present) (view snapshot) w.consistent.parts (inr (place, e)) in
    let new = at_rest after (view present) (view snapshot) (represents_action h after cost present snapshot w action).consistent.parts on.0 in
    let kept = on.1 x reads.allocated in
    let name : (seen after).name x ≡ n = kept.1 ∙ reads_one (seen h) (view present) (view snapshot) old.at old.base old.rests x n reads in
    subst (Reads (seen after) x) name (reads_own (seen after) (view present) (view snapshot) new.at new.base new.rests x kept.0)
