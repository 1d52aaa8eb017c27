-- Each action, and each beginning of a cycle, keeps the invariant.
use Rattle.std.proofs.Common.{◌≡◌, ℕ, ◌+◌, ◌-◌, Bool, true, false, not, refl, arith, ◌==◌, if◌then◌else◌}
use Rattle.graph_heap.specs.Graph.{Graph}
use Rattle.heap_model.specs.declared.phase.Phase.TheVariants as phases
use Rattle.heap_model.specs.Store.{record_of}
use Rattle.heap_model.specs.Core.{Heap}
use Rattle.heap_model.specs.Cut.{view}
use Rattle.heap_model.specs.Pages.{ArePages}
use Rattle.heap_model.specs.State.{HeapState, seen, same_colour, collector_by}
use Rattle.heap_model.specs.Agreement.{Consistent}
use Rattle.heap_model.specs.Action.{Action, Scans_root, Ends_roots, Scans_header, Scans_cell, Ends_marking, Frees_block, Passes_block, Closes_page, Ends_sweep, Looks_at_page, Chooses_page, Chooses_none, Moves_block, Ends_moving, begun}
use Rattle.heap_model.proofs.Collector.Acts as collector
use Rattle.heap_model.proofs.Core.Same.{SameBlocks}
use Rattle.heap_model.proofs.Core.Edits.{flip}
use Rattle.heap_model.proofs.Collector.Coherence.{begins, same_coherent}
use Rattle.heap_model.proofs.Agreements.Implied.{stepped}
use Rattle.heap_model.proofs.Action.Collecting.{at_phase, root_act, roots_end_act, header_act, cell_act, marking_end_act, pass_act, free_act, close_act, sweep_end_act}
use Rattle.heap_model.proofs.Action.Moving.{pass_on_act, choose_act, move_act, moving_end_act}

pub action_kept : (h after : HeapState) (cost : ℕ) (present snapshot : Graph) → ArePages h.store.pages → Consistent h present snapshot → Action h cost after → Consistent after present snapshot
action_kept h after cost p s w c (Scans_root next k e l sh) = root_act h k p s next c e l sh
action_kept h after cost p s w c (Ends_roots next e l) = roots_end_act h p s next c e l
action_kept h after cost p s w c (Scans_header part cell x front back e f n) = header_act h p s part cell x front back c e f n
action_kept h after cost p s w c (Scans_cell part cell new k e l w0 sh) = cell_act h k p s part cell new c e l w0 sh
action_kept h after cost p s w c (Ends_marking part cell e f n) = marking_end_act h p s part cell c e f n
action_kept h after cost p s w c (Frees_block page block q new e f was unmarked w0 pages) = free_act h p s page block q new w c e f was unmarked w0 pages
action_kept h after cost p s w c (Passes_block page block q e f l marked) = pass_act h p s page block q w c e f l marked
action_kept h after cost p s w c (Closes_page page block new e l f w0 pages) = close_act h p s page block new w c e f w0
action_kept h after cost p s w c (Ends_sweep page block e l) = sweep_end_act h p s page block c e l
action_kept h after cost p s w c (Looks_at_page class page best chosen at few more) = pass_on_act h p s class page best chosen class (page + 1) _ c at
action_kept h after cost p s w c (Chooses_page class page best chosen b q new at few last is good there w0 pages) = choose_act h p s class page best chosen b q new c at good there w0 pages
action_kept h after cost p s w c (Chooses_none class page best chosen at few last is) = pass_on_act h p s class page best chosen (class + 1) 0 _ c at
action_kept h after cost p s w c (Moves_block class page block chosen i to j q r new e at evacuating next place there empty w0 pages) = move_act h p s class page block chosen i to j q r new w c e at evacuating next place there empty w0 pages _
action_kept h after cost p s w c (Ends_moving done) = moving_end_act h p s c done

-- a cycle begins
turned : (mark_parity c : Bool) → same_colour mark_parity c ≡ true → same_colour (not mark_parity) c ≡ false
turned true true e = refl
turned true false e = absurd (cc)
turned false true e = absurd (cc)
turned false false e = refl

other_marks : (h : Heap) (marked marked' : ℕ → Bool) → ((x : ℕ) → h.allocated x ≡ true → marked' x ≡ marked x) → SameBlocks (record h { marked = marked }) (record h { marked = marked' })
other_marks h marked marked' e = grind arith

flip_seen : (h : HeapState) → ((x : ℕ) → (seen h).allocated x ≡ true → (seen h).marked x ≡ true) → SameBlocks (flip (seen h)) (seen (begun h))
flip_seen h all = other_marks (seen h) _ _ (λ z m. by_null z (z == 0) refl (all z m))
  where
    by_null : (z : ℕ) (t : Bool) → (z == 0) ≡ t → (if t then true else same_colour h.mark_parity (record_of h.store (z - 1)).colour) ≡ true → (if t then true else same_colour (not h.mark_parity) (record_of h.store (z - 1)).colour) ≡ t
    by_null z true e m = refl
    by_null z false e m = turned h.mark_parity (record_of h.store (z - 1)).colour m

pub begun_kept : (h : HeapState) (present snapshot : Graph) → Consistent h present snapshot → h.phase ≡ phases.Idle → Consistent (begun h) present present
begun_kept h present snapshot c e =
    let m = collector_by (seen h) h.store.pages phases.Idle h.grey in
    let c0 = at_phase h phases.Idle (view present) (view snapshot) e c.parts in
    let c1 = begins m (view present) (view snapshot) c0 in
    let c2 = same_coherent (collector.begun m) (seen (begun h)) (view present) (view present) (flip_seen h c0.stage.marked) c1 in
    stepped h (begun h) present snapshot present present c refl refl refl refl refl refl c.present_row c.cells c.whole (record { at = c2.at; base = c2.base; stage = (c2.stage.0, (let w = c2.stage.1 in record { allocated = w.allocated; marked = w.marked; scanning_allocated = w.scanning_allocated; scanning_marked = w.scanning_marked; scanning_apart = w.scanning_apart; column = w.column; once = w.once })) })
