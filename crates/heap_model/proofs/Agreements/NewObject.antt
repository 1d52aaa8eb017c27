-- A new object is made, and a root names it.
use Rattle.std.proofs.Common.{◌≡◌, ℕ, ◌+◌, ◌<◌, Bool, true, false, List, [], ◌∷◌, ◌++◌, length, get_or, set, ap, subst, sym, ◌∙◌, inl, inr, ◌==◌, if◌then◌else◌}
use Rattle.std.specs.Prelude.{Option}
use Rattle.std.proofs.lemmas.List.{length-replicate}
use Rattle.graph_heap.specs.declared.command.Shape.{Shape}
use Rattle.graph_heap.specs.declared.command.Change.TheVariants as changes
use Rattle.graph_heap.specs.Shape.{ref_cells, word_cells, fits}
use Rattle.graph_heap.specs.Graph.{Object, Graph, object_of, new_object, changed}
use Rattle.heap_model.specs.declared.phase.Phase.{Phase}
use Rattle.heap_model.specs.declared.phase.Phase.TheVariants as phases
use Rattle.heap_model.specs.Pages.{Page}
use Rattle.heap_model.specs.Store.{Store}
use Rattle.heap_model.specs.Core.{PartGraph, Heap, Kept}
use Rattle.heap_model.specs.Agree.{IsMain}
use Rattle.heap_model.specs.Cut.{name_of, view}
use Rattle.heap_model.specs.Collector.{In_sweep, Greys, Coherent}
use Rattle.heap_model.specs.State.{HeapState, seen, collector_by, collector_of, reference_of}
use Rattle.heap_model.specs.Agreement.{HasItsCells, Consistent}
use Rattle.heap_model.specs.Written.{IsRecorded, KeepsPlace}
use Rattle.heap_model.specs.Making.{MakesObject}
use Rattle.heap_model.proofs.Core.NewParts.{made, parts_of}
use Rattle.heap_model.proofs.Collector.Barrier.{news, new_kept, staged}
use Rattle.heap_model.proofs.Cut.Changes.{appended, view-appended, object-append, parts_are}
use Rattle.heap_model.proofs.Making.{reference, making_whole, makes_object}
use Rattle.heap_model.proofs.Agreements.Written.{root_kept}

greys_same : (heap : Heap) (old new : List (Option Page)) (p : Phase) (grey : List ℕ) → Greys (collector_by heap old p grey) → Greys (collector_by heap new p grey)
greys_same heap old new p grey w = record { allocated = w.allocated; marked = w.marked; scanning_allocated = w.scanning_allocated; scanning_marked = w.scanning_marked; scanning_apart = w.scanning_apart; column = w.column; once = w.once }

-- the pages change, and the place of the phase stays
pub place_kept : (heap : Heap) (old new : List (Option Page)) (p : Phase) (grey : List ℕ) (g s : PartGraph) → KeepsPlace old new p → Coherent (collector_by heap old p grey) g s → Coherent (collector_by heap new p grey) g s
place_kept heap old new phases.Idle grey g s k c = record { at = c.at; base = c.base; stage = c.stage }
place_kept heap old new (phases.Roots next) grey g s k c = record { at = c.at; base = c.base; stage = (c.stage.0, greys_same heap old new (phases.Roots next) grey c.stage.1) }
place_kept heap old new (phases.Marking part cell) grey g s k c = record { at = c.at; base = c.base; stage = (c.stage.0, greys_same heap old new (phases.Marking part cell) grey c.stage.1) }
place_kept heap old new (phases.Sweeping page block) grey g s k c =
    staged (collector_by heap new (phases.Sweeping page block) grey) c.at g s (In_sweep (reference_of old page block)) (ap In_sweep k) c.base c.stage
place_kept heap old new (phases.Moving m) grey g s k c = record {
  at = c.at;
  base = c.base;
  stage = (
    c.stage.0,
    record { old = λ x l. elim (c.stage.1.old x l) [ inl e ↦ inl e | inr r ↦ inr (k.0 (heap.forward x) r) ] },
    record { old = λ x l. elim (c.stage.2.old x l) [ inl e ↦ inl e | inr r ↦ inr (k.1 x r) ] },
  );
}

new_cells : (shape : Shape) → HasItsCells (new_object shape)
new_cells shape = record { refs = length-replicate {A = ℕ} (ref_cells shape) 0; words = length-replicate {A = ℕ} (word_cells shape) 0 }

cells_append : (xs : List Object) (shape : Shape) → ((k : ℕ) → HasItsCells (object_of xs k)) → (k : ℕ) → HasItsCells (object_of (xs ++ new_object shape ∷ []) k)
cells_append xs shape all k = subst HasItsCells (sym (object-append xs (new_object shape) k)) (by_new (k == length xs + 1))
  where
    by_new : (b : Bool) → HasItsCells (if b then new_object shape else object_of xs k)
    by_new true = new_cells shape
    by_new false = all k

pub new_written : (h : HeapState) (present snapshot : Graph) (new : Store) (at : ℕ → ℕ) (j : ℕ) (shape : Shape) → Consistent h present snapshot → fits shape ≡ true → j < length h.roots → IsRecorded h (get_or h.roots j 0)
    → MakesObject h.store shape h.mark_parity h.next at new → KeepsPlace h.store.pages new.pages h.phase
    → Consistent (record h { store = new; next = h.next + 1; roots = set h.roots j (at 0 + 1) }) (changed present (changes.New j h.next shape)) snapshot
new_written h present snapshot new at j shape c f l rec making place =
    let h1 : HeapState = record h { store = new; next = h.next + 1 } in
    let ps = parts_of shape in
    let some = (parts_are shape).some in
    let mk = makes_object h shape at new f c.whole making in
    let c1 = news (collector_of h) (seen h1) (view present) (view snapshot) ps (reference at) c.parts (parts_are shape) mk in
    let c2 = subst (λ z. Coherent (record (collector_of h) { heap = seen h1 }) z (view snapshot)) (sym (view-appended present shape)) c1 in
    let c3 = place_kept (seen h1) h.store.pages new.pages h.phase h.grey (view (appended present shape)) (view snapshot) place c2 in
    let k1 : Consistent h1 (appended present shape) snapshot = record {
      limits = c.limits;
      live = c.live;
      row = c.row;
      present_row = c.present_row;
      snapshot_row = c.snapshot_row;
      cells = cells_append present.objects shape c.cells;
      whole = making_whole h.store shape h.mark_parity h.next at _ new making c.whole;
      parts = c3;
    } in
    let b = c.parts.base in
    let same : (view present).next ≡ h.next = sym b.next in
    let kept0 : Kept (length h.roots) (view snapshot) (made (view present) ps) (name_of h.next) = subst (λ z. Kept (length h.roots) (view snapshot) (made (view present) ps) (name_of z)) same (new_kept (collector_of h) (view present) (view snapshot) ps c.parts (parts_are shape)) in
    let kept : Kept (length h.roots) (view snapshot) (view (appended present shape)) (name_of h.next) = subst (λ z. Kept (length h.roots) (view snapshot) z (name_of h.next)) (sym (view-appended present shape)) kept0 in
    let main : IsMain (seen h1) (at 0 + 1) (name_of h.next) = record { allocated = mk.parts.allocated 0 some; forward = mk.parts.forward 0 some; name = mk.parts.name 0 some } in
    let x = get_or h.roots j 0 in
    let allocated : (seen h).allocated x ≡ true = b.root_allocated j l in
    let allocated_main : (seen h).allocated ((seen h).forward x) ≡ true = ap (seen h).allocated (b.root j l) ∙ b.allocated _ (b.grows.kept_root j l) in
    let rec1 : IsRecorded h1 x = λ t. ap (seen h1).marked (mk.stays.says.forward x allocated) ∙ mk.stays.says.marked ((seen h).forward x) allocated_main ∙ rec t in
    root_kept h1 (appended present shape) snapshot j (at 0 + 1) h.next k1 l rec1 kept main
