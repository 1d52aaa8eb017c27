-- A change that the heap does keeps what holds of it.
use Rattle.std.proofs.Common.{◌≡◌, ℕ, ◌+◌, ◌<◌, ◌≤◌, Bool, true, false, List, inl, length, get_or, set, refl, ap, subst, sym, ◌∙◌, inr, arith}
use Rattle.std.specs.Prelude.{Option}
use Rattle.graph_heap.specs.declared.command.Shape.{Shape}
use Rattle.graph_heap.specs.declared.command.Change.{Change}
use Rattle.graph_heap.specs.declared.command.Change.TheVariants as changes
use Rattle.graph_heap.specs.Shape.{fits}
use Rattle.graph_heap.specs.Graph.{Graph, object_of, nulled, first_slot, changed}
use Rattle.graph_heap.specs.Reach.{Reaches}
use Rattle.size_classes.specs.Parts.{cells_of, parts_in, part_in, column_in}
use Rattle.heap_model.specs.Block.{with_cell}
use Rattle.heap_model.specs.Pages.{Page, ArePages}
use Rattle.heap_model.specs.Store.{Store, Writes, record_of}
use Rattle.heap_model.specs.Core.{Name}
use Rattle.heap_model.specs.Agree.{IsMain, Reads}
use Rattle.heap_model.specs.Cut.{name_of, count_of, width_of}
use Rattle.heap_model.specs.State.{HeapState, seen, width_at}
use Rattle.heap_model.specs.Agreement.{Consistent}
use Rattle.heap_model.specs.Making.{MakesObject}
use Rattle.heap_model.specs.Alike.{IsFounded}
use Rattle.heap_model.specs.Written.{IsKnown, IsRecorded}
use Rattle.heap_model.specs.Spent.{DoesMore}
use Rattle.heap_model.specs.Placed.{KeepsPages, IsPlaced}
use Rattle.heap_model.specs.Marks.{AreClosed}
use Rattle.heap_model.specs.Represents.{Represents}
use Rattle.heap_model.specs.Taking.{Takes}
use Rattle.heap_model.specs.Change.{Records, HasCell, DoesChange, Does_nothing, Does_root, Does_ref, Does_word, Does_new, Does_join, Does_leave, Clears, Clears_none, Clears_next}
use Rattle.heap_model.proofs.Cut.Reaching.{part_at, column_at, part_below, column_below}
use Rattle.heap_model.proofs.Agreements.Implied.{consistent_agrees, part_kept}
use Rattle.heap_model.proofs.Alike.Sameness.{known_root, known_ref, length-nulled}
use Rattle.heap_model.proofs.Readings.Shown.{main_copy, ref_shown}
use Rattle.heap_model.proofs.Agreements.Written.{cells_sum, column_within, root_written, ref_written, word_written}
use Rattle.heap_model.proofs.Agreements.NewObject.{new_written}
use Rattle.heap_model.proofs.Spent.Mutators.{more_within, root_more, live_more, ref_more, word_more, new_more}
use Rattle.heap_model.proofs.Placed.{pages_same, place_stays}
use Rattle.heap_model.proofs.Marks.{taken_placed, taken_closed}
use Rattle.heap_model.proofs.Taking.{takes_pages, takes_keep, takes_count, sizes_stay}
use Rattle.heap_model.proofs.Change.Recording.{records_stay, records_cells, records_main, records_recorded, records_kept, records_more}

-- a heap with the same place, that has done no less, represents them too
pub represents_on : (h k : HeapState) (present snapshot present' : Graph) → Represents h present snapshot → Consistent k present' snapshot → ArePages k.store.pages → KeepsPages h.store.pages k.store.pages → DoesMore h k → Represents k present' snapshot
represents_on h k p s p' w c pages keeps more = record {
  pages = pages;
  some = (let a = more.pages in let b = w.some in omega arith);
  consistent = c;
  within = more_within h k more w.within;
  placed = subst (IsPlaced k.store.pages) (sym more.phase) (taken_placed h.store.pages k.store.pages h.phase w.placed keeps);
  closed = subst (AreClosed k.store.pages) (sym more.phase) (taken_closed h.store.pages k.store.pages h.phase w.closed keeps);
}

pub same_pages : (old new : List (Option Page)) → new ≡ old → KeepsPages old new
same_pages old new e = subst (λ z. KeepsPages old z) (sym e) (pages_same old)

pub represents_same : (h k : HeapState) (present snapshot present' : Graph) → Represents h present snapshot → Consistent k present' snapshot → k.store.pages ≡ h.store.pages → DoesMore h k → Represents k present' snapshot
represents_same h k p s p' w c e more = represents_on h k p s p' w c (subst ArePages (sym e) w.pages) (same_pages h.store.pages k.store.pages e) more

-- the barrier
pub represents_records : (h k : HeapState) (present snapshot : Graph) (x v : ℕ) → Represents h present snapshot → Records h x k → IsKnown present v → Reads (seen h) x (name_of v) → Represents k present snapshot
represents_records h k p s x v w r known reads = represents_same h k p s p w (records_kept h k p s x v w.consistent r known reads) (records_stay h k x r).pages (records_more h k x r)

-- what a root holds
root_reads : (h : HeapState) (present snapshot : Graph) (j : ℕ) → Consistent h present snapshot → j < length h.roots → Reads (seen h) (get_or h.roots j 0) (name_of (get_or present.roots j 0))
root_reads h p s j c l = (consistent_agrees h p s c).root j l

-- what a root held is recorded before it is overwritten
root_recorded : (h k : HeapState) (present snapshot : Graph) (cell : ℕ) → Represents h present snapshot → cell < length present.roots → Records h (get_or h.roots cell 0) k
    → Represents k present snapshot × (cell < length k.roots) × IsRecorded k (get_or k.roots cell 0)
root_recorded h k p s cell w l r =
    let c = w.consistent in
    let low : cell < length h.roots = subst (λ z. cell < z) (sym c.present_row) l in
    let reads = root_reads h p s cell c low in
    let stay = records_stay h k _ r in (
      represents_records h k p s (get_or h.roots cell 0) (get_or p.roots cell 0) w r (known_root p cell l) reads,
      subst (λ z. cell < length z) (sym stay.roots) low,
      subst (λ z. IsRecorded k (get_or z cell 0)) (sym stay.roots) (records_recorded h k _ _ r reads),
    )

represents_root : (h k : HeapState) (present snapshot : Graph) (cell id y : ℕ) → Represents h present snapshot → cell < length present.roots → IsKnown present id → Records h (get_or h.roots cell 0) k → IsMain (seen h) y (name_of id)
    → Represents (record k { roots = set k.roots cell y }) (changed present (changes.Root cell id)) snapshot
represents_root h k p s cell id y w l known r i =
    let before = root_recorded h k p s cell w l r in
    let v = before.0 in
    let c1 = root_written k p s cell y id v.consistent before.1 before.2 known (records_main h k _ y (name_of id) r i) in
    represents_same k (record k { roots = set k.roots cell y }) p s (changed p (changes.Root cell id)) v c1 refl (root_more k cell y)

-- roots that get null, one after the other: each heap on the way represents the graph heap whose roots
-- are null so far
represents_clears : (h : HeapState) (present snapshot : Graph) (first : ℕ) → Represents h present snapshot → (n : ℕ) (k : HeapState) → first + n ≤ length present.roots → Clears h first n k → Represents k (record present { roots = nulled present.roots first n }) snapshot
represents_clears h p s first w n k l Clears_none = w
represents_clears h p s first w n k l (Clears_next n0 j k0 c r) =
    let before : Graph = record p { roots = nulled p.roots first n0 } in
    let e = length-nulled p.roots first n0 in
    represents_root j k0 before s (first + n0) 0 0 (represents_clears h p s first w n0 j (omega arith) c) (omega arith) (inl refl) r (record { allocated = refl; forward = refl; name = refl })

-- who is live
represents_live : (h : HeapState) (present snapshot : Graph) (a b : List Bool) → Represents h present snapshot → a ≡ b → Represents (record h { live = a }) (record present { live = b }) snapshot
represents_live h p s a b w e =
    let c = w.consistent in
    represents_same h (record h { live = a }) p s (record p { live = b }) w (record { limits = c.limits; live = e; row = c.row; present_row = c.present_row; snapshot_row = c.snapshot_row; cells = c.cells; whole = c.whole; parts = c.parts }) refl (live_more h a)

-- a reference cell
represents_ref : (h k : HeapState) (present snapshot : Graph) (id i value address y : ℕ) (new : Store) → Represents h present snapshot → Reaches present id → i < length (object_of present.objects id).refs → IsKnown present value
    → HasCell h present id i address → Records h (get_or (record_of h.store address).cells (column_in i) 0) k → IsMain (seen h) y (name_of value)
    → Writes k.store new address (with_cell (record_of k.store address) (column_in i) y) → Represents (record k { store = new }) (changed present (changes.Ref id i value)) snapshot
represents_ref h k p s id i value address y new w reaches l known at r main writes =
    let c = w.consistent in
    let o = object_of p.objects id in
    let a = consistent_agrees h p s c in
    let copy = main_copy h address _ at in
    let reads = ref_shown h p id i address a reaches l copy in
    let v = represents_records h k p s _ (get_or o.refs i 0) w r (known_ref p id i (inr reaches) l) reads in
    let cells = records_cells h k _ address r copy.allocated in
    let at' = records_main h k _ (address + 1) _ r at in
    let recorded = subst (λ z. IsRecorded k (get_or z (column_in i) 0)) (sym cells) (records_recorded h k _ _ r reads) in
    let c1 = ref_written k p s new address y id i value v.consistent reaches l at' recorded known (records_main h k _ y (name_of value) r main) writes in
    let sum = cells_sum o (c.cells id) in
    let below : part_at o i < count_of o = part_below o i l in
    let n : Name = record { identity = id; part = part_at o i } in
    let at'' : IsMain (seen k) (address + 1) n = subst (λ z. IsMain (seen k) (address + 1) (record { identity = id; part = part_in z i })) (sym sum) at' in
    let within = column_within k p s v.consistent address n (part_kept k p s v.consistent id (part_at o i) reaches below) at'' below in
    let column : column_at o i < width_of o (part_at o i) = column_below o i l in
    let column' : column_at o i < width_at (record_of k.store address) = subst (λ z. column_at o i < z) (sym within.0) column in
    let wide : column_in i < width_at (record_of k.store address) = subst (λ z. column_in i < width_at (record_of k.store address)) sum column' in
    let inside : column_in i < length (record_of k.store address).cells = (let e = within.1 in omega arith) in
    represents_same k (record k { store = new }) p s (changed p (changes.Ref id i value)) v c1 writes.pages (ref_more k new address (column_in i) y writes inside wide)

-- a new object
represents_new : (h k : HeapState) (present snapshot : Graph) (cell id : ℕ) (shape : Shape) (new : Store) (at : ℕ → ℕ) → Represents h present snapshot → cell < length present.roots → id ≡ length present.objects + 1 → fits shape ≡ true
    → Records h (get_or h.roots cell 0) k → MakesObject k.store shape k.mark_parity k.next at new → Takes (cells_of shape) at k.store.pages (parts_in (cells_of shape)) new.pages
    → Represents (record k { store = new; next = k.next + 1; roots = set k.roots cell (at 0 + 1) }) (changed present (changes.New cell id shape)) snapshot
represents_new h k p s cell id shape new at w l same f r makes takes =
    let before = root_recorded h k p s cell w l r in
    let v = before.0 in
    let keeps = takes_keep (cells_of shape) at k.store.pages (parts_in (cells_of shape)) new.pages takes in
    let count = takes_count (cells_of shape) at k.store.pages (parts_in (cells_of shape)) new.pages takes in
    let c1 = new_written k p s new at cell shape v.consistent f before.1 before.2 makes (place_stays k.store.pages new.pages k.phase v.placed keeps) in
    let next : k.next ≡ id = (consistent_agrees k p s v.consistent).next ∙ sym same in
    let c2 = subst (λ z. Consistent (record k { store = new; next = k.next + 1; roots = set k.roots cell (at 0 + 1) }) (changed p (changes.New cell z shape)) s) next c1 in
    let more = new_more k new at cell shape f v.consistent.whole makes count (sizes_stay k.store new keeps) in
    represents_on k (record k { store = new; next = k.next + 1; roots = set k.roots cell (at 0 + 1) }) p s (changed p (changes.New cell id shape)) v c2
    (takes_pages (cells_of shape) at k.store.pages (parts_in (cells_of shape)) new.pages v.pages takes) keeps more

-- each change of what is there
pub represents_changed : (h after : HeapState) (present snapshot : Graph) (c : Change) → Represents h present snapshot → IsFounded present c → DoesChange h present c after → Represents after (changed present c) snapshot
represents_changed h after p s c w f Does_nothing = w
represents_changed h after p s c w f (Does_root cell id y k r i) = represents_root h k p s cell id y w f.0 f.1 r i
represents_changed h after p s c w f (Does_ref id i value address y k new at r main writes) = represents_ref h k p s id i value address y new w f.0 f.2 f.3 at r main writes
represents_changed h after p s c w f (Does_word id i word address new at writes) =
    represents_same h (record h { store = new }) p s (changed p (changes.Word id i word)) w (word_written h p s new address id i word w.consistent f.0 f.2 at writes) writes.pages (word_more h new address (column_in i) word writes)
represents_changed h after p s c w f (Does_new cell id shape k new at r makes takes) = represents_new h k p s cell id shape new at w f.0 f.1 f.2 r makes takes
represents_changed h after p s c w f (Does_join m) = represents_live h p s (set h.live m true) (set p.live m true) w (ap (λ z. set z m true) w.consistent.live)
represents_changed h after p s c w f (Does_leave m k clears) =
    let v = represents_clears h p s (first_slot p.limits m) w p.limits.slots k f clears in
    represents_live k (record p { roots = nulled p.roots (first_slot p.limits m) p.limits.slots }) s (set k.live m false) (set p.live m false) v (ap (λ z. set z m false) v.consistent.live)
