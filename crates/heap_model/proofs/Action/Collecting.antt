-- Each action of roots, marking and sweeping keeps the invariant.
use Rattle.std.proofs.Common.{◌≡◌, ◌≢◌, ℕ, ◌+◌, ◌-◌, ◌*◌, ◌/◌, ◌<◌, ◌≤◌, Bool, true, false, List, [], ◌∷◌, ◌++◌, length, get_or, set, drop, refl, ap, subst, sym, ◌∙◌, arith, ◌==◌, if◌then◌else◌, length-set}
use Rattle.std.specs.Prelude.{Option, Some, None, slice_get}
use Rattle.std.proofs.lemmas.Option.{slice_get_within, same_Some}
use Rattle.graph_heap.specs.Graph.{Graph}
use Rattle.size_classes.specs.Parts.{part_cells, cells_of}
use Rattle.size_classes.specs.Sizes.{size_of}
use Rattle.graph_heap.specs.Shape.{ref_cells, word_cells}
use Rattle.heap_model.specs.declared.phase.Phase.{Phase}
use Rattle.heap_model.specs.declared.phase.Phase.TheVariants as phases
use Rattle.heap_model.specs.declared.phase.Moving.TheVariants as moves
use Rattle.heap_model.specs.Block.{BlockRecord, with_cell, with_colour}
use Rattle.heap_model.specs.Pages.{ArePages, Page, page_at, with_allocated}
use Rattle.heap_model.specs.Store.{Store, Writes, is_allocated, size_in, record_of, address_of}
use Rattle.heap_model.specs.Core.{Name, null, PartGraph, Heap, Kept, Tracing}
use Rattle.heap_model.specs.Cut.{view}
use Rattle.heap_model.specs.Collector.{In_idle, In_marking, In_sweep, In_moves, Collector, done_of, Greys, Coherent}
use Rattle.heap_model.specs.State.{HeapState, seen, width_at, same_colour, collector_by, collector_of, reference_of, is_target_page, is_left, page_of}
use Rattle.heap_model.specs.Agreement.{IsWhole, Consistent}
use Rattle.heap_model.specs.Action.{Shades, Was_marked, Is_marked, KeepsBlocks, Frees, goes_to, is_looked_at, after_sweep, is_sparse}
use Rattle.heap_model.proofs.Collector.Acts as collector
use Rattle.heap_model.proofs.Core.Same.{SameBlocks}
use Rattle.heap_model.proofs.Core.Edits.{shade, set_root, set_cell, free}
use Rattle.heap_model.proofs.Collector.Acts.{root_scanned, cell_scanned}
use Rattle.heap_model.proofs.Collector.Coherence.{acts, same_coherent, placed_coherent}
use Rattle.heap_model.proofs.State.{allocated_put, field_kept, behind, write_seen, root_seen, cell_seen}
use Rattle.heap_model.proofs.Agreements.Implied.{stepped}
use Rattle.heap_model.proofs.Agreements.Written.{whole_write, whole_cell, width_le}
use Rattle.heap_model.proofs.Store.Allocated.{set_page_here, page_within, is_page, allocated_block, block_within, size_some, page_of_place, index_same}

-- in a phase that is known
pub at_phase : (h : HeapState) (p : Phase) (g s : PartGraph) → h.phase ≡ p → Coherent (collector_of h) g s → Coherent (collector_by (seen h) h.store.pages p h.grey) g s
at_phase h p g s e c = subst (λ z. Coherent (collector_by (seen h) h.store.pages z h.grey) g s) e c

-- the heap after an action, with the graph heaps as they were
pub again : (h after : HeapState) (present snapshot : Graph) → Consistent h present snapshot → after.limits ≡ h.limits → after.live ≡ h.live → length after.roots ≡ length h.roots → IsWhole after.store → Coherent (collector_of after) (view present) (view snapshot) → Consistent after present snapshot
again h after present snapshot c limits live roots whole parts = stepped h after present snapshot present snapshot c limits live roots refl refl refl c.snapshot_row c.cells whole parts

-- a main copy is shaded
colour_after : (h : HeapState) (new : Store) (x : ℕ) → x ≢ 0 → Writes h.store new (x - 1) (with_colour (record_of h.store (x - 1)) h.mark_parity) → (z : ℕ) → (seen h).allocated z ≡ true
    → (if z == 0 then true else same_colour h.mark_parity (record_of new (z - 1)).colour) ≡ (if z == x then true else (if z == 0 then true else same_colour h.mark_parity (record_of h.store (z - 1)).colour))
colour_after h new x some w z l = by_here (z == x) refl l
  where
    same : (c : Bool) → same_colour c c ≡ true
    same true = refl
    same false = refl

    by_null : (t : Bool) → (z == 0) ≡ t → z ≢ x → (if t then true else is_allocated h.store (z - 1)) ≡ true → (if t then true else same_colour h.mark_parity (record_of new (z - 1)).colour) ≡ (if t then true else same_colour h.mark_parity (record_of h.store (z - 1)).colour)
    by_null true q ne l = refl
    by_null false q ne l = ap (λ (n : BlockRecord). same_colour h.mark_parity n.colour) (w.others (z - 1) l (let p : z ≢ 0 = grind arith in omega arith))

    by_here : (t : Bool) → (z == x) ≡ t → (if z == 0 then true else is_allocated h.store (z - 1)) ≡ true → (if z == 0 then true else same_colour h.mark_parity (record_of new (z - 1)).colour) ≡ (if t then true else (if z == 0 then true else same_colour h.mark_parity (record_of h.store (z - 1)).colour))
    by_here true q l =
        let e : z ≡ x = grind arith in
        let f : (z == 0) ≡ false = (let p : z ≢ 0 = grind arith in grind arith) in
        rw f (ap (λ i. same_colour h.mark_parity (record_of new (i - 1)).colour) e ∙ ap (λ (n : BlockRecord). same_colour h.mark_parity n.colour) w.here ∙ same h.mark_parity)
    by_here false q l = by_null (z == 0) refl (grind arith) l

pub colour_seen : (h : HeapState) (new : Store) (x : ℕ) → x ≢ 0 → Writes h.store new (x - 1) (with_colour (record_of h.store (x - 1)) h.mark_parity) → SameBlocks (shade (seen h) x) (seen (record h { store = new }))
colour_seen h new x some w =
    let n = with_colour (record_of h.store (x - 1)) h.mark_parity in
    write_seen h new (x - 1) _ _ _ _ _ w
    (λ z m. let f = λ (y : BlockRecord). drop (width_at y) y.cells in field_kept [] f h.store new (x - 1) n w z m (λ e. refl))
    (λ z m. colour_after h new x some w z m)
    (λ z i m b. field_kept 0 (λ y. get_or y.cells i 0) h.store new (x - 1) n w z m (λ e. refl))

-- what is marked is shaded already
pub shaded_already : (heap : Heap) (x : ℕ) → heap.marked x ≡ true → SameBlocks (shade heap x) heap
shaded_already heap x e = grind arith

pub same_shade : (a b : Heap) (x : ℕ) → SameBlocks a b → SameBlocks (shade a x) (shade b x)
same_shade a b x e = grind arith

pub shaded_state : (h k : HeapState) (x : ℕ) (p : Phase) (g s : PartGraph) → Shades h x k → Coherent (collector_by (shade (seen h) x) h.store.pages p (if (seen h).marked x then h.grey else x ∷ h.grey)) g s → Coherent (collector_by (seen k) k.store.pages p k.grey) g s
shaded_state h k x p g s (Was_marked e) c =
    let c1 : Coherent (collector_by (shade (seen h) x) h.store.pages p h.grey) g s = subst (λ b. Coherent (collector_by (shade (seen h) x) h.store.pages p (if b then h.grey else x ∷ h.grey)) g s) e c in
    same_coherent (collector_by (shade (seen h) x) h.store.pages p h.grey) (seen h) g s (shaded_already (seen h) x e) c1
shaded_state h k x p g s (Is_marked new front back is e w) c =
    let c1 : Coherent (collector_by (shade (seen h) x) h.store.pages p (x ∷ h.grey)) g s = subst (λ b. Coherent (collector_by (shade (seen h) x) h.store.pages p (if b then h.grey else x ∷ h.grey)) g s) e c in
    let some : x ≢ 0 = λ z. let t : (seen h).marked x ≡ true = ap (seen h).marked z in (let q : false ≡ true = sym e ∙ t in cc) in
    let c2 = same_coherent (collector_by (shade (seen h) x) h.store.pages p (x ∷ h.grey)) (seen (record h { store = new })) g s (colour_seen h new x some w) c1 in
    let c3 = placed_coherent (collector_by (seen (record h { store = new })) h.store.pages p (x ∷ h.grey)) front back x (ap (λ (l : List ℕ). x ∷ l) is) g s c2 in
    subst (λ z. Coherent (collector_by (seen (record h { store = new })) z p (front ++ x ∷ back)) g s) (sym w.pages) c3

pub shades_live : (h k : HeapState) (x : ℕ) → Shades h x k → k.live ≡ h.live
shades_live h k x (Was_marked e) = refl
shades_live h k x (Is_marked new front back is m w) = refl

pub shades_limits : (h k : HeapState) (x : ℕ) → Shades h x k → k.limits ≡ h.limits
shades_limits h k x (Was_marked e) = refl
shades_limits h k x (Is_marked new front back is e w) = refl

pub shades_roots : (h k : HeapState) (x : ℕ) → Shades h x k → k.roots ≡ h.roots
shades_roots h k x (Was_marked e) = refl
shades_roots h k x (Is_marked new front back is e w) = refl

pub shades_whole : (h k : HeapState) (x : ℕ) → Shades h x k → IsWhole h.store → IsWhole k.store
shades_whole h k x (Was_marked e) w = w
shades_whole h k x (Is_marked new front back is e w) i = whole_write h.store new (x - 1) _ w refl refl refl i

-- a root is scanned
pub root_act : (h k : HeapState) (present snapshot : Graph) (next : ℕ) → Consistent h present snapshot → h.phase ≡ phases.Roots next → next < length h.roots
    → Shades (record h { roots = set h.roots next ((seen h).forward (get_or h.roots next 0)) }) ((seen h).forward (get_or h.roots next 0)) k → Consistent (goes_to k 1 (phases.Roots (next + 1))) present snapshot
root_act h k present snapshot next c e l sh =
    let x = (seen h).forward (get_or h.roots next 0) in
    let h1 : HeapState = record h { roots = set h.roots next x } in
    let m = collector_by (seen h) h.store.pages (phases.Roots next) h.grey in
    let c0 = at_phase h (phases.Roots next) (view present) (view snapshot) e c.parts in
    let c1 = acts m (root_scanned m next) (view present) (view snapshot) (collector.Scans_root next refl l) c0 in
    let c2 = same_coherent (root_scanned m next) (shade (seen h1) x) (view present) (view snapshot) (same_shade (set_root (seen h) next x) (seen h1) x (root_seen h next x l)) c1 in
    let c3 = shaded_state h1 k x (phases.Roots (next + 1)) (view present) (view snapshot) sh c2 in
    again h (goes_to k 1 (phases.Roots (next + 1))) present snapshot c (shades_limits h1 k x sh) (shades_live h1 k x sh) (ap length (shades_roots h1 k x sh) ∙ length-set h.roots next x) (shades_whole h1 k x sh c.whole) c3

pub roots_end_act : (h : HeapState) (present snapshot : Graph) (next : ℕ) → Consistent h present snapshot → h.phase ≡ phases.Roots next → length h.roots ≤ next → Consistent (goes_to h 1 (phases.Marking 0 0)) present snapshot
roots_end_act h present snapshot next c e l =
    let m = collector_by (seen h) h.store.pages (phases.Roots next) h.grey in
    let c0 = at_phase h (phases.Roots next) (view present) (view snapshot) e c.parts in
    let c1 = acts m (record m { phase = In_marking }) (view present) (view snapshot) (collector.Ends_roots next refl l) c0 in
    let c2 : Coherent (collector_by (seen h) h.store.pages (phases.Marking 0 0) h.grey) (view present) (view snapshot) = record { at = c1.at; base = c1.base; stage = (c1.stage.0, (let w = c1.stage.1 in record { allocated = w.allocated; marked = w.marked; scanning_allocated = w.scanning_allocated; scanning_marked = w.scanning_marked; scanning_apart = w.scanning_apart; column = w.column; once = w.once })) } in
    again h (goes_to h 1 (phases.Marking 0 0)) present snapshot c refl refl refl c.whole c2

-- a part is taken for scanning
pub header_act : (h : HeapState) (present snapshot : Graph) (part cell x : ℕ) (front back : List ℕ) → Consistent h present snapshot → h.phase ≡ phases.Marking part cell → cell ≡ (seen h).width part → h.grey ≡ front ++ x ∷ back
    → Consistent (goes_to (record h { grey = front ++ back }) 1 (phases.Marking x 0)) present snapshot
header_act h present snapshot part cell x front back c e f n =
    let m = collector_by (seen h) h.store.pages (phases.Marking part cell) h.grey in
    let c0 = at_phase h (phases.Marking part cell) (view present) (view snapshot) e c.parts in
    let c1 = acts m (record m { grey = front ++ back; scanning = x; column = 0 }) (view present) (view snapshot) (collector.Scans_header front back x refl f n) c0 in
    let c2 : Coherent (collector_by (seen h) h.store.pages (phases.Marking x 0) (front ++ back)) (view present) (view snapshot) = record { at = c1.at; base = c1.base; stage = (c1.stage.0, (let w = c1.stage.1 in record { allocated = w.allocated; marked = w.marked; scanning_allocated = w.scanning_allocated; scanning_marked = w.scanning_marked; scanning_apart = w.scanning_apart; column = w.column; once = w.once })) } in
    again h (goes_to (record h { grey = front ++ back }) 1 (phases.Marking x 0)) present snapshot c refl refl refl c.whole c2

-- the cells of an allocated block
pub wide_within : (h : HeapState) (a : ℕ) → IsWhole h.store → is_allocated h.store a ≡ true → width_at (record_of h.store a) ≤ length (record_of h.store a).cells
wide_within h a w l = let n = record_of h.store a in let e = w a l in let le = width_le (ref_cells n.shape) (word_cells n.shape) n.part in omega arith

-- the part in scan is the main copy of a part that is kept, and the next cell is one of its cells
in_scan : (m : Collector) (g s : PartGraph) (c : Coherent m g s) → (Tracing m.heap g s c.at (done_of m) m.heap.roots × Greys m) → m.column < m.heap.width m.scanning
    → let n = m.heap.name m.scanning in Kept m.heap.roots s g n × ((m.scanning ≡ c.at n) × (m.column < g.width n))
in_scan m g s c st l =
    let b = c.base in
    let x = m.scanning in
    let n = m.heap.name x in
    let k = st.0.marked_kept x st.1.scanning_allocated st.1.scanning_marked in
    let e : x ≡ c.at n = st.0.marked_main x st.1.scanning_allocated st.1.scanning_marked in
    (k, (e, (let v = b.width n k in let u = ap m.heap.width e in omega arith)))

-- what the next cell of the part in scan forwards to is allocated
pub scanned_allocated : (m : Collector) (g s : PartGraph) (c : Coherent m g s) → (Tracing m.heap g s c.at (done_of m) m.heap.roots × Greys m) → m.column < m.heap.width m.scanning → m.heap.allocated (m.heap.forward (m.heap.cell m.scanning m.column)) ≡ true
scanned_allocated m g s c st l =
    let b = c.base in
    let n = m.heap.name m.scanning in
    let q = in_scan m g s c st l in
    let same : m.heap.cell m.scanning m.column ≡ m.heap.cell (c.at n) m.column = ap (λ z. m.heap.cell z m.column) q.1.0 in
    ap m.heap.allocated (ap m.heap.forward same ∙ b.cell n m.column q.0 q.1.1) ∙ b.allocated (g.target n m.column) (b.grows.kept_target n m.column q.0 q.1.1)

-- and so is what it holds
pub scanned_cell_allocated : (m : Collector) (g s : PartGraph) (c : Coherent m g s) → (Tracing m.heap g s c.at (done_of m) m.heap.roots × Greys m) → m.column < m.heap.width m.scanning → m.heap.allocated (m.heap.cell m.scanning m.column) ≡ true
scanned_cell_allocated m g s c st l =
    let q = in_scan m g s c st l in
    ap (λ z. m.heap.allocated (m.heap.cell z m.column)) q.1.0 ∙ c.base.cell_allocated (m.heap.name m.scanning) m.column q.0 q.1.1

-- what a write to the part in scan shows
pub cell_blocks : (h : HeapState) (present snapshot : Graph) (part cell : ℕ) (new : Store) → Consistent h present snapshot → h.phase ≡ phases.Marking part cell → cell < (seen h).width part
    → Writes h.store new (part - 1) (with_cell (record_of h.store (part - 1)) cell ((seen h).forward ((seen h).cell part cell)))
    → let x = (seen h).forward ((seen h).cell part cell) in SameBlocks (set_cell (seen h) part cell x) (seen (record h { store = new })) × ((seen (record h { store = new })).marked x ≡ (seen h).marked x)
cell_blocks h present snapshot part cell new c e l w =
    let x = (seen h).forward ((seen h).cell part cell) in
    let h1 : HeapState = record h { store = new } in
    let m = collector_by (seen h) h.store.pages (phases.Marking part cell) h.grey in
    let c0 = at_phase h (phases.Marking part cell) (view present) (view snapshot) e c.parts in
    let some : part ≢ 0 = λ z. let q : (seen h).width part ≡ 0 = ap (seen h).width z in omega arith in
    let is : part - 1 + 1 ≡ part = omega arith in
    let allocated : is_allocated h.store (part - 1) ≡ true = sym (behind true (λ z. is_allocated h.store z) (part - 1)) ∙ ap (seen h).allocated is ∙ c0.stage.1.scanning_allocated in
    let wide : (seen h).width part ≡ width_at (record_of h.store (part - 1)) = ap (seen h).width (sym is) ∙ behind 0 (λ z. width_at (record_of h.store z)) (part - 1) in
    let within : cell < width_at (record_of h.store (part - 1)) = subst (λ z. cell < z) wide l in
    let inside : cell < length (record_of h.store (part - 1)).cells = (let q = wide_within h (part - 1) c.whole allocated in omega arith) in
    let blocks : SameBlocks (set_cell (seen h) part cell x) (seen h1) = subst (λ z. SameBlocks (set_cell (seen h) z cell x) (seen h1)) is (cell_seen h new (part - 1) cell x w inside within) in
    (blocks, blocks.says.marked x (scanned_allocated m (view present) (view snapshot) c0 c0.stage l))

-- a reference cell is scanned
pub cell_act : (h k : HeapState) (present snapshot : Graph) (part cell : ℕ) (new : Store) → Consistent h present snapshot → h.phase ≡ phases.Marking part cell → cell < (seen h).width part
    → Writes h.store new (part - 1) (with_cell (record_of h.store (part - 1)) cell ((seen h).forward ((seen h).cell part cell))) → Shades (record h { store = new }) ((seen h).forward ((seen h).cell part cell)) k
    → Consistent (goes_to k 1 (phases.Marking part (cell + 1))) present snapshot
cell_act h k present snapshot part cell new c e l w sh =
    let x = (seen h).forward ((seen h).cell part cell) in
    let h1 : HeapState = record h { store = new } in
    let m = collector_by (seen h) h.store.pages (phases.Marking part cell) h.grey in
    let c0 = at_phase h (phases.Marking part cell) (view present) (view snapshot) e c.parts in
    let blocks = cell_blocks h present snapshot part cell new c e l w in
    let c1 = acts m (cell_scanned m) (view present) (view snapshot) (collector.Scans_cell refl l) c0 in
    let c2 = same_coherent (cell_scanned m) (shade (seen h1) x) (view present) (view snapshot) (same_shade (set_cell (seen h) part cell x) (seen h1) x blocks.0) c1 in
    let c2' : Coherent (collector_by (shade (seen h1) x) h.store.pages (phases.Marking part (cell + 1)) (if (seen h).marked x then h.grey else x ∷ h.grey)) (view present) (view snapshot) = record { at = c2.at; base = c2.base; stage = (c2.stage.0, (let v = c2.stage.1 in record { allocated = v.allocated; marked = v.marked; scanning_allocated = v.scanning_allocated; scanning_marked = v.scanning_marked; scanning_apart = v.scanning_apart; column = v.column; once = v.once })) } in
    let c3 = subst (λ b. Coherent (collector_by (shade (seen h1) x) h.store.pages (phases.Marking part (cell + 1)) (if b then h.grey else x ∷ h.grey)) (view present) (view snapshot)) (sym blocks.1) c2' in
    let c4 = subst (λ z. Coherent (collector_by (shade (seen h1) x) z (phases.Marking part (cell + 1)) (if (seen h1).marked x then h1.grey else x ∷ h1.grey)) (view present) (view snapshot)) (sym w.pages) c3 in
    let c5 = shaded_state h1 k x (phases.Marking part (cell + 1)) (view present) (view snapshot) sh c4 in
    again h (goes_to k 1 (phases.Marking part (cell + 1))) present snapshot c (shades_limits h1 k x sh) (shades_live h1 k x sh) (ap length (shades_roots h1 k x sh)) (shades_whole h1 k x sh (whole_cell h.store new (part - 1) cell x w c.whole)) c5

-- marking ends
pub marking_end_act : (h : HeapState) (present snapshot : Graph) (part cell : ℕ) → Consistent h present snapshot → h.phase ≡ phases.Marking part cell → cell ≡ (seen h).width part → h.grey ≡ [] → Consistent (goes_to h 1 (phases.Sweeping 0 0)) present snapshot
marking_end_act h present snapshot part cell c e f n =
    let m = collector_by (seen h) h.store.pages (phases.Marking part cell) h.grey in
    let c0 = at_phase h (phases.Marking part cell) (view present) (view snapshot) e c.parts in
    let m1 : Collector = record m { phase = In_sweep 0 } in
    let c1 = acts m m1 (view present) (view snapshot) (collector.Ends_marking refl f n) c0 in
    let first : reference_of h.store.pages 0 0 ≡ 1 = omega arith in
    let c2 = acts m1 (record m1 { phase = In_sweep (reference_of h.store.pages 0 0) }) (view present) (view snapshot) (collector.Keeps 0 (reference_of h.store.pages 0 0) refl (λ z l low high. let zero : z ≡ 0 = omega arith in ap (seen h).marked zero)) c1 in
    let c3 : Coherent (collector_by (seen h) h.store.pages (phases.Sweeping 0 0) h.grey) (view present) (view snapshot) = record { at = c2.at; base = c2.base; stage = c2.stage } in
    again h (goes_to h 1 (phases.Sweeping 0 0)) present snapshot c refl refl refl c.whole c3

-- the sweeper's place goes on
sweep_on : (heap : Heap) (old new : List (Option Page)) (page block page' block' : ℕ) (grey : List ℕ) (g s : PartGraph) → Coherent (collector_by heap old (phases.Sweeping page block) grey) g s
    → ((z : ℕ) → heap.allocated z ≡ true → reference_of old page block ≤ z → z < reference_of new page' block' → heap.marked z ≡ true) → Coherent (collector_by heap new (phases.Sweeping page' block') grey) g s
sweep_on heap old new page block page' block' grey g s c k =
    let m = collector_by heap old (phases.Sweeping page block) grey in
    let c1 = acts m (record m { phase = In_sweep (reference_of new page' block') }) g s (collector.Keeps (reference_of old page block) (reference_of new page' block') refl k) c in
    record { at = c1.at; base = c1.base; stage = c1.stage }

-- the one block that starts between two places of a page
between : (s : Store) (page block : ℕ) (p : Page) (z : ℕ) → ArePages s.pages → page_at s.pages page ≡ Some p → block < length p.allocated → 0 < z → is_allocated s (z - 1) ≡ true → reference_of s.pages page block ≤ z → z < 2048 * page + (block + 1) * size_in (page_at s.pages page) + 1
    → (slice_get p.allocated block ≡ Some true) × (z ≡ address_of p.class page block + 1)
between s page block p z w e l some allocated low high =
    let q = allocated_block s (z - 1) allocated in
    let p' = q.0 in
    let i = q.1 in
    let is = is_page s page p w e in
    let size : size_in (page_at s.pages page) ≡ size_of p.class = ap size_in e in
    let low' : 2048 * page + block * size_of p.class + 1 ≤ z = subst (λ y. 2048 * page + block * y + 1 ≤ z) size low in
    let high' : z < 2048 * page + (block + 1) * size_of p.class + 1 = subst (λ y. z < 2048 * page + (block + 1) * y + 1) size high in
    let within = block_within p block is l in
    let here : (z - 1) / 2048 ≡ page = page_of_place page (z - 1) (omega arith) (omega arith) in
    let same : p' ≡ p = same_Some p' p (sym q.2.page ∙ ap (page_at s.pages) here ∙ e) in
    let address : z - 1 ≡ 2048 * page + i * size_of p.class = q.2.address ∙ ap (λ y. 2048 * y + i * size_of p'.class) here ∙ ap (λ (y : Page). 2048 * page + i * size_of y.class) same in
    let index : i ≡ block = index_same (2048 * page) i block (size_of p.class) (size_some p is) (omega arith) (omega arith) in
    (ap (slice_get p.allocated) (sym index) ∙ ap (λ (y : Page). slice_get y.allocated i) (sym same) ∙ q.2.allocated, (let a : i * size_of p.class ≡ block * size_of p.class = ap (λ y. y * size_of p.class) index in omega arith))

-- what is allocated, by reference
pub allocated_behind : (h : HeapState) (z : ℕ) → 0 < z → (seen h).allocated z ≡ true → is_allocated h.store (z - 1) ≡ true
allocated_behind h z some l = let e : (z == 0) ≡ false = grind arith in let q : (seen h).allocated z ≡ is_allocated h.store (z - 1) = rw e refl in sym q ∙ l

-- a block is looked at, and stays
pub pass_act : (h : HeapState) (present snapshot : Graph) (page block : ℕ) (p : Page) → ArePages h.store.pages → Consistent h present snapshot → h.phase ≡ phases.Sweeping page block → page_at h.store.pages page ≡ Some p → block < length p.allocated
    → (slice_get p.allocated block ≡ Some true → (seen h).marked (address_of p.class page block + 1) ≡ true) → Consistent (goes_to h 1 (phases.Sweeping page (block + 1))) present snapshot
pass_act h present snapshot page block p store c e f l marked =
    let c0 = at_phase h (phases.Sweeping page block) (view present) (view snapshot) e c.parts in
    let c1 = sweep_on (seen h) h.store.pages h.store.pages page block page (block + 1) h.grey (view present) (view snapshot) c0 (λ z allocated low high.
    let q = between h.store page block p z store f l (omega arith) (allocated_behind h z (omega arith) allocated) low high in
    ap (seen h).marked q.1 ∙ marked q.0) in
    again h (goes_to h 1 (phases.Sweeping page (block + 1))) present snapshot c refl refl refl c.whole c1

-- each block says the same, and the allocated ones are given
all_kept : (h : HeapState) (new : Store) (allocated : ℕ → Bool) → ((x : ℕ) → (seen (record h { store = new })).allocated x ≡ allocated x)
    → ((A : Type 0) (none : A) (f : BlockRecord → A) (x : ℕ) → allocated x ≡ true → (if x == 0 then none else f (record_of new (x - 1))) ≡ (if x == 0 then none else f (record_of h.store (x - 1))))
    → SameBlocks (record (seen h) { allocated = allocated }) (seen (record h { store = new }))
all_kept h new allocated e kept = record {
  next = refl;
  roots = refl;
  root = λ j m. refl;
  allocated = e;
  says = record {
    forward = λ z m. kept _ 0 (λ y. y.forward + 1) z m;
    name = λ z m. let f = λ (y : BlockRecord). let k : Name = record { identity = y.identity; part = y.part } in k in kept _ null f z m;
    width = λ z m. kept _ 0 width_at z m;
    words = λ z m. let f = λ (y : BlockRecord). drop (width_at y) y.cells in kept _ [] f z m;
    shape = λ z m. let f = λ (y : BlockRecord). y.shape in kept _ _ f z m;
    marked = λ z m. kept _ true (λ y. same_colour h.mark_parity y.colour) z m;
    cell = λ z i m b. kept _ 0 (λ y. get_or y.cells i 0) z m;
  };
}

-- a block that isn't marked is freed
free_seen : (h : HeapState) (new : Store) (a : ℕ) → Frees h.store new a → SameBlocks (free (seen h) (a + 1)) (seen (record h { store = new }))
free_seen h new a w = all_kept h new _ (allocated_put h.store new a false w.gone w.same) (λ A none f z m. kept none f z m)
  where
    kept : {A : Type 0} (none : A) (f : BlockRecord → A) (z : ℕ) → (if z == a + 1 then false else (if z == 0 then true else is_allocated h.store (z - 1))) ≡ true → (if z == 0 then none else f (record_of new (z - 1))) ≡ (if z == 0 then none else f (record_of h.store (z - 1)))
    kept none f z m = by_here (z == a + 1) refl m
      where
        by_null : (t : Bool) → (z == 0) ≡ t → z ≢ a + 1 → (if t then true else is_allocated h.store (z - 1)) ≡ true → (if t then none else f (record_of new (z - 1))) ≡ (if t then none else f (record_of h.store (z - 1)))
        by_null true e ne m = refl
        by_null false e ne m = ap f (w.nodes (z - 1) (let p : z ≢ 0 = grind arith in omega arith) m)

        by_here : (t : Bool) → (z == a + 1) ≡ t → (if t then false else (if z == 0 then true else is_allocated h.store (z - 1))) ≡ true → (if z == 0 then none else f (record_of new (z - 1))) ≡ (if z == 0 then none else f (record_of h.store (z - 1)))
        by_here true q m = absurd (cc)
        by_here false q m = by_null (z == 0) refl (grind arith) m

free_whole : (old new : Store) (a : ℕ) → Frees old new a → IsWhole old → IsWhole new
free_whole old new a w k b l =
    let ne : b ≢ a = λ e. let t : is_allocated new b ≡ false = ap (is_allocated new) e ∙ w.gone in (let q : false ≡ true = sym t ∙ l in cc) in
    let l' : is_allocated old b ≡ true = sym (w.same b ne) ∙ l in
    subst (λ (z : BlockRecord). length z.cells ≡ part_cells (cells_of z.shape) z.part) (sym (w.nodes b ne l')) (k b l')

pub free_act : (h : HeapState) (present snapshot : Graph) (page block : ℕ) (p : Page) (new : Store) → ArePages h.store.pages → Consistent h present snapshot → h.phase ≡ phases.Sweeping page block → page_at h.store.pages page ≡ Some p
    → slice_get p.allocated block ≡ Some true → (seen h).marked (address_of p.class page block + 1) ≡ false → Frees h.store new (address_of p.class page block) → new.pages ≡ set h.store.pages page (Some (with_allocated p block false))
    → Consistent (goes_to (record h { store = new }) 1 (phases.Sweeping page (block + 1))) present snapshot
free_act h present snapshot page block p new store c e f was unmarked w pages =
    let a = address_of p.class page block in
    let h1 : HeapState = record h { store = new } in
    let m = collector_by (seen h) h.store.pages (phases.Sweeping page block) h.grey in
    let c0 = at_phase h (phases.Sweeping page block) (view present) (view snapshot) e c.parts in
    let c1 = acts m (record m { heap = free (seen h) (a + 1) }) (view present) (view snapshot) (collector.Frees (reference_of h.store.pages page block) (a + 1) refl unmarked) c0 in
    let c2 = same_coherent (record m { heap = free (seen h) (a + 1) }) (seen h1) (view present) (view snapshot) (free_seen h new a w) c1 in
    let size : size_in (page_at new.pages page) ≡ size_in (page_at h.store.pages page) = ap (λ z. size_in (page_at z page)) pages ∙ ap size_in (set_page_here h.store.pages page (Some (with_allocated p block false)) (page_within h.store.pages page p f)) ∙ sym (ap size_in f) in
    let l : block < length p.allocated = slice_get_within p.allocated block true was in
    let c3 = sweep_on (seen h1) h.store.pages new.pages page block page (block + 1) h.grey (view present) (view snapshot) c2 (λ z allocated low high.
    let high' : z < 2048 * page + (block + 1) * size_in (page_at h.store.pages page) + 1 = subst (λ y. z < 2048 * page + (block + 1) * y + 1) size high in
    let some : 0 < z = omega arith in
    let held1 : is_allocated new (z - 1) ≡ true = allocated_behind h1 z some allocated in
    let ne : z - 1 ≢ a = λ q. let t : is_allocated new (z - 1) ≡ false = ap (is_allocated new) q ∙ w.gone in (let r : false ≡ true = sym t ∙ held1 in cc) in
    let held0 : is_allocated h.store (z - 1) ≡ true = sym (w.same (z - 1) ne) ∙ held1 in
    let q = between h.store page block p z store f l some held0 low high' in
    absurd (let at = q.1 in ne (omega arith))) in
    again h (goes_to h1 1 (phases.Sweeping page (block + 1))) present snapshot c refl refl refl (free_whole h.store new a w c.whole) c3

-- blocks stay as they are, and pages change
pub keeps_seen : (h : HeapState) (new : Store) → KeepsBlocks h.store new → SameBlocks (seen h) (seen (record h { store = new }))
keeps_seen h new w = all_kept h new _ (λ z. ap (λ b. if z == 0 then true else b) (w.allocated (z - 1))) (λ A none f z m. kept none f z m)
  where
    kept : {A : Type 0} (none : A) (f : BlockRecord → A) (z : ℕ) → (if z == 0 then true else is_allocated h.store (z - 1)) ≡ true → (if z == 0 then none else f (record_of new (z - 1))) ≡ (if z == 0 then none else f (record_of h.store (z - 1)))
    kept none f z m = by_null (z == 0) m
      where
        by_null : (t : Bool) → (if t then true else is_allocated h.store (z - 1)) ≡ true → (if t then none else f (record_of new (z - 1))) ≡ (if t then none else f (record_of h.store (z - 1)))
        by_null true m = refl
        by_null false m = ap f (w.nodes (z - 1) m)

pub keeps_whole : (old new : Store) → KeepsBlocks old new → IsWhole old → IsWhole new
keeps_whole old new w k b l =
    let l' : is_allocated old b ≡ true = sym (w.allocated b) ∙ l in
    subst (λ (z : BlockRecord). length z.cells ≡ part_cells (cells_of z.shape) z.part) (sym (w.nodes b l')) (k b l')

-- no allocated block stands on the rest of a page that was looked at
none_left : (s : Store) (page block z : ℕ) → ArePages s.pages → is_looked_at (page_at s.pages page) block ≡ true → 0 < z → is_allocated s (z - 1) ≡ true → reference_of s.pages page block ≤ z → z < 2048 * (page + 1) + 1 → ⊥
none_left s page block z w e some allocated low high =
    let q = allocated_block s (z - 1) allocated in
    let p = q.0 in
    let i = q.1 in
    let here : (z - 1) / 2048 ≡ page = page_of_place page (z - 1) (omega arith) (omega arith) in
    let at : page_at s.pages page ≡ Some p = ap (page_at s.pages) (sym here) ∙ q.2.page in
    let is = is_page s page p w at in
    let full : is_looked_at (Some p) block ≡ true = ap (λ z. is_looked_at z block) (sym at) ∙ e in
    let all : length p.allocated ≤ block = grind arith in
    let l : i < length p.allocated = slice_get_within p.allocated i true q.2.allocated in
    let size : size_in (page_at s.pages page) ≡ size_of p.class = ap size_in at in
    let low' : 2048 * page + block * size_of p.class + 1 ≤ z = subst (λ y. 2048 * page + block * y + 1 ≤ z) size low in
    let address : z - 1 ≡ 2048 * page + i * size_of p.class = q.2.address ∙ ap (λ y. 2048 * y + i * size_of p.class) here in
    less_places (size_of p.class) i block (size_some p is) (omega arith) (omega arith)
  where
    less_places : (size i j : ℕ) → 0 < size → i < j → j * size ≤ i * size → ⊥
    less_places size i j s l m = grind arith

pub close_act : (h : HeapState) (present snapshot : Graph) (page block : ℕ) (new : Store) → ArePages h.store.pages → Consistent h present snapshot → h.phase ≡ phases.Sweeping page block → is_looked_at (page_at h.store.pages page) block ≡ true
    → KeepsBlocks h.store new → Consistent (goes_to (record h { store = new }) 1 (phases.Sweeping (page + 1) 0)) present snapshot
close_act h present snapshot page block new store c e f w =
    let h1 : HeapState = record h { store = new } in
    let m = collector_by (seen h) h.store.pages (phases.Sweeping page block) h.grey in
    let c0 = at_phase h (phases.Sweeping page block) (view present) (view snapshot) e c.parts in
    let c1 = same_coherent m (seen h1) (view present) (view snapshot) (keeps_seen h new w) c0 in
    let c2 = sweep_on (seen h1) h.store.pages new.pages page block (page + 1) 0 h.grey (view present) (view snapshot) c1 (λ z allocated low high.
    let some : 0 < z = omega arith in
    let held0 : is_allocated h.store (z - 1) ≡ true = sym (w.allocated (z - 1)) ∙ allocated_behind h1 z some allocated in
    absurd (none_left h.store page block z store f some held0 low (omega arith))) in
    again h (goes_to h1 1 (phases.Sweeping (page + 1) 0)) present snapshot c refl refl refl (keeps_whole h.store new w c.whole) c2

-- the sweep ends
pub all_before : (h : HeapState) (page block z : ℕ) → length h.store.pages ≤ page → (seen h).allocated z ≡ true → z < reference_of h.store.pages page block
all_before h page block z l allocated = by_null (z == 0) refl allocated
  where
    by_null : (t : Bool) → (z == 0) ≡ t → (if t then true else is_allocated h.store (z - 1)) ≡ true → z < reference_of h.store.pages page block
    by_null true e m = let n : z ≡ 0 = grind arith in omega arith
    by_null false e m =
        let q = allocated_block h.store (z - 1) m in
        let within = page_within h.store.pages ((z - 1) / 2048) q.0 q.2.page in
        omega arith

pub sweep_end_act : (h : HeapState) (present snapshot : Graph) (page block : ℕ) → Consistent h present snapshot → h.phase ≡ phases.Sweeping page block → length h.store.pages ≤ page → Consistent (goes_to h 1 (after_sweep h)) present snapshot
sweep_end_act h present snapshot page block c e l = by_sparse (is_sparse h)
  where
    m : Collector
    m = collector_by (seen h) h.store.pages (phases.Sweeping page block) h.grey

    c0 : Coherent m (view present) (view snapshot)
    c0 = at_phase h (phases.Sweeping page block) (view present) (view snapshot) e c.parts

    place : ℕ
    place = reference_of h.store.pages page block

    before : (z : ℕ) → (seen h).allocated z ≡ true → z < place
    before z allocated = all_before h page block z l allocated

    by_sparse : (b : Bool) → Consistent (goes_to h 1 (if b then phases.Moving (moves.Pass 0 0 None 0) else phases.Idle)) present snapshot
    by_sparse true =
        let p = phases.Moving (moves.Pass 0 0 None 0) in
        let c1 = acts m (record m { phase = In_moves; is_target = λ x. is_target_page (page_of h.store.pages x); left = λ x. is_left h.store.pages p x }) (view present) (view snapshot) (collector.Ends_sweep_to_move place _ _ refl before) c0 in
        again h (goes_to h 1 p) present snapshot c refl refl refl c.whole (record { at = c1.at; base = c1.base; stage = c1.stage })
    by_sparse false =
        let c1 = acts m (record m { phase = In_idle }) (view present) (view snapshot) (collector.Ends_sweep place refl before) c0 in
        again h (goes_to h 1 phases.Idle) present snapshot c refl refl refl c.whole (record { at = c1.at; base = c1.base; stage = c1.stage })
