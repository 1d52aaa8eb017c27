-- Each action spends what the phase has room for.
use Rattle.std.proofs.Common.{◌≡◌, ◌≢◌, ℕ, ◌+◌, ◌-◌, ◌*◌, ◌/◌, ◌<◌, ◌≤◌, inl, inr, Bool, true, false, ◌||◌, ◌&&◌, List, ◌∷◌, ◌++◌, length, set, refl, ap, subst, sym, ◌∙◌, arith, ◌==◌, if◌then◌else◌, nat_lt, length-set}
use Rattle.std.specs.Prelude.{Option, Some, None}
use Rattle.std.proofs.lemmas.Bool.{cases_Bool, cases_eq}
use Rattle.std.proofs.lemmas.Option.{slice_get_within}
use Rattle.std.proofs.Math.Nat.{mul-le-mul_left, mul-le-mul_right}
use Rattle.graph_heap.specs.Graph.{Graph}
use Rattle.size_classes.specs.declared.class.TheConstants.{CLASSES, MOST_BLOCKS}
use Rattle.size_classes.specs.Sizes.{size_of}
use Rattle.size_classes.proofs.Table.{size_low}
use Rattle.heap_model.specs.declared.phase.Phase.{Phase}
use Rattle.heap_model.specs.declared.phase.Phase.TheVariants as phases
use Rattle.heap_model.specs.declared.phase.Moving.TheVariants as moves
use Rattle.heap_model.specs.declared.phase.Candidate.{Candidate}
use Rattle.heap_model.specs.Block.{with_cell}
use Rattle.heap_model.specs.Pages.{ArePages, Page, page_at, with_allocated, free_pages}
use Rattle.heap_model.specs.Store.{Store, Writes, is_allocated, size_in, size_at, record_of, address_of}
use Rattle.heap_model.specs.Core.{Heap}
use Rattle.heap_model.specs.Cut.{view}
use Rattle.heap_model.specs.Collector.{In_marking, In_moves, Collector, contains, Once}
use Rattle.heap_model.specs.State.{HeapState, seen, collector_by, collector_of, progress_of, reference_of, is_left}
use Rattle.heap_model.specs.Agreement.{Consistent}
use Rattle.heap_model.specs.Action.{Action, Scans_root, Ends_roots, Scans_header, Scans_cell, Ends_marking, Frees_block, Passes_block, Closes_page, Ends_sweep, Looks_at_page, Chooses_page, Chooses_none, Moves_block, Ends_moving, IsNext, closed, begun, Shades, Was_marked, Is_marked, KeepsBlocks, MovesBlock, goes_to, after_sweep, is_sparse, AtPass, In_pass, After_page, MovingDone, No_class, No_page}
use Rattle.heap_model.specs.Units.{total, work, gone}
use Rattle.heap_model.specs.Spent.{arena_words, cycle_limit, marking_work, moving_work, IsWithin}
use Rattle.heap_model.proofs.Core.Same.{SameBlocks}
use Rattle.heap_model.proofs.Core.Edits.{shade, set_cell, move}
use Rattle.heap_model.proofs.Collector.Acts.{cell_scanned}
use Rattle.heap_model.proofs.Collector.Coherence.{same_done, stage_at, left_main, contains-middle, once_middle, placed_contains, placed_done}
use Rattle.heap_model.proofs.State.{behind}
use Rattle.heap_model.proofs.Store.Allocated.{set_page, page_within, block_within, is_page, allocated_at, size_some, page_of_place}
use Rattle.heap_model.proofs.Action.Collecting.{at_phase, cell_blocks, same_shade, shaded_already, colour_seen, keeps_seen}
use Rattle.heap_model.proofs.Action.Moving.{move_seen, same_number, at_number, not_below, below_end}
use Rattle.heap_model.proofs.Units.{total_le, work_bound, gone_bound, cell_units, header_units, move_units}
use Rattle.heap_model.proofs.Store.Apart.{size_behind, lie_apart}

-- what doesn't show is no work
pub same_work : (m : Collector) (h' : Heap) (y : ℕ) → SameBlocks m.heap h' → work m y ≡ work (record m { heap = h' }) y
unfolding work
same_work m h' y e =
    let allocated = e.allocated y in
    elim (cases_Bool (m.heap.allocated y)) [
      | inl l ↦ (let d = same_done m h' y e l in let q = e.says.marked y l in grind arith)
      | inr l ↦ grind arith
    ]

pub total_same : (f g : ℕ → ℕ) (n : ℕ) → ((x : ℕ) → f x ≡ g x) → total f n ≤ total g n
total_same f g n e = total_le f g n (λ x l. let q = e x in omega arith)

placed_work : (m : Collector) (front back : List ℕ) (x : ℕ) → m.grey ≡ x ∷ (front ++ back) → (y : ℕ) → work (record m { grey = front ++ x ∷ back }) y ≡ work m y
unfolding work
placed_work m front back x is y = let c = placed_contains m front back x is y in let d = placed_done m front back x is y in grind arith

pub shaded_work_state : (h k : HeapState) (x : ℕ) (p : Phase) → Shades h x k → (y : ℕ) → work (collector_by (shade (seen h) x) h.store.pages p (if (seen h).marked x then h.grey else x ∷ h.grey)) y ≡ work (collector_by (seen k) k.store.pages p k.grey) y
shaded_work_state h k x p (Was_marked e) y =
    ap (λ b. work (collector_by (shade (seen h) x) h.store.pages p (if b then h.grey else x ∷ h.grey)) y) e
    ∙ same_work (collector_by (shade (seen h) x) h.store.pages p h.grey) (seen h) y (shaded_already (seen h) x e)
shaded_work_state h k x p (Is_marked new front back is e w) y =
    let some : x ≢ 0 = λ z. let t : (seen h).marked x ≡ true = ap (seen h).marked z in (let q : false ≡ true = sym e ∙ t in cc) in
    ap (λ b. work (collector_by (shade (seen h) x) h.store.pages p (if b then h.grey else x ∷ h.grey)) y) e
    ∙ same_work (collector_by (shade (seen h) x) h.store.pages p (x ∷ h.grey)) (seen (record h { store = new })) y (colour_seen h new x some w)
    ∙ sym (placed_work (collector_by (seen (record h { store = new })) h.store.pages p (x ∷ h.grey)) front back x (ap (λ (l : List ℕ). x ∷ l) is) y)
    ∙ ap (λ z. work (collector_by (seen (record h { store = new })) z p (front ++ x ∷ back)) y) (sym w.pages)

-- null is never grey
or_false : (a b : Bool) → (a || b) ≡ false → (a ≡ false) × (b ≡ false)
or_false true b h = absurd (cc)
or_false false b h = (refl, h)

pub shades_grey : (h k : HeapState) (x : ℕ) → Shades h x k → contains h.grey 0 ≡ false → contains k.grey 0 ≡ false
shades_grey h k x (Was_marked e) n = n
shades_grey h k x (Is_marked new front back is e w) n =
    let some : x ≢ 0 = λ z. let t : (seen h).marked x ≡ true = ap (seen h).marked z in (let q : false ≡ true = sym e ∙ t in cc) in
    contains-middle front back x 0 ∙ (let f : (x == 0) ≡ false = grind arith in rw f (ap (λ (l : List ℕ). contains l 0) (sym is) ∙ n))

pub shades_units : (h k : HeapState) (x : ℕ) → Shades h x k → (k.units ≡ h.units) × (k.roots ≡ h.roots) × (k.store.pages ≡ h.store.pages)
shades_units h k x (Was_marked e) = (refl, refl, refl)
shades_units h k x (Is_marked new front back is e w) = (refl, refl, w.pages)

-- how much work there can be
pub marking_bound : (h : HeapState) (present snapshot : Graph) (part cell : ℕ) → ArePages h.store.pages → Consistent h present snapshot → h.phase ≡ phases.Marking part cell → marking_work h ≤ arena_words h + 1
unfolding marking_work
marking_bound h present snapshot part cell w c e =
    let st = stage_at (collector_of h) (view present) (view snapshot) c.parts In_marking (ap (progress_of h.store.pages) e) in
    work_bound (collector_of h) (size_behind h) (arena_words h) st.1 (lie_apart h w c.whole)

pub moving_bound : (h : HeapState) (present snapshot : Graph) → ArePages h.store.pages → Consistent h present snapshot → moving_work h ≤ arena_words h + 1
unfolding moving_work
moving_bound h present snapshot w c = gone_bound (seen h) (size_behind h) (arena_words h) refl (lie_apart h w c.whole)

-- a root is scanned
root_within : (h k : HeapState) (next x : ℕ) → IsWithin h (phases.Roots next) → next < length h.roots → Shades (record h { roots = set h.roots next x }) x k → IsWithin (goes_to k 1 (phases.Roots (next + 1))) (phases.Roots (next + 1))
root_within h k next x w l sh =
    let h1 : HeapState = record h { roots = set h.roots next x } in
    let s = shades_units h1 k x sh in
    let u = s.0 in
    let r : length k.roots ≡ length h.roots = ap length s.1 ∙ length-set h.roots next x in
    let a = w.0 in
    (omega arith, omega arith, shades_grey h1 k x sh w.2)

-- a header is scanned
header_within : (h : HeapState) (present snapshot : Graph) (part cell x : ℕ) (front back : List ℕ) → ArePages h.store.pages → Consistent h present snapshot → h.phase ≡ phases.Marking part cell → cell ≡ (seen h).width part → h.grey ≡ front ++ x ∷ back
    → IsWithin h (phases.Marking part cell) → let after = goes_to (record h { grey = front ++ back }) 1 (phases.Marking x 0) in IsWithin after (phases.Marking x 0)
unfolding marking_work
header_within h present snapshot part cell x front back w c e f n i =
    let m = collector_by (seen h) h.store.pages (phases.Marking part cell) h.grey in
    let c0 = at_phase h (phases.Marking part cell) (view present) (view snapshot) e c.parts in
    let greys = c0.stage.1 in
    let middle : contains h.grey 0 ≡ ((x == 0) || contains (front ++ back) 0) = ap (λ z. contains z 0) n ∙ contains-middle front back x 0 in
    let none = or_false (x == 0) (contains (front ++ back) 0) (sym middle ∙ i.1) in
    let some : x ≢ 0 = let z = none.0 in not_null x z in
    let in_grey : contains h.grey x ≡ true = ap (λ z. contains z x) n ∙ contains-middle front back x x ∙ here x (contains (front ++ back) x) in
    let allocated = greys.allocated x in_grey in
    let apart = lie_apart h w c.whole in
    let inside = apart.inside x allocated (omega arith) in
    let fits = apart.fits x allocated (omega arith) in
    let once = once_middle front back x (subst Once n greys.once) in
    let more = header_units m (arena_words h) front back x greys f n once.0 some (omega arith) in
    let same : total (work (collector_of h)) (arena_words h + 1) ≡ total (work m) (arena_words h + 1) = ap (λ p. total (work (collector_by (seen h) h.store.pages p h.grey)) (arena_words h + 1)) e in
    let a = i.0 in
    (omega arith, none.1)
  where
    not_null : (x : ℕ) → (x == 0) ≡ false → x ≢ 0
    not_null x e = grind arith

    here : (x : ℕ) (b : Bool) → ((x == x) || b) ≡ true
    here x b = grind arith

-- a cell is scanned
cell_within : (h k : HeapState) (present snapshot : Graph) (part cell : ℕ) (new : Store) → ArePages h.store.pages → Consistent h present snapshot → h.phase ≡ phases.Marking part cell → cell < (seen h).width part
    → Writes h.store new (part - 1) (with_cell (record_of h.store (part - 1)) cell ((seen h).forward ((seen h).cell part cell))) → Shades (record h { store = new }) ((seen h).forward ((seen h).cell part cell)) k
    → IsWithin h (phases.Marking part cell) → IsWithin (goes_to k 1 (phases.Marking part (cell + 1))) (phases.Marking part (cell + 1))
unfolding marking_work
cell_within h k present snapshot part cell new w c e l wr sh i =
    let x = (seen h).forward ((seen h).cell part cell) in
    let h1 : HeapState = record h { store = new } in
    let p = phases.Marking part (cell + 1) in
    let m = collector_by (seen h) h.store.pages (phases.Marking part cell) h.grey in
    let c0 = at_phase h (phases.Marking part cell) (view present) (view snapshot) e c.parts in
    let greys = c0.stage.1 in
    let b = cell_blocks h present snapshot part cell new c e l wr in
    let apart = lie_apart h w c.whole in
    let some : 0 < part = (some_part (seen h) part cell refl l) in
    let inside = apart.inside part greys.scanning_allocated some in
    let fits = apart.fits part greys.scanning_allocated some in
    let more = cell_units m (arena_words h) greys refl l (omega arith) in
    let step : (y : ℕ) → work (cell_scanned m) y ≡ work (collector_of (goes_to k 1 p)) y = λ y.
    same_work (cell_scanned m) (shade (seen h1) x) y (same_shade (set_cell (seen h) part cell x) (seen h1) x b.0)
    ∙ ap (λ t. work (collector_by (shade (seen h1) x) h.store.pages p (if t then h.grey else x ∷ h.grey)) y) (sym b.1)
    ∙ ap (λ z. work (collector_by (shade (seen h1) x) z p (if (seen h1).marked x then h.grey else x ∷ h.grey)) y) (sym wr.pages)
    ∙ shaded_work_state h1 k x p sh y in
    let all = total_same (work (cell_scanned m)) (work (collector_of (goes_to k 1 p))) (arena_words h + 1) step in
    let s = shades_units h1 k x sh in
    let u = s.0 in
    let r : length k.roots ≡ length h.roots = ap length s.1 in
    let pages : length k.store.pages ≡ length h.store.pages = ap length (s.2 ∙ wr.pages) in
    let arena : total (work (collector_of (goes_to k 1 p))) (arena_words h + 1) ≡ total (work (collector_of (goes_to k 1 p))) (arena_words k + 1) = ap (λ z. total (work (collector_of (goes_to k 1 p))) (2048 * z + 1)) (sym pages) in
    let same : total (work (collector_of h)) (arena_words h + 1) ≡ total (work m) (arena_words h + 1) = ap (λ q. total (work (collector_by (seen h) h.store.pages q h.grey)) (arena_words h + 1)) e in
    let a = i.0 in
    (omega arith, shades_grey h1 k x sh i.1)
  where
    some_part : (heap : Heap) (part cell : ℕ) → heap.width 0 ≡ 0 → cell < heap.width part → 0 < part
    some_part heap part cell z l = elim (cases_eq part 0) [ inl e ↦ absurd (let q : heap.width part ≡ 0 = ap heap.width e ∙ z in omega arith) | inr ne ↦ omega arith ]

-- a page has no more blocks than one of the smallest class
few_blocks : (p : Page) (block : ℕ) → 4 ≤ size_of p.class → (block + 1) * size_of p.class ≤ 2048 → block + 1 ≤ MOST_BLOCKS
few_blocks p block low within = let m = mul-le-mul_left (block + 1) low in omega arith

block_few : (s : Store) (page block : ℕ) (p : Page) → ArePages s.pages → page_at s.pages page ≡ Some p → block < length p.allocated → block + 1 ≤ MOST_BLOCKS
block_few s page block p w e l = let is = is_page s page p w e in few_blocks p block (size_low p.class is.class) (block_within p block is l)

marking_end_within : (h : HeapState) (present snapshot : Graph) (part cell : ℕ) → ArePages h.store.pages → Consistent h present snapshot → h.phase ≡ phases.Marking part cell → IsWithin h (phases.Marking part cell) → IsWithin (goes_to h 1 (phases.Sweeping 0 0)) (phases.Sweeping 0 0)
marking_end_within h present snapshot part cell w c e i = let b = marking_bound h present snapshot part cell w c e in let a = i.0 in (omega arith, omega arith, omega arith)

-- a block is looked at, whether it is freed or not
look_within : (h : HeapState) (new : Store) (page block : ℕ) (p : Page) → ArePages h.store.pages → page_at h.store.pages page ≡ Some p → block < length p.allocated → length new.pages ≡ length h.store.pages
    → IsWithin h (phases.Sweeping page block) → IsWithin (goes_to (record h { store = new }) 1 (phases.Sweeping page (block + 1))) (phases.Sweeping page (block + 1))
look_within h new page block p w e l pages i = let f = block_few h.store page block p w e l in let a = i.0 in let b = i.2 in (omega arith, f, omega arith)

close_within : (h : HeapState) (new : Store) (page block : ℕ) → page < length h.store.pages → length new.pages ≡ length h.store.pages → IsWithin h (phases.Sweeping page block)
    → IsWithin (goes_to (record h { store = new }) 1 (phases.Sweeping (page + 1) 0)) (phases.Sweeping (page + 1) 0)
close_within h new page block l pages i = let a = i.0 in let b = i.1 in (omega arith, omega arith, omega arith)

sweep_end_within : (h : HeapState) (page block : ℕ) → 0 < length h.store.pages → IsWithin h (phases.Sweeping page block) → IsWithin (goes_to h 1 (after_sweep h)) (after_sweep h)
sweep_end_within h page block some i = by_sparse (is_sparse h) refl
  where
    both : (x y : Bool) → (x && y) ≡ true → x ≡ true
    both true y e = refl
    both false y e = absurd (cc)

    by_sparse : (b : Bool) → is_sparse h ≡ b → IsWithin (goes_to h 1 (if b then phases.Moving (moves.Pass 0 0 None 0) else phases.Idle)) (if b then phases.Moving (moves.Pass 0 0 None 0) else phases.Idle)
    by_sparse true e =
        let d : 0 < h.defrag_pages = (let q = both (nat_lt 0 h.defrag_pages) (nat_lt (free_pages h.store.pages) h.defrag_below) e in grind arith) in
        let a = i.0 in let b = i.1 in let p = i.2 in
        (omega arith, omega arith, omega arith, d)
    by_sparse false e = let a = i.0 in let b = i.1 in let p = i.2 in omega arith

-- the place of a pass
pass_within : (h : HeapState) (class page : ℕ) (best : Option Candidate) (chosen : ℕ) → AtPass h class page best chosen → IsWithin h h.phase → IsWithin h (phases.Moving (moves.Pass class page best chosen))
pass_within h class page best chosen (In_pass class0 page0 best0 chosen0 e) i = subst (λ z. IsWithin h z) e i
pass_within h class page best chosen (After_page class0 page0 block chosen0 p e at l done more) i =
    let w = subst (λ z. IsWithin h z) e i in let a = w.0 in let b = w.1 in let n = page_within h.store.pages page0 p at in (omega arith, omega arith, omega arith, more)

next_pass : (a b p : ℕ) → a + 1 ≡ b → a * p + p ≡ b * p
next_pass a b p e = subst (λ z. a * p + p ≡ z * p) e (grind arith)

looks_within : (h : HeapState) (class page : ℕ) (best best' : Option Candidate) (chosen : ℕ) → page + 1 < length h.store.pages → IsWithin h (phases.Moving (moves.Pass class page best chosen))
    → let p = phases.Moving (moves.Pass class (page + 1) best' chosen) in IsWithin (goes_to h 1 p) p
unfolding moving_work
looks_within h class page best best' chosen l i = let a = i.0 in let b = i.1 in let d = i.3 in (omega arith, b, omega arith, d)

chooses_none_within : (h : HeapState) (class page : ℕ) (best : Option Candidate) (chosen : ℕ) → class < CLASSES → page + 1 ≡ length h.store.pages → IsWithin h (phases.Moving (moves.Pass class page best chosen))
    → let p = phases.Moving (moves.Pass (class + 1) 0 None chosen) in IsWithin (goes_to h 1 p) p
unfolding moving_work
chooses_none_within h class page best chosen few last i =
    let a = i.0 in let d = i.3 in
    let e = next_pass (chosen + class) (chosen + (class + 1)) (length h.store.pages) (omega arith) in
    (omega arith, omega arith, omega arith, d)

-- words that were moved, if blocks stay
pub gone_same : (h k : Heap) (f g : ℕ → ℕ) (x : ℕ) → SameBlocks h k → (h.allocated x ≡ true → f x ≡ g x) → gone h f x ≡ gone k g x
unfolding gone
gone_same h k f g x e s =
    let allocated = e.allocated x in
    elim (cases_Bool (h.allocated x)) [
      | inl l ↦ (let d = e.says.forward x l in let q = s l in grind arith)
      | inr l ↦ grind arith
    ]

-- a page that changes and keeps its class leaves each block its size
size_kept : (s t : Store) (page b : ℕ) (p q : Page) → page < length s.pages → t.pages ≡ set s.pages page (Some q) → page_at s.pages page ≡ Some p → q.class ≡ p.class → size_at t b ≡ size_at s b
unfolding size_at
size_kept s t page b p q l pages e same = ap (λ z. size_in (page_at z (b / 2048))) pages ∙ ap size_in (set_page s.pages page (b / 2048) (Some q) l) ∙ by_page (b / 2048 == page) refl
  where
    by_page : (r : Bool) → (b / 2048 == page) ≡ r → size_in (if r then Some q else page_at s.pages (b / 2048)) ≡ size_in (page_at s.pages (b / 2048))
    by_page true f = let here : b / 2048 ≡ page = same_number (b / 2048) page f in ap size_of same ∙ sym (ap size_in e) ∙ sym (ap (λ z. size_in (page_at s.pages z)) here)
    by_page false f = refl

chooses_within : (h : HeapState) (class page c chosen : ℕ) (best : Option Candidate) (p : Page) (new : Store) → class < CLASSES → page + 1 ≡ length h.store.pages → page_at h.store.pages c ≡ Some p
    → KeepsBlocks h.store new → new.pages ≡ set h.store.pages c (Some (record p { evacuating = true })) → IsWithin h (phases.Moving (moves.Pass class page best chosen))
    → let q = phases.Moving (moves.Emptying class c 0 (chosen + 1)) in IsWithin (goes_to (record h { store = new }) 1 q) q
unfolding moving_work
chooses_within h class page c chosen best p new few last at w pages i =
    let h1 : HeapState = record h { store = new } in
    let l = page_within h.store.pages c p at in
    let many : length new.pages ≡ length h.store.pages = ap length pages ∙ length-set h.store.pages c (Some (record p { evacuating = true })) in
    let same = total_same (gone (seen h) (size_behind h)) (gone (seen h1) (size_behind h1)) (arena_words h + 1) (λ x. gone_same (seen h) (seen h1) (size_behind h) (size_behind h1) x (keeps_seen h new w) (λ z. sym (size_kept h.store new c (x - 1) p (record p { evacuating = true }) l pages at refl))) in
    let arena : total (gone (seen h1) (size_behind h1)) (arena_words h + 1) ≡ total (gone (seen h1) (size_behind h1)) (arena_words h1 + 1) = ap (λ z. total (gone (seen h1) (size_behind h1)) (2048 * z + 1)) (sym many) in
    let e = next_pass (chosen + class) (chosen + 1 + class) (length h.store.pages) (omega arith) in
    let f : (chosen + 1 + class) * length h.store.pages ≡ (chosen + 1 + class) * length new.pages = ap (λ z. (chosen + 1 + class) * z) (sym many) in
    let a = i.0 in let d = i.3 in
    (omega arith, few, omega arith)

-- a block is moved
move_within : (h : HeapState) (present snapshot : Graph) (class page block chosen i to j : ℕ) (p q : Page) (new : Store) → ArePages h.store.pages → Consistent h present snapshot → (a b : ℕ) → is_allocated h.store a ≡ true → (record_of h.store a).forward ≡ a → size_at h.store a ≡ size_of p.class
    → MovesBlock h.store new a b → page_at h.store.pages to ≡ Some q → new.pages ≡ set h.store.pages to (Some (record (with_allocated q j true) { is_target = true })) → IsWithin h (phases.Moving (moves.Emptying class page block chosen))
    → let z = phases.Moving (moves.Emptying class page (i + 1) chosen) in IsWithin (goes_to (record h { store = new }) (size_of p.class) z) z
unfolding moving_work
move_within h present snapshot class page block chosen i to j p q new w c a b allocated main size mv at pages within =
    let h1 : HeapState = record h { store = new } in
    let x = a + 1 in
    let y = b + 1 in
    let l = page_within h.store.pages to q at in
    let v = record (with_allocated q j true) { is_target = true } in
    let many : length new.pages ≡ length h.store.pages = ap length pages ∙ length-set h.store.pages to (Some v) in
    let allocated_x : (seen h).allocated x ≡ true = behind true (λ z. is_allocated h.store z) a ∙ allocated in
    let free_y : (seen h).allocated y ≡ false = behind true (λ z. is_allocated h.store z) b ∙ mv.free in
    let main_x : (seen h).forward x ≡ x = behind 0 (λ z. (record_of h.store z).forward + 1) a ∙ ap (λ z. z + 1) main in
    let apart = lie_apart h w c.whole in
    let inside = apart.inside x allocated_x (omega arith) in
    let fits = apart.fits x allocated_x (omega arith) in
    let moved = move_units (seen h) (size_behind h) (arena_words h) x y allocated_x free_y main_x (omega arith) in
    let back : x - 1 ≡ a = omega arith in
    let size_x : size_behind h x ≡ size_of p.class = ap (size_at h.store) back ∙ size in
    let same = total_same (gone (move (seen h) x y) (size_behind h)) (gone (seen h1) (size_behind h1)) (arena_words h + 1)
    (λ z. gone_same (move (seen h) x y) (seen h1) (size_behind h) (size_behind h1) z (move_seen h new a b mv) (λ r. sym (size_kept h.store new to (z - 1) q v l pages at refl))) in
    let arena : total (gone (seen h1) (size_behind h1)) (arena_words h + 1) ≡ total (gone (seen h1) (size_behind h1)) (arena_words h1 + 1) = ap (λ z. total (gone (seen h1) (size_behind h1)) (2048 * z + 1)) (sym many) in
    let f : (chosen + class) * length h.store.pages ≡ (chosen + class) * length new.pages = ap (λ z. (chosen + class) * z) (sym many) in
    let u = within.0 in
    (omega arith, within.1, within.2)

more_pages : (a b p : ℕ) → a ≤ b → a * p ≤ b * p
more_pages a b p l = mul-le-mul_right p l

moving_end_within : (h : HeapState) (present snapshot : Graph) → 0 < length h.store.pages → ArePages h.store.pages → Consistent h present snapshot → MovingDone h → IsWithin h h.phase → IsWithin (goes_to h 1 phases.Idle) phases.Idle
moving_end_within h present snapshot some w c (No_class page best chosen e) i =
    let v = subst (λ z. IsWithin h z) e i in
    let b = moving_bound h present snapshot w c in
    let a = v.0 in let q = v.2 in let d = v.3 in
    let m = next_pass (chosen + CLASSES) (chosen + CLASSES + 1) (length h.store.pages) (omega arith) in
    let n = more_pages (chosen + CLASSES + 1) (h.defrag_pages + CLASSES) (length h.store.pages) (omega arith) in
    omega arith
moving_end_within h present snapshot some w c (No_page class page block chosen p e at done all) i =
    let v = subst (λ z. IsWithin h z) e i in
    let b = moving_bound h present snapshot w c in
    let a = v.0 in let q = v.1 in let d = v.2 in
    let n = more_pages (chosen + class) (h.defrag_pages + CLASSES) (length h.store.pages) (omega arith) in
    omega arith

-- what is moved is a main copy, of its page's size
pub moved_main : (h : HeapState) (present snapshot : Graph) (class page block chosen i : ℕ) (p : Page) → ArePages h.store.pages → Consistent h present snapshot → h.phase ≡ phases.Moving (moves.Emptying class page block chosen) → page_at h.store.pages page ≡ Some p → IsNext p block i
    → let a = address_of p.class page i in (is_allocated h.store a ≡ true) × ((record_of h.store a).forward ≡ a) × (size_at h.store a ≡ size_of p.class)
unfolding size_at
moved_main h present snapshot class page block chosen i p w c e at next =
    let a = address_of p.class page i in
    let is = is_page h.store page p w at in
    let allocated = allocated_at h.store page i p w at next.allocated in
    let allocated_x : (seen h).allocated (a + 1) ≡ true = behind true (λ z. is_allocated h.store z) a ∙ allocated in
    let within = block_within p i is (slice_get_within p.allocated i true next.allocated) in
    let some = size_some p is in
    let less : i * size_of p.class < 2048 = below_end i (size_of p.class) some within in
    let page_x : (a + 1 - 1) / 2048 ≡ page = page_of_place page (a + 1 - 1) (omega arith) (omega arith) in
    let page_a : a / 2048 ≡ page = page_of_place page a (omega arith) (omega arith) in
    let st = stage_at (collector_of h) (view present) (view snapshot) c.parts In_moves (ap (progress_of h.store.pages) e) in
    let past : nat_lt (a + 1) (reference_of h.store.pages page block) ≡ false = not_below i block (size_of p.class) (size_in (page_at h.store.pages page)) page next.from (sym (ap size_in at)) in
    let here : ((a + 1 - 1) / 2048 == page) ≡ true = at_number ((a + 1 - 1) / 2048) page page_x in
    let unleft : is_left h.store.pages (phases.Moving (moves.Emptying class page block chosen)) (a + 1) ≡ false = rw here past in
    let left : is_left h.store.pages h.phase (a + 1) ≡ false = ap (λ z. is_left h.store.pages z (a + 1)) e ∙ unleft in
    let main = left_main (seen h) (λ x. is_left h.store.pages h.phase x) (a + 1) st.2 allocated_x left in
    let back : (record_of h.store a).forward + 1 ≡ a + 1 = sym (behind 0 (λ z. (record_of h.store z).forward + 1) a) ∙ main in
    (allocated, omega arith, ap (λ z. size_in (page_at h.store.pages z)) page_a ∙ ap size_in at)

-- each action spends what there is room for
pub within_kept : (h after : HeapState) (cost : ℕ) (present snapshot : Graph) → 0 < length h.store.pages → ArePages h.store.pages → Consistent h present snapshot → IsWithin h h.phase → Action h cost after → IsWithin after after.phase
within_kept h after cost p s some w c i (Scans_root next k e l sh) = root_within h k next _ (subst (λ z. IsWithin h z) e i) l sh
within_kept h after cost p s some w c i (Ends_roots next e l) = let v = subst (λ z. IsWithin h z) e i in let a = v.0 in let b = v.1 in (omega arith, v.2)
within_kept h after cost p s some w c i (Scans_header part cell x front back e f n) = header_within h p s part cell x front back w c e f n (subst (λ z. IsWithin h z) e i)
within_kept h after cost p s some w c i (Scans_cell part cell new k e l w0 sh) = cell_within h k p s part cell new w c e l w0 sh (subst (λ z. IsWithin h z) e i)
within_kept h after cost p s some w c i (Ends_marking part cell e f n) = marking_end_within h p s part cell w c e (subst (λ z. IsWithin h z) e i)
within_kept h after cost p s some w c i (Frees_block page block q new e f was unmarked w0 pages) =
    look_within h new page block q w f (slice_get_within q.allocated block true was) (ap length pages ∙ length-set h.store.pages page (Some (with_allocated q block false))) (subst (λ z. IsWithin h z) e i)
within_kept h after cost p s some w c i (Passes_block page block q e f l marked) = look_within h h.store page block q w f l refl (subst (λ z. IsWithin h z) e i)
within_kept h after cost p s some w c i (Closes_page page block new e l f w0 pages) = close_within h new page block l (ap length pages ∙ length-set h.store.pages page (closed (page_at h.store.pages page))) (subst (λ z. IsWithin h z) e i)
within_kept h after cost p s some w c i (Ends_sweep page block e l) = sweep_end_within h page block some (subst (λ z. IsWithin h z) e i)
within_kept h after cost p s some w c i (Looks_at_page class page best chosen at few more) = looks_within h class page best _ chosen more (pass_within h class page best chosen at i)
within_kept h after cost p s some w c i (Chooses_page class page best chosen b q new at few last is good there w0 pages) = chooses_within h class page b.page chosen best q new few last there w0 pages (pass_within h class page best chosen at i)
within_kept h after cost p s some w c i (Chooses_none class page best chosen at few last is) = chooses_none_within h class page best chosen few last (pass_within h class page best chosen at i)
within_kept h after cost p s some w c i (Moves_block class page block chosen k to j q r new e at evacuating next place there empty w0 pages) =
    let m = moved_main h p s class page block chosen k q w c e at next in
    move_within h p s class page block chosen k to j q r new w c (address_of q.class page k) (address_of q.class to j) m.0 m.1 m.2 w0 there pages (subst (λ z. IsWithin h z) e i)
within_kept h after cost p s some w c i (Ends_moving done) = moving_end_within h p s some w c done i

-- so no more than the limit is ever spent
pub limit_kept : (h : HeapState) (present snapshot : Graph) → 0 < length h.store.pages → ArePages h.store.pages → Consistent h present snapshot → IsWithin h h.phase → h.units ≤ cycle_limit h
limit_kept h p s some w c i = by_phase h.phase refl i
  where
    by_phase : (q : Phase) → h.phase ≡ q → IsWithin h q → h.units ≤ cycle_limit h
    by_phase phases.Idle e v = v
    by_phase (phases.Roots next) e v = let a = v.0 in let b = v.1 in omega arith
    by_phase (phases.Marking part cell) e v = let b = marking_bound h p s part cell w c e in let a = v.0 in omega arith
    by_phase (phases.Sweeping page block) e v = let a = v.0 in let b = v.1 in let d = v.2 in omega arith
    by_phase (phases.Moving (moves.Pass class page best chosen)) e v =
        let b = moving_bound h p s w c in
        let a = v.0 in let f = v.1 in let q = v.2 in let d = v.3 in
        let m = next_pass (chosen + class) (chosen + class + 1) (length h.store.pages) refl in
        let n = more_pages (chosen + class + 1) (h.defrag_pages + CLASSES) (length h.store.pages) (omega arith) in
        omega arith
    by_phase (phases.Moving (moves.Emptying class page block chosen)) e v =
        let b = moving_bound h p s w c in
        let a = v.0 in let f = v.1 in let d = v.2 in
        let n = more_pages (chosen + class) (h.defrag_pages + CLASSES) (length h.store.pages) (omega arith) in
        omega arith

-- a cycle begins with nothing spent
pub begun_within : (h : HeapState) → IsWithin (begun h) (begun h).phase
unfolding contains
begun_within h = (omega arith, omega arith, refl)
