-- Writes of mutators keep the invariant.
use Rattle.std.proofs.Common.{◌≡◌, ◌≢◌, ℕ, ◌+◌, ◌<◌, ◌≤◌, Bool, true, false, List, length, get_or, set, refl, ap, subst, sym, ◌∙◌, arith, inr, ◌==◌, length-set}
use Rattle.std.specs.Prelude.{Option}
use Rattle.graph_heap.specs.declared.command.Change.TheVariants as changes
use Rattle.graph_heap.specs.Graph.{Object, Graph, object_of, put_object, with_ref, with_word, changed}
use Rattle.graph_heap.specs.Reach.{Reaches}
use Rattle.size_classes.specs.Parts.{part_cells, cells_of, part_in, column_in}
use Rattle.heap_model.specs.declared.phase.Phase.{Phase}
use Rattle.heap_model.specs.declared.phase.Phase.TheVariants as phases
use Rattle.heap_model.specs.Block.{BlockRecord, with_cell}
use Rattle.heap_model.specs.Pages.{Page}
use Rattle.heap_model.specs.Store.{Store, Writes, is_allocated, record_of}
use Rattle.heap_model.specs.Core.{Name, Kept}
use Rattle.heap_model.specs.Agree.{IsMain}
use Rattle.heap_model.specs.Cut.{count_of, width_in, width_of, name_of, view}
use Rattle.heap_model.specs.Collector.{Coherent}
use Rattle.heap_model.specs.State.{HeapState, seen, width_at, collector_by, collector_of, progress_of}
use Rattle.heap_model.specs.Agreement.{HasItsCells, IsWhole, Consistent}
use Rattle.heap_model.specs.Written.{IsKnown, records, IsRecorded}
use Rattle.heap_model.proofs.Core.Edits.{set_root, set_cell, set_word, write_root, write_target, write_word}
use Rattle.heap_model.proofs.Collector.Barrier.{is_tracing, puts_root, puts_cell, main_at}
use Rattle.heap_model.proofs.Collector.Words.{puts_word}
use Rattle.heap_model.proofs.Collector.Coherence.{same_coherent}
use Rattle.heap_model.proofs.Cut.Reaching.{part_at, column_at, part_below, column_below, word_below}
use Rattle.heap_model.proofs.Cut.Changes.{view-root, view-ref, view-word, object-put_same, object-put_other}
use Rattle.heap_model.proofs.State.{allocated_pages, node_kept, behind, root_seen, cell_seen, word_seen}
use Rattle.heap_model.proofs.Agreements.Implied.{stepped, part_kept, known_kept, kept_given}

pub records-progress : (pages : List (Option Page)) (p : Phase) → is_tracing (progress_of pages p) ≡ records p
records-progress pages phases.Idle = refl
records-progress pages (phases.Roots next) = refl
records-progress pages (phases.Marking part cell) = refl
records-progress pages (phases.Sweeping page block) = refl
records-progress pages (phases.Moving m) = refl

pub reaches_some : (g : Graph) (id : ℕ) → Reaches g id → 0 < id
unfolding Reaches
reaches_some g id r = r.0

-- a root is written, with what is kept
pub root_kept : (h : HeapState) (present snapshot : Graph) (j y v : ℕ) → Consistent h present snapshot → j < length h.roots → IsRecorded h (get_or h.roots j 0)
    → Kept (length h.roots) (view snapshot) (view present) (name_of v) → IsMain (seen h) y (name_of v) → Consistent (record h { roots = set h.roots j y }) (changed present (changes.Root j v)) snapshot
root_kept h present snapshot j y v c l r k i =
    let m = collector_of h in
    let h' : HeapState = record h { roots = set h.roots j y } in
    let c1 = puts_root m (view present) (view snapshot) j y (name_of v) c.parts l (λ t. r (sym (records-progress h.store.pages h.phase) ∙ t)) k i in
    let c2 = same_coherent (record m { heap = set_root m.heap j y }) (seen h') (write_root (view present) j (name_of v)) (view snapshot) (root_seen h j y l) c1 in
    let l' : j < length present.roots = subst (λ z. j < z) c.present_row l in
    stepped h h' present snapshot (changed present (changes.Root j v)) snapshot c refl refl (length-set h.roots j y) refl refl (length-set present.roots j v) c.snapshot_row c.cells c.whole
    (subst (λ z. Coherent (collector_of h') z (view snapshot)) (sym (view-root present j v l')) c2)

pub root_written : (h : HeapState) (present snapshot : Graph) (j y v : ℕ) → Consistent h present snapshot → j < length h.roots → IsRecorded h (get_or h.roots j 0) → IsKnown present v → IsMain (seen h) y (name_of v)
    → Consistent (record h { roots = set h.roots j y }) (changed present (changes.Root j v)) snapshot
root_written h present snapshot j y v c l r k i = root_kept h present snapshot j y v c l r (known_kept h present snapshot c v k) i

-- a write that leaves the shape, the part and the number of cells leaves each block its cells
pub whole_write : (old new : Store) (a : ℕ) (n : BlockRecord) → Writes old new a n → length n.cells ≡ length (record_of old a).cells → n.shape ≡ (record_of old a).shape → n.part ≡ (record_of old a).part → IsWhole old → IsWhole new
whole_write old new a n w cells shape part k b l =
    let l' : is_allocated old b ≡ true = sym (allocated_pages old new b w.pages) ∙ l in
    let e = node_kept (λ z. length z.cells) old new a n w b l' (λ _. cells) in
    let s = node_kept (λ z. z.shape) old new a n w b l' (λ _. shape) in
    let p = node_kept (λ z. z.part) old new a n w b l' (λ _. part) in
    e ∙ k b l' ∙ ap (λ z. part_cells (cells_of z) (record_of old b).part) (sym s) ∙ ap (λ z. part_cells (cells_of (record_of new b).shape) z) (sym p)

pub whole_cell : (old new : Store) (a i v : ℕ) → Writes old new a (with_cell (record_of old a) i v) → IsWhole old → IsWhole new
whole_cell old new a i v w k = whole_write old new a _ w (length-set (record_of old a).cells i v) refl refl k

-- each object keeps its cells
cells_put : (g : Graph) (id : ℕ) (o : Object) → 0 < id → id ≤ length g.objects → HasItsCells o → ((k : ℕ) → HasItsCells (object_of g.objects k)) → (k : ℕ) → HasItsCells (object_of (put_object g.objects id o) k)
cells_put g id o p l here all k = go (k == id) refl
  where
    go : (b : Bool) → (k == id) ≡ b → HasItsCells (object_of (put_object g.objects id o) k)
    go true t = let same : k ≡ id = grind arith in subst HasItsCells (sym (ap (object_of (put_object g.objects id o)) same ∙ object-put_same g.objects id o p l)) here
    go false t = let ne : k ≢ id = grind arith in subst HasItsCells (sym (object-put_other g.objects id o k p ne)) (all k)

pub cells_sum : (o : Object) → HasItsCells o → length o.refs + length o.words ≡ cells_of o.shape
cells_sum o k = let r = k.refs in let w = k.words in omega arith

-- a store is written, if an object that is reached is put
object_written : (h : HeapState) (present snapshot : Graph) (new : Store) (a id : ℕ) (n : BlockRecord) (o : Object) → Consistent h present snapshot → Reaches present id → Writes h.store new a n → IsWhole new → HasItsCells o
    → (0 < id → id ≤ length present.objects → Coherent (record (collector_of h) { heap = seen (record h { store = new }) }) (view (record present { objects = put_object present.objects id o })) (view snapshot))
    → Consistent (record h { store = new }) (record present { objects = put_object present.objects id o }) snapshot
object_written h present snapshot new a id n o c r w whole here parts =
    let h' : HeapState = record h { store = new } in
    let put : Graph = record present { objects = put_object present.objects id o } in
    let some = reaches_some present id r in
    let given = kept_given h present snapshot c (name_of id) (known_kept h present snapshot c id (inr r)) in
    stepped h h' present snapshot put snapshot c refl refl refl refl refl refl c.snapshot_row (cells_put present id o some given here c.cells) whole
    (subst (λ z. Coherent (collector_by (seen h') z h.phase h.grey) (view put) (view snapshot)) (sym w.pages) (parts some given))

-- a word cell is written
pub word_written : (h : HeapState) (present snapshot : Graph) (new : Store) (address id k word : ℕ) → Consistent h present snapshot → Reaches present id → k < length (object_of present.objects id).words
    → IsMain (seen h) (address + 1) (record { identity = id; part = part_in (cells_of (object_of present.objects id).shape) k })
    → Writes h.store new address (with_cell (record_of h.store address) (width_at (record_of h.store address) + column_in k) word)
    → Consistent (record h { store = new }) (changed present (changes.Word id k word)) snapshot
word_written h present snapshot new a id k word c r l i w =
    let o = object_of present.objects id in
    let m = collector_of h in
    let h' : HeapState = record h { store = new } in
    let below : part_at o k < count_of o = word_below o k l in
    let n : Name = record { identity = id; part = part_at o k } in
    let i' : IsMain (seen h) (a + 1) n = subst (λ z. IsMain (seen h) (a + 1) (record { identity = id; part = part_in z k })) (sym (cells_sum o (c.cells id))) i in
    let c1 = puts_word m (view present) (view snapshot) (a + 1) n (column_at o k) word c.parts (part_kept h present snapshot c id (part_at o k) r below) i' in
    let c2 = same_coherent (record m { heap = set_word m.heap (a + 1) (column_at o k) word }) (seen h') (write_word (view present) n (column_at o k) word) (view snapshot) (word_seen h new a (column_at o k) word w) c1 in
    object_written h present snapshot new a id _ (with_word o k word) c r w (whole_cell h.store new a _ word w c.whole) (record { refs = (c.cells id).refs; words = length-set o.words k word ∙ (c.cells id).words })
    (λ some given. subst (λ z. Coherent (record m { heap = seen h' }) z (view snapshot)) (sym (view-word present id k word some given)) c2)

pub width_le : (refs words p : ℕ) → width_in refs words p ≤ part_cells (refs + words) p
unfolding width_in
width_le refs words p = grind arith

-- the reference cells of a part are among its cells
pub column_within : (h : HeapState) (present snapshot : Graph) (c : Consistent h present snapshot) (a : ℕ) (n : Name) → Kept (length h.roots) (view snapshot) (view present) n → IsMain (seen h) (a + 1) n
    → n.part < count_of (object_of present.objects n.identity) → (width_at (record_of h.store a) ≡ width_of (object_of present.objects n.identity) n.part) × (width_at (record_of h.store a) ≤ length (record_of h.store a).cells)
unfolding count_of
column_within h present snapshot c a n k i l =
    let b = c.parts.base in
    let o = object_of present.objects n.identity in
    let at : a + 1 ≡ c.parts.at n = main_at (collector_of h) (view present) (view snapshot) c.parts (a + 1) n k i in
    let width : width_at (record_of h.store a) ≡ width_of o n.part = sym (behind 0 (λ z. width_at (record_of h.store z)) a) ∙ ap (seen h).width at ∙ b.width n k in
    let shape : (record_of h.store a).shape ≡ o.shape = sym (behind _ (λ z. (record_of h.store z).shape) a) ∙ ap (seen h).shape at ∙ b.shape n k in
    let name : record { identity = (record_of h.store a).identity; part = (record_of h.store a).part } ≡ n = sym (behind _ (λ z. (let y : Name = record { identity = (record_of h.store z).identity; part = (record_of h.store z).part } in y)) a) ∙ i.name in
    let part : (record_of h.store a).part ≡ n.part = ap (λ (z : Name). z.part) name in
    let allocated : is_allocated h.store a ≡ true = sym (behind true (λ z. is_allocated h.store z) a) ∙ i.allocated in
    let sum = cells_sum o (c.cells n.identity) in
    let whole : length (record_of h.store a).cells ≡ part_cells (length o.refs + length o.words) n.part = c.whole a allocated ∙ ap (λ z. part_cells (cells_of z) (record_of h.store a).part) shape ∙ ap (λ z. part_cells (cells_of o.shape) z) part ∙ ap (λ z. part_cells z n.part) (sym sum) in
    let le = width_le (length o.refs) (length o.words) n.part in
    (width, omega arith)

-- a reference cell is written
pub ref_written : (h : HeapState) (present snapshot : Graph) (new : Store) (address y id i v : ℕ) → Consistent h present snapshot → Reaches present id → i < length (object_of present.objects id).refs
    → IsMain (seen h) (address + 1) (record { identity = id; part = part_in (cells_of (object_of present.objects id).shape) i })
    → IsRecorded h (get_or (record_of h.store address).cells (column_in i) 0)
    → IsKnown present v → IsMain (seen h) y (name_of v)
    → Writes h.store new address (with_cell (record_of h.store address) (column_in i) y)
    → Consistent (record h { store = new }) (changed present (changes.Ref id i v)) snapshot
ref_written h present snapshot new a y id i v c r l ix rec kv iy w =
    let o = object_of present.objects id in
    let m = collector_of h in
    let h' : HeapState = record h { store = new } in
    let below : part_at o i < count_of o = part_below o i l in
    let n : Name = record { identity = id; part = part_at o i } in
    let kn = part_kept h present snapshot c id (part_at o i) r below in
    let ix' : IsMain (seen h) (a + 1) n = subst (λ z. IsMain (seen h) (a + 1) (record { identity = id; part = part_in z i })) (sym (cells_sum o (c.cells id))) ix in
    let within = column_within h present snapshot c a n kn ix' below in
    let column : column_at o i < width_of o (part_at o i) = column_below o i l in
    let column' : column_at o i < width_at (record_of h.store a) = subst (λ z. column_at o i < z) (sym within.0) column in
    let inside : column_at o i < length (record_of h.store a).cells = (let e = within.1 in omega arith) in
    let cell : (seen h).cell (a + 1) (column_at o i) ≡ get_or (record_of h.store a).cells (column_at o i) 0 = behind 0 (λ z. get_or (record_of h.store z).cells (column_at o i) 0) a in
    let recorded : is_tracing m.phase ≡ true → m.heap.marked (m.heap.forward (m.heap.cell (a + 1) (column_at o i))) ≡ true = λ t. subst (λ z. m.heap.marked (m.heap.forward z) ≡ true) (sym cell) (rec (sym (records-progress h.store.pages h.phase) ∙ t)) in
    let c1 = puts_cell m (view present) (view snapshot) (a + 1) n (column_at o i) y (name_of v) c.parts kn ix' column recorded (known_kept h present snapshot c v kv) iy in
    let c2 = same_coherent (record m { heap = set_cell m.heap (a + 1) (column_at o i) y }) (seen h') (write_target (view present) n (column_at o i) (name_of v)) (view snapshot) (cell_seen h new a (column_at o i) y w inside column') c1 in
    object_written h present snapshot new a id _ (with_ref o i v) c r w (whole_cell h.store new a _ y w c.whole) (record { refs = length-set o.refs i v ∙ (c.cells id).refs; words = (c.cells id).words })
    (λ some given. subst (λ z. Coherent (record m { heap = seen h' }) z (view snapshot)) (sym (view-ref present id i v some given l)) c2)
