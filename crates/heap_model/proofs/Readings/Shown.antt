-- The readings of a heap that agrees with a graph heap.
use Rattle.std.proofs.lemmas.List.{get_or-drop, get_or-take}
use Rattle.std.proofs.Common.{◌≡◌, ◌≢◌, ℕ, ◌+◌, ◌-◌, ◌<◌, Bool, true, false, length, get_or, refl, ap, subst, sym, ◌∙◌, arith, ◌==◌, if◌then◌else◌, ◌↔◌, drop, ◌*◌, ◌/◌, ◌%◌, nat_lt}
use Rattle.graph_heap.specs.Graph.{Graph, object_of, Object}
use Rattle.graph_heap.specs.Reach.{Reaches}
use Rattle.size_classes.specs.Parts.{cells_of, spines_of, spine_of, spine_cell_of, part_in, column_in}
use Rattle.heap_model.specs.Store.{is_allocated, record_of}
use Rattle.heap_model.specs.Core.{Name, null}
use Rattle.heap_model.specs.Agree.{IsMain, Reads}
use Rattle.heap_model.specs.Cut.{count_of, width_of, words_of, target_of, name_of}
use Rattle.heap_model.specs.State.{HeapState, seen, width_at}
use Rattle.heap_model.specs.Agreement.{Agrees}
use Rattle.heap_model.specs.Reading.{IsMainCopy, LeadsTo}
use Rattle.heap_model.proofs.Cut.Reaching.{part_at, column_at, part_below, column_below, cell_at, spine_in, spine_cell_in, spine_below, spine_target, word_below}
use Rattle.heap_model.proofs.State.{behind}
use Rattle.heap_model.proofs.Agreements.Written.{cells_sum}

-- a main copy, by address and by reference
pub copy_main : (h : HeapState) (a : ℕ) (n : Name) → IsMainCopy h.store a n → IsMain (seen h) (a + 1) n
copy_main h a n i = record {
  allocated = behind true (λ z. is_allocated h.store z) a ∙ i.allocated;
  forward = behind 0 (λ z. (record_of h.store z).forward + 1) a ∙ ap (λ z. z + 1) i.forward;
  name = behind null (λ z. (let y : Name = record { identity = (record_of h.store z).identity; part = (record_of h.store z).part } in y)) a ∙ (λ t. record { identity = i.identity t; part = i.part t });
}

pub main_copy : (h : HeapState) (a : ℕ) (n : Name) → IsMain (seen h) (a + 1) n → IsMainCopy h.store a n
main_copy h a n i =
    let name : record { identity = (record_of h.store a).identity; part = (record_of h.store a).part } ≡ n = sym (behind null (λ z. (let y : Name = record { identity = (record_of h.store z).identity; part = (record_of h.store z).part } in y)) a) ∙ i.name in
    let forward : (record_of h.store a).forward + 1 ≡ a + 1 = sym (behind 0 (λ z. (record_of h.store z).forward + 1) a) ∙ i.forward in
    record {
      allocated = sym (behind true (λ z. is_allocated h.store z) a) ∙ i.allocated;
      forward = omega arith;
      identity = ap (λ (z : Name). z.identity) name;
      part = ap (λ (z : Name). z.part) name;
    }

-- a reference that isn't null is read by way of its forwarding word
pub leads : (h : HeapState) (x : ℕ) (n : Name) → Reads (seen h) x n → x ≢ 0 → LeadsTo h x n
leads h x n r some =
    let e : (x == 0) ≡ false = grind arith in
    let forward : (seen h).forward x ≡ (record_of h.store (x - 1)).forward + 1 = rw e refl in
    record {
      allocated = (let q : (seen h).allocated x ≡ is_allocated h.store (x - 1) = rw e refl in sym q ∙ r.allocated);
      main = main_copy h (record_of h.store (x - 1)).forward n (subst (λ z. IsMain (seen h) z n) forward r.main);
    }

pub leads_back : (h : HeapState) (x : ℕ) (n : Name) → LeadsTo h x n → x ≢ 0 → Reads (seen h) x n
leads_back h x n l some =
    let e : (x == 0) ≡ false = grind arith in
    let forward : (seen h).forward x ≡ (record_of h.store (x - 1)).forward + 1 = rw e refl in
    record {
      allocated = (let q : (seen h).allocated x ≡ is_allocated h.store (x - 1) = rw e refl in q ∙ l.allocated);
      main = subst (λ z. IsMain (seen h) z n) (sym forward) (copy_main h (record_of h.store (x - 1)).forward n l.main);
    }

-- 0 reads as null, and nothing else does
pub null_reads : (h : HeapState) (g : Graph) (x : ℕ) (id : ℕ) → Agrees h g → Reads (seen h) x (name_of id) → (x ≡ 0) ↔ (id ≡ 0)
null_reads h g x id a r = (
  (λ e. let q : (seen h).forward x ≡ 0 = (rw e refl) in
      let n : (seen h).name ((seen h).forward x) ≡ null = (rw q refl) in ap (λ (z : Name). z.identity) (sym r.main.name ∙ n)),
  (λ e. by_null (x == 0) refl (a.null ((seen h).forward x) (subst (λ z. IsMain (seen h) ((seen h).forward x) (name_of z)) e r.main))),
)
  where
    by_null : (t : Bool) → (x == 0) ≡ t → (if t then 0 else (record_of h.store (x - 1)).forward + 1) ≡ 0 → x ≡ 0
    by_null true q f = grind arith
    by_null false q f = absurd (omega arith)

-- the object that a root names
pub root_reads : (h : HeapState) (g : Graph) (j : ℕ) → Agrees h g → j < length h.roots → Reads (seen h) (get_or h.roots j 0) (name_of (get_or g.roots j 0))
root_reads h g j a l = a.root j l

-- a main copy of a part shows what the graph heap says
shown : (h : HeapState) (g : Graph) (id part address : ℕ) → Agrees h g → Reaches g id → part < count_of (object_of g.objects id) → IsMainCopy h.store address (record { identity = id; part = part })
    → let s = seen h in (s.width (address + 1) ≡ width_of (object_of g.objects id) part) × (s.words (address + 1) ≡ words_of (object_of g.objects id) part) × (s.shape (address + 1) ≡ (object_of g.objects id).shape)
    × ((i : ℕ) → i < width_of (object_of g.objects id) part → Reads s (s.cell (address + 1) i) (target_of id (object_of g.objects id) part i))
shown h g id part address a r l i =
    let w = a.shows id part r l in
    let e = w.only (address + 1) (copy_main h address (record { identity = id; part = part }) i) in
    (ap (seen h).width e ∙ w.width, ap (seen h).words e ∙ w.words, ap (seen h).shape e ∙ w.shape, (λ k b. subst (λ z. Reads (seen h) ((seen h).cell z k) (target_of id (object_of g.objects id) part k)) (sym e) (w.cells k b)))

pub shape_shown : (h : HeapState) (g : Graph) (id part address : ℕ) → Agrees h g → Reaches g id → part < count_of (object_of g.objects id) → IsMainCopy h.store address (record { identity = id; part = part })
    → (record_of h.store address).shape ≡ (object_of g.objects id).shape
shape_shown h g id part address a r l i = sym (behind _ (λ z. (record_of h.store z).shape) address) ∙ (shown h g id part address a r l i).2

-- each reference cell reads as the object's
pub ref_shown : (h : HeapState) (g : Graph) (id i address : ℕ) → Agrees h g → Reaches g id → i < length (object_of g.objects id).refs
    → IsMainCopy h.store address (record { identity = id; part = part_in (cells_of (object_of g.objects id).shape) i })
    → Reads (seen h) (get_or (record_of h.store address).cells (column_in i) 0) (name_of (get_or (object_of g.objects id).refs i 0))
ref_shown h g id i address a r l m =
    let o = object_of g.objects id in
    let sum = cells_sum o (a.given id r).cells in
    let m' = subst (λ z. IsMainCopy h.store address (record { identity = id; part = part_in z i })) (sym sum) m in
    let s = (shown h g id (part_at o i) address a r (part_below o i l) m').3 (column_at o i) (column_below o i l) in
    let s' = subst (λ z. Reads (seen h) ((seen h).cell (address + 1) (column_at o i)) z) (cell_at id o i l) s in
    let s'' = subst (λ z. Reads (seen h) z (name_of (get_or o.refs i 0))) (behind 0 (λ z. get_or (record_of h.store z).cells (column_at o i) 0) address) s' in
    subst (λ z. Reads (seen h) (get_or (record_of h.store address).cells (column_in i) 0) (name_of (get_or o.refs i 0))) sum s''

-- the cell of a spine that refers to a part reads as that part
pub piece_shown : (h : HeapState) (g : Graph) (id part address : ℕ) → Agrees h g → Reaches g id → 0 < part → part < count_of (object_of g.objects id)
    → IsMainCopy h.store address (record { identity = id; part = spine_of (cells_of (object_of g.objects id).shape) part })
    → Reads (seen h) (get_or (record_of h.store address).cells (spine_cell_of (cells_of (object_of g.objects id).shape) part) 0) (record { identity = id; part = part })
piece_shown h g id part address a r p l m =
    let o = object_of g.objects id in
    let sum = cells_sum o (a.given id r).cells in
    let m' = subst (λ z. IsMainCopy h.store address (record { identity = id; part = spine_of z part })) (sym sum) m in
    let q = spine_below o part l p in
    let s = (shown h g id (spine_in o part) address a r q.2 m').3 (spine_cell_in o part) q.0 in
    let s' = subst (λ z. Reads (seen h) ((seen h).cell (address + 1) (spine_cell_in o part)) z) (spine_target id o part l p) s in
    let s'' = subst (λ z. Reads (seen h) z (record { identity = id; part = part })) (behind 0 (λ z. get_or (record_of h.store z).cells (spine_cell_in o part) 0) address) s' in
    subst (λ z. Reads (seen h) (get_or (record_of h.store address).cells (spine_cell_of z part) 0) (record { identity = id; part = part })) sum s''

-- each word cell is the object's
pub word_at : (o : Object) (k : ℕ) → get_or (words_of o (part_at o k)) (column_at o k) 0 ≡ get_or o.words k 0
unfolding words_of part_in column_in
word_at o k =
    let s = spines_of (length o.refs + length o.words) in
    let e : nat_lt (s + k / 252) s ≡ false = none_before s (k / 252) in
    let first : 252 * (s + k / 252 - s) + k % 252 ≡ k = back s k in
    let less : k % 252 < 252 = small k in
    rw e (get_or-take 252 (drop (252 * (s + k / 252 - s)) o.words) (k % 252) 0 less ∙ get_or-drop (252 * (s + k / 252 - s)) o.words (k % 252) 0 ∙ ap (λ z. get_or o.words z 0) first)
  where
    none_before : (s x : ℕ) → nat_lt (s + x) s ≡ false
    none_before s x = grind arith

    back : (s k : ℕ) → 252 * (s + k / 252 - s) + k % 252 ≡ k
    back s k = grind arith

    small : (k : ℕ) → k % 252 < 252
    small k = omega arith

pub word_shown : (h : HeapState) (g : Graph) (id k address : ℕ) → Agrees h g → Reaches g id → k < length (object_of g.objects id).words
    → IsMainCopy h.store address (record { identity = id; part = part_in (cells_of (object_of g.objects id).shape) k })
    → get_or (record_of h.store address).cells (width_at (record_of h.store address) + column_in k) 0 ≡ get_or (object_of g.objects id).words k 0
word_shown h g id k address a r l m =
    let o = object_of g.objects id in
    let n = record_of h.store address in
    let sum = cells_sum o (a.given id r).cells in
    let m' = subst (λ z. IsMainCopy h.store address (record { identity = id; part = part_in z k })) (sym sum) m in
    let s : drop (width_at n) n.cells ≡ words_of o (part_at o k) = sym (behind _ (λ z. drop (width_at (record_of h.store z)) (record_of h.store z).cells) address) ∙ (shown h g id (part_at o k) address a r (word_below o k l) m').1 in
    let e : get_or n.cells (width_at n + column_at o k) 0 ≡ get_or o.words k 0 = sym (get_or-drop (width_at n) n.cells (column_at o k) 0) ∙ ap (λ z. get_or z (column_at o k) 0) s ∙ word_at o k in
    subst (λ z. get_or n.cells (width_at n + column_in k) 0 ≡ get_or o.words k 0) sum e
