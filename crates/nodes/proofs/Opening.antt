-- The opening heap.
use Rattle.std.proofs.Common.{◌≡◌, ℕ, ◌+◌, ◌*◌, ◌/◌, ◌%◌, ◌<◌, ◌≤◌, ◌^◌, true, false, [], List, Option, None, length, replicate, ap, ◌∙◌, sym, arith}
use Rattle.std.proofs.Math.Nat.{mul-le-mul_right}
use Rattle.std.proofs.lemmas.List.{length-replicate}
use Rattle.graph_heap.specs.Shape.{fits}
use Rattle.graph_heap.specs.Graph.{opening, object_of}
use Rattle.size_classes.specs.declared.class.TheConstants.{CLASSES}
use Rattle.heap_model.specs.Pages.{Page, page_at}
use Rattle.heap_model.specs.Store.{Store, allocated_in, is_allocated}
use Rattle.heap_model.specs.State.{HeapState}
use Rattle.heap_model.specs.Opening.{IsOpening}
use Rattle.heap_model.specs.Spent.{cycle_limit}
use Rattle.heap_model.proofs.Opening.{page_none}
use Rattle.heap_model.proofs.Represents.{represents_opening}
use Rattle.nodes.specs.declared.heap_fields.HeapFields.{HeapFields}
use Rattle.nodes.specs.HeapFields.{state_of, AreHeapFields}
use Rattle.nodes.proofs.Linking.{none_linked}
use Rattle.nodes.proofs.Threading.{buffers_none}

no_object_fits : (id : ℕ) → fits (object_of [] id).shape ≡ true
unfolding object_of
no_object_fits id = grind arith

-- The limit of a cycle is small, with at most 1048576 pages, of which all may be emptied, and 16640 roots.
small_limit : (h : HeapState) → length h.store.pages ≤ 1048576 → length h.roots ≤ 16640 → h.defrag_pages ≤ 1048576 → cycle_limit h < 2 ^ 41
small_limit h p r d = let z : (h.defrag_pages + CLASSES) * length h.store.pages ≤ (1048576 + CLASSES) * length h.store.pages = mul-le-mul_right (length h.store.pages) (omega (arith, d)) in omega (arith, z)

-- no block is allocated if all pages are free
none_allocated : (s : Store) → s.pages ≡ replicate (length s.pages) None → (b : ℕ) → is_allocated s b ≡ false
unfolding is_allocated
none_allocated s free b = ap (λ o. allocated_in o (b % 2048)) (ap (λ pages. page_at pages (b / 2048)) free ∙ page_none (length s.pages) (b / 2048))

pub opening_heap : (a : HeapFields) → IsOpening (state_of a) → 0 < length a.nodes.pages → length a.nodes.pages ≤ 1048576 → length a.roots.cells ≤ 16640 → a.config.defrag_pages ≤ 1048576 → length a.grey.buffers ≡ a.roots.limits.mutators → AreHeapFields a
opening_heap a o some few row most buffers = record {
  heap = record {
    present = opening a.roots.limits;
    snapshot = opening a.roots.limits;
    represents = represents_opening (state_of a) o some;
    fits = no_object_fits;
    small = small_limit (state_of a) few row most;
  };
  buffers = buffers;
  linked = none_linked a.nodes a.grey (buffers_none a.nodes a.grey o.grey) (λ b h c. absurd (let z : true ≡ false = sym h ∙ none_allocated a.nodes o.pages b in cc));
  empty = λ off. o.grey;
}

-- the pages of a new store are free
pub all_free : (s : Store) (n : ℕ) (words : List ℕ) → s ≡ record { pages = replicate n None; words = words } → s.pages ≡ replicate (length s.pages) None
all_free s n words e =
    let p : s.pages ≡ replicate {A = Option Page} n None = ap (λ (x : Store). x.pages) e in
    p ∙ ap (λ k. replicate {A = Option Page} k None) (sym (ap length p ∙ length-replicate {A = Option Page} n None))

pub new_count : (s : Store) (n : ℕ) (words : List ℕ) → s ≡ record { pages = replicate n None; words = words } → length s.pages ≡ n
new_count s n words e = ap (λ (x : Store). length x.pages) e ∙ length-replicate {A = Option Page} n None
