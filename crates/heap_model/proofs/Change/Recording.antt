-- The state that the barrier leaves as it was, and the facts that hold behind it.
use Rattle.std.proofs.Common.{◌≡◌, ℕ, ◌-◌, Bool, true, false, List, ◌∷◌, ◌++◌, ap, refl, sym, ◌∙◌, ◌==◌, ◌||◌}
use Rattle.graph_heap.specs.Graph.{Graph}
use Rattle.heap_model.specs.Block.{BlockRecord, with_colour}
use Rattle.heap_model.specs.Store.{is_allocated, record_of}
use Rattle.heap_model.specs.Core.{Name}
use Rattle.heap_model.specs.Agree.{IsMain, Reads}
use Rattle.heap_model.specs.Cut.{name_of}
use Rattle.heap_model.specs.Collector.{contains}
use Rattle.heap_model.specs.State.{HeapState, seen}
use Rattle.heap_model.specs.Agreement.{Consistent}
use Rattle.heap_model.specs.Written.{IsKnown, IsRecorded}
use Rattle.heap_model.specs.Action.{Shades, Was_marked, Is_marked}
use Rattle.heap_model.specs.Spent.{DoesMore}
use Rattle.heap_model.specs.Change.{Records, Records_nothing, Records_main}
use Rattle.heap_model.proofs.State.{node_kept, allocated_pages}
use Rattle.heap_model.proofs.Collector.Coherence.{contains-middle}
use Rattle.heap_model.proofs.Action.Shading.{shade_kept, shade_main, shade_records}
use Rattle.heap_model.proofs.Spent.Mutators.{shade_more, same_more}

-- what stays
pub record Stays (h k : HeapState) : Type 0 where
  pub limits : k.limits ≡ h.limits
  pub defrag : k.defrag_pages ≡ h.defrag_pages
  pub pages : k.store.pages ≡ h.store.pages
  pub roots : k.roots ≡ h.roots
  pub next : k.next ≡ h.next
  pub phase : k.phase ≡ h.phase
  pub units : k.units ≡ h.units
  pub mark_parity : k.mark_parity ≡ h.mark_parity
  pub grey : (x : ℕ) → contains h.grey x ≡ true → contains k.grey x ≡ true

more_grey : (xs front back : List ℕ) (x y : ℕ) → xs ≡ front ++ back → contains xs y ≡ true → contains (front ++ x ∷ back) y ≡ true
more_grey xs front back x y is e = contains-middle front back x y ∙ by_same (x == y)
  where
    by_same : (b : Bool) → (b || contains (front ++ back) y) ≡ true
    by_same true = refl
    by_same false = ap (λ (l : List ℕ). contains l y) (sym is) ∙ e

shades_stay : (h k : HeapState) (x : ℕ) → Shades h x k → Stays h k
shades_stay h k x (Was_marked e) = record { limits = refl; defrag = refl; pages = refl; roots = refl; next = refl; phase = refl; units = refl; mark_parity = refl; grey = λ y e. e }
shades_stay h k x (Is_marked new front back is e w) = record { limits = refl; defrag = refl; pages = w.pages; roots = refl; next = refl; phase = refl; units = refl; mark_parity = refl; grey = λ y e. more_grey h.grey front back x y is e }

pub records_stay : (h k : HeapState) (x : ℕ) → Records h x k → Stays h k
records_stay h k x (Records_nothing e) = record { limits = refl; defrag = refl; pages = refl; roots = refl; next = refl; phase = refl; units = refl; mark_parity = refl; grey = λ y e. e }
records_stay h k x (Records_main k0 e sh) = shades_stay h k ((seen h).forward x) sh

-- the cells of allocated blocks stay
shades_cells : (h k : HeapState) (x b : ℕ) → Shades h x k → is_allocated h.store b ≡ true → (record_of k.store b).cells ≡ (record_of h.store b).cells
shades_cells h k x b (Was_marked e) l = refl
shades_cells h k x b (Is_marked new front back is e w) l = node_kept (λ (n : BlockRecord). n.cells) h.store new (x - 1) (with_colour (record_of h.store (x - 1)) h.mark_parity) w b l (λ s. refl)

pub records_cells : (h k : HeapState) (x b : ℕ) → Records h x k → is_allocated h.store b ≡ true → (record_of k.store b).cells ≡ (record_of h.store b).cells
records_cells h k x b (Records_nothing e) l = refl
records_cells h k x b (Records_main k0 e sh) l = shades_cells h k ((seen h).forward x) b sh l

-- allocated blocks stay allocated
pub records_allocated : (h k : HeapState) (x b : ℕ) → Records h x k → is_allocated h.store b ≡ true → is_allocated k.store b ≡ true
records_allocated h k x b r l = allocated_pages h.store k.store b (records_stay h k x r).pages ∙ l

-- main copies stay main copies
pub records_main : (h k : HeapState) (x y : ℕ) (n : Name) → Records h x k → IsMain (seen h) y n → IsMain (seen k) y n
records_main h k x y n (Records_nothing e) i = i
records_main h k x y n (Records_main k0 e sh) i = shade_main h k ((seen h).forward x) y n sh i

-- what was recorded is recorded
pub records_recorded : (h k : HeapState) (x : ℕ) (n : Name) → Records h x k → Reads (seen h) x n → IsRecorded k x
records_recorded h k x n (Records_nothing e) r = λ t. absurd (let z : false ≡ true = sym e ∙ t in cc)
records_recorded h k x n (Records_main k0 e sh) r = λ t. shade_records h k x sh r.allocated r.main.allocated

-- the invariant holds behind the barrier
pub records_kept : (h k : HeapState) (present snapshot : Graph) (x v : ℕ) → Consistent h present snapshot → Records h x k → IsKnown present v → Reads (seen h) x (name_of v) → Consistent k present snapshot
records_kept h k p s x v c (Records_nothing e) known r = c
records_kept h k p s x v c (Records_main k0 e sh) known r = shade_kept h k p s ((seen h).forward x) v c e known r.main sh

-- no work is taken away
pub records_more : (h k : HeapState) (x : ℕ) → Records h x k → DoesMore h k
records_more h k x (Records_nothing e) = same_more h
records_more h k x (Records_main k0 e sh) = shade_more h k ((seen h).forward x) sh
