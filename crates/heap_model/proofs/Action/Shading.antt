-- The barrier's record: a main copy is shaded.
use Rattle.std.proofs.Common.{length, ◌≡◌, ℕ, true, false, refl, ap, subst, sym, ◌∙◌, arith, ◌==◌, if◌then◌else◌}
use Rattle.graph_heap.specs.Graph.{Graph}
use Rattle.heap_model.specs.Core.{Name, Heap}
use Rattle.heap_model.specs.Agree.{IsMain}
use Rattle.heap_model.specs.Cut.{name_of, view}
use Rattle.heap_model.specs.Collector.{Coherent}
use Rattle.heap_model.specs.State.{HeapState, seen, collector_by, collector_of}
use Rattle.heap_model.specs.Agreement.{Consistent}
use Rattle.heap_model.specs.Written.{IsKnown, records}
use Rattle.heap_model.specs.Action.{Shades, Was_marked, Is_marked}
use Rattle.heap_model.proofs.Core.Same.{SameBlocks}
use Rattle.heap_model.proofs.Core.Edits.{shade}
use Rattle.heap_model.proofs.Collector.Barrier.{shades}
use Rattle.heap_model.proofs.Agreements.Written.{records-progress}
use Rattle.heap_model.proofs.Agreements.Implied.{known_kept}
use Rattle.heap_model.proofs.Action.Collecting.{again, shaded_already, colour_seen, shaded_state, shades_limits, shades_live, shades_roots, shades_whole}

-- a shade shows the same blocks, one of them marked
pub shade_seen : (h k : HeapState) (x : ℕ) → Shades h x k → SameBlocks (shade (seen h) x) (seen k)
shade_seen h k x (Was_marked e) = shaded_already (seen h) x e
shade_seen h k x (Is_marked new front back is e w) = colour_seen h new x (λ z. let t : (seen h).marked x ≡ true = ap (seen h).marked z in (let q : false ≡ true = sym e ∙ t in cc)) w

pub shades_phase : (h k : HeapState) (x : ℕ) → Shades h x k → k.phase ≡ h.phase
shades_phase h k x (Was_marked e) = refl
shades_phase h k x (Is_marked new front back is e w) = refl

-- the main copy of what can be reached is shaded
pub shade_kept : (h after : HeapState) (present snapshot : Graph) (x v : ℕ) → Consistent h present snapshot → records h.phase ≡ true → IsKnown present v → IsMain (seen h) x (name_of v) → Shades h x after → Consistent after present snapshot
shade_kept h k present snapshot x v c r known main sh =
    let c1 = shades (collector_of h) (view present) (view snapshot) x (name_of v) c.parts (records-progress h.store.pages h.phase ∙ r) (known_kept h present snapshot c v known) main in
    let c2 = shaded_state h k x h.phase (view present) (view snapshot) sh c1 in
    again h k present snapshot c (shades_limits h k x sh) (shades_live h k x sh) (ap length (shades_roots h k x sh)) (shades_whole h k x sh c.whole)
    (subst (λ z. Coherent (collector_by (seen k) k.store.pages z k.grey) (view present) (view snapshot)) (sym (shades_phase h k x sh)) c2)

-- main copies stay main copies
pub shade_main : (h after : HeapState) (x y : ℕ) (n : Name) → Shades h x after → IsMain (seen h) y n → IsMain (seen after) y n
shade_main h k x y n sh m = let e = shade_seen h k x sh in record { allocated = e.allocated y ∙ m.allocated; forward = e.says.forward y m.allocated ∙ m.forward; name = e.says.name y m.allocated ∙ m.name }

-- what was shaded is recorded
pub shade_records : (h after : HeapState) (x : ℕ) → Shades h ((seen h).forward x) after → (seen h).allocated x ≡ true → (seen h).allocated ((seen h).forward x) ≡ true → (seen after).marked ((seen after).forward x) ≡ true
shade_records h k x sh allocated main =
    let e = shade_seen h k ((seen h).forward x) sh in
    ap (seen k).marked (e.says.forward x allocated) ∙ e.says.marked ((seen h).forward x) main ∙ here (seen h) ((seen h).forward x)
  where
    here : (heap : Heap) (f : ℕ) → (if f == f then true else heap.marked f) ≡ true
    here heap f = grind arith
