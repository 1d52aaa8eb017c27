-- One marking action, and its answer.
use Rattle.std.proofs.Common.{◌≡◌, ℕ, ◌≤◌, [], ◌∷◌, ◌++◌, List, ap, ◌∙◌, sym, subst, refl}
use Rattle.std.specs.Prelude.{if◌then◌else◌}
use Rattle.std.proofs.lemmas.Bool.{le-ltb}
use Rattle.heap_model.specs.declared.phase.Phase.TheVariants as phases
use Rattle.heap_model.specs.State.{HeapState, seen}
use Rattle.nodes.specs.declared.heap_fields.HeapFields.{HeapFields}
use Rattle.nodes.specs.HeapFields.{AreHeapFields}
use Rattle.marker.specs.declared.scan.Scanned.TheVariants as answers
use Rattle.marker.specs.Scanned.{header_of, scanned_at}
use Rattle.marker.specs.Scanning.{IsScanning}
use Rattle.marker.proofs.Scanning.{at_once}

one_more : (front back : List ℕ) (x : ℕ) → answers.Header ≡ header_of (front ++ x ∷ back)
one_more [] back x = refl
one_more (y ∷ front) back x = refl

-- No cell of the part is left, and a part is grey.
pub header_next : (h : HeapState) (part cell x : ℕ) (front back : List ℕ) → (seen h).width part ≤ cell → h.grey ≡ front ++ x ∷ back → answers.Header ≡ scanned_at h (phases.Marking part cell)
header_next h part cell x front back past e =
    one_more front back x ∙ ap header_of (sym e)
    ∙ ap (λ b. if b then answers.Cell else header_of h.grey) (sym (le-ltb cell ((seen h).width part) past))

-- a heap between two steps, whose phase says where it is
pub is_scanning : (a : HeapFields) (part cell : ℕ) → AreHeapFields a → a.phase ≡ phases.Marking part cell → IsScanning a part cell
is_scanning a part cell w ep = (a.units, subst AreHeapFields (sym (at_once a part cell ep)) w)
