-- The cells of an object that was found, by the facts that the code has: those about the value t as which the fields
-- h are seen.
use Rattle.std.proofs.Common.{◌≡◌, ◌≢◌, ℕ, ◌<◌, true, get_or, Ok, sym, subst}
use Rattle.graph_heap.specs.Shape.{fits}
use Rattle.graph_heap.specs.Graph.{Graph, object_of}
use Rattle.size_classes.specs.Parts.{cells_of, parts_in, spine_of, spine_cell_of}
use Rattle.heap_model.specs.Cut.{count_of}
use Rattle.heap_model.specs.State.{HeapState}
use Rattle.heap_model.specs.Agreement.{Agrees}
use Rattle.heap_model.specs.Reading.{Refers, spine_at, block_of}
use Rattle.arraylets.specs.declared.position.CellPosition.{CellPosition}
use Rattle.machine.specs.declared.plan.Found.{Found}
use Rattle.machine.specs.declared.plan.Kind.{Kind}
use Rattle.nodes.specs.HeapFields.{IsHeap}
use Rattle.machine.specs.Reading.{IsFound, CanReach, position_in, FindsCell}
use Rattle.machine.proofs.Doing.{present_agrees, at_present}
use Rattle.machine.proofs.Cells.{parts_below, spine_refers, part_refers, cell_below, found_cell}

module _ (h t : HeapState) (is : h ≡ t) (w : IsHeap h) (root i : ℕ) (f : Found) (finds : (g : Graph) → Agrees t g → IsFound t g (get_or g.roots root 0) f) where
  -- for each graph heap
  agrees_here : (g : Graph) → Agrees t g → Agrees h g
  agrees_here g a = subst (λ (x : HeapState). Agrees x g) (sym is) a

  found_here : (g : Graph) → Agrees t g → IsFound h g (get_or g.roots root 0) f
  found_here g a = subst (λ (x : HeapState). IsFound x g (get_or g.roots root 0) f) (sym is) (finds g a)

  abbrev present_id : ℕ
  present_id = get_or w.present.roots root 0

  found_now : IsFound h w.present present_id f
  found_now = at_present (λ x g. IsFound x g (get_or g.roots root 0) f) h t is w finds

  -- a part of the object
  abbrev IsPart : ℕ → Type 0
  IsPart p = p < count_of (object_of w.present.objects present_id)

  module _ (p : ℕ) (below : IsPart p) where
    within_parts : p < parts_in (cells_of f.shape)
    within_parts = parts_below h w.present (present_agrees h w) present_id f found_now p below

    to_spine : p ≢ 0 → spine_of (cells_of f.shape) p ≢ 0 → Refers h.store f.block (spine_cell_of (cells_of f.shape) (spine_of (cells_of f.shape) p))
    to_spine = spine_refers h w.present (present_agrees h w) present_id f found_now p below w.represents.consistent.whole

    to_part : p ≢ 0 → Refers h.store (spine_at h.store (cells_of f.shape) f.block p) (spine_cell_of (cells_of f.shape) p)
    to_part = part_refers h w.present (present_agrees h w) present_id f found_now p below w.represents.consistent.whole

    can_reach : CanReach h.store (cells_of f.shape) f.block p
    can_reach = (within_parts, to_spine, to_part)

  module _ (kind : Kind) where
    pub reached : (place : CellPosition) → position_in kind f.shape i ≡ Ok place → CanReach h.store (cells_of f.shape) f.block place.part
    reached place at = can_reach place.part (cell_below h w.present (present_agrees h w) present_id f found_now i kind place at)

    -- the cell
    pub finds_cell : (place : CellPosition) (block : ℕ) → block ≡ block_of h.store (cells_of f.shape) f.block place.part → position_in kind f.shape i ≡ Ok place → fits f.shape ≡ true → (g : Graph) → Agrees t g
        → FindsCell t g kind (get_or g.roots root 0) i (Ok (record { block = block; index = place.cell }))
    finds_cell place block eb at fit g a =
        subst (λ (y : HeapState). FindsCell y g kind (get_or g.roots root 0) i (Ok (record { block = block; index = place.cell }))) is
        (subst (λ b. FindsCell h g kind (get_or g.roots root 0) i (Ok (record { block = b; index = place.cell }))) (sym eb) (found_cell h g (agrees_here g a) _ f (found_here g a) i kind place at fit w.represents.consistent.whole))
