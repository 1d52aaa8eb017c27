-- From the block of part 0 to that of any part, in two steps at most.
use Rattle.std.proofs.Common.{◌≡◌, ◌≢◌, ℕ, ◌<◌, inl, inr, Bool, true, false, refl, length, get_or, ap, subst, sym, ◌∙◌, arith, ◌==◌, if◌then◌else◌}
use Rattle.graph_heap.specs.Graph.{Graph, object_of, Object}
use Rattle.graph_heap.specs.Reach.{Reaches}
use Rattle.size_classes.specs.Parts.{cells_of, pieces_of, spines_of, parts_in, part_cells, spine_of, spine_cell_of}
use Rattle.size_classes.proofs.Cutting.{pieces_are, spines_are, referrers_are, two_steps}
use Rattle.heap_model.specs.Store.{record_of}
use Rattle.heap_model.specs.Core.{Name, null}
use Rattle.heap_model.specs.Agree.{Reads}
use Rattle.heap_model.specs.Cut.{count_of, name_of}
use Rattle.heap_model.specs.State.{HeapState, seen}
use Rattle.heap_model.specs.Agreement.{Agrees, IsWhole}
use Rattle.heap_model.specs.Reading.{IsMainCopy, Refers, step_to, spine_at, block_of}
use Rattle.heap_model.proofs.Readings.Shown.{leads, piece_shown, shape_shown}
use Rattle.heap_model.proofs.Agreements.Written.{cells_sum}

not_null : (id part : ℕ) → 0 < part → null ≡ record { identity = id; part = part } → ⊥
not_null id part p e = let q : 0 ≡ part = ap (λ (x : Name). x.part) e in omega arith

zero_is : (x : ℕ) → (x == 0) ≡ true → 0 ≡ x
zero_is x e = grind arith

more_is : (x : ℕ) → (x == 0) ≡ false → 0 < x
more_is x e = grind arith

earlier : (x y z : ℕ) → x < y → y < z → x < z
earlier x y z l m = omega arith

never : (q : ℕ) → q ≡ 0 → 0 < q → ⊥
never q z l = omega arith

module _ (h : HeapState) (g : Graph) (id : ℕ) (a : Agrees h g) (r : Reaches g id) where
  abbrev o : Object
  o = object_of g.objects id

  abbrev cells : ℕ
  cells = cells_of o.shape

  in_parts : (part : ℕ) → part < count_of o → part < parts_in cells
  unfolding count_of
  in_parts part l = subst (λ z. part < parts_in z) (cells_sum o (a.given id r).cells) l

  allocated : (part : ℕ) → 0 < part → part < count_of o → (spine_of cells part < spines_of cells) × (spine_of cells part < part) × (spine_cell_of cells part < part_cells cells (spine_of cells part))
  allocated part p l = let k = referrers_are cells (pieces_of cells) (spines_of cells) (pieces_are cells) (spines_are cells) part p (in_parts part l) in (k.0, k.1, k.2)

  -- one step
  module _ (part address : ℕ) (p : 0 < part) (l : part < count_of o) (m : IsMainCopy h.store address (record { identity = id; part = spine_of cells part })) where
    reads : Reads (seen h) (get_or (record_of h.store address).cells (spine_cell_of cells part) 0) (record { identity = id; part = part })
    reads = piece_shown h g id part address a r p l m

    some : get_or (record_of h.store address).cells (spine_cell_of cells part) 0 ≢ 0
    some z = not_null id part p (subst (λ x. Reads (seen h) x (record { identity = id; part = part })) z reads).main.name

    one_step : IsMainCopy h.store (step_to h.store address (spine_cell_of cells part)) (record { identity = id; part = part })
    one_step = (leads h _ _ reads some).main

    pub step_refers : IsWhole h.store → Refers h.store address (spine_cell_of cells part)
    step_refers whole =
        let k = allocated part p l in
        let shape = shape_shown h g id (spine_of cells part) address a r (earlier _ part _ k.1 l) m in
        let length_is : length (record_of h.store address).cells ≡ part_cells cells (spine_of cells part) =
        whole address m.allocated ∙ ap (λ s. part_cells (cells_of s) (record_of h.store address).part) shape ∙ ap (part_cells cells) m.part in
        record { allocated = m.allocated; within = subst (λ n. spine_cell_of cells part < n) (sym length_is) k.2; some = some; there = (leads h _ _ reads some).allocated }

  -- the spine that refers to a part
  module _ (address : ℕ) (m : IsMainCopy h.store address (name_of id)) (part : ℕ) (p : 0 < part) (l : part < count_of o) where
    root_refers : spine_of cells part ≢ 0 → IsMainCopy h.store address (record { identity = id; part = spine_of cells (spine_of cells part) })
    root_refers some = elim (two_steps cells (pieces_of cells) (spines_of cells) (pieces_are cells) (spines_are cells) part p (in_parts part l)) [
      | inl z ↦ absurd (some z)
      | inr w ↦ subst (λ z. IsMainCopy h.store address (record { identity = id; part = z })) (sym w.1) m
    ]

    pub root_to_spine : spine_of cells part ≢ 0 → IsWhole h.store → Refers h.store address (spine_cell_of cells (spine_of cells part))
    root_to_spine some whole = step_refers (spine_of cells part) address (grind arith) (earlier _ part _ (allocated part p l).1 l) (root_refers some) whole

    spine_reached : IsMainCopy h.store (spine_at h.store cells address part) (record { identity = id; part = spine_of cells part })
    spine_reached = by_hop (spine_of cells part == 0) refl
      where
        by_hop : (b : Bool) → (spine_of cells part == 0) ≡ b → IsMainCopy h.store (if b then address else step_to h.store address (spine_cell_of cells (spine_of cells part))) (record { identity = id; part = spine_of cells part })
        by_hop true e = subst (λ z. IsMainCopy h.store address (record { identity = id; part = z })) (zero_is _ e) m
        by_hop false e = one_step (spine_of cells part) address (more_is _ e) (earlier _ part _ (allocated part p l).1 l) (root_refers (λ z. never (spine_of cells part) z (more_is _ e)))

    pub spine_to_part : IsWhole h.store → Refers h.store (spine_at h.store cells address part) (spine_cell_of cells part)
    spine_to_part whole = step_refers part (spine_at h.store cells address part) p l spine_reached whole

  pub part_reached : (part address : ℕ) → part < count_of o → IsMainCopy h.store address (name_of id) → IsMainCopy h.store (block_of h.store cells address part) (record { identity = id; part = part })
  part_reached part address l m = by_first (part == 0) refl
    where
      by_first : (b : Bool) → (part == 0) ≡ b → IsMainCopy h.store (if b then address else step_to h.store (spine_at h.store cells address part) (spine_cell_of cells part)) (record { identity = id; part = part })
      by_first true e = subst (λ z. IsMainCopy h.store address (record { identity = id; part = z })) (zero_is part e) m
      by_first false e = one_step part _ (more_is part e) l (spine_reached address m part (more_is part e) l)
