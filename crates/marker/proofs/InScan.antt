-- The invariant of the part in scan.
use Rattle.std.proofs.Common.{◌≡◌, ◌≢◌, ℕ, ◌+◌, ◌-◌, ◌<◌, ◌≤◌, ◌^◌, Bool, true, false, ◌==◌, if◌then◌else◌, length, get_or, ap, ◌∙◌, sym, subst, refl, arith}
use Rattle.heap_model.specs.declared.phase.Phase.TheVariants as phases
use Rattle.heap_model.specs.Store.{is_allocated, record_of}
use Rattle.heap_model.specs.Cut.{view}
use Rattle.heap_model.specs.State.{HeapState, seen, width_at, collector_by}
use Rattle.heap_model.specs.Collector.{Collector, Coherent}
use Rattle.heap_model.proofs.Action.Collecting.{wide_within, scanned_allocated, scanned_cell_allocated, allocated_behind, at_phase}
use Rattle.heap_model.proofs.Store.Apart.{lie_apart, size_small}
use Rattle.nodes.specs.declared.nodes.Referent.{Referent}
use Rattle.nodes.specs.Referent.{CanFollow, referent_of}
use Rattle.nodes.proofs.Representing.{main_allocated}
use Rattle.nodes.specs.declared.heap_fields.HeapFields.{HeapFields}
use Rattle.nodes.specs.HeapFields.{state_of, AreHeapFields}

some_more : (x : ℕ) → x ≢ 0 → 0 < x
some_more x ne = grind arith

some_is : (x : ℕ) → 0 < x → (x == 0) ≡ false
some_is x up = grind arith

after_some : (n : ℕ) → 0 < n + 1
after_some n = omega arith

before_after : (n : ℕ) → n + 1 - 1 ≡ n
before_after n = omega arith

module _ (a : HeapFields) (w : AreHeapFields a) (part cell : ℕ) (e : a.phase ≡ phases.Marking part cell) where
  abbrev h : HeapState
  h = state_of a

  abbrev m : Collector
  m = collector_by (seen h) h.store.pages (phases.Marking part cell) h.grey

  abbrev c : Coherent m (view w.heap.present) (view w.heap.snapshot)
  c = at_phase h (phases.Marking part cell) (view w.heap.present) (view w.heap.snapshot) e w.heap.represents.consistent.parts

  pub none_left : part ≡ 0 → cell ≡ 0
  none_left z = let l : cell ≤ (seen h).width part = c.stage.1.column in let v : cell ≤ 0 = subst (λ x. cell ≤ (seen h).width x) z l in omega arith

  module _ (some : part ≢ 0) where
    positive : 0 < part
    positive = grind arith

    pub part_allocated : is_allocated a.nodes (part - 1) ≡ true
    part_allocated = allocated_behind h part positive c.stage.1.scanning_allocated

    not_null : (part == 0) ≡ false
    not_null = grind arith

    wide : (seen h).width part ≡ width_at (record_of h.store (part - 1))
    wide = rw not_null refl

    column : cell ≤ width_at (record_of a.nodes (part - 1))
    column = subst (λ n. cell ≤ n) wide c.stage.1.column

    pub cells_within : width_at (record_of a.nodes (part - 1)) ≤ length (record_of a.nodes (part - 1)).cells
    cells_within = wide_within h (part - 1) w.heap.represents.consistent.whole part_allocated

    cell_is : (seen h).cell part cell ≡ get_or (record_of h.store (part - 1)).cells cell 0
    cell_is = rw not_null refl

    scans_follow : cell < (seen h).width part → CanFollow h.store ((seen h).cell part cell)
    scans_follow l some' =
        let x = (seen h).cell part cell in
        let up : 0 < x = some_more x some' in
        let allocated = scanned_cell_allocated m (view w.heap.present) (view w.heap.snapshot) c c.stage l in
        let main = scanned_allocated m (view w.heap.present) (view w.heap.snapshot) c c.stage l in
        (allocated_behind h x up allocated, follow x up main)
      where
        follow : (x : ℕ) → 0 < x → (seen h).allocated ((seen h).forward x) ≡ true → is_allocated h.store (record_of h.store (x - 1)).forward ≡ true
        follow x up main =
            let z = some_is x up in
            let f : (seen h).forward x ≡ (record_of h.store (x - 1)).forward + 1 = rw z refl in
            let g = allocated_behind h ((record_of h.store (x - 1)).forward + 1) (after_some _) (ap (seen h).allocated (sym f) ∙ main) in
            subst (λ k. is_allocated h.store k ≡ true) (before_after _) g

    pub cell_follows : cell < width_at (record_of a.nodes (part - 1)) → CanFollow a.nodes (get_or (record_of a.nodes (part - 1)).cells cell 0)
    cell_follows l = subst (CanFollow h.store) cell_is (scans_follow (subst (λ n. cell < n) (sym wide) l))

    -- the main copy that a cell names is allocated
    pub cell_main : cell < width_at (record_of a.nodes (part - 1)) → (r : Referent) → r ≡ referent_of a.nodes (get_or (record_of a.nodes (part - 1)).cells cell 0) → r.reference ≢ 0 → is_allocated a.nodes (r.reference - 1) ≡ true
    cell_main l r is = main_allocated a.nodes _ r is (cell_follows l)

    pub width_small : width_at (record_of a.nodes (part - 1)) < 2 ^ 31
    width_small =
        let apart = lie_apart h w.heap.represents.pages w.heap.represents.consistent.whole in
        let f = apart.fits part c.stage.1.scanning_allocated positive in
        let s = size_small h.store w.heap.represents.pages (part - 1) in
        let e = wide in
        omega arith

    pub cell_small : cell < 2 ^ 31
    cell_small = let l = column in let s = width_small in omega arith

  -- all cells of the part in scan were scanned
  pub all_scanned : (part ≢ 0 → width_at (record_of a.nodes (part - 1)) ≤ cell) → cell ≡ (seen (state_of a)).width part
  all_scanned past = by_null (part == 0) refl
    where
      by_null : (t : Bool) → (part == 0) ≡ t → cell ≡ (if t then 0 else width_at (record_of h.store (part - 1)))
      by_null true z = none_left (grind arith)
      by_null false z = let ne : part ≢ 0 = grind arith in omega (arith, column ne, past ne)
