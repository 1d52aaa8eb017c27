-- Cells scanned one after the other, of the fields of a heap.
use Rattle.std.proofs.Common.{◌≡◌, ℕ, ◌+◌, ◌-◌, ◌<◌, ◌≤◌, true, false, ◌==◌, get_or, ap, ◌∙◌, sym, subst, refl, arith}
use Rattle.std.proofs.lemmas.List.{set-get_or}
use Rattle.heap_model.specs.Action.{Action, Chain, Shades, Was_marked, Is_marked, goes_to, Scans_cell}
use Rattle.heap_model.specs.Block.{with_cell, with_colour}
use Rattle.heap_model.specs.State.{HeapState, seen, width_at}
use Rattle.heap_model.specs.Store.{Store, Writes, is_allocated, record_of}
use Rattle.heap_model.specs.declared.phase.Phase.TheVariants as phases
use Rattle.heap_model.proofs.State.{node_kept}
use Rattle.nodes.specs.declared.heap_fields.HeapFields.{HeapFields}
use Rattle.nodes.specs.HeapFields.{state_of}
use Rattle.nodes.proofs.Chains.{steps_on}

-- shading leaves how many cells of an allocated block are references
pub shades_width : (h k : HeapState) (x b : ℕ) → Shades h x k → is_allocated h.store b ≡ true → width_at (record_of k.store b) ≡ width_at (record_of h.store b)
shades_width h k x b (Was_marked e) allocated = refl
shades_width h k x b (Is_marked new front back is e w) allocated = node_kept width_at h.store new (x - 1) (with_colour (record_of h.store (x - 1)) h.mark_parity) w b allocated (λ q. refl)

-- and so does a write of a cell
pub writes_width : (s new : Store) (a i v : ℕ) → Writes s new a (with_cell (record_of s a) i v) → width_at (record_of new a) ≡ width_at (record_of s a)
writes_width s new a i v w = ap width_at w.here

-- a null cell is scanned
null_scanned : (a : HeapFields) (part cell : ℕ) → a.phase ≡ phases.Marking part cell → (part ≡ 0 → ⊥) → cell < width_at (record_of a.nodes (part - 1)) → get_or (record_of a.nodes (part - 1)).cells cell 0 ≡ 0
    → Action (state_of a) 1 (goes_to (state_of a) 1 (phases.Marking part (cell + 1)))
null_scanned a part cell ep ne below null =
    let h = state_of a in
    let some : (part == 0) ≡ false = grind (arith, ne) in
    let is : (seen h).cell part cell ≡ 0 = rw some null in
    let wide : cell < (seen h).width part = rw some below in
    let same : record_of a.nodes (part - 1) ≡ with_cell (record_of a.nodes (part - 1)) cell ((seen h).forward ((seen h).cell part cell)) =
    ap (λ xs. record (record_of a.nodes (part - 1)) { cells = xs }) (sym (set-get_or (record_of a.nodes (part - 1)).cells cell 0)) ∙ ap (with_cell (record_of a.nodes (part - 1)) cell) (null ∙ sym (ap (seen h).forward is)) in
    Scans_cell part cell a.nodes h ep wide (record { here = same; others = λ b l d. refl; pages = refl }) (Was_marked (ap (λ x. (seen h).marked ((seen h).forward x)) is))

-- and so is a run of them
pub nulls_scanned : (a : HeapFields) (part cell n : ℕ) → a.phase ≡ phases.Marking part cell → (part ≡ 0 → ⊥) → cell + n ≤ width_at (record_of a.nodes (part - 1))
    → ((k : ℕ) → cell ≤ k → k < cell + n → get_or (record_of a.nodes (part - 1)).cells k 0 ≡ 0) → Chain (state_of a) n (goes_to (state_of a) n (phases.Marking part (cell + n)))
nulls_scanned a part cell n ep ne within null =
    steps_on (state_of a) (λ k. phases.Marking part (cell + k)) n (ep ∙ ap (phases.Marking part) (let e : cell ≡ cell + 0 = omega arith in e)) (λ k u l.
    let b : HeapFields = record a { phase = phases.Marking part (cell + k); units = u } in
    subst (λ c. Action (state_of b) 1 (goes_to (state_of b) 1 (phases.Marking part c))) (let e : cell + k + 1 ≡ cell + (k + 1) = omega arith in e)
    (null_scanned b part (cell + k) refl ne (omega arith) (null (cell + k) (omega arith) (omega arith))))
