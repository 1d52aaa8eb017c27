use Rattle.std.proofs.Common.{◌≡◌, ℕ, ◌+◌, ◌-◌, ◌<◌, ◌≤◌, get_or, ap, ◌∙◌, sym, refl, inl, inr, arith}
use Rattle.std.proofs.lemmas.Bool.{cases_eq}
use Rattle.heap_model.specs.Store.{record_of}
use Rattle.nodes.specs.HeapFields.{state_of}
use Rattle.nodes.proofs.Chains.{one_action}
use Rattle.marker.specs.Scanning.{scanning}
use Rattle.marker.proofs.Chains.{nulls_scanned}
use Rattle.marker.proofs.InScan.{part_allocated, cells_within, width_small}
use Rattle.marker.proofs.scan.scan_run.Goals as goal

pub cell-reference-requires-clause-allocated : goal.cell-reference-requires-clause-allocated
cell-reference-requires-clause-allocated c = part_allocated (scanning c.args.heap.now c.args.part c.args.cell c.requires.heap.0) c.requires.heap.1 c.args.part c.args.cell refl c.requires.some

pub cell-reference-requires-clause-within : goal.cell-reference-requires-clause-within
cell-reference-requires-clause-within c = omega (arith, c.requires.most, c.requires.within, cells_within (scanning c.args.heap.now c.args.part c.args.cell c.requires.heap.0) c.requires.heap.1 c.args.part c.args.cell refl c.requires.some)

pub overflow_add-cell : goal.overflow_add-cell
overflow_add-cell c =
    let s = width_small (scanning c.args.heap.now c.args.part c.args.cell c.requires.heap.0) c.requires.heap.1 c.args.part c.args.cell refl c.requires.some in omega (arith, s, c.requires.most, c.requires.within)

pub nulls_from-requires-clause-allocated : goal.nulls_from-requires-clause-allocated
nulls_from-requires-clause-allocated c = part_allocated (scanning c.args.heap.now c.args.part c.args.cell c.requires.heap.0) c.requires.heap.1 c.args.part c.args.cell refl c.requires.some

pub nulls_from-requires-clause-small : goal.nulls_from-requires-clause-small
nulls_from-requires-clause-small c =
    let s = width_small (scanning c.args.heap.now c.args.part c.args.cell c.requires.heap.0) c.requires.heap.1 c.args.part c.args.cell refl c.requires.some in omega (arith, s, c.requires.most, c.requires.within)

pub nulls_from-requires-clause-within : goal.nulls_from-requires-clause-within
nulls_from-requires-clause-within c = omega (arith, c.requires.most, c.requires.within, cells_within (scanning c.args.heap.now c.args.part c.args.cell c.requires.heap.0) c.requires.heap.1 c.args.part c.args.cell refl c.requires.some)

-- the next cell and those after it are null
all_null : (cells : ℕ → ℕ) (cell n : ℕ) → cells cell ≡ 0 → ((k : ℕ) → cell + 1 ≤ k → k < cell + 1 + n → cells k ≡ 0) → (k : ℕ) → cell ≤ k → k < cell + (1 + n) → cells k ≡ 0
all_null cells cell n here after k low high = elim (cases_eq k cell) [ inl e ↦ ap cells e ∙ here | inr ne ↦ after k (omega (arith, low, ne)) (omega (arith, high)) ]

pub returns-then-reference-eq0-clause-acts : goal.returns-then-reference-eq0-clause-acts
returns-then-reference-eq0-clause-acts c =
    let cells : ℕ → ℕ = λ k. get_or (record_of c.args.heap.now.nodes (c.args.part - 1)).cells k 0 in λ u.
    nulls_scanned (scanning c.args.heap.now c.args.part c.args.cell u) c.args.part c.args.cell (1 + c.nulls_from.result) refl c.requires.some (omega (arith, c.requires.most, c.requires.within, c.nulls_from.ensures.within))
    (all_null cells c.args.cell c.nulls_from.result (sym c.cell-reference.ensures ∙ c.if-reference-eq0.true) c.nulls_from.ensures.null)

pub returns-then-reference-eq0-clause-same : goal.returns-then-reference-eq0-clause-same
returns-then-reference-eq0-clause-same c = refl

pub scan_cell-requires-clause-within : goal.scan_cell-requires-clause-within
scan_cell-requires-clause-within c = omega (arith, c.requires.most, c.requires.within)

pub returns-then-reference-eq0-clause-linked : goal.returns-then-reference-eq0-clause-linked
returns-then-reference-eq0-clause-linked c = c.requires.heap.1.linked

pub returns-clause-acts : goal.returns-clause-acts
returns-clause-acts c = λ u.
    one_action (state_of (scanning c.args.heap.now c.args.part c.args.cell u)) (state_of (scanning c.scan_cell.new.heap c.args.part (c.args.cell + 1) (u + 1))) 1 (c.scan_cell.ensures.acts u)
