use Rattle.std.proofs.Common.{◌-◌, length, ap, ◌∙◌, sym, subst, refl, arith}
use Rattle.heap_model.proofs.State.{allocated_pages}
use Rattle.nodes.specs.declared.nodes.Referent.{Referent}
use Rattle.nodes.specs.Referent.{CanFollow, referent_of}
use Rattle.nodes.specs.declared.heap_fields.HeapFields.{HeapFields}
use Rattle.nodes.specs.HeapFields.{state_of}
use Rattle.nodes.proofs.Keeping.{are_allocated, store_kept, linked_still}
use Rattle.nodes.proofs.Representing.{are_grey}
use Rattle.marker.specs.Scanning.{scanning}
use Rattle.marker.proofs.Acting.{cell_scanned, corrected_grey}
use Rattle.marker.proofs.Chains.{shades_width, writes_width}
use Rattle.marker.proofs.InScan.{part_allocated, cells_within, cell_follows, cell_main}
use Rattle.marker.proofs.Scanning.{shades_at, grey_at}
use Rattle.marker.proofs.scan.scan_cell.Goals.{After-cell-reference}
use Rattle.marker.proofs.scan.scan_cell.Goals as goal

-- the cell can be followed
can_follow : (c : After-cell-reference) → CanFollow c.args.heap.now.nodes c.cell-reference.result
can_follow c = subst (CanFollow c.args.heap.now.nodes) (sym c.cell-reference.ensures) (cell_follows (scanning c.args.heap.now c.args.part c.args.cell c.requires.heap.0) c.requires.heap.1 c.args.part c.args.cell refl c.requires.some c.requires.within)

pub cell-reference-requires-clause-allocated : goal.cell-reference-requires-clause-allocated
cell-reference-requires-clause-allocated c = part_allocated (scanning c.args.heap.now c.args.part c.args.cell c.requires.heap.0) c.requires.heap.1 c.args.part c.args.cell refl c.requires.some

pub cell-reference-requires-clause-within : goal.cell-reference-requires-clause-within
cell-reference-requires-clause-within c = omega (arith, c.requires.within, cells_within (scanning c.args.heap.now c.args.part c.args.cell c.requires.heap.0) c.requires.heap.1 c.args.part c.args.cell refl c.requires.some)

pub resolve-main-requires-clause-block : goal.resolve-main-requires-clause-block
resolve-main-requires-clause-block c ne = (can_follow (goal.at.resolve-main-requires-clause-block c).After-cell-reference ne).0

pub resolve-main-requires-clause-main : goal.resolve-main-requires-clause-main
resolve-main-requires-clause-main c ne = (can_follow (goal.at.resolve-main-requires-clause-main c).After-cell-reference ne).1

pub set_cell-requires-clause-allocated : goal.set_cell-requires-clause-allocated
set_cell-requires-clause-allocated c = part_allocated (scanning c.args.heap.now c.args.part c.args.cell c.requires.heap.0) c.requires.heap.1 c.args.part c.args.cell refl c.requires.some

pub set_cell-requires-clause-within : goal.set_cell-requires-clause-within
set_cell-requires-clause-within c = omega (arith, c.requires.within, cells_within (scanning c.args.heap.now c.args.part c.args.cell c.requires.heap.0) c.requires.heap.1 c.args.part c.args.cell refl c.requires.some)

pub shade-requires-clause-allocated : goal.shade-requires-clause-allocated
shade-requires-clause-allocated c ne =
    allocated_pages c.args.heap.now.nodes c.set_cell.new.self (c.resolve-main.result.reference - 1) c.set_cell.ensures.written.pages
    ∙ cell_main (scanning c.args.heap.now c.args.part c.args.cell c.requires.heap.0) c.requires.heap.1 c.args.part c.args.cell refl c.requires.some c.requires.within c.resolve-main.result (c.resolve-main.ensures ∙ ap (referent_of c.args.heap.now.nodes) c.cell-reference.ensures) ne

pub shade-requires-clause-grey : goal.shade-requires-clause-grey
shade-requires-clause-grey c =
    let a = scanning c.args.heap.now c.args.part c.args.cell c.requires.heap.0 in
    grey_at (state_of (record c.args.heap.now { nodes = c.set_cell.new.self })) c.args.part c.args.cell c.requires.heap.0
    (corrected_grey a c.args.part c.args.cell c.resolve-main.result.reference c.set_cell.new.self (are_grey a c.requires.heap.1) c.set_cell.ensures.written
    (store_kept a (are_allocated a c.requires.heap.1) c.set_cell.new.self (ap length c.set_cell.ensures.written.pages) c.set_cell.ensures.links))

pub returns-clause-width : goal.returns-clause-width
returns-clause-width c =
    let a = scanning c.args.heap.now c.args.part c.args.cell c.requires.heap.0 in let written = c.set_cell.ensures.written in
    let allocated = allocated_pages a.nodes c.set_cell.new.self (c.args.part - 1) written.pages ∙ part_allocated a c.requires.heap.1 c.args.part c.args.cell refl c.requires.some in
    shades_width (state_of (record c.args.heap.now { nodes = c.set_cell.new.self })) (state_of c.shade.new.heap) c.resolve-main.result.reference (c.args.part - 1) c.shade.ensures.shades allocated
    ∙ writes_width a.nodes c.set_cell.new.self (c.args.part - 1) c.args.cell c.resolve-main.result.reference written

pub returns-clause-buffers : goal.returns-clause-buffers
returns-clause-buffers c = ap (λ (x : HeapFields). x.grey.buffers) c.shade.ensures.same

pub returns-clause-linked : goal.returns-clause-linked
returns-clause-linked c =
    let a = scanning c.args.heap.now c.args.part c.args.cell c.requires.heap.0 in
    c.shade.ensures.linked (linked_still a c.set_cell.new.self c.requires.heap.1.linked (are_allocated a c.requires.heap.1) (ap length c.set_cell.ensures.written.pages) c.set_cell.ensures.links)

pub returns-clause-same : goal.returns-clause-same
returns-clause-same c = c.shade.ensures.same ∙ ap (λ g. record c.args.heap.now { nodes = c.shade.new.heap.nodes; grey = g }) (sym (ap (λ (x : HeapFields). x.grey) c.shade.ensures.same))

pub returns-clause-acts : goal.returns-clause-acts
returns-clause-acts c =
    let w = c.requires.heap in let is = scanning c.args.heap.now c.args.part c.args.cell w.0 in λ u.
    cell_scanned (scanning c.args.heap.now c.args.part c.args.cell u) c.args.part c.args.cell refl c.requires.some c.requires.within c.resolve-main.result.reference
    (ap (λ (r : Referent). r.reference) (c.resolve-main.ensures ∙ ap (referent_of c.args.heap.now.nodes) c.cell-reference.ensures)) c.set_cell.new.self c.set_cell.ensures.written
    (store_kept (scanning c.args.heap.now c.args.part c.args.cell u) (are_allocated is w.1) c.set_cell.new.self (ap length c.set_cell.ensures.written.pages) c.set_cell.ensures.links)
    (state_of (scanning c.shade.new.heap c.args.part c.args.cell u))
    (shades_at (state_of (record c.args.heap.now { nodes = c.set_cell.new.self })) (state_of c.shade.new.heap) c.resolve-main.result.reference c.args.part c.args.cell u c.shade.ensures.shades)
